-- The innermost frame has its turn.
use Rattle.std.proofs.Common.{◌≡◌, ℕ, List, [], ◌∷◌, ◌++◌, reverse, sym, subst, arith}
use Rattle.csn_desc.specs.declared.moves.Move.{Move}
use Rattle.csn_desc.specs.declared.node.Node.{Node}
use Rattle.csn_desc.specs.Nodes.{DescV}
use Rattle.csn_judge.specs.declared.frame.Frame.{Frame}
use Rattle.csn_judge.specs.declared.machine.Machine.{Machine}
use Rattle.csn_judge.specs.declared.turn.Turn.{Turn}
use Rattle.csn_judge.specs.declared.turn.Turn.TheVariants.{Moved, Waits, Refused}
use Rattle.csn_judge.specs.declared.turn.Next.{Next}
use Rattle.csn_judge.specs.declared.turn.Next.TheVariants as next
use Rattle.csn_judge.specs.Coming.{Coming}
use Rattle.csn_judge.specs.Credit.{credit_in, Pays, NextPays, TurnPays}
use Rattle.csn_judge.specs.Turns.{IsStopped, StateV, StandsSomewhere, Turns, state_at, state_of, turn_in}
use Rattle.csn_judge.proofs.TurningOn.{popped_frame}

-- where nothing takes a bit, no step was taken
pub stopped_pays : {before after : ℕ} (coming : Coming) (steps : ℕ) (turn : Turn) → before ≡ after → IsStopped coming turn → Pays before after steps steps turn
stopped_pays coming steps Moved same stopped = absurd stopped
stopped_pays coming steps Waits same stopped = (omega (arith, same), omega (arith, same), omega arith)
stopped_pays coming steps (Refused place) same stopped = omega arith

-- a node that begins may have cost nothing
pub next_pays : (before after steps steps_after : ℕ) (next : Next)
    → Pays before after steps steps_after (turn_in next) → NextPays before after steps steps_after next
next_pays before after steps steps_after (next.Begin node) pays = (pays.0, omega (arith, pays.1))
next_pays before after steps steps_after (next.Turn turn) pays = pays

-- what a turn comes to: the moves, and that it is paid for
pub record Taken (d : DescV) {S : Type 0} (takes : S → Move → Node → S → Type 0) (old new : StateV) (before after : S)
    (steps steps_after : ℕ) (turn : Turn) : Type 0 where
  pub turns : Turns d takes old new before after turn
  pub pays : TurnPays d old new steps steps_after turn

-- the same of one behind which a node may begin
pub record TakenNext (d : DescV) {S : Type 0} (takes : S → Move → Node → S → Type 0) (old new : StateV)
    (before after : S) (steps steps_after : ℕ) (next : Next) : Type 0 where
  pub turns : Turns d takes old new before after (turn_in next)
  pub pays : NextPays (credit_in d old) (credit_in d new) steps steps_after next

-- the innermost frame of a machine, and the others as it holds them
pub record Popped (machine : Machine) (rest : List Frame) (top : Frame) : Type 0 where
  pub is : reverse machine.frames.items ≡ top ∷ reverse rest

pub popped : (machine : Machine) {last top : Frame} (rest : List Frame) → machine.frames.items ≡ rest ++ last ∷ [] → last ≡ top → Popped machine rest top
popped machine rest items same = record { is = popped_frame rest items same }

-- it is taken away, and has its turn
module _ {machine : Machine} {rest : List Frame} {top : Frame} (gone : Popped machine rest top) (coming : Coming) where
  pub popped_stands : StandsSomewhere machine.plan.now (state_of machine coming)
      → StandsSomewhere machine.plan.now (state_at (top ∷ reverse rest) machine coming)
  popped_stands h = subst (λ (l : List Frame). StandsSomewhere machine.plan.now (state_at l machine coming)) gone.is h

  pub popped_turn : {S : Type 0} (takes : S → Move → Node → S → Type 0) (new : StateV) (s u : S) (steps steps_after : ℕ) (turn : Turn)
      → Turns machine.plan.now takes (state_at (top ∷ reverse rest) machine coming) new s u turn
      → TurnPays machine.plan.now (state_at (top ∷ reverse rest) machine coming) new steps steps_after turn
      → Taken machine.plan.now takes (state_of machine coming) new s u steps steps_after turn
  popped_turn takes new s u steps steps_after turn turns pays =
      record {
        turns = subst (λ (l : List Frame). Turns machine.plan.now takes (state_at l machine coming) new s u turn) (sym gone.is) turns;
        pays = subst (λ (l : List Frame). TurnPays machine.plan.now (state_at l machine coming) new steps steps_after turn) (sym gone.is) pays;
      }

  pub popped_next : {S : Type 0} (takes : S → Move → Node → S → Type 0) (new : StateV) (s u : S) (steps steps_after : ℕ) (next : Next)
      → Turns machine.plan.now takes (state_at (top ∷ reverse rest) machine coming) new s u (turn_in next)
      → TurnPays machine.plan.now (state_at (top ∷ reverse rest) machine coming) new steps steps_after
      (turn_in next)
      → TakenNext machine.plan.now takes (state_of machine coming) new s u steps steps_after next
  popped_next takes new s u steps steps_after next turns pays =
      let t = popped_turn takes new s u steps steps_after (turn_in next) turns pays in
      record {
        turns = t.turns;
        pays = next_pays (credit_in machine.plan.now (state_of machine coming))
            (credit_in machine.plan.now new) steps steps_after next t.pays;
      }
