-- Turns up to one that waits or refuses.
use Rattle.std.proofs.Common.{◌≡◌, ℕ, ◌+◌, ◌≤◌, true, List, [], ◌++◌, length, refl, sym, ◌∙◌, subst, arith}
use Rattle.csn_desc.specs.declared.moves.Move.{Move}
use Rattle.csn_desc.specs.declared.node.Node.{Node}
use Rattle.csn_desc.specs.Nodes.{DescV}
use Rattle.csn_judge.specs.declared.turn.Turn.{Turn}
use Rattle.csn_judge.specs.declared.turn.Turn.TheVariants.{Moved, Waits, Refused}
use Rattle.csn_judge.specs.declared.verdict.Verdict.TheVariants.{Going as still_going, Refused as no_more}
use Rattle.csn_judge.specs.Credit.{credit_in, credit_of, Pays, PaysAll, TurnPays}
use Rattle.csn_judge.specs.Left.{Left}
use Rattle.csn_judge.specs.Turns.{StateV, Stands, StandsSomewhere, GoesOn, Turns}
use Rattle.csn_judge.proofs.TurningOn.{on_then, turns_then}
use Rattle.csn_desc.proofs.Splits.{rest_empty}
use Rattle.csn_judge.proofs.Turning.{stays_as}
use Rattle.csn_judge.proofs.ToldFacts.{tells_fit}

-- a turn is paid for behind others that were
paid_behind :
    (turn : Turn) (before middle after steps steps_now steps_next : ℕ) → steps_now + middle ≤ steps + before → middle ≤ before
    → Pays middle after steps_now steps_next turn → Pays before after steps steps_next turn
paid_behind Moved before middle after steps steps_now steps_next paid less pays = (omega (arith, paid, pays.0), omega (arith, less, pays.1))
paid_behind Waits before middle after steps steps_now steps_next paid less pays =
    (omega (arith, paid, pays.0), omega (arith, less, pays.1), omega (arith, paid, pays.2))
paid_behind (Refused place) before middle after steps steps_now steps_next paid less pays = omega (arith, paid, pays)

module _ (d : DescV) {S : Type 0} (takes : S → Move → Node → S → Type 0) where
  -- the turns so far, from the first state on: what they have come to, and that they are paid for
  pub record Going (first now : StateV) (s t : S) (steps steps_now : ℕ) : Type 0 where
    pub on : (stack : List Left) (done : List ℕ) → Stands d first stack done → GoesOn d takes first now s t stack done
    pub paid :
        steps_now + credit_of (length d.nodes) now.frames now.pace (length now.coming.bits)
        ≤ steps + credit_of (length d.nodes) first.frames first.pace (length first.coming.bits)
    pub less :
        credit_of (length d.nodes) now.frames now.pace (length now.coming.bits)
        ≤ credit_of (length d.nodes) first.frames first.pace (length first.coming.bits)

  -- none
  pub going_none : (first : StateV) (s : S) (steps : ℕ) → Going first first s s steps steps
  going_none first s steps =
      record {
        on = λ stack done stands. stays_as d takes s first stands;
        paid = omega arith;
        less = omega arith;
      }

  -- the state that they have come to stands somewhere
  pub going_stands : {first now : StateV} {s t : S} {steps steps_now : ℕ} {here : DescV}
      → here ≡ d → Going first now s t steps steps_now → StandsSomewhere d first → StandsSomewhere here now
  going_stands {now = now} same going some =
      let on = going.on some.stack some.done some.stands in
      subst (λ (e : DescV). StandsSomewhere e now) (sym same)
      (record { known = some.known; stack = on.now; done = some.done ++ on.taken; stands = on.stands })

  -- and a track that fits goes on to fit
  pub going_fits : (fits : S → DescV → Type 0) → ((e : DescV) (old new : S) (step : Move) (node : Node) → takes old step node new → fits old e → fits new e)
      → {first now : StateV} {s t : S} {steps steps_now : ℕ} {here : DescV}
      → here ≡ d → Going first now s t steps steps_now → StandsSomewhere d first → fits s d → fits t here
  going_fits fits keeps {t = t} same going some fit =
      subst (fits t) (sym same) (tells_fit d takes (λ u. fits u d) (keeps d) (going.on some.stack some.done some.stands).tells fit)

  -- one more
  pub going_more : {first now : StateV} {s t : S} {steps steps_now : ℕ} {here : DescV} (next : StateV) (u : S)
      (steps_next : ℕ) → here ≡ d → Going first now s t steps steps_now
      → Turns here takes now next t u Moved
      → steps_next + credit_of (length here.nodes) next.frames next.pace (length next.coming.bits) ≤ steps_now
      + credit_of (length here.nodes) now.frames now.pace (length now.coming.bits)
      → credit_of (length here.nodes) next.frames next.pace (length next.coming.bits) ≤ credit_of (length here.nodes)
      now.frames now.pace (length now.coming.bits)
      → Going first next s u steps steps_next
  going_more {now = now} {t = t} {steps_now = steps_now} next u steps_next same going turns pays less =
      let turned = subst (λ (e : DescV). Turns e takes now next t u Moved) same turns in
      let paid = subst (λ (e : DescV). steps_next + credit_of (length e.nodes) next.frames next.pace
      (length next.coming.bits) ≤ steps_now + credit_of (length e.nodes) now.frames now.pace
      (length now.coming.bits)) same pays in
      let fell = subst (λ (e : DescV). credit_of (length e.nodes) next.frames next.pace
      (length next.coming.bits) ≤ credit_of (length e.nodes) now.frames now.pace (length now.coming.bits))
      same less in
      record {
        on = λ stack done stands. let on = going.on stack done stands in on_then d takes on (turned on.now (done ++ on.taken) on.stands);
        paid = omega (arith, going.paid, paid);
        less = omega (arith, going.less, fell);
      }

  -- one turn alone
  pub going_one : (first next : StateV) (s u : S) (steps steps_next : ℕ) → Turns d takes first next s u Moved
      → steps_next + credit_in d next ≤ steps + credit_in d first → credit_in d next ≤ credit_in d first → Going first next s u steps steps_next
  going_one first next s u steps steps_next turns paid less = going_more next u steps_next refl (going_none first s steps) turns paid less

  -- the last
  pub going_turns : {first now : StateV} {s t : S} {steps steps_now : ℕ} {here : DescV} (next : StateV) (u : S)
      (turn : Turn) → here ≡ d → Going first now s t steps steps_now
      → (first.coming.ended ≡ true → first.coming.bits ≡ []) → StandsSomewhere d first
      → Turns here takes now next t u turn → Turns d takes first next s u turn
  going_turns {first} {now} {t = t} next u turn same going quiet some turns =
      let on = going.on some.stack some.done some.stands in
      turns_then d takes next u turn (λ ended. rest_empty on.taken now.coming.bits (sym on.bits ∙ quiet ended)) going.on
      (subst (λ (e : DescV). Turns e takes now next t u turn) same turns)

  pub last_pays : {first now : StateV} {s t : S} {steps steps_now : ℕ} {here : DescV} (next : StateV) (steps_next : ℕ)
      (turn : Turn) → here ≡ d → Going first now s t steps steps_now
      → TurnPays here now next steps_now steps_next turn → TurnPays d first next steps steps_next turn
  last_pays {first} {now} {steps = steps} {steps_now = steps_now} next steps_next turn same going pays =
      paid_behind turn (credit_in d first) (credit_in d now) (credit_in d next) steps steps_now steps_next going.paid
      going.less (subst (λ (e : DescV). TurnPays e now next steps_now steps_next turn) same pays)

  pub waits_pays : {first now : StateV} {s t : S} {steps steps_now : ℕ} {here : DescV} (next : StateV)
      (steps_next : ℕ) → here ≡ d → Going first now s t steps steps_now
      → Pays (credit_of (length here.nodes) now.frames now.pace (length now.coming.bits))
      (credit_of (length here.nodes) next.frames next.pace (length next.coming.bits)) steps_now steps_next Waits
      → PaysAll (credit_of (length d.nodes) first.frames first.pace (length first.coming.bits))
      (credit_of (length d.nodes) next.frames next.pace (length next.coming.bits)) steps steps_next still_going
  waits_pays {now = now} {steps_now = steps_now} next steps_next same going pays =
      let less = subst (λ (e : DescV). Pays (credit_of (length e.nodes) now.frames now.pace (length now.coming.bits))
      (credit_of (length e.nodes) next.frames next.pace (length next.coming.bits)) steps_now steps_next Waits)
      same pays in
      (omega (arith, going.paid, less.0), omega (arith, going.paid, less.2))

  pub refused_pays : {first now : StateV} {s t : S} {steps steps_now : ℕ} {here : DescV} (next : StateV)
      (steps_next place : ℕ) → here ≡ d → Going first now s t steps steps_now
      → Pays (credit_of (length here.nodes) now.frames now.pace (length now.coming.bits))
      (credit_of (length here.nodes) next.frames next.pace (length next.coming.bits)) steps_now steps_next
      (Refused place)
      → PaysAll (credit_of (length d.nodes) first.frames first.pace (length first.coming.bits))
      (credit_of (length d.nodes) next.frames next.pace (length next.coming.bits)) steps steps_next
      (no_more place)
  refused_pays {now = now} {steps_now = steps_now} next steps_next place same going pays =
      let less = subst (λ (e : DescV). steps_next ≤ steps_now + credit_of (length e.nodes) now.frames now.pace (length now.coming.bits)) same pays in
      omega (arith, going.paid, less)
