-- Nodes that are entered are paid for by the frames of nodes that begin.
use Rattle.std.proofs.Common.{◌≡◌, ℕ, ◌+◌, ◌-◌, ◌*◌, ◌≤◌, if◌then◌else◌, List, ◌∷◌, sym, subst, arith}
use Rattle.csn_judge.specs.declared.frame.Frame.{Frame}
use Rattle.csn_judge.specs.declared.pace.Pace.{Pace}
use Rattle.csn_judge.specs.declared.turn.Turn.{Turn}
use Rattle.csn_judge.specs.Credit.{weight_of, weights_of, credit_of, Pays}
use Rattle.csn_judge.proofs.PayingBits.{entered_pays, more_pays, paid_with}

lighter : (w v frames next again bits : ℕ) → v ≤ w → v + frames + next + again + bits ≤ w + frames + next + again + bits
lighter w v frames next again bits less = omega (arith, less)

lighter_by : (w v frames next again bits : ℕ) → v + 1 ≤ w → v + frames + next + again + bits + 1 ≤ w + frames + next + again + bits
lighter_by w v frames next again bits less = omega (arith, less)

-- what a lighter frame pays for, a heavier one does
pub heavier_pays : (nodes : ℕ) (top form : Frame) (frames : List Frame) (pace : Pace)
    (bits after steps steps_after : ℕ) (turn : Turn) → weight_of form ≤ weight_of top
    → Pays (credit_of nodes (form ∷ frames) pace bits) after steps steps_after turn
    → Pays (credit_of nodes (top ∷ frames) pace bits) after steps steps_after turn
heavier_pays nodes top form frames pace bits after steps steps_after turn less paid =
    more_pays (credit_of nodes (form ∷ frames) pace bits) (credit_of nodes (top ∷ frames) pace bits) after steps steps_after turn
    (lighter (weight_of top) (weight_of form) (weights_of frames) (4 * (nodes - pace.next)) (if pace.again then 0 else 4 * nodes) (6 * nodes * bits) less) paid

-- and a step before it
pub heavier_steps : {middle : ℕ} (nodes : ℕ) (top form : Frame) (frames : List Frame) (pace : Pace)
    (bits after steps steps_after : ℕ) (turn : Turn) → weight_of form + 1 ≤ weight_of top → middle ≡ steps + 1
    → Pays (credit_of nodes (form ∷ frames) pace bits) after middle steps_after turn
    → Pays (credit_of nodes (top ∷ frames) pace bits) after steps steps_after turn
heavier_steps {middle} nodes top form frames pace bits after steps steps_after turn less one paid =
    entered_pays (credit_of nodes (top ∷ frames) pace bits) (credit_of nodes (form ∷ frames) pace bits) after steps middle steps_after turn
    (lighter_by (weight_of top) (weight_of form) (weights_of frames) (4 * (nodes - pace.next))
    (if pace.again then 0 else 4 * nodes) (6 * nodes * bits) less) one paid

-- and a step with it
pub heavier_with : {steps_after : ℕ} (nodes : ℕ) (top form : Frame) (frames : List Frame) (pace : Pace)
    (bits after steps : ℕ) (turn : Turn) → weight_of form ≤ weight_of top → steps_after ≡ steps + 1
    → Pays (credit_of nodes (form ∷ frames) pace bits) after 0 1 turn → Pays (credit_of nodes (top ∷ frames) pace bits) after steps steps_after turn
heavier_with nodes top form frames pace bits after steps turn less one paid =
    let before = credit_of nodes (top ∷ frames) pace bits in
    subst (λ (k : ℕ). Pays before after steps k turn) (sym one)
    (paid_with before after steps turn (heavier_pays nodes top form frames pace bits after 0 1 turn less paid))
