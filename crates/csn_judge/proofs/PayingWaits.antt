-- A frame that is put back, since it cannot go on, pays for the look at its node.
use Rattle.std.proofs.Common.{◌≡◌, ℕ, ◌+◌, ◌-◌, ◌*◌, ◌≤◌, if◌then◌else◌, List, ◌∷◌, ◌∙◌, refl, ap, arith}
use Rattle.csn_judge.specs.declared.frame.Frame.{Frame}
use Rattle.csn_judge.specs.declared.pace.Pace.{Pace}
use Rattle.csn_judge.specs.declared.turn.Turn.{Turn}
use Rattle.csn_judge.specs.declared.turn.Turn.TheVariants.{Moved, Waits, Refused}
use Rattle.csn_judge.specs.Coming.{Coming}
use Rattle.csn_judge.specs.Credit.{weight_of, weights_of, credit_of, Pays}
use Rattle.csn_judge.specs.Turns.{IsStopped}

least : (top frames next again bits : ℕ) → top ≤ top + frames + next + again + bits
least top frames next again bits = omega arith

-- the credit is no less than the frame
heavy : (nodes : ℕ) (top : Frame) (frames : List Frame) (pace : Pace) (bits : ℕ) → weight_of top ≤ credit_of nodes (top ∷ frames) pace bits
heavy nodes top frames pace bits = least (weight_of top) (weights_of frames) (4 * (nodes - pace.next)) (if pace.again then 0 else 4 * nodes) (6 * nodes * bits)

-- it waits
pub waits_pay : {frames_after : List Frame} {bits_after : ℕ} (nodes steps steps_after spent : ℕ) (top : Frame)
    (frames : List Frame) (pace : Pace) (bits : ℕ) → frames_after ≡ top ∷ frames → bits_after ≡ bits
    → steps_after ≤ steps + spent → spent ≤ 2 → spent ≤ 1 + weight_of top
    → Pays (credit_of nodes (top ∷ frames) pace bits) (credit_of nodes frames_after pace bits_after)
    steps steps_after Waits
waits_pay {frames_after} {bits_after} nodes steps steps_after spent top frames pace bits frames_are bits_are took few less =
    let same = ap (λ (l : List Frame). credit_of nodes l pace bits_after) frames_are ∙ ap (λ b. credit_of nodes (top ∷ frames) pace b) bits_are in
    (omega (arith, same, took, few), omega (arith, same), omega (arith, took, less, heavy nodes top frames pace bits))

-- it refuses
pub refused_pays : (nodes after steps steps_after spent place : ℕ) (top : Frame) (frames : List Frame) (pace : Pace)
    (bits : ℕ) → steps_after ≤ steps + spent → spent ≤ weight_of top
    → Pays (credit_of nodes (top ∷ frames) pace bits) after steps steps_after (Refused place)
refused_pays nodes after steps steps_after spent place top frames pace bits took less = omega (arith, took, less, heavy nodes top frames pace bits)

-- one of the two, by whether a bit is there
pub stopped_pay : {frames_after : List Frame} (nodes steps steps_after spent : ℕ) (top : Frame) (frames : List Frame)
    (pace : Pace) (bits : ℕ) (coming : Coming) (turn : Turn) → frames_after ≡ top ∷ frames
    → steps_after ≤ steps + spent → spent ≤ 2 → spent ≤ weight_of top → IsStopped coming turn
    → Pays (credit_of nodes (top ∷ frames) pace bits) (credit_of nodes frames_after pace bits)
    steps steps_after turn
stopped_pay nodes steps steps_after spent top frames pace bits coming Moved frames_are took few less stopped = absurd stopped
stopped_pay nodes steps steps_after spent top frames pace bits coming Waits frames_are took few less stopped =
    waits_pay nodes steps steps_after spent top frames pace bits frames_are refl took few (omega (arith, less))
stopped_pay nodes steps steps_after spent top frames pace bits coming (Refused place)
    frames_are took few less stopped = refused_pays nodes 0 steps steps_after spent place top frames pace bits took
    less

-- a step more was paid for than was taken, before another one
pub paid_two : {middle : ℕ} (before after steps steps_after : ℕ) (turn : Turn)
    → middle ≡ steps + 1 → Pays before after middle (steps_after + 2) turn → Pays before after steps (steps_after + 1)
    turn
paid_two before after steps steps_after Moved one paid = (omega (arith, one, paid.0), paid.1)
paid_two before after steps steps_after Waits one paid = (omega (arith, one, paid.0), paid.1, omega (arith, one, paid.2))
paid_two before after steps steps_after (Refused place) one paid = omega (arith, one, paid)
