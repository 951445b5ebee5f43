-- The credit of steps. (This project's own choice.)
use Rattle.std.specs.Prelude.{ℕ, ◌+◌, ◌-◌, ◌*◌, ◌<◌, ◌≤◌, if◌then◌else◌, List, [], ◌∷◌, length}
use Rattle.csn_judge.specs.declared.frame.Frame.{Frame}
use Rattle.csn_judge.specs.declared.frame.Frame.TheVariants as frame
use Rattle.csn_judge.specs.declared.pace.Pace.{Pace}
use Rattle.csn_judge.specs.declared.turn.Turn.{Turn}
use Rattle.csn_judge.specs.declared.turn.Turn.TheVariants.{Moved, Waits, Refused}
use Rattle.csn_judge.specs.declared.turn.Next.{Next}
use Rattle.csn_judge.specs.declared.turn.Next.TheVariants as next
use Rattle.csn_judge.specs.declared.verdict.Verdict.{Verdict}
use Rattle.csn_judge.specs.declared.verdict.Verdict.TheVariants.{Going}
use Rattle.csn_judge.specs.declared.verdict.Verdict.TheVariants as verdict
use Rattle.csn_desc.specs.Nodes.{DescV}
use Rattle.csn_judge.specs.Turns.{StateV}

-- the steps that a frame is still to take, beside those of the nodes that it lets begin
abbrev pub weight_of : Frame → ℕ
weight_of (frame.Begin i) = 3
weight_of (frame.Open i) = 3
weight_of (frame.Many i part) = 2
weight_of _ = 1

abbrev pub weights_of : List Frame → ℕ
weights_of [] = 0
weights_of (frame ∷ frames) = weight_of frame + weights_of frames

-- what may still be paid for steps, of a description of `nodes` nodes, where so many bits have come that no node has
-- taken: four for each node that may begin before the next bit, by rising number, and for all of them once more where
-- no repetition has gone back since the last bit; and six for each node and bit
abbrev pub credit_of : ℕ → List Frame → Pace → ℕ → ℕ
credit_of nodes frames pace bits =
    weights_of frames + 4 * (nodes - pace.next) + (if pace.again then 0 else 4 * nodes) + 6 * nodes * bits

-- a turn takes no more steps than it pays for: where the machine has moved it has less credit than before; where it
-- waits it takes two steps more at most, and at the end one; and where it refuses, no more than the credit
abbrev pub Pays : (before after : ℕ) → (steps steps_after : ℕ) → Turn → Type 0
Pays before after steps steps_after Moved = (steps_after + after ≤ steps + before) × (after < before)
Pays before after steps steps_after Waits = (steps_after + after ≤ 2 + (steps + before)) × (after ≤ before) × (steps_after ≤ 1 + (steps + before))
Pays before after steps steps_after (Refused place) = steps_after ≤ steps + before

-- the same of a turn behind which a node may begin, that stood ready to begin or not
abbrev pub NextPays : (before after : ℕ) → (steps steps_after : ℕ) → Next → Type 0
NextPays before after steps steps_after (next.Begin node) = (steps_after + after ≤ steps + before) × (after ≤ before)
NextPays before after steps steps_after (next.Turn turn) = Pays before after steps steps_after turn

-- the credit of a state
abbrev pub credit_in : DescV → StateV → ℕ
credit_in d state = credit_of (length d.nodes) state.frames state.pace (length state.coming.bits)

-- a turn from one state to another pays
abbrev pub TurnPays : DescV → (old new : StateV) → (steps steps_after : ℕ) → Turn → Type 0
TurnPays d old new steps steps_after turn = Pays (credit_in d old) (credit_in d new) steps steps_after turn

-- turns up to one that waits or refuses take no more steps than the credit, but for those of the last one
abbrev pub PaysAll : (before after : ℕ) → (steps steps_after : ℕ) → Verdict → Type 0
PaysAll before after steps steps_after Going = (steps_after + after ≤ 2 + (steps + before)) × (steps_after ≤ 1 + (steps + before))
PaysAll before after steps steps_after (verdict.Refused place) = steps_after ≤ steps + before
