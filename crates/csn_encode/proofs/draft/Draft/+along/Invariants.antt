use Rattle.std.proofs.Common.{◌+◌, ◌*◌, ◌-◌, length}
use Rattle.csn_encode.proofs.Texts.{PartsAlong, TurnsAlong}
use Rattle.csn_encode.proofs.draft.Draft.+along.Given as goal

abbrev pub invariant-parts_text-loop-part : goal.invariant-parts_text-loop-part
invariant-parts_text-loop-part g l = PartsAlong l.ground.plan.now l.ground.form l.parts l.round l.fn.self l.text l.count l.kept l.rest l.self

abbrev pub decreases-parts_text-loop-part : goal.decreases-parts_text-loop-part
decreases-parts_text-loop-part g l = length l.parts - l.count

abbrev pub invariant-turns_text-loop-self : goal.invariant-turns_text-loop-self
invariant-turns_text-loop-self g l = TurnsAlong l.ground.plan.now l.ground.form l.part l.round l.fn.self l.text l.count l.rest l.self

abbrev pub decreases-turns_text-loop-self : goal.decreases-turns_text-loop-self
decreases-turns_text-loop-self g l = l.most - l.count

abbrev pub decreases-write_text : goal.decreases-write_text
decreases-write_text g l = 4 * (64 - l.round) + 3

abbrev pub decreases-sequence_text : goal.decreases-sequence_text
decreases-sequence_text g l = 4 * (64 - l.round) + 2

abbrev pub decreases-choice_text : goal.decreases-choice_text
decreases-choice_text g l = 4 * (64 - l.round) + 2

abbrev pub decreases-times_text : goal.decreases-times_text
decreases-times_text g l = 4 * (64 - l.round) + 2

abbrev pub decreases-many_text : goal.decreases-many_text
decreases-many_text g l = 4 * (64 - l.round) + 2

abbrev pub decreases-truncation_text : goal.decreases-truncation_text
decreases-truncation_text g l = 4 * (64 - l.round) + 2

abbrev pub decreases-window_text : goal.decreases-window_text
decreases-window_text g l = 4 * (64 - l.round) + 2

abbrev pub decreases-named_text : goal.decreases-named_text
decreases-named_text g l = 4 * (64 - l.round) + 2

abbrev pub decreases-parts_text : goal.decreases-parts_text
decreases-parts_text g l = 4 * (64 - l.round) + 1

abbrev pub decreases-turns_text : goal.decreases-turns_text
decreases-turns_text g l = 4 * (64 - l.round) + 1
