use Rattle.std.proofs.Common.{inl, inr}
use Rattle.csn_certify.specs.Overlaps.{Meets}
use Rattle.csn_certify.proofs.TablesMeet.{no_touch, never, always}
use Rattle.csn_certify.proofs.meets.touches.Goals as goal

pub returns-in-Key : goal.returns-in-Key
returns-in-Key c = always (Meets c.args.table.now c.args.word.now) (inl c.in-Key.ensures)

pub returns-in-Proper : goal.returns-in-Proper
returns-in-Proper c = always (Meets c.args.table.now c.args.word.now) (inr c.in-Proper.ensures.1)

pub returns-in-Neither : goal.returns-in-Neither
returns-in-Neither c =
    never (Meets c.args.table.now c.args.word.now)
    (no_touch c.args.table.now c.args.word.now c.in-Neither.ensures.0 c.in-Neither.ensures.1)
