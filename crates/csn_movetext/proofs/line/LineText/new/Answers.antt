use Rattle.std.proofs.Common.{[]}
use Rattle.csn_movetext.specs.Lines.{line_of}
use Rattle.csn_movetext.proofs.LineFacts.{reads_none}
use Rattle.csn_movetext.proofs.line.LineText.new.Goals as goal

pub invariant_of-result : goal.invariant_of-result
invariant_of-result c = (
  [],
  reads_none (line_of (record { feed = c.new.result; given = c.new-2.result }))
      c.new.ensures.fed c.new.ensures.seen c.new-2.ensures.octets c.new-2.ensures.seen c.new-2.ensures.writes,
)
