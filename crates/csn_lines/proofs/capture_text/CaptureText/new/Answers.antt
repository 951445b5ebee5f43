use Rattle.csn_lines.proofs.CaptureLemmas.{begins_fresh}
use Rattle.csn_lines.proofs.capture_text.CaptureText.new.Goals as goal

pub returns-clause-reads : goal.returns-clause-reads
returns-clause-reads c = begins_fresh c.in_ok-writers_of.field-0.items c.new.result c.in_ok-writers_of.ensures.fresh c.new.ensures
