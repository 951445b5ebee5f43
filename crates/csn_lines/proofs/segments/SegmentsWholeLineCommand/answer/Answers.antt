use Rattle.std.proofs.Common.{refl}
use Rattle.std.proofs.lemmas.Result.{IfOk-weaker}
use Rattle.csn_lines.proofs.WorkLemmas.{joined_line}
use Rattle.csn_lines.proofs.segments.SegmentsWholeLineCommand.answer.Goals as goal

pub returns-clause-ok : goal.returns-clause-ok
returns-clause-ok c = IfOk-weaker c.segments_line.result _ _
    (λ answered told. (told.0, told.1, joined_line told.0 told.2 refl refl, told.3)) c.segments_line.ensures.ok
