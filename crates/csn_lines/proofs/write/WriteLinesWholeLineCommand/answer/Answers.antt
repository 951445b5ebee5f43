use Rattle.std.proofs.Common.{refl}
use Rattle.std.proofs.lemmas.Result.{IfOk-weaker}
use Rattle.csn_lines.proofs.WorkLemmas.{answered_alone}
use Rattle.csn_lines.proofs.write.WriteLinesWholeLineCommand.answer.Goals as goal

pub returns-clause-ok : goal.returns-clause-ok
returns-clause-ok c = IfOk-weaker c.write_line.result _ _
    (λ answered told. (told.0, told.1, answered_alone c.args.line.now (told.0, told.2, refl, refl), told.3)) c.write_line.ensures.ok
