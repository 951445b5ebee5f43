use Rattle.std.proofs.Common.{refl}
use Rattle.std.proofs.lemmas.Result.{IfOk-weaker}
use Rattle.csn_lines.proofs.WorkLemmas.{renewed_alone}
use Rattle.csn_lines.proofs.migrate.MigrateWholeLineCommand.answer.Goals as goal

pub returns-clause-ok : goal.returns-clause-ok
returns-clause-ok c = IfOk-weaker c.migrate_line.result _ _
    (λ answered told. (told.0, told.1, renewed_alone (told.0, told.2, refl, refl), told.3)) c.migrate_line.ensures.ok
