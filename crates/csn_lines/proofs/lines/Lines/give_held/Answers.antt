use Rattle.std.proofs.Common.{refl}
use Rattle.csn_plan.proofs.Texts.{on_ok_none}
use Rattle.csn_lines.proofs.lines.Lines.give_held.Goals as goal

pub returns-in_err-take-clause-ok : goal.returns-in_err-take-clause-ok
returns-in_err-take-clause-ok g c = on_ok_none c.from_residual.result _ c.from_residual.ensures.0

pub returns-in_err-take-clause-rest : goal.returns-in_err-take-clause-rest
returns-in_err-take-clause-rest g c = record { work = c.in_err-take.ensures.work; kept = c.in_err-take.ensures.kept; pending = refl; refused = refl }

pub returns-in_ok-take-clause-rest : goal.returns-in_ok-take-clause-rest
returns-in_ok-take-clause-rest g c = record { work = c.in_ok-take.ensures.work; kept = c.in_ok-take.ensures.kept; pending = refl; refused = refl }

pub returns-else-self-clause-rest : goal.returns-else-self-clause-rest
returns-else-self-clause-rest g c = record { work = refl; kept = refl; pending = refl; refused = refl }
