use Rattle.csn_plan.proofs.Texts.{on_ok_none}
use Rattle.csn_plan.proofs.compiling.push_word.Goals as goal

pub returns-in_err-push : goal.returns-in_err-push
returns-in_err-push c = record { ok = on_ok_none c.from_residual.result _ c.from_residual.ensures.0 }

pub returns-in_err-push-2 : goal.returns-in_err-push-2
returns-in_err-push-2 c = record { ok = on_ok_none c.from_residual-in_err-push-2.result _ c.from_residual-in_err-push-2.ensures.0 }

pub loop-at-init : goal.loop-at-init
loop-at-init c = c.in_ok-push.ensures.items
