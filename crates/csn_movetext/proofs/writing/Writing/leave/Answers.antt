use Rattle.std.proofs.Common.{refl, ap, sym, subst, ◌∙◌, arith, None, Some}
use Rattle.csn_movetext.specs.Openings.{leaf_width}
use Rattle.csn_movetext.specs.Told.{IsTold}
use Rattle.csn_movetext.specs.Writing.{left_node}
use Rattle.csn_movetext.proofs.Octets.{on_ok}
use Rattle.csn_movetext.proofs.writing.Writing.leave.Goals as goal

pub returns-in-Spare-clause-left_node : goal.returns-in-Spare-clause-left_node
returns-in-Spare-clause-left_node c =
    on_ok c.close.result (λ closed w u s e. closed w u (Some 1) (refl, omega arith, omega arith) s
    (ap (λ n. left_node c.args.form n w) (sym c.in-Spare.is) ∙ e)) c.close.ensures.closed

pub returns-in-Field-clause-left_node : goal.returns-in-Field-clause-left_node
returns-in-Field-clause-left_node c =
    let told = subst (λ n. IsTold (leaf_width n) c.is_told.result) c.in-Field.is c.is_told.ensures in
    on_ok c.close-in-Field.result
    (λ closed w u s e. closed w u _ told s (ap (λ n. left_node c.args.form n w) (sym c.in-Field.is) ∙ e))
    c.close-in-Field.ensures.closed

pub returns-in-Pad-clause-left_node : goal.returns-in-Pad-clause-left_node
returns-in-Pad-clause-left_node c =
    on_ok c.close-in-Pad.result (λ closed w u s e. closed w u None refl s
    (ap (λ n. left_node c.args.form n w) (sym c.in-Pad.is) ∙ e)) c.close-in-Pad.ensures.closed

pub returns-in-Rest-clause-left_node : goal.returns-in-Rest-clause-left_node
returns-in-Rest-clause-left_node c =
    on_ok c.close-in-Rest.result (λ closed w u s e. closed w u None refl s
    (ap (λ n. left_node c.args.form n w) (sym c.in-Rest.is) ∙ e)) c.close-in-Rest.ensures.closed

pub returns-in_err-shut-in-Seq-clause-extends : goal.returns-in_err-shut-in-Seq-clause-extends
returns-in_err-shut-in-Seq-clause-extends c = c.in_err-shut-in-Seq.ensures.extends

pub returns-in_ok-shut-in-Seq-clause-extends : goal.returns-in_ok-shut-in-Seq-clause-extends
returns-in_ok-shut-in-Seq-clause-extends c = c.in_ok-shut-in-Seq.ensures.extends

pub returns-in_err-leave_part-in-Choice-clause-extends : goal.returns-in_err-leave_part-in-Choice-clause-extends
returns-in_err-leave_part-in-Choice-clause-extends c = c.in_err-leave_part-in-Choice.ensures.extends

pub returns-in_ok-leave_part-in-Choice-clause-extends : goal.returns-in_ok-leave_part-in-Choice-clause-extends
returns-in_ok-leave_part-in-Choice-clause-extends c = c.in_ok-leave_part-in-Choice.ensures.extends

pub returns-in-Spare-clause-extends : goal.returns-in-Spare-clause-extends
returns-in-Spare-clause-extends c = c.close.ensures.extends

pub returns-in-Field-clause-extends : goal.returns-in-Field-clause-extends
returns-in-Field-clause-extends c = c.close-in-Field.ensures.extends

pub returns-in-Pad-clause-extends : goal.returns-in-Pad-clause-extends
returns-in-Pad-clause-extends c = c.close-in-Pad.ensures.extends

pub returns-in-Rest-clause-extends : goal.returns-in-Rest-clause-extends
returns-in-Rest-clause-extends c = c.close-in-Rest.ensures.extends

pub returns-in-Lits-clause-extends : goal.returns-in-Lits-clause-extends
returns-in-Lits-clause-extends c = c.pass.ensures.extends
