use Rattle.std.proofs.Common.{[], ◌∷◌, ◌++◌, ◌∙◌, append-nil, codes, refl, sym, subst, inl, inr, arith}
use Rattle.std.proofs.lemmas.Result.{IfOk-weaker, IfOk-from_err}
use Rattle.csn_bits.specs.Fault.{IsLineFault}
use Rattle.csn_bits.specs.Octets.{octets_of}
use Rattle.csn_lines.specs.Language.{of_plan}
use Rattle.csn_lines.specs.OutLine.{AnswersJoined, fault_text, joins_block, no_octets, no_block}
use Rattle.csn_lines.proofs.ProgressLemmas.{OnErr-from}
use Rattle.csn_lines.proofs.ShowLemmas.{fault_refuses}
use Rattle.csn_lines.proofs.segments.segments_line.Goals as goal

pub returns-in-Err-clause-ok : goal.returns-in-Err-clause-ok
returns-in-Err-clause-ok c =
    let is_fault : IsLineFault c.args.line.now c.in-Err.fault = elim (c.in-Err.ensures.refused) [
      | inl memory ↦ let no = c.in_ok-answer_fault-in-Err.ensures.memory memory in absurd (cc)
      | inr fault ↦ fault
    ] in (
      fault_text c.in-Err.fault,
      c.in_ok-answer_fault-in-Err.ensures.ok,
      (λ before joins. (before, joins, no_block c.in-Err.fault is_fault refl refl)),
      fault_refuses c.args.line.now c.in-Err.fault is_fault,
    )

pub returns-clause-ok : goal.returns-clause-ok
returns-clause-ok c =
    let given = rw c.octets.ensures.exact at c.take-joined.ensures in
    IfOk-weaker c.answer_joined.result _ _ (λ answered h. (
      h.0,
      h.1,
      (λ before joins. (
        before ++ octets_of c.in-Ok.bits ∷ [],
        given.joins before joins,
        joins_block c.in-Ok.bits c.in-Ok.ensures.ok (omega arith)
            (subst (λ j. AnswersJoined (of_plan c.args.plan.now) j h.0) (given.answer before joins) h.2) refl,
      )),
      h.3,
    )) c.answer_joined.ensures.ok

pub returns-then-len-ne0-clause-ok : goal.returns-then-len-ne0-clause-ok
returns-then-len-ne0-clause-ok c = (
  codes "bad 5",
  c.in_ok-extend_from_slice.ensures.items,
  (λ before joins. (
    before,
    joins,
    no_octets c.in-Ok.bits c.in-Ok.ensures.ok (rw c.len.ensures.count at c.if-len-ne0.true) refl refl,
  )),
  refl,
)

pub returns-in_err-answer_fault-in-Err-clause-ok : goal.returns-in_err-answer_fault-in-Err-clause-ok
returns-in_err-answer_fault-in-Err-clause-ok c = IfOk-from_err c.from_residual.result _ c.from_residual.ensures.0

pub returns-in_err-answer_fault-in-Err-clause-err : goal.returns-in_err-answer_fault-in-Err-clause-err
returns-in_err-answer_fault-in-Err-clause-err c = OnErr-from c.from_residual.result c.in_err-answer_fault-in-Err.ensures.err

pub returns-in_err-extend_from_slice-clause-ok : goal.returns-in_err-extend_from_slice-clause-ok
returns-in_err-extend_from_slice-clause-ok c = IfOk-from_err c.from_residual-in_err-extend_from_slice.result _
    c.from_residual-in_err-extend_from_slice.ensures.0

pub returns-in_err-extend_from_slice-clause-err : goal.returns-in_err-extend_from_slice-clause-err
returns-in_err-extend_from_slice-clause-err c = OnErr-from c.from_residual-in_err-extend_from_slice.result
    ([], c.in_err-extend_from_slice.ensures.items ∙ sym (append-nil _))

pub returns-clause-err : goal.returns-clause-err
returns-clause-err c = c.answer_joined.ensures.err
