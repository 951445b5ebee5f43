use Rattle.std.proofs.Common.{◌≡◌, [], ◌++◌, ◌∙◌, append-nil, codes, length, refl, sym, ap, append_assoc, arith}
use Rattle.csn_bits.specs.Fault.{IsLineFault}
use Rattle.csn_lines.specs.OutLine.{fault_text, refusal_text}
use Rattle.csn_lines.proofs.AnswerLemmas.{cut_back}
use Rattle.csn_lines.proofs.ProgressLemmas.{OnErr-from}
use Rattle.csn_lines.proofs.ShowLemmas.{fault_refuses, place_shown, text_shown}
use Rattle.csn_lines.proofs.show.answer_line.Goals as goal

pub returns-in-Text-clause-ok : goal.returns-in-Text-clause-ok
returns-in-Text-clause-ok c = λ line reads.
    let ended = rw c.in-Text.is at c.in_ok-bits.ensures.ends line reads in
    let text = ended.3.0 in (
      codes "ok " ++ text,
      ended.3.1 ∙ ap (λ l. l ++ text) c.in_ok-extend_from_slice.ensures.items ∙ append_assoc c.args.out.now.items (codes "ok ") text,
      (ended.0, ended.1, ended.2, text_shown c.args.text.now.form c.args.text.now.desc ended.0 text ended.3.2),
      refl,
    )

pub returns-in_ok-answer_refusal-in-Refused-clause-ok : goal.returns-in_ok-answer_refusal-in-Refused-clause-ok
returns-in_ok-answer_refusal-in-Refused-clause-ok c = λ line reads.
    let ended = rw c.in-Refused.is at c.in_ok-bits.ensures.ends line reads in
    let start : c.len-start.result ≡ length c.args.out.now.items = omega (arith, c.len-start.ensures, c.args.out.now.ok) in
    let same : c.truncate.new.self.items ≡ c.args.out.now.items =
    cut_back c.args.out.now.items c.end.new.out.items c.truncate.new.self.items (codes "ok ") c.len-start.result
    (ended.4 ∙ c.in_ok-extend_from_slice.ensures.items) c.truncate.ensures.items start in
    let refusal = refusal_text c.in-Refused.place ended.0 in (
      refusal,
      c.in_ok-answer_refusal-in-Refused.ensures.ok ended.0 ended.2 ∙ ap (λ l. l ++ refusal) same,
      (ended.0, ended.1, ended.2, place_shown c.args.text.now.form c.args.text.now.desc ended.0 c.in-Refused.place ended.3),
      refl,
    )

pub returns-in_ok-answer_fault-in-Fault-clause-ok : goal.returns-in_ok-answer_fault-in-Fault-clause-ok
returns-in_ok-answer_fault-in-Fault-clause-ok c = λ line reads.
    let ended = rw c.in-Fault.is at c.in_ok-bits.ensures.ends line reads in
    let start : c.len-start.result ≡ length c.args.out.now.items = omega (arith, c.len-start.ensures, c.args.out.now.ok) in
    let same : c.truncate-in-Fault.new.self.items ≡ c.args.out.now.items =
    cut_back c.args.out.now.items c.end.new.out.items c.truncate-in-Fault.new.self.items (codes "ok ")
    c.len-start.result (ended.1 ∙ c.in_ok-extend_from_slice.ensures.items) c.truncate-in-Fault.ensures.items
    start in
    let is : IsLineFault line c.into.result = (c.in-Fault.why, ended.0, c.into.ensures) in (
      fault_text c.into.result,
      c.in_ok-answer_fault-in-Fault.ensures.ok ∙ ap (λ l. l ++ fault_text c.into.result) same,
      (c.into.result, is, refl),
      fault_refuses line c.into.result is,
    )

pub returns-in_err-answer_refusal-in-Refused-clause-err : goal.returns-in_err-answer_refusal-in-Refused-clause-err
returns-in_err-answer_refusal-in-Refused-clause-err c = OnErr-from c.from_residual-in_err-answer_refusal-in-Refused.result (λ line reads.
    let ended = rw c.in-Refused.is at c.in_ok-bits.ensures.ends line reads in
    let start : c.len-start.result ≡ length c.args.out.now.items = omega (arith, c.len-start.ensures, c.args.out.now.ok) in
    let same : c.truncate.new.self.items ≡ c.args.out.now.items =
    cut_back c.args.out.now.items c.end.new.out.items c.truncate.new.self.items (codes "ok ") c.len-start.result
    (ended.4 ∙ c.in_ok-extend_from_slice.ensures.items) c.truncate.ensures.items start in
    let (tail, is) = c.in_err-answer_refusal-in-Refused.ensures.err in (tail, is ∙ ap (λ l. l ++ tail) same))

pub returns-in_err-answer_fault-in-Fault-clause-err : goal.returns-in_err-answer_fault-in-Fault-clause-err
returns-in_err-answer_fault-in-Fault-clause-err c = OnErr-from c.from_residual-in_err-answer_fault-in-Fault.result (λ line reads.
    let ended = rw c.in-Fault.is at c.in_ok-bits.ensures.ends line reads in
    let start : c.len-start.result ≡ length c.args.out.now.items = omega (arith, c.len-start.ensures, c.args.out.now.ok) in
    let same : c.truncate-in-Fault.new.self.items ≡ c.args.out.now.items =
    cut_back c.args.out.now.items c.end.new.out.items c.truncate-in-Fault.new.self.items (codes "ok ")
    c.len-start.result (ended.1 ∙ c.in_ok-extend_from_slice.ensures.items) c.truncate-in-Fault.ensures.items
    start in
    let (tail, is) = c.in_err-answer_fault-in-Fault.ensures.err in (tail, is ∙ ap (λ l. l ++ tail) same))

pub returns-in_err-extend_from_slice-clause-err : goal.returns-in_err-extend_from_slice-clause-err
returns-in_err-extend_from_slice-clause-err c = OnErr-from c.from_residual.result
    (λ line reads. ([], c.in_err-extend_from_slice.ensures.items ∙ sym (append-nil _)))
