use Rattle.std.proofs.Common.{◌++◌, sym, ap, ◌∙◌, arith}
use Rattle.csn_cert.specs.Reading.{word_text}
use Rattle.csn_cert.proofs.Words.{word_longer, no_word, no_marks_text}
use Rattle.csn_cert.proofs.read.read_marks.Goals as goal

pub returns-then-len-eq-MOST_MARKS-clause-refused : goal.returns-then-len-eq-MOST_MARKS-clause-refused
returns-then-len-eq-MOST_MARKS-clause-refused c = λ marks behind stands.
    let more = word_longer c.loop-mark.marks.marks marks c.in-Some.mark c.mark.new.self behind stands.may
    (ap (λ l. word_text c.loop-mark.marks.marks ++ l) (sym c.in-Some.ensures.some) ∙ sym c.loop-mark.invariant.0 ∙ stands.spelled) in
    omega (arith, more, stands.is.few, c.len.ensures.count, c.if-len-eq-MOST_MARKS.true)

pub returns-then-len-eq0-clause-refused : goal.returns-then-len-eq0-clause-refused
returns-then-len-eq0-clause-refused c = λ marks behind stands.
    no_word marks c.loop-mark.text behind c.in_default.ensures.none stands.is.some
    (sym (no_marks_text c.loop-mark.marks.marks c.loop-mark.text (omega arith)) ∙ sym c.loop-mark.invariant.0 ∙ stands.spelled)
