use Rattle.std.proofs.Common.{sym, ◌∙◌, ◌∷◌}
use Rattle.std.proofs.lemmas.Result.{err_from_is_err_and}
use Rattle.csn_cert.specs.PatternText.{end_character}
use Rattle.csn_cert.proofs.Refusals.{passed}
use Rattle.csn_cert.proofs.Words.{end_begins_no_mark, word_tells, empty_pattern, word_pattern}
use Rattle.csn_cert.proofs.read.read_pattern.Goals as goal

pub returns-in_err-whole-clause-refused : goal.returns-in_err-whole-clause-refused
returns-in_err-whole-clause-refused c =
    let p = err_from_is_err_and c.from_residual.result c.from_residual.ensures.1 in
    passed c.from_residual.result p.0 c.in_err-whole.field-0.0 p.1 p.2 (λ never p behind stands.
    let found = empty_pattern p c.take.new.self behind (sym c.if-take.ensures.yes ∙ stands.spelled) in
    never p.whole behind (record { is = tt; may = tt; spelled = found.1 })) c.in_err-whole.ensures.refused

pub returns-in_err-marks-clause-refused : goal.returns-in_err-marks-clause-refused
returns-in_err-marks-clause-refused c =
    let p = err_from_is_err_and c.from_residual-in_err-marks.result c.from_residual-in_err-marks.ensures.1 in
    passed c.from_residual-in_err-marks.result p.0 c.in_err-marks.field-0.0 p.1 p.2 (λ never p behind stands.
    let found = word_pattern p c.args.text.now behind stands.is c.if-take.ensures.no stands.spelled in
    never p.marks (end_character p.whole ∷ behind)
    (record {
      is = found.0;
      may = end_begins_no_mark p.whole behind;
      spelled =
          c.if-take.ensures.stays ∙ found.1;
    })) c.in_err-marks.ensures.refused

pub returns-in_err-whole-2-clause-refused : goal.returns-in_err-whole-2-clause-refused
returns-in_err-whole-2-clause-refused c =
    let p = err_from_is_err_and c.from_residual-in_err-whole-2.result c.from_residual-in_err-whole-2.ensures.1 in
    passed c.from_residual-in_err-whole-2.result p.0 c.in_err-whole-2.field-0.0 p.1 p.2 (λ never p behind stands.
    let found = word_pattern p c.args.text.now behind stands.is c.if-take.ensures.no stands.spelled in
    let marks = c.in_ok-marks.ensures.ok in
    let rest = word_tells c.in_ok-marks.marks.marks p.marks c.read_marks.new.text (end_character p.whole ∷ behind)
    marks.may (end_begins_no_mark p.whole behind) (sym marks.spelled ∙ c.if-take.ensures.stays ∙ found.1) in
    never p.whole behind (record { is = tt; may = tt; spelled = rest.1 })) c.in_err-whole-2.ensures.refused
