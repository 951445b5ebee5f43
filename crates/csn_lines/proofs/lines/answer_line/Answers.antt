use Rattle.std.proofs.Common.{◌<◌, length, arith, ap, sym, ◌∙◌}
use Rattle.csn_lines.specs.Lines.{is_refused}
use Rattle.csn_lines.proofs.ProgressLemmas.{one_line}
use Rattle.csn_lines.proofs.lines.answer_line.Goals as goal

pub returns-in-Ok-Given-clause-ok : goal.returns-in-Ok-Given-clause-ok
returns-in-Ok-Given-clause-ok g c = λ held line stands.
    let some : 0 < length stands.front = omega (arith, stands.count, c.if-given-eq0.false) in
    let wrote = c.in-Ok-Given.ensures.ok stands.front stands.stands some in
    one_line _ line stands.front _ _ wrote.0 _ (sym stands.bare) some wrote.1 wrote.2 (sym (ap is_refused c.in-Ok-Given.field-0-is) ∙ wrote.3)

pub returns-in-Ok-Refused-clause-ok : goal.returns-in-Ok-Refused-clause-ok
returns-in-Ok-Refused-clause-ok g c = λ held line stands.
    let some : 0 < length stands.front = omega (arith, stands.count, c.if-given-eq0.false) in
    let wrote = c.in-Ok-Refused.ensures.ok stands.front stands.stands some in
    one_line _ line stands.front _ _ wrote.0 _ (sym stands.bare) some wrote.1 wrote.2 (sym (ap is_refused c.in-Ok-Refused.field-0-is) ∙ wrote.3)
