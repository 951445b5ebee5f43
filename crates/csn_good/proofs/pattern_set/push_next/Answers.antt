use Rattle.std.proofs.Common.{◌≡◌, ◌+◌, ◌-◌, ◌/◌, ◌%◌, ◌++◌, ◌∷◌, [], ◌∙◌, ap, arith}
use Rattle.csn_good.specs.Numbers.{marks_of}
use Rattle.csn_good.proofs.Numbered.{no_next, next_mark}
use Rattle.csn_good.proofs.pattern_set.push_next.Goals as goal

pub returns-then-rest-eq0-clause-marks : goal.returns-then-rest-eq0-clause-marks
returns-then-rest-eq0-clause-marks c = λ count. no_next c.args.pattern.now.marks count c.args.rest c.if-rest-eq0.true

pub returns-clause-marks : goal.returns-clause-marks
returns-clause-marks c = λ count.
    let some = c.if-rest-eq0.false in
    ap (λ q. q.marks ++ marks_of count ((c.args.rest - 1) / 3)) c.push.ensures
    ∙ ap (λ m. (c.args.pattern.now.marks ++ m ∷ []) ++ marks_of count ((c.args.rest - 1) / 3)) c.mark_for.ensures
    ∙ next_mark c.args.pattern.now.marks count c.args.rest (omega (arith, some))
