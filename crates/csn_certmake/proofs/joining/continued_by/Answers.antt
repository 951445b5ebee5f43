use Rattle.std.proofs.Common.{◌≡◌, ◌++◌, [], List, ap, sym, ◌∙◌, subst, flat_map, length, arith}
use Rattle.std.proofs.lemmas.List.{take_all}
use Rattle.std.proofs.lemmas.Option.{get_or_from_slice_get}
use Rattle.csn_cert.specs.PatternV.{PatternV}
use Rattle.csn_certmake.specs.Patterns.{patterns_in}
use Rattle.csn_certmake.specs.Behind.{continued_with, continued_by, HaveFewMarks}
use Rattle.csn_certmake.proofs.Rows.{flat_next}
use Rattle.csn_certmake.proofs.Behind.{none_few, next_few}
use Rattle.csn_certmake.proofs.joining.continued_by.Goals as goal

pub loop-pattern-init : goal.loop-pattern-init
loop-pattern-init c = (c.new-patterns.ensures.items, none_few c.args.first.now)

pub loop-pattern-preserved : goal.loop-pattern-preserved
loop-pattern-preserved c =
    let behind = c.args.behind.now in
    let patterns = c.args.first.now in
    let first = c.pattern-item.result in
    let count = c.len-size.ensures.count in
    let there : patterns_in behind (length first.marks) ≡ c.at.result.now =
    ap (λ n. patterns_in behind n) (sym count) ∙ get_or_from_slice_get behind c.len-size.result c.at.result.now [] c.at.ensures in (
      c.in_ok-push_continued.ensures
          ∙ ap (λ l. c.loop-pattern.patterns.items ++ l) (ap (λ l. continued_with l first) (sym there))
          ∙ ap (λ l. l ++ continued_by behind first) c.loop-pattern.invariant.0
          ∙ flat_next (continued_by behind) patterns c.loop-pattern.pattern-index first c.loop-pattern-test.true c.pattern-item.is,
      next_few patterns c.loop-pattern.pattern-index first c.loop-pattern-test.true c.pattern-item.is
          (omega (arith, count, c.len-size.ensures.few)) c.loop-pattern.invariant.1,
    )

pub returns-clause-few : goal.returns-clause-few
returns-clause-few c = subst (λ (l : List PatternV). HaveFewMarks l)
    (take_all c.loop-pattern.pattern-index c.args.first.now (omega (arith, c.loop-pattern-test.false)))
    c.loop-pattern.invariant.1

pub returns-clause-patterns : goal.returns-clause-patterns
returns-clause-patterns c =
    c.loop-pattern.invariant.0 ∙ ap (flat_map (continued_by c.args.behind.now))
    (take_all c.loop-pattern.pattern-index c.args.first.now (omega (arith, c.loop-pattern-test.false)))
