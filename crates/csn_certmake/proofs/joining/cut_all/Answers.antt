use Rattle.std.proofs.Common.{List, map, subst, ap, ◌∙◌, arith}
use Rattle.std.proofs.lemmas.List.{take_all}
use Rattle.csn_cert.specs.PatternV.{PatternV}
use Rattle.csn_certmake.specs.Patterns.{HasSame}
use Rattle.csn_certmake.specs.Behind.{cut_to}
use Rattle.csn_certmake.proofs.joining.cut_all.Goals as goal

pub returns : goal.returns
returns c =
    subst (λ (l : List PatternV). HasSame c.without_repeats.result.items l)
    (c.loop-pattern.invariant ∙ ap (map (cut_to c.args.room))
    (take_all c.loop-pattern.pattern-index c.args.patterns.now (omega (arith, c.loop-pattern-test.false))))
    c.without_repeats.ensures
