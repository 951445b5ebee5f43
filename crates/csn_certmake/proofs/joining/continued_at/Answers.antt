use Rattle.std.proofs.Common.{◌≡◌, ◌+◌, ◌%◌, ◌++◌, [], ap, sym, ◌∙◌, flat_map, length, arith}
use Rattle.std.proofs.lemmas.List.{take_all}
use Rattle.std.proofs.lemmas.Option.{get_or_from_slice_get}
use Rattle.csn_certmake.specs.Patterns.{continued, patterns_in}
use Rattle.csn_certmake.specs.Behind.{continued_with}
use Rattle.csn_certmake.proofs.Rows.{flat_next}
use Rattle.csn_certmake.proofs.joining.continued_at.Goals as goal

pub loop-pattern-init : goal.loop-pattern-init
loop-pattern-init c = c.new-patterns.ensures.items

pub loop-pattern-preserved : goal.loop-pattern-preserved
loop-pattern-preserved c =
    let rests = c.args.rests.now in
    let octet = c.args.octet in
    let first = c.pattern-item.result in
    let there : patterns_in rests ((octet + length first.marks) % 8) ≡ c.at.result.now =
    ap (λ n. patterns_in rests ((octet + n) % 8)) (sym c.len.ensures.count)
    ∙ get_or_from_slice_get rests ((octet + c.len.result) % 8) c.at.result.now [] c.at.ensures in
    c.in_ok-push_continued.ensures
    ∙ ap (λ l. c.loop-pattern.patterns.items ++ l) (ap (λ l. continued_with l first) (sym there))
    ∙ ap (λ l. l ++ continued rests octet first) c.loop-pattern.invariant
    ∙ flat_next (continued rests octet) c.args.first.now c.loop-pattern.pattern-index first c.loop-pattern-test.true c.pattern-item.is

pub returns : goal.returns
returns c =
    c.loop-pattern.invariant ∙ ap (flat_map (continued c.args.rests.now c.args.octet))
    (take_all c.loop-pattern.pattern-index c.args.first.now (omega (arith, c.loop-pattern-test.false)))
