use Rattle.std.proofs.Common.{◌≡◌, Some, None, ap, sym, ◌∙◌, arith}
use Rattle.csn_desc.specs.Values.{count_of}
use Rattle.csn_certify.proofs.KeptNumbers.{on_field, count_same, fixed_small}
use Rattle.csn_certify.proofs.numbers.count_of.Goals as goal

pub returns-in-Fixed-clause-count : goal.returns-in-Fixed-clause-count
returns-in-Fixed-clause-count c = λ d v seen keeps kept. ap (λ k. count_of seen k) c.in-Fixed.is

pub returns-in-Fixed-clause-small : goal.returns-in-Fixed-clause-small
returns-in-Fixed-clause-small c = let few = fixed_small c.requires.0 c.requires.1 c.args.numbers.now c.args.count.now
    c.in-Fixed.n c.in-Fixed.is c.requires.2 in omega (arith, few)

pub times_and_more-requires-clause-number : goal.times_and_more-requires-clause-number
times_and_more-requires-clause-number c =
    let on = on_field c.requires.0 c.args.numbers.now c.requires.1 c.args.count.now c.in-Counted.m c.in-Counted.field
    c.in-Counted.c c.in-Counted.is c.requires.2 in
    let one : Some c.in-Some.number ≡ Some on.number = sym c.in-Some.is ∙ c.last_value.ensures ∙ on.found in
    let same : c.in-Some.number ≡ on.number = cc in
    omega (arith, same, on.small)

pub times_and_more-requires-clause-more : goal.times_and_more-requires-clause-more
times_and_more-requires-clause-more c =
    let on = on_field c.requires.0 c.args.numbers.now c.requires.1 c.args.count.now c.in-Counted.m c.in-Counted.field
    c.in-Counted.c c.in-Counted.is c.requires.2 in
    on.more

pub unreachable-requires : goal.unreachable-requires
unreachable-requires c =
    let on = on_field c.requires.0 c.args.numbers.now c.requires.1 c.args.count.now c.in-Counted.m c.in-Counted.field
    c.in-Counted.c c.in-Counted.is c.requires.2 in
    let clash : None ≡ Some on.number = sym c.in-None.is ∙ c.last_value.ensures ∙ on.found in
    absurd (cc)

pub returns-in-Some-clause-count : goal.returns-in-Some-clause-count
returns-in-Some-clause-count c = λ d v seen keeps kept.
    count_same d c.args.numbers.now v seen c.args.count.now c.in-Counted.m c.in-Counted.field c.in-Counted.c c.in-Some.number c.times_and_more.result
    c.in-Counted.is keeps kept (sym c.last_value.ensures ∙ c.in-Some.is) c.times_and_more.ensures.sum
