use Rattle.std.proofs.Common.{◌++◌, ◌∷◌, [], ap, sym, ◌∙◌, arith}
use Rattle.csn_cert.specs.Growing.{claimed}
use Rattle.csn_good.specs.ClaimedSets.{patterns_at}
use Rattle.csn_good.proofs.Making.{take_part, take_whole, claimed_pattern, claimed_count}
use Rattle.csn_good.proofs.apart.patterns_list.Goals as goal

pub loop-k-preserved : goal.loop-k-preserved
loop-k-preserved c =
    let there = sym c.has.ensures ∙ c.if-not-has.false in
    let at = claimed_pattern (claimed c.args.c.now c.args.i c.args.octet) c.loop-k.k c.pattern_at.result there c.pattern_at.ensures in
    c.in_ok-push.ensures.items ∙ ap (λ l. l ++ c.pattern_at.result ∷ []) c.loop-k.invariant
    ∙ sym (take_part (patterns_at c.args.c.now c.args.i c.args.octet) c.loop-k.k c.pattern_at.result at)

pub returns : goal.returns
returns c =
    let there = sym c.has.ensures ∙ c.if-not-has.false in
    let count = claimed_count (claimed c.args.c.now c.args.i c.args.octet) c.patterns-k-end.result there c.patterns-k-end.ensures in
    let over = c.loop-k-test.false in
    c.loop-k.invariant ∙ take_whole (patterns_at c.args.c.now c.args.i c.args.octet) c.loop-k.k (omega arith)
