use Rattle.std.proofs.Common.{List, flat_map, subst}
use Rattle.csn_cert.specs.PatternV.{PatternV}
use Rattle.csn_certmake.specs.Patterns.{continued, HasSame}
use Rattle.csn_certmake.specs.Behind.{continued_by}
use Rattle.csn_certmake.proofs.Behind.{all_same}
use Rattle.csn_certmake.proofs.Members.{same_again}
use Rattle.csn_certmake.proofs.joining.after.Goals as goal

pub returns-then-first-le-FEW-clause-same : goal.returns-then-first-le-FEW-clause-same
returns-then-first-le-FEW-clause-same c = subst (λ (l : List PatternV). HasSame c.in_order.result.items l) c.in_ok-continued_at.ensures c.in_order.ensures.same

pub returns-clause-same : goal.returns-clause-same
returns-clause-same c =
    let first = c.args.first.now in
    let by = continued_by c.in_ok-behind.behind in
    same_again c.in_order-2.result.items (flat_map by first) (flat_map (continued c.args.rests.now c.args.octet) first)
    (subst (λ (l : List PatternV). HasSame c.in_order-2.result.items l) c.in_ok-continued_by.ensures.patterns c.in_order-2.ensures.same)
    (all_same first c.args.octet c.args.rests.now c.in_ok-behind.behind c.in_ok-behind.ensures c.in_ok-continued_by.ensures.few)

pub returns-clause-rising : goal.returns-clause-rising
returns-clause-rising c = c.in_order-2.ensures.rising
