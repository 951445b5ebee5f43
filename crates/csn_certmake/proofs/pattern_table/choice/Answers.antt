use Rattle.std.proofs.Common.{List, subst, arith}
use Rattle.csn_cert.specs.PatternV.{PatternV}
use Rattle.csn_certmake.specs.Patterns.{choice_of, patterns_at, HasSame}
use Rattle.csn_certmake.proofs.Rows.{row_more, row_all}
use Rattle.csn_certmake.proofs.pattern_table.choice.Goals as goal

pub loop-octet-preserved : goal.loop-octet-preserved
loop-octet-preserved c =
    row_more (choice_of (patterns_at c.args.rows.now) c.args.parts.now) c.loop-octet.row c.push.new.self
    c.loop-octet.octet c.in_order.result.items c.loop-octet.invariant
    (subst (λ (l : List PatternV). HasSame c.in_order.result.items l)
    c.in_ok-gathered.ensures c.in_order.ensures.same) c.in_order.ensures.rising c.in_ok-push.ensures

pub returns : goal.returns
returns c = row_all (choice_of (patterns_at c.args.rows.now) c.args.parts.now) c.loop-octet.row c.loop-octet.octet
    (omega (arith, c.loop-octet-test.false, c.loop-octet.auto.octet-end)) c.loop-octet.invariant
