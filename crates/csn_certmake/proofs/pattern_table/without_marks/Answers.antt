use Rattle.std.proofs.Common.{◌≡◌, [], List, sym, subst, map, arith}
use Rattle.std.proofs.lemmas.Option.{get_or_from_slice_get}
use Rattle.csn_cert.specs.PatternV.{PatternV}
use Rattle.csn_certmake.specs.Behind.{cut_to}
use Rattle.csn_certmake.specs.Patterns.{patterns_in, HasSame}
use Rattle.csn_certmake.proofs.Rows.{row_more, row_all}
use Rattle.csn_certmake.proofs.Members.{same_again}
use Rattle.csn_certmake.proofs.pattern_table.without_marks.Goals as goal

pub loop-octet-preserved : goal.loop-octet-preserved
loop-octet-preserved c =
    let row = c.args.row.now in
    let there : patterns_in row c.loop-octet.octet ≡ c.at.result.now =
    get_or_from_slice_get row c.loop-octet.octet c.at.result.now [] c.at.ensures in
    let cut = c.in_ok-cut_all.field-0.items in
    let own = same_again c.in_order.result.items cut (map (cut_to 0) c.at.result.now) c.in_order.ensures.same c.in_ok-cut_all.ensures in
    row_more (λ octet. map (cut_to 0) (patterns_in row octet))
    c.loop-octet.cut c.push.new.self c.loop-octet.octet c.in_order.result.items c.loop-octet.invariant
    (subst (λ (l : List PatternV). HasSame c.in_order.result.items (map (cut_to 0) l)) (sym there) own)
    c.in_order.ensures.rising c.in_ok-push.ensures

pub returns : goal.returns
returns c = row_all (λ octet. map (cut_to 0) (patterns_in c.args.row.now octet))
    c.loop-octet.cut c.loop-octet.octet (omega (arith, c.loop-octet-test.false, c.loop-octet.auto.octet-end))
    c.loop-octet.invariant
