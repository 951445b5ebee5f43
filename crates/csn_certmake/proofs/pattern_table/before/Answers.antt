use Rattle.std.proofs.Common.{◌≡◌, [], List, sym, subst, flat_map, arith}
use Rattle.std.proofs.lemmas.Option.{get_or_from_slice_get}
use Rattle.csn_cert.specs.PatternV.{PatternV}
use Rattle.csn_certmake.specs.Patterns.{continued, patterns_in, HasSame}
use Rattle.csn_certmake.proofs.Rows.{row_more, row_all}
use Rattle.csn_certmake.proofs.pattern_table.before.Goals as goal

pub loop-octet-preserved : goal.loop-octet-preserved
loop-octet-preserved c =
    let there : patterns_in c.args.part.now c.loop-octet.octet ≡ c.at.result.now =
    get_or_from_slice_get c.args.part.now c.loop-octet.octet c.at.result.now [] c.at.ensures in
    row_more (λ octet. flat_map (continued c.args.rests.now octet) (patterns_in c.args.part.now octet))
    c.loop-octet.row c.push.new.self c.loop-octet.octet c.in_ok-after.field-0.items c.loop-octet.invariant
    (subst (λ (l : List PatternV). HasSame c.in_ok-after.field-0.items
    (flat_map (continued c.args.rests.now c.loop-octet.octet) l)) (sym there) c.in_ok-after.ensures.same)
    c.in_ok-after.ensures.rising c.in_ok-push.ensures

pub returns : goal.returns
returns c = row_all (λ octet. flat_map (continued c.args.rests.now octet) (patterns_in c.args.part.now octet))
    c.loop-octet.row c.loop-octet.octet (omega (arith, c.loop-octet-test.false, c.loop-octet.auto.octet-end))
    c.loop-octet.invariant
