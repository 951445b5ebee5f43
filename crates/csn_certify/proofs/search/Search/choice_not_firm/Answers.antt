use Rattle.std.proofs.Common.{[], ◌∷◌, arith}
use Rattle.csn_certify.proofs.Searching.{none_more}
use Rattle.csn_certify.proofs.SearchFacts.{part_inside, in_table, soft_part, good_part}
use Rattle.csn_certify.proofs.ChoiceSearch.{firm_at, not_firm_found, all_firm}
use Rattle.csn_certify.proofs.search.Search.choice_not_firm.Goals as goal

pub is_null-requires : goal.is_null-requires
is_null-requires c = part_inside c.args.self.now.desc.now c.args.choice.now.node c.args.choice.now.parts.now
    c.loop-i.i c.get-part.result c.requires.known.description c.requires.choice c.get-part.ensures

pub firm-requires : goal.firm-requires
firm-requires c =
    in_table c.requires.known.sets.same
    (part_inside c.args.self.now.desc.now c.args.choice.now.node c.args.choice.now.parts.now c.loop-i.i
    c.get-part.result c.requires.known.description c.requires.choice c.get-part.ensures)

pub returns-then-is_null-firm : goal.returns-then-is_null-firm
returns-then-is_null-firm c =
    let d = c.args.self.now.desc.now in
    let sets = c.requires.known.sets in
    let inside = part_inside d c.args.choice.now.node c.args.choice.now.parts.now c.loop-i.i c.get-part.result
    c.requires.known.description c.requires.choice c.get-part.ensures in
    let soft = soft_part d c.args.self.now.look.now.sets c.get-part.result c.is_null.result c.firm.result sets inside
    c.is_null.ensures (c.firm.ensures d sets) c.if-is_null-firm.true in
    not_firm_found d c.args.choice.now.node c.args.choice.now.parts.now c.requires.choice c.loop-i.i c.get-part.result
    c.get-part.ensures soft.0 soft.1 c.loop-i.invariant

pub loop-i-preserved : goal.loop-i-preserved
loop-i-preserved c =
    let d = c.args.self.now.desc.now in
    let sets = c.requires.known.sets in
    let inside = part_inside d c.args.choice.now.node c.args.choice.now.parts.now c.loop-i.i c.get-part.result
    c.requires.known.description c.requires.choice c.get-part.ensures in
    let good = good_part d c.args.self.now.look.now.sets c.get-part.result c.is_null.result c.firm.result sets inside
    c.is_null.ensures (c.firm.ensures d sets) c.if-is_null-firm.false in
    none_more d (c.args.choice.now.node ∷ 2 ∷ []) c.loop-i.i c.loop-i.invariant
    (firm_at d c.args.choice.now.node c.args.choice.now.parts.now c.requires.choice c.loop-i.i c.get-part.result
    c.get-part.ensures good)

pub returns : goal.returns
returns c = all_firm c.args.self.now.desc.now c.args.choice.now.node c.args.choice.now.parts.now c.requires.choice
    c.loop-i.i (omega (arith, c.loop-i-test.false, c.len-i-end.ensures.len)) c.loop-i.invariant
