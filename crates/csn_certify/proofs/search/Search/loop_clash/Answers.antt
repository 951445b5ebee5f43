use Rattle.std.proofs.Common.{[], ◌∷◌, refl, arith}
use Rattle.csn_certify.proofs.Searching.{branch_at, found_at, none_more, is_none}
use Rattle.csn_certify.proofs.RepeatSearch.{loops_end}
use Rattle.csn_certify.proofs.search.Search.loop_clash.Goals as goal

pub returns-in-Some : goal.returns-in-Some
returns-in-Some c =
    found_at c.args.self.now.desc.now (c.args.node ∷ 3 ∷ []) c.loop-octet.octet c.in-Some.conflict
    (branch_at (c.args.node ∷ 3 ∷ []) refl) c.loop-octet.invariant c.in-Some.ensures

pub loop-octet-preserved : goal.loop-octet-preserved
loop-octet-preserved c =
    let d = c.args.self.now.desc.now in
    none_more d (c.args.node ∷ 3 ∷ []) c.loop-octet.octet c.loop-octet.invariant
    (is_none d (c.args.node ∷ 3 ∷ c.loop-octet.octet ∷ []) c.loop_clash_at.result c.in_default.not-Some c.loop_clash_at.ensures)

pub returns : goal.returns
returns c = loops_end c.args.self.now.desc.now c.args.node c.args.part c.requires.many c.loop-octet.octet
    (omega (arith, c.loop-octet-test.false)) c.loop-octet.invariant
