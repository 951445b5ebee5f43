use Rattle.std.proofs.Common.{[], ◌∷◌, refl, arith}
use Rattle.csn_certify.proofs.Searching.{branch_at, found_at, none_more, known_some, known_none}
use Rattle.csn_certify.proofs.ChoiceSearch.{octets_end}
use Rattle.csn_certify.proofs.search.Search.choice_clash.Goals as goal

pub returns-in-Some : goal.returns-in-Some
returns-in-Some c =
    let d = c.args.self.now.desc.now in
    found_at d (c.args.choice.now.node ∷ 3 ∷ []) c.loop-octet.octet c.in-Some.conflict
    (branch_at (c.args.choice.now.node ∷ 3 ∷ []) refl) c.loop-octet.invariant
    (known_some d (c.args.choice.now.node ∷ 3 ∷ c.loop-octet.octet ∷ []) c.in_ok-conflict.field-0 c.in-Some.conflict c.in-Some.is c.in_ok-conflict.ensures)

pub loop-octet-preserved : goal.loop-octet-preserved
loop-octet-preserved c =
    let d = c.args.self.now.desc.now in
    none_more d (c.args.choice.now.node ∷ 3 ∷ []) c.loop-octet.octet c.loop-octet.invariant
    (known_none d (c.args.choice.now.node ∷ 3 ∷ c.loop-octet.octet ∷ []) c.in_ok-conflict.field-0 c.in_default.is c.in_ok-conflict.ensures)

pub returns : goal.returns
returns c = octets_end c.args.self.now.desc.now c.args.choice.now.node c.args.choice.now.parts.now c.requires.choice
    c.loop-octet.octet (omega (arith, c.loop-octet-test.false)) c.loop-octet.invariant

pub choice_clash_at-requires-clause-before : goal.choice_clash_at-requires-clause-before
choice_clash_at-requires-clause-before c = c.loop-octet.invariant
