use Rattle.std.proofs.Common.{[], ◌∷◌, arith}
use Rattle.std.proofs.lemmas.Option.{slice_get_within}
use Rattle.csn_certify.proofs.Searching.{none_more, known_some, known_none}
use Rattle.csn_certify.proofs.OverlapSearch.{second_first, second_end, second_found}
use Rattle.csn_certify.proofs.search.Search.overlap_of.Goals as goal

pub overflow_step-j : goal.overflow_step-j
overflow_step-j c =
    let part = c.requires.part.1 in
    let inside = slice_get_within c.args.choice.now.parts.now c.args.i c.requires.part.0 part.is_part in
    omega (arith, inside, c.len-count.ensures.len, c.len-count.ensures.bound)

pub loop-j-init : goal.loop-j-init
loop-j-init c = second_first c.args.self.now.desc.now c.args.choice.now.node c.args.choice.now.parts.now c.requires.choice c.args.octet c.args.i

pub returns-in-Some : goal.returns-in-Some
returns-in-Some c =
    let d = c.args.self.now.desc.now in
    second_found d c.args.choice.now.node c.args.choice.now.parts.now c.requires.choice c.args.octet c.args.i c.loop-j.j c.in-Some.conflict c.loop-j.invariant
    (known_some d (c.args.choice.now.node ∷ 3 ∷ c.args.octet ∷ 3 ∷ c.args.i ∷ c.loop-j.j ∷ [])
    c.in_ok-conflict.field-0 c.in-Some.conflict c.in-Some.is c.in_ok-conflict.ensures)

pub loop-j-preserved : goal.loop-j-preserved
loop-j-preserved c =
    let d = c.args.self.now.desc.now in
    none_more d (c.args.choice.now.node ∷ 3 ∷ c.args.octet ∷ 3 ∷ c.args.i ∷ []) c.loop-j.j c.loop-j.invariant
    (known_none d (c.args.choice.now.node ∷ 3 ∷ c.args.octet ∷ 3 ∷ c.args.i ∷ c.loop-j.j ∷ [])
    c.in_ok-conflict.field-0 c.in_default.is c.in_ok-conflict.ensures)

pub returns : goal.returns
returns c = second_end c.args.self.now.desc.now c.args.choice.now.node c.args.choice.now.parts.now c.requires.choice
    c.args.octet c.args.i c.loop-j.j (omega (arith, c.loop-j-test.false, c.len-count.ensures.len)) c.loop-j.invariant
