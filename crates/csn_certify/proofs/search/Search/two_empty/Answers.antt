use Rattle.std.proofs.Common.{[], ◌∷◌, arith}
use Rattle.csn_certify.proofs.Searching.{as_none}
use Rattle.csn_certify.proofs.ChoiceSearch.{two_none, two_one, two_some}
use Rattle.csn_certify.proofs.search.Search.two_empty.Goals as goal

pub returns-in_err-i : goal.returns-in_err-i
returns-in_err-i c =
    let d = c.args.self.now.desc.now in
    as_none d (c.args.choice.now.node ∷ 1 ∷ []) c.from_residual.result c.from_residual.ensures
    (two_none d c.args.choice.now.node c.args.choice.now.parts.now c.requires.choice c.in_err-i.ensures.least)

pub returns-in_err-j : goal.returns-in_err-j
returns-in_err-j c =
    let d = c.args.self.now.desc.now in
    as_none d (c.args.choice.now.node ∷ 1 ∷ []) c.from_residual-in_err-j.result c.from_residual-in_err-j.ensures
    (two_one d c.args.choice.now.node c.args.choice.now.parts.now c.requires.choice c.in_ok-i.i c.in_ok-i.ensures.least c.in_err-j.ensures.least)

pub returns : goal.returns
returns c = two_some c.args.self.now.desc.now c.args.choice.now.node c.args.choice.now.parts.now c.requires.choice
    c.in_ok-i.i c.in_ok-j.j c.in_ok-i.ensures.least c.in_ok-j.ensures.least

pub overflow_add-i : goal.overflow_add-i
overflow_add-i c = omega (arith, c.in_ok-i.ensures.small)

pub first_null-requires-2-clause-known : goal.first_null-requires-2-clause-known
first_null-requires-2-clause-known c = c.requires.known

pub first_null-requires-2-clause-choice : goal.first_null-requires-2-clause-choice
first_null-requires-2-clause-choice c = c.requires.choice
