use Rattle.std.proofs.Common.{[], ◌∷◌}
use Rattle.std.proofs.lemmas.Option.{slice_get_within}
use Rattle.csn_certify.proofs.Searching.{as_none}
use Rattle.csn_certify.proofs.ChoiceSearch.{no_null, no_clash, clash_some}
use Rattle.csn_certify.proofs.search.Search.empty_clash.Goals as goal

pub returns-in_err-first_null : goal.returns-in_err-first_null
returns-in_err-first_null c =
    let d = c.args.self.now.desc.now in
    as_none d (c.args.choice.now.node ∷ 3 ∷ c.args.octet ∷ 4 ∷ []) c.from_residual.result c.from_residual.ensures
    (no_null d c.args.choice.now.node c.args.choice.now.parts.now c.requires.choice c.args.octet c.in_err-first_null.ensures.least)

pub clashing_bit-requires-clause-part : goal.clashing_bit-requires-clause-part
clashing_bit-requires-clause-part c = slice_get_within c.args.self.now.desc.now.nodes c.args.choice.now.node _ c.requires.choice

pub clashing_bit-requires-clause-node : goal.clashing_bit-requires-clause-node
clashing_bit-requires-clause-node c = slice_get_within c.args.self.now.desc.now.nodes c.args.choice.now.node _ c.requires.choice

pub returns-in_err-bit : goal.returns-in_err-bit
returns-in_err-bit c =
    let d = c.args.self.now.desc.now in
    as_none d (c.args.choice.now.node ∷ 3 ∷ c.args.octet ∷ 4 ∷ []) c.from_residual-in_err-bit.result c.from_residual-in_err-bit.ensures
    (no_clash d c.args.choice.now.node c.args.choice.now.parts.now c.requires.choice c.args.octet c.in_err-bit.ensures)

pub returns : goal.returns
returns c =
    clash_some c.args.self.now.desc.now c.args.choice.now.node c.args.choice.now.parts.now c.requires.choice
    c.args.octet c.in_ok-first_null.field-0 c.in_ok-bit.bit c.requires.reached c.in_ok-first_null.ensures.least.1
    c.in_ok-bit.ensures
