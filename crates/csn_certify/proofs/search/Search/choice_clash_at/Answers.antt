use Rattle.std.proofs.Common.{[], ◌∷◌}
use Rattle.csn_look.specs.Reached.{Reached}
use Rattle.csn_certify.proofs.Searching.{known_some, known_none}
use Rattle.csn_certify.proofs.SearchFacts.{reached_there, denied, in_table}
use Rattle.csn_certify.proofs.ChoiceSearch.{not_reached, overlap_found, clashes_after}
use Rattle.std.proofs.lemmas.Option.{slice_get_within}
use Rattle.csn_desc.specs.declared.node.Node.TheVariants.{Choice}
use Rattle.csn_certify.proofs.search.Search.choice_clash_at.Goals as goal

pub returns-then-not-has : goal.returns-then-not-has
returns-then-not-has c =
    let d = c.args.self.now.desc.now in
    let there = reached_there d c.args.choice.now.node c.args.octet c.reached.result c.has.result
    (c.reached.ensures d c.requires.known.reached) c.requires.octet c.has.ensures in
    not_reached d c.args.choice.now.node c.args.choice.now.parts.now c.requires.choice c.args.octet
    (denied c.has.result (Reached d c.args.choice.now.node c.args.octet) there c.if-not-has.true)

pub returns-in-Some : goal.returns-in-Some
returns-in-Some c =
    let d = c.args.self.now.desc.now in
    overlap_found d c.args.choice.now.node c.args.choice.now.parts.now c.requires.choice c.args.octet c.in-Some.conflict
    (known_some d (c.args.choice.now.node ∷ 3 ∷ c.args.octet ∷ 3 ∷ []) c.in_ok-conflict.field-0 c.in-Some.conflict c.in-Some.is c.in_ok-conflict.ensures)

pub returns : goal.returns
returns c =
    let d = c.args.self.now.desc.now in
    clashes_after d c.args.choice.now.node c.args.choice.now.parts.now c.requires.choice c.args.octet c.empty_clash.result
    (known_none d (c.args.choice.now.node ∷ 3 ∷ c.args.octet ∷ 3 ∷ []) c.in_ok-conflict.field-0 c.in_default.is c.in_ok-conflict.ensures) c.empty_clash.ensures

pub empty_clash-requires-clause-reached : goal.empty_clash-requires-clause-reached
empty_clash-requires-clause-reached c =
    let d = c.args.self.now.desc.now in
    let there = reached_there d c.args.choice.now.node c.args.octet c.reached.result c.has.result
    (c.reached.ensures d c.requires.known.reached) c.requires.octet c.has.ensures in
    there.0 c.if-not-has.false

pub reached-requires : goal.reached-requires
reached-requires c =
    in_table c.requires.known.reached.same
    (slice_get_within c.args.self.now.desc.now.nodes c.args.choice.now.node (Choice c.args.choice.now.parts.now) c.requires.choice)

pub overlap-requires-clause-reached : goal.overlap-requires-clause-reached
overlap-requires-clause-reached c =
    let d = c.args.self.now.desc.now in
    let there = reached_there d c.args.choice.now.node c.args.octet c.reached.result c.has.result
    (c.reached.ensures d c.requires.known.reached) c.requires.octet c.has.ensures in
    there.0 c.if-not-has.false
