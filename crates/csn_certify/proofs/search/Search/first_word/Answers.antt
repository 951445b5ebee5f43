use Rattle.std.proofs.Common.{ℕ, List, sym, subst, Some}
use Rattle.csn_certify.specs.Overlaps.{IsFirstBegun}
use Rattle.csn_certify.proofs.OverlapSearch.{only_key, begun_none, begun_some}
use Rattle.std.proofs.lemmas.Option.{slice_get_within}
use Rattle.csn_certify.proofs.SearchFacts.{in_table}
use Rattle.csn_certify.proofs.search.Search.first_word.Goals as goal

pub returns-in-Some : goal.returns-in-Some
returns-in-Some c =
    let d = c.args.self.now.desc.now in
    let keys = c.in_ok-keys.keys in
    let lists = c.in_ok-keys.ensures.keys d c.requires.known.keys in
    let are = only_key c.in_ok-only.only c.add.new.self c.args.word.now c.in_ok-only.ensures c.in_ok-add.ensures.added in
    subst (λ (w : List ℕ). IsFirstBegun d c.args.octet c.args.part c.args.word.now (Some w)) (sym c.copy.ensures)
    (begun_some d c.args.octet c.args.part keys lists c.add.new.self c.args.word.now c.requires.word are c.in-Some.at
    c.get.result.now c.in-Some.ensures c.get.ensures)

pub returns : goal.returns
returns c =
    let d = c.args.self.now.desc.now in
    let keys = c.in_ok-keys.keys in
    let lists = c.in_ok-keys.ensures.keys d c.requires.known.keys in
    let are = only_key c.in_ok-only.only c.add.new.self c.args.word.now c.in_ok-only.ensures c.in_ok-add.ensures.added in
    begun_none d c.args.octet c.args.part keys lists c.add.new.self c.args.word.now c.requires.word are c.in-None.ensures

pub keys-requires-clause-node : goal.keys-requires-clause-node
keys-requires-clause-node c = in_table c.requires.known.keys.same c.requires.part

pub get-requires : goal.get-requires
get-requires c = let met = c.in-Some.ensures.1 in slice_get_within c.in_ok-keys.keys c.in-Some.at met.0 met.1
