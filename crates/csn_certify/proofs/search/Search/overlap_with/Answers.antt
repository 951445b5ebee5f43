use Rattle.std.proofs.Common.{ℕ, List, [], ◌∷◌, Option, Some, None, sym, subst}
use Rattle.std.proofs.lemmas.Option.{slice_get_within}
use Rattle.csn_look.specs.KeyMarks.{IsWord}
use Rattle.csn_certify.specs.declared.conflict.Conflict.TheVariants.{Overlap}
use Rattle.csn_certify.specs.Conflicts.{IsNull}
use Rattle.csn_certify.specs.Search.{IsFirstUnder}
use Rattle.csn_certify.specs.Overlaps.{MeetsAt, MeetUnder, IsFirstBegun}
use Rattle.csn_certify.proofs.SearchFacts.{part_inside, part_has_keys, denied, least_is_none}
use Rattle.csn_look.proofs.Tables.KeyWords.{key_word}
use Rattle.csn_certify.proofs.OverlapSearch.{pair_null, pair_apart, pair_none, pair_begun, pair_some, listed_key}
use Rattle.csn_certify.proofs.search.Search.overlap_with.Goals as goal

pub get-first-requires : goal.get-first-requires
get-first-requires c = let here = c.requires.part in slice_get_within c.args.choice.now.parts.now c.args.i here.0 here.1.is_part

pub is_null-requires : goal.is_null-requires
is_null-requires c = part_inside c.args.self.now.desc.now c.args.choice.now.node c.args.choice.now.parts.now c.args.j
    c.get-second.result c.requires.known.description c.requires.choice c.get-second.ensures

pub returns-then-is_null : goal.returns-then-is_null
returns-then-is_null c =
    let d = c.args.self.now.desc.now in
    let parts = c.args.choice.now.parts.now in
    pair_null d c.args.choice.now.node parts c.requires.choice c.args.octet c.args.i c.args.j c.get-first.result
    c.get-second.result c.requires.order c.requires.part c.get-first.ensures c.get-second.ensures
    (c.is_null.ensures.0 c.if-is_null.true)

pub key_table-own-requires-clause-node : goal.key_table-own-requires-clause-node
key_table-own-requires-clause-node c =
    part_has_keys c.args.self.now.desc.now c.args.choice.now.node c.args.choice.now.parts.now c.args.i
    c.get-first.result c.requires.known c.requires.choice c.get-first.ensures

pub key_table-table-requires-clause-node : goal.key_table-table-requires-clause-node
key_table-table-requires-clause-node c =
    part_has_keys c.args.self.now.desc.now c.args.choice.now.node c.args.choice.now.parts.now c.args.j
    c.get-second.result c.requires.known c.requires.choice c.get-second.ensures

pub keys-requires-clause-node : goal.keys-requires-clause-node
keys-requires-clause-node c =
    part_has_keys c.args.self.now.desc.now c.args.choice.now.node c.args.choice.now.parts.now c.args.i
    c.get-first.result c.requires.known c.requires.choice c.get-first.ensures

pub returns-then-not-tables_meet : goal.returns-then-not-tables_meet
returns-then-not-tables_meet c =
    let d = c.args.self.now.desc.now in
    let parts = c.args.choice.now.parts.now in
    let own = c.key_table-own.ensures.keys d c.requires.known.keys in
    let are = c.key_table-table.ensures.keys d c.requires.known.keys in
    pair_apart d c.args.choice.now.node parts c.requires.choice c.args.octet c.args.i c.args.j c.get-first.result
    c.get-second.result c.requires.order c.requires.part c.get-first.ensures c.get-second.ensures
    c.key_table-own.result.now c.key_table-table.result.now c.new.result own are c.new.ensures
    (denied c.tables_meet.result (MeetUnder c.key_table-own.result.now c.key_table-table.result.now c.new.result)
    c.tables_meet.ensures c.if-not-tables_meet.true)

pub returns-in_default : goal.returns-in_default
returns-in_default c =
    let d = c.args.self.now.desc.now in
    let parts = c.args.choice.now.parts.now in
    let lists = c.in_ok-keys.ensures.keys d c.requires.known.keys in
    let are = c.key_table-table.ensures.keys d c.requires.known.keys in
    pair_none d c.args.choice.now.node parts c.requires.choice c.args.octet c.args.i c.args.j c.get-first.result
    c.get-second.result c.requires.order c.requires.part c.get-first.ensures c.get-second.ensures
    c.in_ok-keys.keys lists c.key_table-table.result.now are
    (least_is_none 0 (MeetsAt c.key_table-table.result.now c.in_ok-keys.keys) c.first_meeting.result c.in_default.not-Some c.first_meeting.ensures)

pub get-requires : goal.get-requires
get-requires c = let met = c.in-Some.ensures.1 in slice_get_within c.in_ok-keys.keys c.in-Some.at met.0 met.1

pub first_word-requires-clause-part : goal.first_word-requires-clause-part
first_word-requires-clause-part c =
    part_inside c.args.self.now.desc.now c.args.choice.now.node c.args.choice.now.parts.now c.args.j
    c.get-second.result c.requires.known.description c.requires.choice c.get-second.ensures

pub first_word-requires-clause-word : goal.first_word-requires-clause-word
first_word-requires-clause-word c =
    let d = c.args.self.now.desc.now in
    let lists = c.in_ok-keys.ensures.keys d c.requires.known.keys in
    subst (λ (w : List ℕ). IsWord w) (sym c.copy-word_i.ensures)
    (key_word d (listed_key d c.args.octet c.get-first.result c.in_ok-keys.keys lists c.in-Some.at
    c.get.result.now c.get.ensures))

pub returns-in_default-2 : goal.returns-in_default-2
returns-in_default-2 c =
    let d = c.args.self.now.desc.now in
    let parts = c.args.choice.now.parts.now in
    let lists = c.in_ok-keys.ensures.keys d c.requires.known.keys in
    let are = c.key_table-table.ensures.keys d c.requires.known.keys in
    let none : IsFirstBegun d c.args.octet c.get-second.result c.copy-word_i.result None =
    subst (λ (r : Option (List ℕ)). IsFirstBegun d c.args.octet c.get-second.result c.copy-word_i.result r) c.in_default-2.is c.in_ok-word_j.ensures in
    absurd (pair_begun d c.args.choice.now.node parts c.requires.choice c.args.octet c.args.i c.args.j
    c.get-first.result c.get-second.result c.requires.order c.requires.part c.get-first.ensures
    c.get-second.ensures c.in_ok-keys.keys lists c.key_table-table.result.now are c.in-Some.at c.get.result.now
    c.in-Some.ensures c.get.ensures
    (subst (λ (w : List ℕ). IsFirstBegun d c.args.octet c.get-second.result w None) c.copy-word_i.ensures none))

pub returns : goal.returns
returns c =
    let d = c.args.self.now.desc.now in
    let parts = c.args.choice.now.parts.now in
    let lists = c.in_ok-keys.ensures.keys d c.requires.known.keys in
    let are = c.key_table-table.ensures.keys d c.requires.known.keys in
    let word = c.in-Some-2.word_j in
    let found : IsFirstBegun d c.args.octet c.get-second.result c.copy-word_i.result (Some word) =
    subst (λ (r : Option (List ℕ)). IsFirstBegun d c.args.octet c.get-second.result c.copy-word_i.result r) c.in-Some-2.is c.in_ok-word_j.ensures in
    subst (λ (w : List ℕ). IsFirstUnder d (c.args.choice.now.node ∷ 3 ∷ c.args.octet ∷ 3 ∷ c.args.i ∷ c.args.j ∷ [])
    (Some (Overlap c.args.choice.now.node c.args.octet c.args.i c.args.j w word))) (sym c.copy-word_i.ensures)
    (pair_some d c.args.choice.now.node parts c.requires.choice c.args.octet c.args.i c.args.j c.get-first.result
    c.get-second.result c.requires.order c.requires.part c.get-first.ensures c.get-second.ensures
    c.in_ok-keys.keys lists c.key_table-table.result.now are c.in-Some.at c.get.result.now c.in-Some.ensures
    c.get.ensures
    word c.requires.reached (denied c.is_null.result (IsNull d c.get-second.result) c.is_null.ensures c.if-is_null.false)
    (subst (λ (w : List ℕ). IsFirstBegun d c.args.octet c.get-second.result w (Some word)) c.copy-word_i.ensures found))
