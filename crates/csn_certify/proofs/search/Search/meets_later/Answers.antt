use Rattle.csn_certify.specs.Conflicts.{IsNull}
use Rattle.csn_certify.specs.Overlaps.{Overlaps}
use Rattle.csn_certify.proofs.SearchFacts.{part_inside, part_has_keys, denied}
use Rattle.csn_certify.proofs.TablesMeet.{never}
use Rattle.csn_certify.proofs.OverlapSearch.{keys_null, keys_more, null_overlaps, meets_tell}
use Rattle.csn_certify.proofs.search.Search.meets_later.Goals as goal

pub is_null-requires : goal.is_null-requires
is_null-requires c = part_inside c.args.self.now.desc.now c.args.choice.now.node c.args.choice.now.parts.now c.args.i
    c.get-part.result c.requires.known.description c.requires.choice c.get-part.ensures

pub key_table-table-requires-clause-node : goal.key_table-table-requires-clause-node
key_table-table-requires-clause-node c =
    part_has_keys c.args.self.now.desc.now c.args.choice.now.node c.args.choice.now.parts.now c.args.i
    c.get-part.result c.requires.known c.requires.choice c.get-part.ensures

pub returns-then-is_null-clause-later : goal.returns-then-is_null-clause-later
returns-then-is_null-clause-later c =
    keys_null c.args.self.now.desc.now c.args.octet c.args.choice.now.parts.now c.args.i c.get-part.result c.get-part.ensures c.args.later.now
    (c.is_null.ensures.0 c.if-is_null.true) c.requires.later

pub returns-then-is_null-clause-meets : goal.returns-then-is_null-clause-meets
returns-then-is_null-clause-meets c =
    let d = c.args.self.now.desc.now in
    let parts = c.args.choice.now.parts.now in
    never (Overlaps d c.args.octet parts c.args.i)
    (null_overlaps d c.args.octet parts c.args.i c.get-part.result c.get-part.ensures (c.is_null.ensures.0 c.if-is_null.true))

pub returns-clause-later : goal.returns-clause-later
returns-clause-later c =
    let d = c.args.self.now.desc.now in
    let real = denied c.is_null.result (IsNull d c.get-part.result) c.is_null.ensures c.if-is_null.false in
    keys_more d c.args.octet c.args.choice.now.parts.now c.args.i c.get-part.result c.get-part.ensures
    c.args.later.now c.key_table-table.result.now c.add_all.new.self
    real (c.key_table-table.ensures.keys d c.requires.known.keys) c.in_ok-add_all.ensures.added c.requires.later

pub returns-clause-meets : goal.returns-clause-meets
returns-clause-meets c =
    let d = c.args.self.now.desc.now in
    let real = denied c.is_null.result (IsNull d c.get-part.result) c.is_null.ensures c.if-is_null.false in
    meets_tell d c.args.octet c.args.choice.now.parts.now c.args.i c.get-part.result c.get-part.ensures real c.key_table-table.result.now
    (c.key_table-table.ensures.keys d c.requires.known.keys) c.args.later.now c.requires.later
    c.tables_meet-meets.result c.new.result c.new.ensures c.tables_meet-meets.ensures

pub get-part-requires : goal.get-part-requires
get-part-requires c = c.requires.within

pub key_table-table-requires-clause-octet : goal.key_table-table-requires-clause-octet
key_table-table-requires-clause-octet c = c.requires.octet
