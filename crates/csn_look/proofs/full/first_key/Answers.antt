use Rattle.std.proofs.Common.{◌+◌, ◌*◌, ◌%◌, ◌^◌, ◌≤◌, sym, ◌∙◌, arith}
use Rattle.csn_look.proofs.Tables.FullFacts.{key_place, no_keys_next, no_keys_on}
use Rattle.csn_look.proofs.full.first_key.Goals as goal

pub is_key-requires-clause-small : goal.is_key-requires-clause-small
is_key-requires-clause-small c =
    let place = key_place c.args.place c.args.len c.loop-more.more c.requires.within (omega (arith, c.loop-more-test.true)) in
    omega (arith, place.0, place.1)

pub is_marked-requires : goal.is_marked-requires
is_marked-requires c =
    let place = key_place c.args.place c.args.len c.loop-more.more c.requires.within (omega (arith, c.loop-more-test.true)) in
    omega (arith, place.0, place.1)

pub returns-then-not-is_marked-clause-none : goal.returns-then-not-is_marked-clause-none
returns-then-not-is_marked-clause-none c = λ word is here size.
    let more = c.loop-more.more in
    let room : c.args.len + more ≤ 12 = omega (arith, c.loop-more-test.true) in
    let place = key_place c.args.place c.args.len more c.requires.within room in
    no_keys_on c.args.table.now word c.args.place more (c.args.place * 2 ^ more % 2 ^ 64)
    c.args.len c.requires.table is here size place.0 room (sym c.is_marked.ensures ∙ c.if-not-is_marked.true)
    (no_keys_next c.args.table.now c.args.place more (c.args.place * 2 ^ more % 2 ^ 64) c.loop-more.invariant place.0
    (sym c.is_key.ensures ∙ c.if-is_key.false))

pub loop-more-preserved : goal.loop-more-preserved
loop-more-preserved c =
    let more = c.loop-more.more in
    let place = key_place c.args.place c.args.len more c.requires.within (omega (arith, c.loop-more-test.true)) in
    no_keys_next c.args.table.now c.args.place more (c.args.place * 2 ^ more % 2 ^ 64) c.loop-more.invariant place.0 (sym c.is_key.ensures ∙ c.if-is_key.false)
