use Rattle.std.proofs.Common.{◌∷◌, [], length, length-append, ap, arith}
use Rattle.csn_certify.proofs.TablesMeet.{room_for_bit}
use Rattle.csn_certify.proofs.FillingFacts.{fresh_key, fresh_behind, deep_at_none, deep_at_full, deep_both}
use Rattle.csn_certify.proofs.filling.+widened.Goals as goal

pub returns-in-Neither-clause-deep : goal.returns-in-Neither-clause-deep
returns-in-Neither-clause-deep t c = deep_at_none c.args.table.now c.args.word.now c.greater-in-Neither.result c.in-Neither.ensures.1

pub returns-in-None-clause-deep : goal.returns-in-None-clause-deep
returns-in-None-clause-deep t c =
    deep_both c.args.table.now c.args.word.now c.widened-first.result c.widened.result c.widened.result c.with.result c.with-in-None.result
    c.with.ensures.value c.with-in-None.ensures.value c.widened-first.ensures.deep c.widened.ensures.deep
    c.widened-first.ensures.more c.widened.ensures.wider (omega arith)

pub widened-first-requires : goal.widened-first-requires
widened-first-requires t c =
    let room = room_for_bit c.args.table.now c.args.word.now c.in-Starts.ensures.1 in
    let size = ap length c.with.ensures.value in
    let longer = length-append c.args.word.now (0 ∷ []) in (
      omega (arith, room, size, longer, c.decreases),
      (
        c.with.ensures.word,
        (
          fresh_behind c.args.table.now c.args.word.now c.with.result 0 c.with.ensures.value
              (fresh_key c.args.table.now c.args.word.now c.requires.fresh c.in-Starts.ensures.0),
          c.requires.width,
        ),
      ),
    )

pub widened-requires : goal.widened-requires
widened-requires t c =
    let room = room_for_bit c.args.table.now c.args.word.now c.in-Starts.ensures.1 in
    let size = ap length c.with-in-None.ensures.value in
    let longer = length-append c.args.word.now (1 ∷ []) in (
      omega (arith, room, size, longer, c.decreases),
      (
        c.with-in-None.ensures.word,
        (
          fresh_behind c.args.table.now c.args.word.now c.with-in-None.result 1 c.with-in-None.ensures.value
              (fresh_key c.args.table.now c.args.word.now c.requires.fresh c.in-Starts.ensures.0),
          c.widened-first.ensures.most,
        ),
      ),
    )

pub returns-in-Some-clause-deep : goal.returns-in-Some-clause-deep
returns-in-Some-clause-deep t c = deep_at_full c.args.table.now c.args.word.now c.in-Some.field-0 c.greater-in-Some.result c.in-Some.ensures.full

pub returns-in-Some-clause-most : goal.returns-in-Some-clause-most
returns-in-Some-clause-most t c = c.greater-in-Some.ensures.one 12 (omega (arith, c.requires.width)) (omega (arith, c.len-in-Some.ensures.within))

pub with-requires-clause-room : goal.with-requires-clause-room
with-requires-clause-room t c = room_for_bit c.args.table.now c.args.word.now c.in-Starts.ensures.1

pub with-requires-in-None-clause-room : goal.with-requires-in-None-clause-room
with-requires-in-None-clause-room t c = room_for_bit c.args.table.now c.args.word.now c.in-Starts.ensures.1

pub returns-then-width-eq-MOST_WORD-clause-deep : goal.returns-then-width-eq-MOST_WORD-clause-deep
returns-then-width-eq-MOST_WORD-clause-deep t c =
    λ held is begun long none starts. absurd (omega (arith, room_for_bit c.args.table.now held starts, long, c.if-width-eq-MOST_WORD.true))

pub returns-in-Key-clause-deep : goal.returns-in-Key-clause-deep
returns-in-Key-clause-deep t c =
    let key = c.in-Key.ensures in
    λ held is begun long none starts. absurd (none (record { front = c.args.word.now; back = begun.0; parts = begun.1; whole = key.0; key = key.1 }))

pub returns-in-Key-clause-more : goal.returns-in-Key-clause-more
returns-in-Key-clause-more t c = omega (arith, c.greater.ensures.second, c.len.ensures.count)

pub returns-in-Neither-clause-more : goal.returns-in-Neither-clause-more
returns-in-Neither-clause-more t c = omega (arith, c.greater-in-Neither.ensures.second, c.len-in-Neither.ensures.count)

pub returns-in-Some-clause-more : goal.returns-in-Some-clause-more
returns-in-Some-clause-more t c = omega (arith, c.greater-in-Some.ensures.second, c.len-in-Some.ensures.count)

pub returns-in-Key-clause-most : goal.returns-in-Key-clause-most
returns-in-Key-clause-most t c = c.greater.ensures.one 12 (omega (arith, c.requires.width)) (omega (arith, c.len.ensures.within))

pub returns-in-Neither-clause-most : goal.returns-in-Neither-clause-most
returns-in-Neither-clause-most t c = c.greater-in-Neither.ensures.one 12 (omega (arith, c.requires.width)) (omega (arith, c.len-in-Neither.ensures.within))

pub returns-in-None-clause-more : goal.returns-in-None-clause-more
returns-in-None-clause-more t c =
    omega (arith, c.widened.ensures.more, ap length c.with-in-None.ensures.value, length-append c.args.word.now (1 ∷ []))

pub returns-in-None-clause-wider : goal.returns-in-None-clause-wider
returns-in-None-clause-wider t c = omega (arith, c.widened-first.ensures.wider, c.widened.ensures.wider)
