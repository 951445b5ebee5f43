use Rattle.std.proofs.Common.{ℕ, ◌∷◌, [], List, length, length-append, sym, subst, ap, ◌∙◌, arith}
use Rattle.csn_look.specs.KeyMarks.{IsWord}
use Rattle.csn_certify.proofs.TablesMeet.{longer_is_word}
use Rattle.csn_certify.specs.Filling.{started, IsFilled, with_start}
use Rattle.csn_certify.proofs.FillingFacts.{begins_itself, fresh_key, fresh_behind, fills_both, filled_none, filled_key, filled_full, deep_room, deep_behind}
use Rattle.csn_certify.proofs.TablesMeet.{room_for_bit}
use Rattle.csn_certify.proofs.filling.Filling.+fill.Goals as goal

pub fill-requires : goal.fill-requires
fill-requires t c =
    let marks = c.args.self.now.table.now in
    let word = c.args.word.now in
    let none = fresh_key marks word c.requires.fresh c.in-Starts.ensures.0 in
    let room = deep_room marks word c.args.self.now.width c.requires.word c.requires.deep none c.in-Starts.ensures.1 c.in-None.ensures.none in
    let most = c.requires.size.short in
    let size = ap length c.with.ensures.value in
    let longer = length-append word (0 ∷ []) in
    let is : IsWord c.with.result = subst (λ (l : List ℕ). IsWord l) (sym c.with.ensures.value)
    (longer_is_word word 0 (omega arith) (omega (arith, room, most)) c.requires.word) in (
      omega (arith, room, most, size, longer, c.decreases),
      (
        c.put.ensures.size,
        (
          is,
          (
            omega (arith, room, size, longer),
            (
              fresh_behind marks word c.with.result 0 c.with.ensures.value none,
              deep_behind marks word 0
                  c.args.self.now.width c.with.result c.with.ensures.value c.requires.deep,
            ),
          ),
        ),
      ),
    )

pub fill-requires-in-None : goal.fill-requires-in-None
fill-requires-in-None t c =
    let marks = c.args.self.now.table.now in
    let word = c.args.word.now in
    let none = fresh_key marks word c.requires.fresh c.in-Starts.ensures.0 in
    let room = deep_room marks word c.args.self.now.width c.requires.word c.requires.deep none c.in-Starts.ensures.1 c.in-None.ensures.none in
    let most = c.requires.size.short in
    let size = ap length c.with-in-None.ensures.value in
    let longer = length-append word (1 ∷ []) in
    let is : IsWord c.with-in-None.result = subst (λ (l : List ℕ). IsWord l) (sym c.with-in-None.ensures.value)
    (longer_is_word word 1 (omega arith) (omega (arith, room, most)) c.requires.word) in (
      omega (arith, room, most, size, longer, c.decreases),
      (
        c.fill.ensures.size,
        (
          is,
          (
            omega (arith, room, size, longer),
            (
              fresh_behind marks word c.with-in-None.result 1 c.with-in-None.ensures.value none,
              deep_behind marks word 1
                  c.args.self.now.width c.with-in-None.result c.with-in-None.ensures.value c.requires.deep,
            ),
          ),
        ),
      ),
    )

pub returns-in-Neither-clause-fills : goal.returns-in-Neither-clause-fills
returns-in-Neither-clause-fills t c =
    filled_none c.args.self.now.table.now c.args.self.now.alternative c.args.word.now c.args.self.now.width
    c.args.entries.now
    (fresh_key c.args.self.now.table.now c.args.word.now c.requires.fresh c.in-Neither.ensures.0)
    c.in-Neither.ensures.1

pub returns-in-Key-clause-fills : goal.returns-in-Key-clause-fills
returns-in-Key-clause-fills t c =
    filled_key c.args.self.now.table.now c.args.self.now.alternative c.args.word.now c.args.self.now.width
    c.len.result c.args.entries.now c.cover.new.entries c.len.ensures.count
    (begins_itself c.args.self.now.table.now c.args.word.now c.in-Key.ensures) c.cover.ensures.fills

pub returns-in-None-clause-fills : goal.returns-in-None-clause-fills
returns-in-None-clause-fills t c =
    let marks = c.args.self.now.table.now in
    let j = c.args.self.now.alternative in
    fills_both c.args.word.now c.args.self.now.width (IsFilled marks j) c.requires.word c.requires.within c.started.result c.with.result c.with-in-None.result
    c.args.entries.now c.put.new.entries c.fill.new.entries c.fill-in-None.new.entries c.with.ensures.value c.with-in-None.ensures.value
    (with_start (fresh_key c.args.self.now.table.now c.args.word.now c.requires.fresh c.in-Starts.ensures.0)
    c.in-Starts.ensures.1 c.in-None.ensures.none (c.started.ensures ∙ ap started c.entry.ensures))
    c.put.ensures.put c.fill.ensures.fills c.fill-in-None.ensures.fills

pub returns-in-Some-clause-fills : goal.returns-in-Some-clause-fills
returns-in-Some-clause-fills t c =
    filled_full c.args.self.now.table.now c.args.self.now.alternative c.args.word.now c.args.self.now.width
    c.in-Some.bits c.args.entries.now c.cover-in-Some.new.entries
    (fresh_key c.args.self.now.table.now c.args.word.now c.requires.fresh c.in-Starts.ensures.0) c.in-Some.ensures.full c.cover-in-Some.ensures.fills

pub cover-requires-clause-within : goal.cover-requires-clause-within
cover-requires-clause-within t c = c.requires.within

pub cover-requires-in-Some-clause-within : goal.cover-requires-in-Some-clause-within
cover-requires-in-Some-clause-within t c = c.requires.within

pub entry-requires-clause-within : goal.entry-requires-clause-within
entry-requires-clause-within t c = c.requires.within

pub put-requires-clause-within : goal.put-requires-clause-within
put-requires-clause-within t c = c.requires.within

pub with-requires-clause-room : goal.with-requires-clause-room
with-requires-clause-room t c = room_for_bit c.args.self.now.table.now c.args.word.now c.in-Starts.ensures.1

pub with-requires-in-None-clause-room : goal.with-requires-in-None-clause-room
with-requires-in-None-clause-room t c = room_for_bit c.args.self.now.table.now c.args.word.now c.in-Starts.ensures.1
