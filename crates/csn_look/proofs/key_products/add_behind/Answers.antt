use Rattle.std.proofs.Common.{◌≡◌, ℕ, ◌+◌, subst, arith}
use Rattle.csn_look.specs.KeySteps.{Gains, IsShortBehind}
use Rattle.csn_look.proofs.Tables.Products.{room_for, short_none, short_next, short_all}
use Rattle.csn_look.proofs.key_products.add_behind.Goals as goal

pub loop-size-init : goal.loop-size-init
loop-size-init c = λ first is here room. short_none c.args.rest.now first c.args.marks.now

pub add_keys_of-requires-clause-room : goal.add_keys_of-requires-clause-room
add_keys_of-requires-clause-room c = room_for c.args.front c.loop-size.size c.args.room c.words_of.result
    (omega arith) c.words_of.ensures.value c.requires.within

pub loop-size-preserved : goal.loop-size-preserved
loop-size-preserved c = λ first is here room.
    short_next c.args.rest.now first c.loop-size.size c.words_of.result c.args.marks.now c.loop-size.marks c.add_keys_of.new.marks c.words_of.ensures.value
    (c.loop-size.invariant first is here room)
    (c.add_keys_of.ensures first c.loop-size.size is here c.words_of.ensures.value (omega arith))

pub add_marked-requires-clause-room : goal.add_marked-requires-clause-room
add_marked-requires-clause-room c = room_for c.args.front c.args.room c.args.room c.words_of-2.result (omega arith)
    c.words_of-2.ensures.value c.requires.within

pub returns : goal.returns
returns c = λ first is here room table.
    let P : ℕ → Type 0 = λ size. Gains c.args.marks.now c.loop-size.marks (IsShortBehind c.args.rest.now first size) in
    let all : c.loop-size.size ≡ c.args.room + 1 = omega arith in
    short_all c.args.rest.now first c.args.room c.words_of-2.result c.args.marks.now c.loop-size.marks
    c.add_marked.new.marks is room c.words_of-2.ensures.value table
    (subst P all (c.loop-size.invariant first is here room))
    (c.add_marked.ensures first c.args.room is here c.words_of-2.ensures.value (omega arith))
