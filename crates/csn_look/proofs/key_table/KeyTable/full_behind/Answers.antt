use Rattle.std.proofs.Common.{◌≡◌, ℕ, ◌+◌, ◌-◌, ◌^◌, ◌≤◌, suc, length, sym, ap, subst, arith}
use Rattle.csn_look.specs.Full.{IsFull}
use Rattle.csn_look.proofs.Basics.Places.{place_of-most}
use Rattle.csn_look.proofs.Tables.FullFacts.{full_of_place, place_of_full}
use Rattle.csn_look.proofs.key_table.KeyTable.full_behind.Goals as goal

pub full_size-requires-clause-within : goal.full_size-requires-clause-within
full_size-requires-clause-within c =
    let most = place_of-most c.args.word.now c.place.ensures.word.bits in
    let size : 2 ^ suc (length c.args.word.now) ≡ 2 ^ (c.len-len.result + 1) = ap (λ n. 2 ^ n) (omega (arith, c.len-len.ensures.count)) in
    omega (arith, most, size, c.place.ensures.value)

pub returns-in_default-clause-none : goal.returns-in_default-clause-none
returns-in_default-clause-none c = λ bits is.
    let more = bits - length c.args.word.now in
    let size : bits ≡ length c.args.word.now + more = omega (arith, is.more) in
    c.in_default.ensures.none c.args.word.now c.place.ensures.word (sym c.place.ensures.value)
    (sym c.len-len.ensures.count) more (omega (arith, size, is.short, c.len-len.ensures.count))
    (place_of_full c.args.self.now c.args.word.now c.place.result (sym c.place.ensures.value) more bits size is)

pub returns-clause-full : goal.returns-clause-full
returns-clause-full c =
    let more = c.in-Some.more in
    let short : length c.args.word.now + more ≤ 12 = omega (arith, c.in-Some.ensures.room, c.len-len.ensures.count) in
    let P : ℕ → Type 0 = λ n. IsFull c.args.self.now c.args.word.now (n + more) in
    subst P (sym c.len-len.ensures.count) (full_of_place c.args.self.now c.args.word.now c.place.result
    (sym c.place.ensures.value) more c.place.ensures.word short c.in-Some.ensures.full)
