use Rattle.std.proofs.Common.{◌≡◌, ◌+◌, ◌-◌, ◌*◌, ◌<◌, ◌++◌, ◌∷◌, [], length, arith, sym, ap, ◌∙◌, length-append}
use Rattle.csn_look.specs.KeyMarks.{is_marked, place_of}
use Rattle.csn_look.specs.KeyLists.{keys_from}
use Rattle.csn_look.proofs.Basics.Places.{place_of-push}
use Rattle.csn_look.proofs.Tables.KeyLists.{small_place, word_longer, listed_end, listed_none, listed_more, if_ok_then}
use Rattle.std.proofs.lemmas.Nat.{pow-add}
use Rattle.csn_look.proofs.key_set.+list_keys.Goals as goal

pub list_word-requires-clause-small : goal.list_word-requires-clause-small
list_word-requires-clause-small t c = small_place c.args.place c.args.size c.requires.few c.requires.small

pub is_marked-requires : goal.is_marked-requires
is_marked-requires t c = omega (arith, small_place c.args.place c.args.size c.requires.few c.requires.small, c.requires.marks)

pub returns-then-size-eq-MOST_WORD : goal.returns-then-size-eq-MOST_WORD
returns-then-size-eq-MOST_WORD t c = λ word is here many.
    listed_end c.args.marks.now word c.args.size c.args.keys.now.items c.list_word.new.keys.items (omega (arith, c.if-size-eq-MOST_WORD.true))
    (c.in_ok-list_word.ensures word is here)

pub returns : goal.returns
returns t c = λ word is here many.
    listed_none c.args.marks.now word c.args.size c.args.keys.now.items c.list_word.new.keys.items (omega arith)
    (ap (λ p. is_marked c.args.marks.now (16384 + p)) here ∙ sym c.is_marked.ensures ∙ c.if-is_marked.false)
    (c.in_ok-list_word.ensures word is here)

pub returns-then-is_marked : goal.returns-then-is_marked
returns-then-is_marked t c = λ word is here many.
    let small : c.args.size < 12 = omega arith in
    let zero_place : place_of (word ++ 0 ∷ []) ≡ 2 * c.args.place = place_of-push word 0 ∙ omega (arith, here) in
    let one_place : place_of (word ++ 1 ∷ []) ≡ 2 * c.args.place + 1 = place_of-push word 1 ∙ omega (arith, here) in
    let zero_many : length (word ++ 0 ∷ []) ≡ c.args.size + 1 = length-append word (0 ∷ []) ∙ omega (arith, many) in
    let one_many : length (word ++ 1 ∷ []) ≡ c.args.size + 1 = length-append word (1 ∷ []) ∙ omega (arith, many) in
    let test = ap (λ p. is_marked c.args.marks.now (16384 + p)) here ∙ sym c.is_marked.ensures ∙ c.if-is_marked.true in
    if_ok_then c.list_keys-then-is_marked.result
    (c.list_keys-then-is_marked.new.keys.items ≡ c.list_keys.new.keys.items ++ keys_from c.args.marks.now (12 - (c.args.size + 1)) (word ++ 1 ∷ []))
    (c.list_keys-then-is_marked.new.keys.items ≡ c.args.keys.now.items ++ keys_from c.args.marks.now (12 - c.args.size) word)
    (λ last. listed_more c.args.marks.now word c.args.size c.args.keys.now.items c.list_word.new.keys.items
    c.list_keys.new.keys.items c.list_keys-then-is_marked.new.keys.items
    small test (c.in_ok-list_word.ensures word is here)
    (c.in_ok-list_keys.ensures (word ++ 0 ∷ []) (word_longer word 0 c.args.size (omega arith) many small is) zero_place zero_many) last)
    (c.list_keys-then-is_marked.ensures (word ++ 1 ∷ []) (word_longer word 1 c.args.size (omega arith) many small is) one_place one_many)

pub overflow_mul-place : goal.overflow_mul-place
overflow_mul-place t c = omega (arith, small_place c.args.place c.args.size c.requires.few c.requires.small)

pub overflow_mul-place-then-is_marked : goal.overflow_mul-place-then-is_marked
overflow_mul-place-then-is_marked t c = omega (arith, small_place c.args.place c.args.size c.requires.few c.requires.small)

pub overflow_add-place : goal.overflow_add-place
overflow_add-place t c = omega (arith, small_place c.args.place c.args.size c.requires.few c.requires.small)

pub overflow_add-place-then-is_marked : goal.overflow_add-place-then-is_marked
overflow_add-place-then-is_marked t c = omega (arith, small_place c.args.place c.args.size c.requires.few c.requires.small)

pub list_keys-requires : goal.list_keys-requires
list_keys-requires t c =
    let power = pow-add 2 (c.args.size + 1) 1 in
    let few = c.requires.few in
    let some = c.requires.some in
    let small = c.requires.small in
    let less = c.if-size-eq-MOST_WORD.false in
    (omega (arith, few, less, c.decreases), (c.requires.marks, (omega (arith, few, less), (omega (arith, some), omega (arith, power, small)))))

pub list_keys-requires-then-is_marked : goal.list_keys-requires-then-is_marked
list_keys-requires-then-is_marked t c =
    let power = pow-add 2 (c.args.size + 1) 1 in
    let few = c.requires.few in
    let small = c.requires.small in
    let less = c.if-size-eq-MOST_WORD.false in
    (omega (arith, few, less, c.decreases), (c.requires.marks, (omega (arith, few, less), (omega arith, omega (arith, power, small)))))
