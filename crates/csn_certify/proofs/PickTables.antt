-- The places of words in the entries of a choice.
use Rattle.std.proofs.Common.{◌≡◌, ℕ, suc, ◌+◌, ◌-◌, ◌*◌, ◌/◌, ◌^◌, ◌<◌, ◌≤◌, List, length, take, drop, sym, ap, ◌∙◌}
use Rattle.std.proofs.Common.{arith, take-append-drop, get_or-set_other}
use Rattle.std.specs.Prelude.{slice_set}
use Rattle.std.proofs.lemmas.Grind.{get_or-set_at}
use Rattle.std.proofs.lemmas.List.{length-drop, length-take}
use Rattle.std.proofs.lemmas.Nat.{div-mul-add}
use Rattle.std.proofs.Math.Nat.{pow-le-pow_right}
use Rattle.csn_look.proofs.Tables.Products.{bits_back}
use Rattle.csn_bits.specs.Numbers.{number_of}
use Rattle.csn_desc.proofs.BitFacts.{IsBits-along}
use Rattle.csn_bits.proofs.NumberFacts.{number_of-lt}
use Rattle.csn_look.specs.KeyMarks.{IsWord, place_of}
use Rattle.csn_look.proofs.Basics.Places.{place_of-append, place_of-most, place_of-same, word_take}
use Rattle.csn_certify.specs.declared.pick_table.Entry.{Entry}
use Rattle.csn_certify.specs.declared.pick_table.Entry.TheVariants.{Refuse}
use Rattle.csn_certify.specs.PickTables.{HasEntries}
use Rattle.csn_certify.specs.Filling.{FillsAt}

-- a word of at most the width has a place among the entries
pub place_within : (width : ℕ) (word : List ℕ) → IsWord word → length word ≤ width → place_of word < 2 ^ (width + 1)
place_within width word is short =
    let most = place_of-most word is.bits in
    let more : suc (length word) ≤ width + 1 = omega (arith, short) in
    let power : 2 ^ suc (length word) ≤ 2 ^ (width + 1) = pow-le-pow_right {n = 2} (omega arith) more in
    omega (arith, most, power)

-- the place of a word that is cut
pub place_cut : (width : ℕ) (word : List ℕ) → IsWord word → place_of word / 2 ^ (length word - width) ≡ place_of (take width word)
place_cut width word is =
    let front = take width word in
    let back = drop width word in
    let size : length back ≡ length word - width = length-drop width word in
    let whole : place_of word ≡ place_of front * 2 ^ length back + number_of back =
    ap place_of (sym (take-append-drop width word)) ∙ place_of-append front back in
    let low : number_of back < 2 ^ length back = number_of-lt back (bits_back front back (IsBits-along (take-append-drop width word) is.bits)) in
    ap (λ n. place_of word / 2 ^ n) (sym size) ∙ ap (λ n. n / 2 ^ length back) whole ∙ div-mul-add (place_of front) (2 ^ length back) (number_of back) low

-- an entry that is put at the place of a word is that of this word alone
pub put_fills : (width : ℕ) (word : List ℕ) (entry : Entry) (old : List Entry) (place : ℕ)
    → HasEntries width old → IsWord word → length word ≤ width → place ≡ place_of word → FillsAt word width entry old
    (slice_set old place entry)
put_fills width word entry old place has is short here =
    let inside = place_within width word is short in
    let count = has.count in
    record {
      here = get_or-set_at old place (place_of word) entry Refuse (sym here) (omega arith);
      others = λ held is_held short_held apart.
          get_or-set_other old place (place_of held) entry Refuse (λ same. apart (place_of-same held word is_held.bits is.bits (same ∙ here)));
    }

-- the place of a word that is cut is that of an entry
pub cut_place : (width : ℕ) (word : List ℕ) (place over : ℕ) → IsWord word → place ≡ place_of word
    → over ≡ length word - width → place / 2 ^ over ≡ place_of (take width word)
cut_place width word place over is here many =
    ap (λ n. n / 2 ^ over) here ∙ ap (λ n. place_of word / 2 ^ n) many ∙ place_cut width word is

-- and within the places of all words of the width
pub cut_within : (width : ℕ) (word : List ℕ) (place over : ℕ) → IsWord word → place ≡ place_of word
    → over ≡ length word - width → place / 2 ^ over < 2 ^ (width + 1)
cut_within width word place over is here many =
    let same = cut_place width word place over is here many in
    let size = length-take width word in
    let inside = place_within width (take width word) (word_take width word is) (omega (arith, size)) in
    omega (arith, same, inside)
