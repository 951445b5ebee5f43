-- Which sizes the keys of a table have.
use Rattle.std.proofs.Common.{◌≡◌, ℕ, zero, suc, ◌+◌, ◌-◌, ◌*◌, ◌^◌, ◌<◌, ◌≤◌, ◌⊎◌, inl, inr, Bool, true, false, List, length, refl, sym, ap, ◌∙◌, arith}
use Rattle.std.specs.Prelude.{bit_or, bit_and, ◌==◌}
use Rattle.std.specs.Int.{bit_at}
use Prim.Native.Nat.{max}
use Rattle.std.proofs.lemmas.Bool.{agree_below_at, cases_lt, eqb-true}
use Rattle.std.proofs.lemmas.Nat.{pow_pos}
use Rattle.std.proofs.lemmas.Nat.Bits.{and_pow, bit_at_or, bit_at-lt, bit_at-pow_same}
use Rattle.csn_bits.specs.Numbers.{number_of}
use Rattle.csn_look.specs.KeyMarks.{is_marked, place_of}
use Rattle.csn_look.specs.KeySteps.{Gains, HasSizes, IsBehind}
use Rattle.csn_look.proofs.Basics.Below.{below_or}

-- ---- sizes one after another

-- the sizes from 6 on are set, and of the others those that are not set have no marks up to one
pub record AreSizes (marks : List ℕ) (plane sizes upto : ℕ) : Type 0 where
  pub few : (size : ℕ) → size < upto → bit_at sizes size ≡ 0 → (k : ℕ) → k < 2 ^ size → is_marked marks (plane + (2 ^ size + k)) ≡ false
  pub many : (size : ℕ) → 6 ≤ size → size ≤ 12 → bit_at sizes size ≡ 1

pub sizes_first : (marks : List ℕ) (plane : ℕ) → AreSizes marks plane 8128 0
sizes_first marks plane = record {
  few = λ size less. absurd (omega arith);
  many = λ size low high.
      let from_six : 6 + (size - 6) ≡ size = omega (arith, low) in
      ap (λ n. bit_at 8128 n) (sym from_six)
      ∙ eqb-true _ _ (agree_below_at (λ n. bit_at 8128 (6 + n) == 1) (λ _. true) 7 (size - 6) refl
      (omega (arith, high)));
}

set_by : (a b c : ℕ) → c ≡ max a b → a < 2 → b < 2 → c ≡ 0 → (a ≡ 0) × (b ≡ 0)
set_by a b c e f g h = (omega (arith, e, h), omega (arith, e, h))

still_set : (a b c : ℕ) → c ≡ max a b → a ≡ 1 → b < 2 → c ≡ 1
still_set a b c e f g = omega (arith, e, f)

-- one size more, which is set
pub sizes_set : (marks : List ℕ) (plane sizes size words : ℕ) → words ≡ 2 ^ size → AreSizes marks plane sizes size
    → AreSizes marks plane (bit_or sizes words) (size + 1)
sizes_set marks plane sizes size words power before = record {
  few = λ other less unset k small. elim (below_or other size less) [
    | inl low ↦ before.few other low (set_by (bit_at sizes other) (bit_at words other)
        (bit_at (bit_or sizes words) other) (bit_at_or sizes words other) (bit_at-lt sizes other)
        (bit_at-lt words other) unset).0 k small
    | inr same ↦
        let none = (set_by (bit_at sizes other) (bit_at words other) (bit_at (bit_or sizes words) other)
        (bit_at_or sizes words other) (bit_at-lt sizes other) (bit_at-lt words other) unset).1 in
        let set : bit_at words other ≡ 1 = ap (λ n. bit_at n other) power ∙ ap (λ s. bit_at (2 ^ size) s) same ∙ bit_at-pow_same size in
        absurd (omega (arith, none, set))
  ];
  many = λ other low high. still_set (bit_at sizes other) (bit_at words other) (bit_at (bit_or sizes words) other)
      (bit_at_or sizes words other) (before.many other low high) (bit_at-lt words other);
}

-- and one that is not, since it has no marks
pub sizes_unset : (marks : List ℕ) (plane sizes size words : ℕ)
    → words ≡ 2 ^ size → ((at : ℕ) → plane + words ≤ at → at < plane + 2 * words → is_marked marks at ≡ false)
    → AreSizes marks plane sizes size → AreSizes marks plane sizes (size + 1)
sizes_unset marks plane sizes size words power none before = record {
  few = λ other less unset k small. elim (below_or other size less) [
    | inl low ↦ before.few other low unset k small
    | inr same ↦
        let here : 2 ^ other ≡ words = ap (λ s. 2 ^ s) same ∙ sym power in
        none (plane + (2 ^ other + k)) (omega (arith, here)) (omega (arith, here, small))
  ];
  many = before.many;
}

pub sizes_last : (marks : List ℕ) (plane sizes upto : ℕ) → 6 ≤ upto → AreSizes marks plane sizes upto → HasSizes marks plane sizes
sizes_last marks plane sizes upto all are size short unset = by (cases_lt size 6)
  where
    by : (size < 6) ⊎ (6 ≤ size) → (k : ℕ) → k < 2 ^ size → is_marked marks (plane + (2 ^ size + k)) ≡ false
    by (inl few) = are.few size (omega (arith, few, all)) unset
    by (inr many) = let set = are.many size many short in absurd (omega (arith, set, unset))

-- ---- words of a size that keys have not

-- every size is set
pub all_sizes : (marks : List ℕ) (plane : ℕ) → HasSizes marks plane 8191
all_sizes marks plane size short unset =
    let set : bit_at 8191 size ≡ 1 = eqb-true _ _ (agree_below_at (λ n. bit_at 8191 n == 1) (λ _. true) 13 size refl (omega (arith, short))) in
    absurd (omega (arith, set, unset))

unset_by : (b words : ℕ) → 0 < words → b * words ≡ 0 → b < 2 → b ≡ 0
unset_by zero words some none few = refl
unset_by (suc zero) words some none few = absurd (omega (arith, some, none))
unset_by (suc (suc b)) words some none few = absurd (omega arith)

-- there is none to add behind a first word
pub none_behind :
    (marks first old : List ℕ) (plane sizes size words : ℕ) (whole : Bool)
    → HasSizes marks plane sizes → bit_and sizes words ≡ 0 → words ≡ 2 ^ size → size ≤ 12
    → Gains old old (λ word mark. IsBehind marks plane first size words word × (mark ≡ whole))
none_behind marks first old plane sizes size words whole has none power short = record {
  keys = λ word mark is. (
    (λ key. inl key),
    (λ either. elim either [ inl key ↦ key | inr b ↦ absurd (no b.0) ]),
  );
  starts = λ at high. refl;
}
  where
    unset : bit_at sizes size ≡ 0
    unset = unset_by (bit_at sizes size) (2 ^ size) (pow_pos size) (sym (and_pow sizes size)
        ∙ ap (λ n. bit_and sizes n) (sym power) ∙ none) (bit_at-lt sizes size)

    no : {word : List ℕ} → ¬ IsBehind marks plane first size words word
    no b =
        let place : place_of b.back ≡ 2 ^ size + number_of b.back = place_is b.back b.many in
        let unmarked = has size short unset (number_of b.back) (omega (arith, b.below, power)) in
        let marked = b.marked in
        let same : is_marked marks (plane + place_of b.back) ≡ false = ap (λ n. is_marked marks (plane + n)) place ∙ unmarked in
        absurd (cc)
      where
        place_is : (back : List ℕ) → length back ≡ size → place_of back ≡ 2 ^ size + number_of back
        place_is back many = omega (arith, ap (λ n. 2 ^ n) many)
