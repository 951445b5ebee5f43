-- The marks of the words that begin keys, from the longest words to the shortest.
use Rattle.std.proofs.Common.{◌≡◌, ℕ, zero, suc, ◌+◌, ◌-◌, ◌*◌, ◌^◌, ◌<◌, ◌≤◌, Bool, true, false, ◌||◌, List, [], ◌∷◌}
use Rattle.std.proofs.Common.{◌++◌, length, IsTrue, refl, sym, ap, ◌∙◌, subst, arith, inl, inr, append_assoc}
use Rattle.std.proofs.Common.{length-append}
use Rattle.std.proofs.Math.Nat.{pow-le-pow_right}
use Rattle.std.proofs.lemmas.Bool.{cases_lt, or_cases, or_left, or_right}
use Rattle.csn_bits.specs.Octets.{IsBits}
use Rattle.csn_look.specs.KeyMarks.{IsWord, is_marked, place_of, key_mark, has_key, StartsKey}
use Rattle.csn_look.specs.KeyTables.{IsKeyTable}
use Rattle.csn_look.specs.KeySteps.{Extends, Gains, is_begun, MarksBetween, MarksStarts}
use Rattle.csn_look.proofs.Basics.Places.{place_of-push, place_of-least, place_of-most, place_of-some, word_front}
use Rattle.csn_look.proofs.Tables.KeyMarkFacts.{key_mark-low}

-- ---- some words more

begun_of : (new old : List ℕ) (p : ℕ) → is_marked new p ≡ is_marked old p → is_marked new (8192 + p) ≡ is_marked old
    (8192 + p) → is_marked new (16384 + p) ≡ is_marked old (16384 + p) → is_begun new p ≡ is_begun old p
begun_of new old p a b c =
    ap (λ x. x || (is_marked new (8192 + p) || is_marked new (16384 + p))) a
    ∙ ap (λ x. is_marked old p || (x || is_marked new (16384 + p))) b
    ∙ ap (λ x. is_marked old p || (is_marked old (8192 + p) || x)) c

pub starts_none : (marks : List ℕ) → MarksStarts 4096 marks marks
starts_none marks = record {
  starts = λ place low high. absurd (omega arith);
  before = λ at low. refl;
  behind = λ at high. refl;
}

pub starts_more :
    (first old new : List ℕ) (low high : ℕ) → low ≤ high → high ≤ 2 * low → high ≤ 4096 → MarksStarts high first old
    → MarksBetween low high old new → MarksStarts low first new
starts_more first old new low high order twice most m b = record {
  starts = λ place from below. elim (cases_lt place high) [
    | inl inside ↦
        b.inside place from inside ∙ ap (λ x. x || (is_begun old (2 * place) || is_begun old (2 * place + 1)))
        (m.before (16384 + place) (omega arith)) ∙ same place from below
    | inr past ↦ b.behind (16384 + place) (omega arith) ∙ m.starts place past below ∙ same place from below
  ];
  before = λ at under. b.before at under ∙ m.before at (omega arith);
  behind = λ at over. b.behind at (omega arith) ∙ m.behind at over;
}
  where
    begun_same : (p : ℕ) → high ≤ p → p < 8192 → is_begun old p ≡ is_begun new p
    begun_same p over under = sym (begun_of new old p (b.before p (omega arith)) (b.before (8192 + p) (omega arith)) (b.behind (16384 + p) (omega arith)))

    same :
        (place : ℕ) → low ≤ place → place < 4096
        → (is_marked first (16384 + place) || (is_begun old (2 * place) || is_begun old (2 * place + 1)))
        ≡ (is_marked first (16384 + place) || (is_begun new (2 * place) || is_begun new (2 * place + 1)))
    same place from below =
        ap (λ x. is_marked first (16384 + place) || (x || is_begun old (2 * place + 1))) (begun_same (2 * place) (omega arith) (omega arith))
        ∙ ap (λ x. is_marked first (16384 + place) || (is_begun new (2 * place) || x)) (begun_same (2 * place + 1) (omega arith) (omega arith))

-- ---- all of them

module _ (old mid new : List ℕ) (P : List ℕ → Bool → Type 0) (g : Gains old mid P) (s : MarksStarts 1 mid new) where
  key_same : (word : List ℕ) (mark : Bool) → IsWord word → has_key new word mark ≡ has_key mid word mark
  key_same word mark is = s.before (key_mark (place_of word) mark) (omega (arith, key_mark-low word mark is))

  old_key : (word : List ℕ) (mark : Bool) → IsWord word → IsTrue (has_key old word mark) → IsTrue (has_key new word mark)
  old_key word mark is h = key_same word mark is ∙ (g.keys word mark is).1 (inl h)

  -- a word that begins an old key
  old_start : IsKeyTable old → (f : List ℕ) → IsWord f → is_marked mid (16384 + place_of f) ≡ true → StartsKey new f
  old_start t f is h =
      let k = (t.starts f is).0 (sym (g.starts (16384 + place_of f) (omega arith)) ∙ h) in
      record { next = k.next; back = k.back; whole = k.whole; word = k.word; key = old_key (f ++ k.next ∷ k.back) k.whole k.word k.key }

  push_here : (f : List ℕ) (x n : ℕ) → 2 * place_of f + x ≡ n → n ≡ place_of (f ++ x ∷ [])
  push_here f x n e = sym e ∙ sym (place_of-push f x)

  -- a word that is a key or begins one with one bit more
  by_bit :
      (f : List ℕ) (x n : ℕ) → IsWord (f ++ x ∷ []) → 2 * place_of f + x ≡ n → is_begun new n ≡ true
      → (is_marked new (16384 + place_of (f ++ x ∷ [])) ≡ true → StartsKey new (f ++ x ∷ [])) → StartsKey new f
  by_bit f x n is at h later =
      let here = push_here f x n at in
      elim (or_cases (is_marked new n) (is_marked new (8192 + n) || is_marked new (16384 + n)) h) [
        | inl e ↦ record { next = x; back = []; whole = true; word = is; key = ap (λ m. is_marked new m) (sym here) ∙ e }
        | inr r ↦ elim (or_cases (is_marked new (8192 + n)) (is_marked new (16384 + n)) r) [
          | inl e ↦ record { next = x; back = []; whole = false; word = is; key = ap (λ m. is_marked new (8192 + m)) (sym here) ∙ e }
          | inr e ↦ longer (later (ap (λ m. is_marked new (16384 + m)) (sym here) ∙ e))
        ]
      ]
    where
      longer : StartsKey new (f ++ x ∷ []) → StartsKey new f
      longer k =
          let on : (f ++ x ∷ []) ++ k.next ∷ k.back ≡ f ++ x ∷ (k.next ∷ k.back) = append_assoc f (x ∷ []) (k.next ∷ k.back) in
          let Q : List ℕ → Type 0 = IsWord in
          let R : List ℕ → Type 0 = λ l. IsTrue (has_key new l k.whole) in
          record { next = x; back = k.next ∷ k.back; whole = k.whole; word = subst Q on k.word; key = subst R on k.key }

  pushed : (f : List ℕ) (x : ℕ) → IsWord f → x ≤ 1 → length f < 12 → IsWord (f ++ x ∷ [])
  pushed f x is bit short = record { bits = bits f is.bits; short = omega (arith, length-append f (x ∷ [])) }
    where
      bits : (f : List ℕ) → IsBits f → IsBits (f ++ x ∷ [])
      bits [] h = (bit, tt)
      bits (y ∷ f) h = (h.0, bits f h.1)

  starts_to : IsKeyTable old → (n : ℕ) (f : List ℕ) → IsWord f → length f + n ≡ 12 → is_marked new (16384 + place_of f) ≡ true → StartsKey new f
  starts_to t zero f is full h =
      let many : length f ≡ 12 = omega arith in
      let power : 2 ^ length f ≡ 4096 = ap (λ k. 2 ^ k) many in
      let large : 4096 ≤ place_of f = omega (arith, place_of-least f) in
      old_start t f is (sym (s.behind (16384 + place_of f) (omega arith)) ∙ h)
  starts_to t (suc n) f is full h =
      let longer : suc (length f) ≤ 12 = omega arith in
      let power : 2 ^ suc (length f) ≤ 4096 = pow-le-pow_right {n = 2} (omega arith) longer in
      let small : place_of f < 4096 = omega (arith, place_of-most f is.bits) in
      let zero_on = pushed f 0 is (omega arith) longer in
      let one_on = pushed f 1 is (omega arith) longer in
      elim (or_cases (is_marked mid (16384 + place_of f)) (is_begun new (2 * place_of f) || is_begun new
      (2 * place_of f + 1)) (sym (s.starts (place_of f) (place_of-some f) small) ∙ h)) [
        | inl e ↦ old_start t f is e
        | inr r ↦ elim (or_cases (is_begun new (2 * place_of f)) (is_begun new (2 * place_of f + 1)) r) [
          | inl e ↦ by_bit f 0 (2 * place_of f) zero_on (omega arith) e (starts_to t n (f ++ 0 ∷ []) zero_on (omega (arith, length-append f (0 ∷ []))))
          | inr e ↦ by_bit f 1 (2 * place_of f + 1) one_on refl e (starts_to t n (f ++ 1 ∷ []) one_on (omega (arith, length-append f (1 ∷ []))))
        ]
      ]

  last_small : (f : List ℕ) (x : ℕ) (back : List ℕ) → IsBits (f ++ x ∷ back) → x ≤ 1
  last_small [] x back h = h.0
  last_small (y ∷ f) x back h = last_small f x back h.1

  begun_here : (f : List ℕ) (x n : ℕ) → 2 * place_of f + x ≡ n → is_begun new (place_of (f ++ x ∷ [])) ≡ true → is_begun new n ≡ true
  begun_here f x n at h = ap (λ m. is_begun new m) (push_here f x n at) ∙ h

  up : (f : List ℕ) (x : ℕ) → IsWord f → length f < 12 → x ≤ 1 → is_begun new (place_of (f ++ x ∷ [])) ≡ true → is_marked new (16384 + place_of f) ≡ true
  up f x is short bit h =
      let longer : suc (length f) ≤ 12 = omega arith in
      let power : 2 ^ suc (length f) ≤ 4096 = pow-le-pow_right {n = 2} (omega arith) longer in
      let small : place_of f < 4096 = omega (arith, place_of-most f is.bits) in
      s.starts (place_of f) (place_of-some f) small
      ∙ or_right (is_marked mid (16384 + place_of f)) (is_begun new (2 * place_of f) || is_begun new (2 * place_of f + 1)) (which x bit h)
    where
      which : (x : ℕ) → x ≤ 1 → is_begun new (place_of (f ++ x ∷ [])) ≡ true → (is_begun new (2 * place_of f) || is_begun new (2 * place_of f + 1)) ≡ true
      which zero bit h = or_left (is_begun new (2 * place_of f)) (is_begun new (2 * place_of f + 1)) (begun_here f 0 (2 * place_of f) (omega arith) h)
      which (suc zero) bit h = or_right (is_begun new (2 * place_of f)) (is_begun new (2 * place_of f + 1)) (begun_here f 1 (2 * place_of f + 1) refl h)
      which (suc (suc x)) bit h = absurd (omega arith)

  key_begun : (w : List ℕ) (mark : Bool) → IsTrue (has_key new w mark) → is_begun new (place_of w) ≡ true
  key_begun w true h = or_left (is_marked new (place_of w)) (is_marked new (8192 + place_of w) || is_marked new (16384 + place_of w)) h
  key_begun w false h =
      or_right (is_marked new (place_of w)) (is_marked new (8192 + place_of w) || is_marked new (16384 + place_of w))
      (or_left (is_marked new (8192 + place_of w)) (is_marked new (16384 + place_of w)) h)

  start_begun : (w : List ℕ) → is_marked new (16384 + place_of w) ≡ true → is_begun new (place_of w) ≡ true
  start_begun w h =
      or_right (is_marked new (place_of w)) (is_marked new (8192 + place_of w) || is_marked new (16384 + place_of w))
      (or_right (is_marked new (8192 + place_of w)) (is_marked new (16384 + place_of w)) h)

  starts_from : (f : List ℕ) (x : ℕ) (back : List ℕ) (mark : Bool) → IsWord (f ++ x ∷ back)
      → IsTrue (has_key new (f ++ x ∷ back) mark) → is_marked new (16384 + place_of f) ≡ true
  starts_from f x [] mark is h =
      let short = is.short in
      up f x (word_front f (x ∷ []) is) (omega (arith, length-append f (x ∷ []))) (last_small f x [] is.bits) (key_begun (f ++ x ∷ []) mark h)
  starts_from f x (y ∷ back) mark is h =
      let short = is.short in
      let on : f ++ x ∷ (y ∷ back) ≡ (f ++ x ∷ []) ++ y ∷ back = sym (append_assoc f (x ∷ []) (y ∷ back)) in
      let Q : List ℕ → Type 0 = IsWord in
      let R : List ℕ → Type 0 = λ l. IsTrue (has_key new l mark) in
      up f x (word_front f (x ∷ (y ∷ back)) is) (omega (arith, length-append f (x ∷ (y ∷ back)))) (last_small f x (y ∷ back) is.bits)
      (start_begun (f ++ x ∷ []) (starts_from (f ++ x ∷ []) y back mark (subst Q on is) (subst R on h)))

  pub extended : length new ≡ length old → Extends old new P
  extended size = record {
    keys = λ word mark is. (
      λ h. (g.keys word mark is).0 (sym (key_same word mark is) ∙ h),
      λ h. key_same word mark is ∙ (g.keys word mark is).1 h,
    );
    table = λ t. record {
      size = size ∙ t.size;
      starts = λ f is. (
        λ h. let short = is.short in starts_to t (12 - length f) f is (omega arith) h,
        λ k. starts_from f k.next k.back k.whole k.word k.key,
      );
    };
  }
