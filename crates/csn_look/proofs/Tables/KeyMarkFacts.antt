-- What the marks of a set of keys say, and what further keys do to them.
use Rattle.std.proofs.Common.{eq-eqb, ◌≡◌, ℕ, ◌+◌, ◌/◌, ◌<◌, ◌≤◌, Bool, true, false, ◌||◌, nat_eq, List, [], ◌∷◌}
use Rattle.std.proofs.Common.{◌++◌, length, IsTrue, ◌↔◌, refl, sym, ap, ◌∙◌, subst, arith, inl, inr, ◌⊎◌}
use Rattle.std.proofs.Common.{append_assoc, append-nil, length-append}
use Rattle.std.proofs.lemmas.Bool.{eqb-true, or_cases, or_left, or_right}
use Rattle.std.proofs.lemmas.Bool.Decides.{eqb_tells, nat_tests}
use Rattle.csn_bits.specs.Octets.{IsBits}
use Rattle.csn_desc.proofs.BitFacts.{IsBits-front}
use Rattle.csn_look.specs.KeyMarks.{IsWord, is_marked, place_of, key_mark, has_key, Adds, BeginsWithKey, StartsKey, IsKeyOf}
use Rattle.csn_look.specs.KeyTables.{IsKeyTable, IsFront, AddsKey}
use Rattle.csn_look.proofs.Basics.Places.{place_of-half, place_of-small, place_of-same, place_of-one, LastBit, no_bits, last_bit, last_of, fronts, word_front}

-- the last of some bits is one
last_small : (g : List ℕ) (x : ℕ) → IsBits (g ++ x ∷ []) → x ≤ 1
last_small [] x h = h.0
last_small (y ∷ g) x h = last_small g x h.1

longer_or : (m n : ℕ) → m ≤ n → (m ≡ n) ⊎ (m < n)
longer_or m n h = grind arith

-- ---- a key that is a prefix

-- the look at one prefix tells whether it is a key
pub record IsKeyHere (marks front : List ℕ) : Type 0 where
  pub whole : Bool
  pub key : IsTrue (has_key marks front whole)

pub key_here : (marks front : List ℕ) (at : ℕ) → place_of front ≡ at → (is_marked marks at || is_marked marks (8192 + at)) ≡ true → IsKeyHere marks front
key_here marks front at here h =
    elim (or_cases (is_marked marks at) (is_marked marks (8192 + at)) h) [
      | inl e ↦ record { whole = true; key = ap (λ n. is_marked marks n) here ∙ e }
      | inr e ↦ record { whole = false; key = ap (λ n. is_marked marks (8192 + n)) here ∙ e }
    ]

pub here_key : (marks front : List ℕ) (at : ℕ) (whole : Bool)
    → place_of front ≡ at → IsTrue (has_key marks front whole)
    → (is_marked marks at || is_marked marks (8192 + at)) ≡ true
here_key marks front at true here h = or_left _ (is_marked marks (8192 + at)) (ap (λ n. is_marked marks n) (sym here) ∙ h)
here_key marks front at false here h = or_right (is_marked marks at) (is_marked marks (8192 + at)) (ap (λ n. is_marked marks (8192 + n)) (sym here) ∙ h)

-- the search has come down to a prefix, and no longer one is a key
pub record IsSearched (marks word : List ℕ) (at : ℕ) : Type 0 where
  pub front : List ℕ
  pub back : List ℕ
  pub parts : word ≡ front ++ back
  pub here : place_of front ≡ at
  pub none : (f b : List ℕ) (whole : Bool) → word ≡ f ++ b → length front < length f → IsTrue (has_key marks f whole) → ⊥

pub searched_first : (marks word : List ℕ) (at : ℕ) → place_of word ≡ at → IsSearched marks word at
searched_first marks word at here = record {
  front = word;
  back = [];
  parts = sym (append-nil word);
  here = here;
  none = λ f b whole parts long key. let e = ap length parts in absurd (omega (arith, e, length-append f b));
}

-- one bit further down, past a prefix that is no key
pub searched_next :
    (marks word : List ℕ) (at : ℕ) → IsWord word → 1 < at → (is_marked marks at || is_marked marks (8192 + at)) ≡ false
    → IsSearched marks word at → IsSearched marks word (at / 2)
searched_next marks word at is more not s = down s.front s.back s.parts s.here s.none (last_of s.front)
  where
    down :
        (front back : List ℕ) → word ≡ front ++ back → place_of front ≡ at
        → ((f b : List ℕ) (whole : Bool) → word ≡ f ++ b → length front < length f → IsTrue (has_key marks f whole) → ⊥)
        → LastBit front → IsSearched marks word (at / 2)
    down front back parts here none (no_bits e) =
        let one : place_of front ≡ 1 = ap place_of e in absurd (omega arith)
    down front back parts here none (last_bit g x e) =
        let split : word ≡ g ++ x ∷ back = parts ∙ ap (λ f. f ++ back) e ∙ append_assoc g (x ∷ []) back in
        let bits : IsBits (g ++ x ∷ []) = let P : List ℕ → Type 0 = IsBits in
        subst P e (IsBits-front front back (let Q : List ℕ → Type 0 = IsBits in subst Q parts is.bits)) in
        let half : place_of g ≡ at / 2 = sym (place_of-half g x (last_small g x bits)) ∙ ap (λ f. place_of f / 2) (sym e) ∙ ap (λ n. n / 2) here in
        record {
          front = g;
          back = x ∷ back;
          parts = split;
          here = half;
          none = λ f b whole other long key.
              let lengths : length front ≡ length g + 1 = ap length e ∙ length-append g (x ∷ []) in
              elim (longer_or (length front) (length f) (omega arith)) [
                | inl same ↦
                    let equal : f ≡ front = fronts f front b back (sym other ∙ parts) (sym same) in
                    let told = here_key marks front at whole here (ap (λ v. has_key marks v whole) (sym equal) ∙ key) in
                    absurd (cc)
                | inr past ↦ none f b whole other past key
              ];
        }

-- what is told where the search has found a key
pub found : (marks word : List ℕ) (at : ℕ) → (is_marked marks at || is_marked marks (8192 + at)) ≡ true → IsSearched marks word at → BeginsWithKey marks word
found marks word at h s =
    let here = key_here marks s.front at s.here h in
    record { front = s.front; back = s.back; parts = s.parts; whole = here.whole; key = here.key }

-- at the empty word the search is over
pub not_found : (marks word : List ℕ) (at : ℕ)
    → IsWord word → at ≡ 1 → (is_marked marks 1 || is_marked marks 8193) ≡ false → IsSearched marks word at
    → BeginsWithKey marks word → ⊥
not_found marks word at is one not s k =
    let bits : IsBits s.front = IsBits-front s.front s.back (let P : List ℕ → Type 0 = IsBits in subst P s.parts is.bits) in
    let empty : s.front ≡ [] = place_of-one s.front bits (s.here ∙ one) in
    at_end k.front k.back k.whole k.parts k.key empty
  where
    at_end : (f b : List ℕ) (whole : Bool) → word ≡ f ++ b → IsTrue (has_key marks f whole) → s.front ≡ [] → ⊥
    at_end [] b whole parts key empty =
        let told = here_key marks [] 1 whole refl key in absurd (cc)
    at_end (y ∷ f) b whole parts key empty =
        let none : length s.front ≡ 0 = ap length empty in
        s.none (y ∷ f) b whole parts (omega arith) key

-- ---- one key more

pub key_mark-same : (a b : List ℕ) (j k : Bool) → IsWord a → IsWord b → key_mark (place_of a) j ≡ key_mark (place_of b) k → (a ≡ b) × (j ≡ k)
key_mark-same a b true true h i e = (place_of-same a b h.bits i.bits e, refl)
key_mark-same a b false false h i e = (place_of-same a b h.bits i.bits (omega (arith, e)), refl)
key_mark-same a b true false h i e = absurd (omega (arith, e, place_of-small a h))
key_mark-same a b false true h i e = absurd (omega (arith, e, place_of-small b i))

pub key_mark-low : (a : List ℕ) (j : Bool) → IsWord a → key_mark (place_of a) j < 16384
key_mark-low a true h = omega (arith, place_of-small a h)
key_mark-low a false h = omega (arith, place_of-small a h)

-- the marks of the prefixes down to one are set
pub record IsRaised (mid new word : List ℕ) (at : ℕ) : Type 0 where
  pub front : List ℕ
  pub back : List ℕ
  pub parts : word ≡ front ++ back
  pub here : place_of front ≡ at
  pub keys : (n : ℕ) → n < 16384 → is_marked new n ≡ is_marked mid n
  pub starts :
      (f : List ℕ) → IsWord f
      → IsTrue (is_marked new (16384 + place_of f)) ↔ (IsTrue (is_marked mid (16384 + place_of f)) ⊎ (IsFront f word × (length front ≤ length f)))

pub raised_first : (mid word : List ℕ) (at : ℕ) → place_of word ≡ at → IsRaised mid mid word at
raised_first mid word at here = record {
  front = word;
  back = [];
  parts = sym (append-nil word);
  here = here;
  keys = λ n low. refl;
  starts = λ f is. (λ h. inl h, λ h. elim h [ inl e ↦ e | inr p ↦ absurd (short f p.0 p.1) ]);
}
  where
    short : (f : List ℕ) → IsFront f word → length word ≤ length f → ⊥
    short f p long = let e = ap length p.parts in omega (arith, length-append f (p.next ∷ p.back))

pub raised_next :
    (mid old new word : List ℕ) (at : ℕ) → IsWord word → 1 < at
    → ((n : ℕ) → is_marked new n ≡ (nat_eq n (16384 + at / 2) || is_marked old n))
    → IsRaised mid old word at → IsRaised mid new word (at / 2)
raised_next mid old new word at is more set r = down r.front r.back r.parts r.here r.starts (last_of r.front)
  where
    low : (n : ℕ) → n < 16384 → is_marked new n ≡ is_marked mid n
    low n h =
        elim (eqb_tells n (16384 + at / 2)) [
          | inl same ↦ let e = same.1 in absurd (omega arith)
          | inr apart ↦ set n ∙ ap (λ b. b || is_marked old n) apart.0 ∙ r.keys n h
        ]

    down :
        (front back : List ℕ) → word ≡ front ++ back → place_of front ≡ at
        → ((f : List ℕ) → IsWord f
        → IsTrue (is_marked old (16384 + place_of f)) ↔ (IsTrue (is_marked mid (16384 + place_of f)) ⊎ (IsFront f word × (length front ≤ length f))))
        → LastBit front → IsRaised mid new word (at / 2)
    down front back parts here starts (no_bits e) =
        let one : place_of front ≡ 1 = ap place_of e in absurd (omega arith)
    down front back parts here starts (last_bit g x e) =
        let split : word ≡ g ++ x ∷ back = parts ∙ ap (λ f. f ++ back) e ∙ append_assoc g (x ∷ []) back in
        let whole : IsWord (g ++ x ∷ back) = let P : List ℕ → Type 0 = IsWord in subst P split is in
        let bits : IsBits (g ++ x ∷ []) = let P : List ℕ → Type 0 = IsBits in
        subst P e (IsBits-front front back (let Q : List ℕ → Type 0 = IsBits in subst Q parts is.bits)) in
        let half : place_of g ≡ at / 2 = sym (place_of-half g x (last_small g x bits)) ∙ ap (λ f. place_of f / 2) (sym e) ∙ ap (λ n. n / 2) here in
        let lengths : length front ≡ length g + 1 = ap length e ∙ length-append g (x ∷ []) in
        record {
          front = g;
          back = x ∷ back;
          parts = split;
          here = half;
          keys = low;
          starts = λ f word_f. (
            λ h. elim (or_cases (nat_eq (16384 + place_of f) (16384 + at / 2)) (is_marked old (16384 + place_of f)) (sym (set (16384 + place_of f)) ∙ h)) [
              | inl same ↦
                  let places : place_of f ≡ place_of g = sym_half (place_of f) (place_of g) (at / 2) half same in
                  let equal : f ≡ g = place_of-same f g word_f.bits (word_front g (x ∷ back) whole).bits places in
                  let sizes : length f ≡ length g = ap length equal in
                  inr (record { next = x; back = back; parts = split ∙ ap (λ v. v ++ x ∷ back) (sym equal) }, omega arith)
              | inr before ↦
                  elim ((starts f word_f).0 before) [
                    | inl e ↦ inl e
                    | inr p ↦ let longer = p.1 in inr (p.0, omega arith)
                  ]
            ],
            λ h. elim h [
              | inl e ↦ set (16384 + place_of f)
                  ∙ or_right (nat_eq (16384 + place_of f) (16384 + at / 2)) (is_marked old (16384 + place_of f))
                  ((starts f word_f).1 (inl e))
              | inr p ↦
                  set (16384 + place_of f)
                  ∙ marked f word_f p.0 half (longer_or (length g) (length f) p.1)
            ],
          );
        }
      where
        sym_half : (p q h : ℕ) → q ≡ h → nat_eq (16384 + p) (16384 + h) ≡ true → p ≡ q
        sym_half p q h e t = grind (arith, nat_tests)

        marked : (f : List ℕ) → IsWord f → IsFront f word → place_of g ≡ at / 2 → (length g ≡ length f)
            ⊎ (length g < length f)
            → (nat_eq (16384 + place_of f) (16384 + at / 2) || is_marked old (16384 + place_of f)) ≡ true
        marked f word_f p half (inl same) =
            let split : word ≡ g ++ x ∷ back = parts ∙ ap (λ f. f ++ back) e ∙ append_assoc g (x ∷ []) back in
            let equal : f ≡ g = fronts f g (p.next ∷ p.back) (x ∷ back) (sym p.parts ∙ split) (sym same) in
            or_left (nat_eq (16384 + place_of f) (16384 + at / 2)) (is_marked old (16384 + place_of f))
            (eq-eqb (16384 + place_of f) (16384 + at / 2) (ap (λ n. 16384 + n) (ap place_of equal ∙ half)))
        marked f word_f p half (inr past) =
            let lengths : length front ≡ length g + 1 = ap length e ∙ length-append g (x ∷ []) in
            or_right (nat_eq (16384 + place_of f) (16384 + at / 2)) (is_marked old (16384 + place_of f)) ((starts f word_f).1 (inr (p, omega arith)))

-- ---- tables

-- one key more in a table
pub key_added : (old new word : List ℕ) (whole : Bool) → IsWord word → length new ≡ length old → IsKeyTable old → AddsKey old new word whole → IsKeyTable new
key_added old new word whole is size table adds = record {
  size = size ∙ table.size;
  starts = λ f word_f. (
    λ h. elim ((adds.starts table f word_f).0 h) [
      | inl before ↦
          let s = (table.starts f word_f).0 before in
          record { next = s.next; back = s.back; whole = s.whole; word = s.word; key = (adds.keys (f ++ s.next ∷ s.back) s.whole s.word).1 (inl s.key) }
      | inr p ↦
          record {
            next = p.next;
            back = p.back;
            whole = whole;
            word = (let P : List ℕ → Type 0 = IsWord in subst P p.parts is);
            key = (let Q : List ℕ → Type 0 = λ v. IsTrue (has_key new v whole) in subst Q p.parts ((adds.keys word whole is).1 (inr (refl, refl))));
          }
    ],
    λ s. (adds.starts table f word_f).1 (elim ((adds.keys (f ++ s.next ∷ s.back) s.whole s.word).0 s.key) [
      | inl before ↦ inl ((table.starts f word_f).1 (record { next = s.next; back = s.back; whole = s.whole; word = s.word; key = before }))
      | inr same ↦ inr (record { next = s.next; back = s.back; parts = sym same.0 })
    ]),
  );
}

-- the keys of two tables
pub tables_joined :
    (old other new : List ℕ) → length new ≡ length old → IsKeyTable old → IsKeyTable other
    → ((at : ℕ) → is_marked new at ≡ (is_marked old at || is_marked other at)) → IsKeyTable new
tables_joined old other new size table more marks = record {
  size = size ∙ table.size;
  starts = λ f word_f. (
    λ h. elim (or_cases (is_marked old (16384 + place_of f)) (is_marked other (16384 + place_of f)) (sym (marks (16384 + place_of f)) ∙ h)) [
      | inl e ↦
          let s = (table.starts f word_f).0 e in
          record {
            next = s.next;
            back = s.back;
            whole = s.whole;
            word = s.word;
            key =
                marks _ ∙ or_left (has_key old (f ++ s.next ∷ s.back) s.whole)
                (has_key other (f ++ s.next ∷ s.back) s.whole) s.key;
          }
      | inr e ↦
          let s = (more.starts f word_f).0 e in
          record {
            next = s.next;
            back = s.back;
            whole = s.whole;
            word = s.word;
            key =
                marks _ ∙ or_right (has_key old (f ++ s.next ∷ s.back) s.whole)
                (has_key other (f ++ s.next ∷ s.back) s.whole) s.key;
          }
    ],
    λ s. marks (16384 + place_of f)
        ∙ elim (or_cases (has_key old (f ++ s.next ∷ s.back) s.whole) (has_key other (f ++ s.next ∷ s.back) s.whole)
        (sym (marks (key_mark (place_of (f ++ s.next ∷ s.back)) s.whole)) ∙ s.key)) [
          | inl e ↦ or_left (is_marked old (16384 + place_of f)) (is_marked other (16384 + place_of f))
              ((table.starts f word_f).1 (record {
                next = s.next;
                back = s.back;
                whole = s.whole;
                word = s.word;
                key =
                    e;
              }))
          | inr e ↦ or_right (is_marked old (16384 + place_of f)) (is_marked other (16384 + place_of f))
              ((more.starts f word_f).1 (record {
                next = s.next;
                back = s.back;
                whole = s.whole;
                word = s.word;
                key =
                    e;
              }))
        ],
  );
}

pub adds_joined : (old other new : List ℕ) → ((at : ℕ) → is_marked new at ≡ (is_marked old at || is_marked other at))
    → Adds old new (λ key mark. IsTrue (has_key other key mark))
adds_joined old other new marks = λ word whole is. (
  λ h. or_cases (has_key old word whole) (has_key other word whole) (sym (marks (key_mark (place_of word) whole)) ∙ h),
  λ h. marks (key_mark (place_of word) whole) ∙ elim h [
    | inl e ↦ or_left (has_key old word whole) (has_key other word whole) e
    | inr e ↦ or_right (has_key old word whole) (has_key other word whole) e
  ],
)

-- no keys
pub no_keys : (marks : List ℕ) → ((at : ℕ) → is_marked marks at ≡ false) → length marks ≡ 384 → IsKeyTable marks
no_keys marks none size = record {
  size = size;
  starts = λ f word_f. (
    λ h. let e = none (16384 + place_of f) in absurd (cc),
    λ s. let e = none (key_mark (place_of (f ++ s.next ∷ s.back)) s.whole) in let k = s.key in absurd (cc),
  );
}

-- ---- a key and the marks of its prefixes

far_mark : (n m : ℕ) → n < 16384 → nat_eq (16384 + m) n ≡ false
far_mark n m h = grind (arith, nat_tests)

-- the list that the first lists are prefixes of, where one is not longer
prefix_of : (f g a b : List ℕ) → f ++ a ≡ g ++ b → length f ≤ length g → (rest : List ℕ) × (g ≡ f ++ rest)
prefix_of [] g a b e short = (g, refl)
prefix_of (x ∷ f) [] a b e short = absurd (omega arith)
prefix_of (x ∷ f) (y ∷ g) a b e short =
    let same : x ≡ y = cc in
    let others : f ++ a ≡ g ++ b = cc in
    let r = prefix_of f g a b others (omega arith) in
    (r.0, ap (λ n. n ∷ g) (sym same) ∙ ap (λ l. x ∷ l) r.1)

module _ (old mid new word : List ℕ) (at : ℕ) (whole : Bool) (is : IsWord word)
    (set : (n : ℕ) → is_marked mid n ≡ (nat_eq n (key_mark (place_of word) whole) || is_marked old n)) (r : IsRaised mid new word at) where
  raised_keys : Adds old new (λ key mark. (key ≡ word) × (mark ≡ whole))
  raised_keys = λ key mark word_k. (
    λ h. elim (or_cases (nat_eq (key_mark (place_of key) mark) (key_mark (place_of word) whole)) (has_key old key mark)
        (sym (set (key_mark (place_of key) mark)) ∙ sym (r.keys (key_mark (place_of key) mark) (key_mark-low key mark word_k)) ∙ h)) [
          | inl e ↦ inr (key_mark-same key word mark whole word_k is (eqb-true (key_mark (place_of key) mark) (key_mark (place_of word) whole) e))
          | inr e ↦ inl e
        ],
    λ h. r.keys (key_mark (place_of key) mark) (key_mark-low key mark word_k) ∙ set (key_mark (place_of key) mark) ∙ elim h [
      | inl e ↦ or_right (nat_eq (key_mark (place_of key) mark) (key_mark (place_of word) whole)) (has_key old key mark) e
      | inr e ↦ or_left (nat_eq (key_mark (place_of key) mark) (key_mark (place_of word) whole)) (has_key old key mark)
          (eq-eqb (key_mark (place_of key) mark) (key_mark (place_of word) whole)
          (ap (λ k. key_mark (place_of k) mark) e.0 ∙ ap (λ m. key_mark (place_of word) m) e.1))
    ],
  )

  same_start : (f : List ℕ) → is_marked mid (16384 + place_of f) ≡ is_marked old (16384 + place_of f)
  same_start f = set (16384 + place_of f)
      ∙ ap (λ b. b || is_marked old (16384 + place_of f)) (far_mark (key_mark (place_of word) whole) (place_of f)
      (key_mark-low word whole is))

  -- all of these are set
  pub raised_last : at ≡ 1 → AddsKey old new word whole
  raised_last one = record {
    keys = raised_keys;
    starts = λ table f word_f. (
      λ h. elim ((r.starts f word_f).0 h) [
        | inl e ↦ inl (sym (same_start f) ∙ e)
        | inr p ↦ inr p.0
      ],
      λ h. (r.starts f word_f).1 (elim h [
        | inl e ↦ inl (same_start f ∙ e)
        | inr p ↦
            let none : length r.front ≡ 0 = ap length empty in
            inr (p, omega arith)
      ]),
    );
  }
    where
      bits : IsBits r.front
      bits = IsBits-front r.front r.back (let P : List ℕ → Type 0 = IsBits in subst P r.parts is.bits)

      empty : r.front ≡ []
      empty = place_of-one r.front bits (r.here ∙ one)

  -- the next one is set already, and so are those before it
  pub raised_enough : 1 < at → is_marked new (16384 + at / 2) ≡ true → AddsKey old new word whole
  raised_enough more marked = record { keys = raised_keys; starts = λ table. by_last table r.front r.back r.parts r.here r.starts (last_of r.front) }
    where
      by_last :
          IsKeyTable old → (front back : List ℕ) → word ≡ front ++ back → place_of front ≡ at
          → ((f : List ℕ) → IsWord f → IsTrue (is_marked new (16384 + place_of f)) ↔
          (IsTrue (is_marked mid (16384 + place_of f)) ⊎ (IsFront f word × (length front ≤ length f))))
          → LastBit front → (f : List ℕ) → IsWord f
          → IsTrue (is_marked new (16384 + place_of f)) ↔ (IsTrue (is_marked old (16384 + place_of f)) ⊎ IsFront f word)
      by_last table front back parts here starts (no_bits e) f word_f =
          let one : place_of front ≡ 1 = ap place_of e in absurd (omega arith)
      by_last table front back parts here starts (last_bit g x e) f word_f = (
        λ h. elim ((starts f word_f).0 h) [
          | inl m ↦ inl (sym (same_start f) ∙ m)
          | inr p ↦ inr p.0
        ],
        λ h. (starts f word_f).1 (elim h [
          | inl m ↦ inl (same_start f ∙ m)
          | inr p ↦ elim (le_or_gt (length front) (length f)) [
            | inl long ↦ inr (p, long)
            | inr short ↦ inl (same_start f ∙ (table.starts f word_f).1 (begun p short))
          ]
        ]),
      )
        where
          le_or_gt : (m n : ℕ) → (m ≤ n) ⊎ (n < m)
          le_or_gt m n = grind arith

          split : word ≡ g ++ x ∷ back
          split = parts ∙ ap (λ f. f ++ back) e ∙ append_assoc g (x ∷ []) back

          whole_word : IsWord (g ++ x ∷ back)
          whole_word = let P : List ℕ → Type 0 = IsWord in subst P split is

          word_g : IsWord g
          word_g = word_front g (x ∷ back) whole_word

          lengths : length front ≡ length g + 1
          lengths = ap length e ∙ length-append g (x ∷ [])

          last_small : (g : List ℕ) (x : ℕ) → IsBits (g ++ x ∷ []) → x ≤ 1
          last_small [] x h = h.0
          last_small (y ∷ g) x h = last_small g x h.1

          half : place_of g ≡ at / 2
          half =
              let bits : IsBits (g ++ x ∷ []) = let P : List ℕ → Type 0 = IsBits in
              subst P e (IsBits-front front back (let Q : List ℕ → Type 0 = IsBits in subst Q parts is.bits)) in
              sym (place_of-half g x (last_small g x bits)) ∙ ap (λ f. place_of f / 2) (sym e) ∙ ap (λ n. n / 2) here

          -- a key goes on from the prefix whose mark was set
          goes_on : StartsKey old g
          goes_on =
              elim ((starts g word_g).0 (ap (λ n. is_marked new (16384 + n)) half ∙ marked)) [
                | inl m ↦ (table.starts g word_g).0 (sym (same_start g) ∙ m)
                | inr p ↦ let long = p.1 in absurd (omega (arith, lengths))
              ]

          begun : IsFront f word → length f < length front → StartsKey old f
          begun p short =
              let r = prefix_of f g (p.next ∷ p.back) (x ∷ back) (sym p.parts ∙ split) (omega (arith, lengths)) in
              shorter r.0 r.1
            where
              shorter : (rest : List ℕ) → g ≡ f ++ rest → StartsKey old f
              shorter [] same = let P : List ℕ → Type 0 = StartsKey old in subst P (same ∙ append-nil f) goes_on
              shorter (y ∷ rest) same =
                  let k = goes_on in
                  let on : g ++ k.next ∷ k.back ≡ f ++ y ∷ (rest ++ k.next ∷ k.back) = ap (λ l. l ++ k.next ∷ k.back)
                  same ∙ append_assoc f (y ∷ rest) (k.next ∷ k.back) in
                  let P : List ℕ → Type 0 = IsWord in
                  let Q : List ℕ → Type 0 = λ l. IsTrue (has_key old l k.whole) in
                  record { next = y; back = rest ++ k.next ∷ k.back; whole = k.whole; word = subst P on k.word; key = subst Q on k.key }

-- the look at the empty word decides the search
pub searched_last :
    (marks word : List ℕ) (at : ℕ) (told : Bool) → IsWord word → at ≡ 1 → told ≡ (is_marked marks 1 || is_marked marks 8193)
    → IsSearched marks word at → IsTrue told ↔ BeginsWithKey marks word
searched_last marks word at told is one e s = (
  λ yes. found marks word 1 (sym e ∙ yes) (let P : ℕ → Type 0 = IsSearched marks word in subst P one s),
  λ key. decide (is_marked marks 1 || is_marked marks 8193) refl key,
)
  where
    decide : (b : Bool) → (is_marked marks 1 || is_marked marks 8193) ≡ b → BeginsWithKey marks word → told ≡ true
    decide true at_last key = e ∙ at_last
    decide false at_last key = absurd (not_found marks word at is one at_last s key)

-- ---- one very word

pub key_told : (marks word : List ℕ) (at : ℕ) → place_of word ≡ at → IsTrue (is_marked marks at || is_marked marks (8192 + at)) ↔ IsKeyOf marks word
key_told marks word at here = (
  (λ h. let k = key_here marks word at here h in (k.whole, k.key)),
  (λ (whole, key). here_key marks word at whole here key),
)

pub starts_told : (marks word : List ℕ) (at : ℕ) → IsKeyTable marks → IsWord word → place_of word ≡ at
    → IsTrue (is_marked marks (16384 + at)) ↔ StartsKey marks word
starts_told marks word at table is here =
    let same : is_marked marks (16384 + at) ≡ is_marked marks (16384 + place_of word) = ap (λ p. is_marked marks (16384 + p)) (sym here) in (
      (λ h. (table.starts word is).0 (sym same ∙ h)),
      (λ h. same ∙ (table.starts word is).1 h),
    )
