-- The list of the keys of a set.
use Rattle.std.proofs.Common.{◌≡◌, ℕ, zero, suc, ◌+◌, ◌-◌, ◌*◌, ◌^◌, ◌<◌, ◌≤◌, Bool, true, false, Result, Ok, Err}
use Rattle.std.proofs.Common.{IfOk, List, [], ◌∷◌, ◌++◌, length, IsTrue, ◌⊎◌, refl, sym, ap, ◌∙◌, subst, arith, inl}
use Rattle.std.proofs.Common.{inr, append_assoc, append-nil, length-append}
use Rattle.std.specs.List.{Contains}
use Rattle.std.proofs.Math.Nat.{pow-suc, pow-le-pow_right}
use Rattle.std.proofs.lemmas.List.Elements.{Contains-append_left, Contains-append_right, Contains-append_cases}
use Rattle.csn_bits.specs.Octets.{IsBits}
use Rattle.csn_bits.proofs.Packing.{IsBits-append}
use Rattle.csn_look.specs.declared.word.Key.{Key}
use Rattle.csn_look.specs.KeyMarks.{IsWord, is_marked, place_of, has_key}
use Rattle.csn_look.specs.KeyTables.{IsKeyTable, IsFront}
use Rattle.csn_look.specs.KeyLists.{IsBefore, cut_first, shorter, lower, IsBeforeAll, IsRising, IsKeyList, keys_if, own_keys, keys_from}
use Rattle.csn_look.proofs.Tables.Products.{bits_back}

-- ---- places that are small enough

pub small_place : (place size : ℕ) → size ≤ 12 → place < 2 ^ (size + 1) → place < 8192
small_place place size few small =
    let longer : size + 1 ≤ 13 = omega arith in
    let power : 2 ^ (size + 1) ≤ 8192 = pow-le-pow_right {n = 2} (omega arith) longer in
    omega arith

pub next_place : (place size bit : ℕ) → bit ≤ 1 → place < 2 ^ (size + 1) → 2 * place + bit < 2 ^ (size + 1 + 1)
next_place place size bit low small =
    let double : 2 ^ (size + 1 + 1) ≡ 2 ^ (size + 1) * 2 = ap (λ n. 2 ^ n) (omega arith) ∙ pow-suc 2 (size + 1) in omega arith

-- ---- members

single : (x y : Key) → Contains (x ∷ []) y → x ≡ y
single x y (zero, within, same) = same
single x y (suc k, within, same) = absurd (omega (arith, within))

single_in : (x y : Key) → x ≡ y → Contains (x ∷ []) y
single_in x y same = (0, omega arith, same)

later : (x : Key) (keys : List Key) (y : Key) → Contains keys y → Contains (x ∷ keys) y
later x keys y (k, within, same) = (suc k, omega arith, same)

in_if : (b : Bool) (keys : List Key) (x : Key) → Contains (keys_if b keys) x → (b ≡ true) × Contains keys x
in_if true keys x c = (refl, c)
in_if false keys x (k, within, same) = absurd (omega (arith, within))

if_in : (b : Bool) (keys : List Key) (x : Key) → b ≡ true → Contains keys x → Contains (keys_if b keys) x
if_in true keys x e c = c
if_in false keys x e c = absurd (cc)

-- ---- rising lists

before_all : (key : Key) (keys : List Key) → ((next : Key) → Contains keys next → IsBefore key next) → IsBeforeAll key keys
before_all key [] f = tt
before_all key (next ∷ keys) f = (f next (0, omega arith, refl), before_all key keys (λ y c. f y (later next keys y c)))

before_append : (key : Key) (a b : List Key) → IsBeforeAll key a → IsBeforeAll key b → IsBeforeAll key (a ++ b)
before_append key [] b h k = k
before_append key (x ∷ a) b h k = (h.0, before_append key a b h.1 k)

rising_append : (a b : List Key) → IsRising a → IsRising b → ((x y : Key) → Contains a x → Contains b y → IsBefore x y) → IsRising (a ++ b)
rising_append [] b h k f = k
rising_append (x ∷ a) b h k f =
    (before_append x a b h.0 (before_all x b (λ y c. f x y (0, omega arith, refl) c)), rising_append a b h.1 k (λ y z c d. f y z (later x a y c) d))

rising_if : (b : Bool) (keys : List Key) → IsRising keys → IsRising (keys_if b keys)
rising_if true keys h = h
rising_if false keys h = tt

-- ---- the word itself

record IsOwn (marks word : List ℕ) (key : Key) : Type 0 where
  pub same : key.word ≡ word
  pub marked : IsTrue (has_key marks key.word key.whole)

own_each : (marks word : List ℕ) (key : Key) → Contains (own_keys marks word) key → IsOwn marks word key
own_each marks word key c =
    elim (Contains-append_cases (keys_if (has_key marks word false) (record { word = word; whole = false } ∷ []))
    (keys_if (has_key marks word true) (record { word = word; whole = true } ∷ [])) key c) [
      | inl d ↦ own false (in_if (has_key marks word false) (record { word = word; whole = false } ∷ []) key d)
      | inr d ↦ own true (in_if (has_key marks word true) (record { word = word; whole = true } ∷ []) key d)
    ]
  where
    own : (whole : Bool) → (has_key marks word whole ≡ true) × Contains (record { word = word; whole = whole } ∷ []) key → IsOwn marks word key
    own whole h =
        let same = single (record { word = word; whole = whole }) key h.1 in
        let P : Key → Type 0 = IsOwn marks word in
        subst P same (record { same = refl; marked = h.0 })

own_all : (marks word : List ℕ) (key : Key) → key.word ≡ word → IsTrue (has_key marks key.word key.whole) → Contains (own_keys marks word) key
own_all marks word key same marked = own key.whole refl
  where
    one : (whole : Bool) → key.whole ≡ whole → Contains (keys_if (has_key marks word whole) (record { word = word; whole = whole } ∷ [])) key
    one whole e =
        let told : has_key marks word whole ≡ true = ap (λ w. has_key marks w whole) (sym same) ∙ ap (λ m. has_key marks key.word m) (sym e) ∙ marked in
        let make : List ℕ → Bool → Key = λ w m. record { word = w; whole = m } in
        let equal : make word whole ≡ key = ap (λ w. make w whole) (sym same) ∙ ap (λ m. make key.word m) (sym e) in
        if_in (has_key marks word whole) (record { word = word; whole = whole } ∷ []) key told (single_in (record { word = word; whole = whole }) key equal)

    own : (whole : Bool) → key.whole ≡ whole → Contains (own_keys marks word) key
    own false e =
        Contains-append_left (keys_if (has_key marks word false) (record { word = word; whole = false } ∷ []))
        (keys_if (has_key marks word true) (record { word = word; whole = true } ∷ [])) key (one false e)
    own true e = Contains-append_right
        (keys_if (has_key marks word false) (record { word = word; whole = false } ∷ []))
        (keys_if (has_key marks word true) (record { word = word; whole = true } ∷ [])) key (one true e)

own_rising : (marks word : List ℕ) → IsRising (own_keys marks word)
own_rising marks word =
    rising_append (keys_if (has_key marks word false) (record { word = word; whole = false } ∷ []))
    (keys_if (has_key marks word true) (record { word = word; whole = true } ∷ []))
    (rising_if (has_key marks word false) (record { word = word; whole = false } ∷ []) (tt, tt))
    (rising_if (has_key marks word true) (record { word = word; whole = true } ∷ []) (tt, tt))
    (λ x y c d.
    let one = single (record { word = word; whole = false }) x (in_if (has_key marks word false) (record { word = word; whole = false } ∷ []) x c).1 in
    let two = single (record { word = word; whole = true }) y (in_if (has_key marks word true) (record { word = word; whole = true } ∷ []) y d).1 in
    cut_first (ap (λ (k : Key). k.word) (sym one) ∙ ap (λ (k : Key). k.word) two) (ap (λ (k : Key). k.whole) (sym one)) (ap (λ (k : Key). k.whole) (sym two)))

-- ---- the keys that begin with a word

record IsFrom (marks word : List ℕ) (key : Key) : Type 0 where
  pub back : List ℕ
  pub parts : key.word ≡ word ++ back
  pub is : IsWord key.word
  pub marked : IsTrue (has_key marks key.word key.whole)

record Listed (marks word : List ℕ) (keys : List Key) : Type 0 where
  pub each : (key : Key) → Contains keys key → IsFrom marks word key
  pub all : (key : Key) → IsFrom marks word key → Contains keys key
  pub rising : IsRising keys

own_from : (marks word : List ℕ) (key : Key) → IsWord word → IsOwn marks word key → IsFrom marks word key
own_from marks word key is own =
    let P : List ℕ → Type 0 = IsWord in
    record { back = []; parts = own.same ∙ sym (append-nil word); is = subst P (sym own.same) is; marked = own.marked }

pub word_longer : (word : List ℕ) (x size : ℕ) → x ≤ 1 → length word ≡ size → size < 12 → IsWord word → IsWord (word ++ x ∷ [])
word_longer word x size low many short is = record { bits = IsBits-append word (x ∷ []) is.bits (low, tt); short = omega (arith, length-append word (x ∷ [])) }

longer_word : (word : List ℕ) (x n : ℕ) → x ≤ 1 → length word + suc n ≡ 12 → IsWord word → IsWord (word ++ x ∷ [])
longer_word word x n low room is = record { bits = IsBits-append word (x ∷ []) is.bits (low, tt); short = omega (arith, length-append word (x ∷ [])) }

listed : (marks : List ℕ) (n : ℕ) (word : List ℕ) → IsKeyTable marks → length word + n ≡ 12 → IsWord word → Listed marks word (keys_from marks n word)
listed marks zero word table room is = record {
  each = λ key c. own_from marks word key is (own_each marks word key c);
  all = λ key f. at_end key f.back f.parts f.is f.marked;
  rising = own_rising marks word;
}
  where
    at_end : (key : Key) (back : List ℕ) → key.word ≡ word ++ back → IsWord key.word
        → IsTrue (has_key marks key.word key.whole) → Contains (own_keys marks word) key
    at_end key [] parts is_key marked = own_all marks word key (parts ∙ append-nil word) marked
    at_end key (x ∷ back) parts is_key marked =
        let short = is_key.short in let e = ap length parts in absurd (omega (arith, length-append word (x ∷ back)))
listed marks (suc n) word table room is =
    let zeros = listed marks n (word ++ 0 ∷ []) table (omega (arith, length-append word (0 ∷ []))) (longer_word word 0 n (omega arith) room is) in
    let ones = listed marks n (word ++ 1 ∷ []) table (omega (arith, length-append word (1 ∷ []))) (longer_word word 1 n (omega arith) room is) in
    joined (keys_from marks n (word ++ 0 ∷ [])) (keys_from marks n (word ++ 1 ∷ [])) zeros ones
  where
    shorten : (x : ℕ) (key : Key) → IsFrom marks (word ++ x ∷ []) key → IsFrom marks word key
    shorten x key f = record { back = x ∷ f.back; parts = f.parts ∙ append_assoc word (x ∷ []) f.back; is = f.is; marked = f.marked }

    joined :
        (a b : List Key) → Listed marks (word ++ 0 ∷ []) a → Listed marks (word ++ 1 ∷ []) b
        → Listed marks word (own_keys marks word ++ keys_if (is_marked marks (16384 + place_of word)) (a ++ b))
    joined a b zeros ones = record {
      each = λ key c. elim (Contains-append_cases (own_keys marks word) (keys_if (is_marked marks (16384 + place_of word)) (a ++ b)) key c) [
        | inl d ↦ own_from marks word key is (own_each marks word key d)
        | inr d ↦ further key d
      ];
      all = λ key f. which key f.back f.parts f.is f.marked;
      rising =
          rising_append (own_keys marks word) (keys_if (is_marked marks (16384 + place_of word)) (a ++ b)) (own_rising marks word)
          (rising_if (is_marked marks (16384 + place_of word)) (a ++ b) (rising_append a b zeros.rising ones.rising (λ x y c d.
          let f = zeros.each x c in let g = ones.each y d in
          lower word f.back g.back (f.parts ∙ append_assoc word (0 ∷ []) f.back) (g.parts ∙ append_assoc word (1 ∷ []) g.back))))
          (λ x y c d. shorter
          (front_of x y (own_each marks word x c)
          (Contains-append_cases a b y (in_if (is_marked marks (16384 + place_of word)) (a ++ b) y d).1)));
    }
      where
        further : (key : Key) → Contains (keys_if (is_marked marks (16384 + place_of word)) (a ++ b)) key → IsFrom marks word key
        further key d = elim (Contains-append_cases a b key (in_if (is_marked marks (16384 + place_of word)) (a ++ b) key d).1) [
          | inl e ↦ shorten 0 key (zeros.each key e)
          | inr e ↦ shorten 1 key (ones.each key e)
        ]

        front_of : (x y : Key) → IsOwn marks word x → Contains a y ⊎ Contains b y → IsFront x.word y.word
        front_of x y own (inl c) =
            let f = zeros.each y c in
            record { next = 0; back = f.back; parts = f.parts ∙ append_assoc word (0 ∷ []) f.back ∙ ap (λ w. w ++ 0 ∷ f.back) (sym own.same) }
        front_of x y own (inr c) =
            let f = ones.each y c in
            record { next = 1; back = f.back; parts = f.parts ∙ append_assoc word (1 ∷ []) f.back ∙ ap (λ w. w ++ 1 ∷ f.back) (sym own.same) }

        starts : (key : Key) (x : ℕ) (back : List ℕ) → key.word ≡ word ++ x ∷ back → IsWord key.word
            → IsTrue (has_key marks key.word key.whole) → is_marked marks (16384 + place_of word) ≡ true
        starts key x back parts is_key marked =
            let P : List ℕ → Type 0 = IsWord in
            (table.starts word is).1 (record {
              next = x;
              back = back;
              whole = key.whole;
              word =
                  subst P parts is_key;
              key = ap (λ w. has_key marks w key.whole) (sym parts) ∙ marked;
            })

        which :
            (key : Key) (back : List ℕ) → key.word ≡ word ++ back → IsWord key.word → IsTrue (has_key marks key.word key.whole)
            → Contains (own_keys marks word ++ keys_if (is_marked marks (16384 + place_of word)) (a ++ b)) key
        which key [] parts is_key marked =
            Contains-append_left (own_keys marks word) (keys_if (is_marked marks (16384 + place_of word)) (a ++ b))
            key (own_all marks word key (parts ∙ append-nil word) marked)
        which key (zero ∷ back) parts is_key marked =
            Contains-append_right (own_keys marks word) (keys_if (is_marked marks (16384 + place_of word)) (a ++ b)) key
            (if_in (is_marked marks (16384 + place_of word)) (a ++ b) key (starts key 0 back parts is_key marked)
            (Contains-append_left a b key
            (zeros.all key (record {
              back = back;
              parts = parts ∙ sym (append_assoc word (0 ∷ []) back);
              is =
                  is_key;
              marked = marked;
            }))))
        which key (suc zero ∷ back) parts is_key marked =
            Contains-append_right (own_keys marks word) (keys_if (is_marked marks (16384 + place_of word)) (a ++ b)) key
            (if_in (is_marked marks (16384 + place_of word)) (a ++ b) key (starts key 1 back parts is_key marked)
            (Contains-append_right a b key
            (ones.all key (record {
              back = back;
              parts = parts ∙ sym (append_assoc word (1 ∷ []) back);
              is =
                  is_key;
              marked = marked;
            }))))
        which key (suc (suc x) ∷ back) parts is_key marked =
            let bits : IsBits (word ++ suc (suc x) ∷ back) = let P : List ℕ → Type 0 = IsBits in subst P parts is_key.bits in
            absurd (omega (arith, (bits_back word (suc (suc x) ∷ back) bits).0))

-- all keys of the set
pub key_list : (marks : List ℕ) (list : List Key) → IsKeyTable marks → list ≡ [] ++ keys_from marks 12 [] → IsKeyList marks list
key_list marks list table e =
    let l = listed marks 12 [] table refl (record { bits = tt; short = omega arith }) in
    let P : List Key → Type 0 = IsKeyList marks in
    subst P (sym e) (record {
      words = λ key c. (l.each key c).is;
      exact = λ key is. (λ c. (l.each key c).marked, λ marked. l.all key (record { back = key.word; parts = refl; is = is; marked = marked }));
      rising = l.rising;
    })

-- ---- how many keys there are

if_few : (b : Bool) (keys : List Key) → length (keys_if b keys) ≤ length keys
if_few true keys = omega arith
if_few false keys = omega arith

own_few : (marks word : List ℕ) → length (own_keys marks word) ≤ 2
own_few marks word =
    omega (
      arith,
      if_few (has_key marks word false) (record { word = word; whole = false } ∷ []),
      if_few (has_key marks word true) (record { word = word; whole = true } ∷ []),
      length-append (keys_if (has_key marks word false) (record { word = word; whole = false } ∷ []))
          (keys_if (has_key marks word true) (record { word = word; whole = true } ∷ [])),
    )

pub few_keys : (marks : List ℕ) (n : ℕ) (word : List ℕ) → length (keys_from marks n word) + 2 ≤ 2 ^ (n + 2)
few_keys marks zero word = omega (arith, own_few marks word)
few_keys marks (suc n) word =
    let double : 2 ^ (suc n + 2) ≡ 2 ^ (n + 2) * 2 = ap (λ m. 2 ^ m) (omega arith) ∙ pow-suc 2 (n + 2) in
    let a = few_keys marks n (word ++ 0 ∷ []) in
    let b = few_keys marks n (word ++ 1 ∷ []) in
    omega (
      arith,
      own_few marks word,
      if_few (is_marked marks (16384 + place_of word)) (keys_from marks n (word ++ 0 ∷ []) ++ keys_from marks n (word ++ 1 ∷ [])),
      length-append (keys_from marks n (word ++ 0 ∷ [])) (keys_from marks n (word ++ 1 ∷ [])),
      length-append (own_keys marks word) (keys_if (is_marked marks (16384 + place_of word))
          (keys_from marks n (word ++ 0 ∷ []) ++ keys_from marks n (word ++ 1 ∷ []))),
    )

-- ---- the steps of the listing

-- no key more
pub key_none : (marks : List ℕ) (key : Key) (items : List Key) → has_key marks key.word key.whole ≡ false
    → items ≡ items ++ keys_if (has_key marks key.word key.whole) (key ∷ [])
key_none marks key items told = sym (append-nil items) ∙ ap (λ b. items ++ keys_if b (key ∷ [])) (sym told)

pub if_ok_then : {T E : Type 0} (r : Result T E) (A B : Type 0) → (A → B) → IfOk r (λ done. A) → IfOk r (λ done. B)
if_ok_then (Ok v) A B f h = f h
if_ok_then (Err e) A B f h = tt

-- a word that is seen is listed cut, and then whole
pub listed_own :
    (marks word seen : List ℕ) (old mid new : List Key) → seen ≡ word
    → mid ≡ old ++ keys_if (has_key marks seen false) (record { word = seen; whole = false } ∷ [])
    → new ≡ mid ++ keys_if (has_key marks seen true) (record { word = seen; whole = true } ∷ []) → new ≡ old ++ own_keys marks word
listed_own marks word seen old mid new same one two =
    two ∙ ap (λ l. l ++ keys_if (has_key marks seen true) (record { word = seen; whole = true } ∷ [])) one
    ∙ append_assoc old (keys_if (has_key marks seen false) (record { word = seen; whole = false } ∷ []))
    (keys_if (has_key marks seen true) (record { word = seen; whole = true } ∷ []))
    ∙ ap (λ w. old ++ own_keys marks w) same

-- at the end of a word, or where no key goes on
pub listed_end : (marks word : List ℕ) (size : ℕ) (old new : List Key) → size ≡ 12 → new ≡ old ++ own_keys marks word
    → new ≡ old ++ keys_from marks (12 - size) word
listed_end marks word size old new all own =
    let none : 12 - size ≡ 0 = omega arith in
    own ∙ ap (λ n. old ++ keys_from marks n word) (sym none)

further_keys : (marks word : List ℕ) (size : ℕ) (b : Bool) → size < 12 → is_marked marks (16384 + place_of word) ≡ b
    → keys_from marks (12 - size) word ≡ own_keys marks word ++ keys_if b
    (keys_from marks (12 - (size + 1)) (word ++ 0 ∷ []) ++ keys_from marks (12 - (size + 1)) (word ++ 1 ∷ []))
further_keys marks word size b small test =
    let more : 12 - size ≡ suc (12 - (size + 1)) = omega arith in
    ap (λ n. keys_from marks n word) more
    ∙ ap (λ t. own_keys marks word ++ keys_if t (keys_from marks (12 - (size + 1)) (word ++ 0 ∷ []) ++ keys_from marks
    (12 - (size + 1)) (word ++ 1 ∷ []))) test

pub listed_none : (marks word : List ℕ) (size : ℕ) (old new : List Key) → size < 12 → is_marked marks (16384 + place_of word) ≡ false
    → new ≡ old ++ own_keys marks word → new ≡ old ++ keys_from marks (12 - size) word
listed_none marks word size old new small test own =
    own
    ∙ ap (λ l. old ++ l) (sym (append-nil (own_keys marks word)))
    ∙ ap (λ l. old ++ l) (sym (further_keys marks word size false small test))

pub listed_more : (marks word : List ℕ) (size : ℕ) (old both zeros new : List Key) → size < 12 → is_marked marks (16384 + place_of word) ≡ true
    → both ≡ old ++ own_keys marks word
    → zeros ≡ both ++ keys_from marks (12 - (size + 1)) (word ++ 0 ∷ []) → new ≡ zeros ++ keys_from marks (12 - (size + 1)) (word ++ 1 ∷ [])
    → new ≡ old ++ keys_from marks (12 - size) word
listed_more marks word size old both zeros new small test listed three four =
    let a = keys_from marks (12 - (size + 1)) (word ++ 0 ∷ []) in
    let b = keys_from marks (12 - (size + 1)) (word ++ 1 ∷ []) in
    let own = own_keys marks word in
    four ∙ ap (λ l. l ++ b) three ∙ ap (λ l. l ++ a ++ b) listed
    ∙ joined old own a b ∙ ap (λ l. old ++ l) (sym (further_keys marks word size true small test))
  where
    joined : (old own a b : List Key) → old ++ own ++ a ++ b ≡ old ++ (own ++ (a ++ b))
    joined old own a b = simp append_assoc
