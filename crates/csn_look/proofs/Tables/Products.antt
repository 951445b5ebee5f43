-- The steps by which the keys of a product are made.
use Rattle.std.proofs.Common.{◌≡◌, ℕ, zero, suc, ◌+◌, ◌-◌, ◌*◌, ◌^◌, ◌<◌, ◌≤◌, Bool, true, false, if◌then◌else◌, ◌||◌}
use Rattle.std.proofs.Common.{nat_eq, List, [], ◌∷◌, ◌++◌, length, take, IsTrue, ◌⊎◌, refl, sym, ap, ◌∙◌, subst}
use Rattle.std.proofs.Common.{arith, inl, inr, append_assoc, length-append}
use Rattle.std.proofs.Math.Nat.{pow-le-pow_right, mul-le-mul_left}
use Rattle.std.proofs.lemmas.Bool.{cases_lt, or_cases, or_left, or_right}
use Rattle.std.proofs.lemmas.Nat.{pow-add}
use Rattle.std.proofs.lemmas.List.{take-append-le, take_all}
use Rattle.csn_bits.specs.Octets.{IsBits}
use Rattle.csn_bits.proofs.NumberFacts.{number_of-same, number_of-lt}
use Rattle.csn_bits.proofs.Packing.{IsBits-append}
use Rattle.csn_bits.specs.Numbers.{number_of}
use Rattle.csn_look.specs.Keys.{Cut, kept, cut}
use Rattle.csn_look.specs.KeyMarks.{IsWord, is_marked, place_of, key_mark, has_key}
use Rattle.csn_look.specs.KeyTables.{IsKeyTable}
use Rattle.csn_look.specs.KeyProducts.{AfterKeys, after_cut, after_whole}
use Rattle.csn_look.specs.KeySteps.{Gains, Copies, IsBehind, IsShortBehind, IsKeyBehind, IsAfter}
use Rattle.csn_look.proofs.Basics.Below.{below_or}
use Rattle.csn_look.proofs.Basics.Places.{place_of-append, place_of-same, place_of-small, numbered}
use Rattle.csn_look.proofs.Meaning.Extensions.{gains_none, gains_key, gains_then, gains_same}

pub bits_back : (a b : List ℕ) → IsBits (a ++ b) → IsBits b
bits_back [] b h = h
bits_back (x ∷ a) b h = bits_back a b h.1

word_back : (a b word : List ℕ) → word ≡ a ++ b → IsWord word → IsBits b
word_back a b word parts is = bits_back a b (let P : List ℕ → Type 0 = IsBits in subst P parts is.bits)

pub word_join : (a b : List ℕ) → IsWord a → IsBits b → length a + length b ≤ 12 → IsWord (a ++ b)
word_join a b h k short = record { bits = IsBits-append a b h.bits k; short = omega (arith, length-append a b) }

placed : (a : List ℕ) (words number : ℕ) {size : ℕ} (b : List ℕ) → words ≡ 2 ^ size → length b ≡ size
    → number_of b ≡ number → place_of a * 2 ^ length b + number_of b ≡ place_of a * words + number
placed a words number b power many writes = rw (many, writes, power) refl

pub key_mark-first : (whole : Bool) → key_mark 0 whole ≤ 8192
key_mark-first true = omega arith
key_mark-first false = omega arith

key_from : (whole : Bool) (p k : ℕ) → key_mark 0 whole + p + k ≡ key_mark (p + k) whole
key_from true p k = omega arith
key_from false p k = omega arith

-- where a mark between these stands
place_here :
    (mark whole : Bool) (p q k words : ℕ) → p < 8192 → (q + 1) * words ≤ 8192 → k < words → key_mark 0 whole + q * words + k ≡ key_mark p mark
    → (mark ≡ whole) × (p ≡ q * words + k)
place_here true true p q k words low room small e = (refl, omega (arith, e))
place_here false false p q k words low room small e = (refl, omega (arith, e))
place_here true false p q k words low room small e = absurd (omega (arith, e))
place_here false true p q k words low room small e = absurd (omega (arith, e))

-- ---- the words of one size with their marks set

module _ (marks : List ℕ) (plane : ℕ) (first : List ℕ) (size : ℕ) (whole : Bool) where
  abbrev pub Behind : ℕ → List ℕ → Bool → Type 0
  Behind limit word mark = IsBehind marks plane first size limit word × (mark ≡ whole)

  mark_of : (words number : ℕ) (back : List ℕ) → words ≡ 2 ^ size → length back ≡ size → number_of back ≡ number
      → plane + words + number ≡ plane + place_of back
  mark_of words number back power many writes =
      let same : 2 ^ length back ≡ words = ap (λ n. 2 ^ n) many ∙ sym power in omega arith

  -- the word behind the first one with this number
  behind_here :
      (words number : ℕ) (word : List ℕ) → IsWord first → IsWord word → words ≡ 2 ^ size → length first + size ≤ 12 → number < words
      → place_of word ≡ place_of first * words + number → is_marked marks (plane + words + number) ≡ true → IsBehind marks plane first size words word
  behind_here words number word is is_word power short small here marked =
      let n = numbered size number (omega (arith, power)) in
      let room : length first + length n.word ≤ 12 = let many = n.many in omega arith in
      let joined : IsWord (first ++ n.word) = word_join first n.word is n.bits room in
      let place : place_of (first ++ n.word) ≡ place_of first * words + number = place_of-append first n.word
      ∙ placed first words number n.word power n.many n.writes in
      record {
        back = n.word;
        parts = place_of-same word (first ++ n.word) is_word.bits joined.bits (here ∙ sym place);
        many = n.many;
        below = (let w = n.writes in omega arith);
        marked = ap (λ m. is_marked marks m) (sym (mark_of words number n.word power n.many n.writes)) ∙ marked;
      }

  -- all marks of some words of one size are copied
  pub behind_all :
      (old new : List ℕ) (words to : ℕ) → IsWord first → words ≡ 2 ^ size → length first + size ≤ 12 → (place_of first + 1) * words ≤ 8192
      → to ≡ key_mark 0 whole + place_of first * words → Copies old new marks to (plane + words) words → Gains old new (Behind words)
  behind_all old new words to is power short room start c = record {
    keys = λ word mark is_word. (
      λ h. is_old_or (key_mark (place_of word) mark) word mark is_word refl h,
      λ h. elim h [
        | inl o ↦ kept_old (key_mark (place_of word) mark) o
        | inr b ↦ added word mark b.0 b.1
      ],
    );
    starts = λ at high. c.behind at (let low = key_mark-first whole in let all = room_all (place_of first) words room in omega arith);
  }
    where
      room_all : (p words : ℕ) → (p + 1) * words ≤ 8192 → p * words + words ≤ 8192
      room_all p words h = omega arith

      is_old_or :
          (n : ℕ) (word : List ℕ) (mark : Bool) → IsWord word → n ≡ key_mark (place_of word) mark → is_marked new n ≡ true
          → (is_marked old (key_mark (place_of word) mark) ≡ true) ⊎ Behind words word mark
      is_old_or n word mark is_word named h =
          let P : ℕ → Type 0 = λ m. (is_marked old m ≡ true) ⊎ Behind words word mark in
          subst P named (elim (cases_lt n to) [
            | inl below ↦ inl (sym (c.before n below) ∙ h)
            | inr low ↦ elim (cases_lt n (to + words)) [
              | inr beyond ↦ inl (sym (c.behind n beyond) ∙ h)
              | inl inside ↦
                  let k = n - to in
                  let e : to + k ≡ n = omega arith in
                  let small : k < words = omega arith in
                  elim (or_cases (is_marked old (to + k)) (is_marked marks (plane + words + k)) (sym (c.inside k small) ∙ ap (λ m. is_marked new m) e ∙ h)) [
                    | inl o ↦ inl (ap (λ m. is_marked old m) (sym e) ∙ o)
                    | inr m ↦
                        let here = place_here mark whole (place_of word) (place_of first) k words
                        (place_of-small word is_word) room small (sym (ap (λ t. t + k) start) ∙ e ∙ named) in
                        inr (behind_here words k word is is_word power short small here.1 m, here.0)
                  ]
            ]
          ])

      kept_old : (n : ℕ) → is_marked old n ≡ true → is_marked new n ≡ true
      kept_old n o =
          elim (cases_lt n to) [
            | inl below ↦ c.before n below ∙ o
            | inr low ↦ elim (cases_lt n (to + words)) [
              | inr beyond ↦ c.behind n beyond ∙ o
              | inl inside ↦
                  let k = n - to in
                  let e : to + k ≡ n = omega arith in
                  ap (λ m. is_marked new m) (sym e) ∙ c.inside k (omega arith)
                  ∙ or_left (is_marked old (to + k)) (is_marked marks (plane + words + k))
                  (ap (λ m. is_marked old m) e ∙ o)
            ]
          ]

      added : (word : List ℕ) (mark : Bool) → IsBehind marks plane first size words word → mark ≡ whole → is_marked new (key_mark (place_of word) mark) ≡ true
      added word mark b same =
          let k = number_of b.back in
          let place : place_of word ≡ place_of first * words + k = ap place_of b.parts ∙ place_of-append first b.back
          ∙ placed first words k b.back power b.many refl in
          let here : to + k ≡ key_mark (place_of word) mark = ap (λ t. t + k) start
          ∙ key_from whole (place_of first * words) k ∙ ap (λ p. key_mark p whole) (sym place)
          ∙ ap (λ m. key_mark (place_of word) m) (sym same) in
          ap (λ m. is_marked new m) (sym here) ∙ c.inside k b.below
          ∙ or_right (is_marked old (to + k)) (is_marked marks (plane + words + k))
          (ap (λ m. is_marked marks m) (mark_of words k b.back power b.many refl) ∙ b.marked)

-- ---- the keys of one size

module _ (marks first : List ℕ) (size : ℕ) where
  abbrev pub Level : ℕ → List ℕ → Bool → Type 0
  Level words word mark = IsBehind marks (if mark then 0 else 8192) first size words word

  pub both_marks :
      (words : ℕ) (old mid new : List ℕ) → Gains old mid (Behind marks 0 first size true words)
      → Gains mid new (Behind marks 8192 first size false words) → Gains old new (Level words)
  both_marks words old mid new one two =
      gains_then old mid new (Behind marks 0 first size true words) (Behind marks 8192 first size false words) (Level words) one two
      (record {
        first = λ word mark is h. let P : Bool → Type 0 = Level words word in subst P (sym h.1) h.0;
        second = λ word mark is h. let P : Bool → Type 0 = Level words word in subst P (sym h.1) h.0;
        split = which;
      })
    where
      which : (word : List ℕ) (mark : Bool) → IsWord word → Level words word mark
          → Behind marks 0 first size true words word mark ⊎ Behind marks 8192 first size false words word mark
      which word true is h = inl (h, refl)
      which word false is h = inr (h, refl)

level_key : (marks back : List ℕ) (mark : Bool) → is_marked marks ((if mark then 0 else 8192) + place_of back) ≡ has_key marks back mark
level_key marks back true = ap (λ n. is_marked marks n) (omega arith)
level_key marks back false = refl

-- ---- the keys of all sizes that fit

pub room_for : (front size room words : ℕ) → size ≤ room → words ≡ 2 ^ size → (front + 1) * 2 ^ room ≤ 8192 → (front + 1) * words ≤ 8192
room_for front size room words few power within =
    let more : 2 ^ size ≤ 2 ^ room = pow-le-pow_right {n = 2} (omega arith) few in
    let less : words ≤ 2 ^ room = omega arith in
    let product : (front + 1) * words ≤ (front + 1) * 2 ^ room = mul-le-mul_left (front + 1) less in
    omega arith

-- a list with a place inside it
pub record SplitAt (n : ℕ) (l : List ℕ) : Type 0 where
  pub front : List ℕ
  pub next : ℕ
  pub back : List ℕ
  pub parts : l ≡ front ++ next ∷ back
  pub many : length front ≡ n

pub split_at : (n : ℕ) (l : List ℕ) → n < length l → SplitAt n l
split_at n [] h = absurd (omega arith)
split_at zero (x ∷ l) h = record { front = []; next = x; back = l; parts = refl; many = refl }
split_at (suc n) (x ∷ l) h =
    let s = split_at n l (omega arith) in
    record { front = x ∷ s.front; next = s.next; back = s.back; parts = ap (λ t. x ∷ t) s.parts; many = omega (arith, s.many) }

module _ (marks first : List ℕ) where
  pub short_none : (old : List ℕ) → Gains old old (IsShortBehind marks first 0)
  short_none old = gains_none old (IsShortBehind marks first 0) (λ word mark is h. let b = h.short in omega arith)

  pub short_next :
      (size words : ℕ) (old mid new : List ℕ) → words ≡ 2 ^ size → Gains old mid (IsShortBehind marks first size)
      → Gains mid new (Level marks first size words) → Gains old new (IsShortBehind marks first (size + 1))
  short_next size words old mid new power before level =
      gains_then old mid new (IsShortBehind marks first size) (Level marks first size words) (IsShortBehind marks first (size + 1)) before level
      (record {
        first = λ word mark is h. record { back = h.back; parts = h.parts; short = (let b = h.short in omega arith); key = h.key };
        second = λ word mark is h. record {
          back = h.back;
          parts = h.parts;
          short =
              (let m = h.many in omega arith);
          key = sym (level_key marks h.back mark) ∙ h.marked;
        };
        split = λ word mark is h. elim (below_or (length h.back) size h.short) [
          | inl b ↦ inl (record { back = h.back; parts = h.parts; short = b; key = h.key })
          | inr many ↦
              let small : number_of h.back < 2 ^ length h.back = number_of-lt h.back (word_back first h.back word h.parts is) in
              let same : 2 ^ length h.back ≡ words = ap (λ n. 2 ^ n) many ∙ sym power in
              inr (record { back = h.back; parts = h.parts; many = many; below = omega arith; marked = level_key marks h.back mark ∙ h.key })
        ];
      })

  pub short_all :
      (room words : ℕ) (old mid new : List ℕ) → IsWord first → length first + room ≡ 12 → words ≡ 2 ^ room → IsKeyTable marks
      → Gains old mid (IsShortBehind marks first (room + 1)) → Gains mid new (Behind marks 16384 first room false words)
      → Gains old new (IsKeyBehind marks first)
  short_all room words old mid new is_first full power table before starts =
      gains_then old mid new (IsShortBehind marks first (room + 1)) (Behind marks 16384 first room false words) (IsKeyBehind marks first) before starts
      (record {
        first = λ word mark is h.
            let short = h.short in
            record {
              back = h.back;
              mark = mark;
              is = record { bits = word_back first h.back word h.parts is; short = omega arith };
              key = h.key;
              left = kept (omega (arith, length-append first h.back)) h.parts refl;
            };
        second = λ word mark is h.
            let many = h.0.many in
            let s = (table.starts h.0.back (record { bits = word_back first h.0.back word h.0.parts is; short = omega arith })).0 h.0.marked in
            let left = whole_front first h.0.back (s.next ∷ s.back) (omega (arith, many)) in
            record {
              back = h.0.back ++ s.next ∷ s.back;
              mark = s.whole;
              is = s.word;
              key = s.key;
              left = cut (omega (
                arith,
                length-append first (h.0.back ++ s.next ∷ s.back),
                length-append h.0.back
                    (s.next ∷ s.back),
              )) (h.0.parts ∙ sym left) h.1;
            };
        split = λ word mark is h. which word mark is h.back h.mark h.is h.key h.left;
      })
    where
      whole_front : (a b c : List ℕ) → length a + length b ≡ 12 → take 12 (a ++ (b ++ c)) ≡ a ++ b
      whole_front a b c e =
          ap (λ l. take 12 l) (sym (append_assoc a b c))
          ∙ take-append-le 12 (a ++ b) c (omega (arith, length-append a b))
          ∙ take_all 12 (a ++ b) (omega (arith, length-append a b))

      which :
          (word : List ℕ) (mark : Bool) → IsWord word → (back : List ℕ) (whole : Bool) → IsWord back → IsTrue (has_key marks back whole)
          → Cut 12 (first ++ back) whole word mark → IsShortBehind marks first (room + 1) word mark ⊎ Behind marks 16384 first room false words word mark
      which word mark is back whole is_back key (kept short parts same) =
          inl (record { back = back; parts = parts; short = omega (arith, length-append first back); key = ap (λ m. has_key marks back m) same ∙ key })
      which word mark is back whole is_back key (cut long parts same) =
          let s = split_at room back (omega (arith, length-append first back)) in
          let front : word ≡ first ++ s.front = parts ∙ ap (λ l. take 12 (first ++ l)) s.parts
          ∙ whole_front first s.front (s.next ∷ s.back) (omega (arith, s.many)) in
          let bits : IsBits s.front = word_back first s.front word front is in
          let small : number_of s.front < 2 ^ length s.front = number_of-lt s.front bits in
          let sizes : 2 ^ length s.front ≡ words = ap (λ n. 2 ^ n) s.many ∙ sym power in
          let P : List ℕ → Type 0 = IsWord in
          let Q : List ℕ → Type 0 = λ l. IsTrue (has_key marks l whole) in
          let many = s.many in
          inr (
            record {
              back = s.front;
              parts = front;
              many = s.many;
              below = omega arith;
              marked = (table.starts s.front (record { bits = bits; short = omega arith })).1
                  (record {
                    next = s.next;
                    back = s.back;
                    whole = whole;
                    word = subst P s.parts is_back;
                    key =
                        subst Q s.parts key;
                  });
            },
            same,
          )

-- ---- the keys behind the whole keys of one size

pub room_after : (size words number : ℕ) → size ≤ 12 → words ≡ 2 ^ size → number < words → (words + number + 1) * 2 ^ (12 - size) ≤ 8192
room_after size words number few power small =
    let full : size + (12 - size) ≡ 12 = omega arith in
    let all : 2 ^ size * 2 ^ (12 - size) ≡ 4096 = sym (pow-add 2 size (12 - size)) ∙ ap (λ n. 2 ^ n) full in
    let product : 2 ^ (12 - size) * (words + number + 1) ≤ 2 ^ (12 - size) * (2 * words) = mul-le-mul_left (2 ^ (12 - size)) (omega arith) in
    together (2 ^ (12 - size)) (2 ^ size) words number all power product
  where
    together : (p q words number : ℕ) → q * p ≡ 4096 → words ≡ q → p * (words + number + 1) ≤ p * (2 * words) → (words + number + 1) * p ≤ 8192
    together p q words number all power product =
        let twice : p * (2 * words) ≡ 2 * (q * p) = ap (λ n. p * (2 * n)) power ∙ doubled p q in omega arith
      where
        doubled : (p q : ℕ) → p * (2 * q) ≡ 2 * (q * p)
        doubled p q = omega arith

module _ (first rest : List ℕ) (size : ℕ) where
  pub after_none : (old : List ℕ) → Gains old old (IsAfter first rest size 0)
  after_none old = gains_none old (IsAfter first rest size 0) (λ word mark is h. let b = h.below in omega arith)

  after_more : (number : ℕ) (word : List ℕ) (mark : Bool) → IsWord word → IsAfter first rest size number word mark
      → IsAfter first rest size (number + 1) word mark
  after_more number word mark is h =
      let b = h.below in
      record { front = h.front; is = h.is; many = h.many; below = omega arith; key = h.key; behind = h.behind }

  whole_mark : (words number : ℕ) (front : List ℕ) → words ≡ 2 ^ size → length front ≡ size → number_of front ≡ number → words + number ≡ place_of front
  whole_mark words number front power many writes =
      let same : 2 ^ length front ≡ words = ap (λ n. 2 ^ n) many ∙ sym power in omega arith

  pub after_skip :
      (old mid : List ℕ) (words number upto : ℕ) → words ≡ 2 ^ size → number ≤ upto
      → ((k : ℕ) → number ≤ k → k < upto → is_marked first (words + k) ≡ false)
      → Gains old mid (IsAfter first rest size number) → Gains old mid (IsAfter first rest size upto)
  after_skip old mid words number upto power further not e =
      gains_same old mid (IsAfter first rest size number) (IsAfter first rest size upto) e
      (λ word mark is h. let b = h.below in record { front = h.front; is = h.is; many = h.many; below = omega arith; key = h.key; behind = h.behind })
      (λ word mark is h. elim (cases_lt (number_of h.front) number) [
        | inl b ↦ record { front = h.front; is = h.is; many = h.many; below = b; key = h.key; behind = h.behind }
        | inr high ↦
            let k = number_of h.front in
            let unmarked = not k high h.below in
            let there : is_marked first (words + k) ≡ true = ap (λ n. is_marked first n) (whole_mark words k h.front power h.many refl) ∙ h.key in
            absurd (cc)
      ])

  pub after_next :
      (old mid new : List ℕ) (words number : ℕ) → size ≤ 12 → words ≡ 2 ^ size → number < words → is_marked first (words + number) ≡ true
      → ((word : List ℕ) → IsWord word → place_of word ≡ words + number → length word + (12 - size) ≡ 12 → Gains mid new (IsKeyBehind rest word))
      → Gains old mid (IsAfter first rest size number) → Gains old new (IsAfter first rest size (number + 1))
  after_next old mid new words number few power small marked adds e =
      let n = numbered size number (omega (arith, power)) in
      let many = n.many in
      let is_front : IsWord n.word = record { bits = n.bits; short = omega arith } in
      let place = whole_mark words number n.word power n.many n.writes in
      gains_then old mid new (IsAfter first rest size number) (IsKeyBehind rest n.word) (IsAfter first rest size (number + 1)) e
      (adds n.word is_front (sym place) (omega arith))
      (record {
        first = after_more number;
        second = λ word mark is h. record {
          front = n.word;
          is = is_front;
          many = n.many;
          below = (let w = n.writes in omega arith);
          key = ap (λ m. is_marked first m) (sym place) ∙ marked;
          behind = h;
        };
        split = λ word mark is h. elim (below_or (number_of h.front) number h.below) [
          | inl b ↦ inl (record { front = h.front; is = h.is; many = h.many; below = b; key = h.key; behind = h.behind })
          | inr writes ↦
              let equal : h.front ≡ n.word = number_of-same h.front n.word h.is.bits n.bits (h.many ∙ sym n.many) (writes ∙ sym n.writes) in
              let P : List ℕ → Type 0 = λ front. IsKeyBehind rest front word mark in
              inr (subst P equal h.behind)
        ];
      })

  -- the keys that begin with so many bits of the first part
  abbrev pub AtSize : List ℕ → Bool → Type 0
  AtSize word mark = (IsBehind first 8192 [] size (2 ^ size) word × (mark ≡ false)) ⊎ IsAfter first rest size (2 ^ size) word mark

  pub after_size :
      (old mid new : List ℕ) (words : ℕ) → words ≡ 2 ^ size → Gains old mid (Behind first 8192 [] size false words)
      → Gains mid new (IsAfter first rest size (2 ^ size)) → Gains old new AtSize
  after_size old mid new words power cuts wholes =
      let P : ℕ → Type 0 = λ limit. Gains old mid (Behind first 8192 [] size false limit) in
      gains_then old mid new (Behind first 8192 [] size false (2 ^ size)) (IsAfter first rest size (2 ^ size)) AtSize (subst P power cuts) wholes
      (record { first = λ word mark is h. inl h; second = λ word mark is h. inr h; split = λ word mark is h. h })

-- ---- the keys of the product

-- a key that begins with fewer bits of the first part than the limit
pub record AfterBelow (first : List ℕ) (rests : ℕ → List ℕ) (limit : ℕ) (word : List ℕ) (mark : Bool) : Type 0 where
  pub size : ℕ
  pub below : size < limit
  pub key : AtSize first (rests size) size word mark

module _ (first : List ℕ) (rests : ℕ → List ℕ) where
  pub below_none : (old : List ℕ) → Gains old old (AfterBelow first rests 0)
  below_none old = gains_none old (AfterBelow first rests 0) (λ word mark is h. let b = h.below in omega arith)

  pub below_next :
      (size : ℕ) (old mid new : List ℕ) → Gains old mid (AfterBelow first rests size) → Gains mid new (AtSize first (rests size) size)
      → Gains old new (AfterBelow first rests (size + 1))
  below_next size old mid new before level =
      gains_then old mid new (AfterBelow first rests size) (AtSize first (rests size) size) (AfterBelow first rests (size + 1)) before level
      (record {
        first = λ word mark is h. record { size = h.size; below = (let b = h.below in omega arith); key = h.key };
        second = λ word mark is h. record { size = size; below = omega arith; key = h };
        split = λ word mark is h. elim (below_or h.size size h.below) [
          | inl b ↦ inl (record { size = h.size; below = b; key = h.key })
          | inr same ↦ let P : ℕ → Type 0 = λ n. AtSize first (rests n) n word mark in inr (subst P same h.key)
        ];
      })

  pub below_all : (limit : ℕ) (old new : List ℕ) → limit ≡ 13 → Gains old new (AfterBelow first rests limit) → Gains old new (AfterKeys first rests)
  below_all limit old new all e = gains_same old new (AfterBelow first rests limit) (AfterKeys first rests) e
      (λ word mark is h. to word mark h.size h.key) from
    where
      to : (word : List ℕ) (mark : Bool) (size : ℕ) → AtSize first (rests size) size word mark → AfterKeys first rests word mark
      to word mark size (inl h) = after_cut (ap (λ w. has_key first w false) h.0.parts ∙ h.0.marked) h.1
      to word mark size (inr h) =
          let P : ℕ → Type 0 = λ n. IsTrue (has_key (rests n) h.behind.back h.behind.mark) in
          after_whole h.front h.behind.back h.behind.mark h.is h.key h.behind.is (subst P (sym h.many) h.behind.key) h.behind.left

      from : (word : List ℕ) (mark : Bool) → IsWord word → AfterKeys first rests word mark → AfterBelow first rests limit word mark
      from word mark is (after_cut key same) =
          let short = is.short in
          record {
            size = length word;
            below = omega arith;
            key =
                inl (
                  record { back = word; parts = refl; many = refl; below = number_of-lt word is.bits; marked = key },
                  same,
                );
          }
      from word mark is (after_whole front back whole is_front key is_back behind left) =
          let short = is_front.short in
          record {
            size = length front;
            below = omega arith;
            key = inr (record {
              front = front;
              is = is_front;
              many = refl;
              below =
                  number_of-lt front is_front.bits;
              key = key;
              behind = record {
                back = back;
                mark = whole;
                is =
                    is_back;
                key = behind;
                left = left;
              };
            });
          }

-- ---- all words of one size

module _ (size : ℕ) (whole : Bool) where
  abbrev pub OfSize : ℕ → List ℕ → Bool → Type 0
  OfSize limit word mark = (length word ≡ size) × (number_of word < limit) × (mark ≡ whole)

  pub of_size_none : (old : List ℕ) → Gains old old (OfSize 0)
  of_size_none old = gains_none old (OfSize 0) (λ word mark is h. let b = h.1 in omega arith)

  pub of_size_next :
      (old mid new : List ℕ) (words number : ℕ) → size ≤ 12 → words ≡ 2 ^ size → number < words
      → ((n : ℕ) → is_marked new n ≡ (nat_eq n (key_mark (words + number) whole) || is_marked mid n))
      → Gains old mid (OfSize number) → Gains old new (OfSize (number + 1))
  of_size_next old mid new words number few power small set e =
      let n = numbered size number (omega (arith, power)) in
      let many = n.many in
      let writes = n.writes in
      let word : IsWord n.word = record { bits = n.bits; short = omega arith } in
      let sizes : 2 ^ length n.word ≡ words = ap (λ m. 2 ^ m) n.many ∙ sym power in
      let place : words + number ≡ place_of n.word = omega arith in
      gains_then old mid new (OfSize number) (λ key mark. (key ≡ n.word) × (mark ≡ whole)) (OfSize (number + 1)) e
      (gains_key mid new n.word whole word (λ m. set m ∙ ap (λ p. nat_eq m (key_mark p whole) || is_marked mid m) place))
      (record {
        first = λ key mark word_k h. let b = h.1 in (h.0, omega arith, h.2);
        second = λ key mark word_k h.
            let wrote : number_of key ≡ number = ap number_of h.0 ∙ n.writes in
            (ap length h.0 ∙ n.many, omega arith, h.1);
        split = λ key mark word_k h. elim (below_or (number_of key) number h.1) [
          | inl b ↦ inl (h.0, b, h.2)
          | inr wrote ↦ inr (number_of-same key n.word word_k.bits n.bits (h.0 ∙ sym n.many) (wrote ∙ sym n.writes), h.2)
        ];
      })

  pub of_size_all :
      (old new : List ℕ) (words : ℕ) → words ≡ 2 ^ size → Gains old new (OfSize words)
      → Gains old new (λ word mark. (length word ≡ size) × (mark ≡ whole))
  of_size_all old new words power e =
      gains_same old new (OfSize words) (λ word mark. (length word ≡ size) × (mark ≡ whole)) e
      (λ word mark is h. (h.0, h.2))
      (λ word mark is h.
      let small : number_of word < 2 ^ length word = number_of-lt word is.bits in
      let sizes : 2 ^ length word ≡ words = ap (λ m. 2 ^ m) h.0 ∙ sym power in
      (h.0, omega arith, h.1))
