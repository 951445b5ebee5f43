-- How the entries of a choice are filled word by word.
use Rattle.std.proofs.Common.{◌≡◌, ℕ, zero, suc, ◌+◌, ◌-◌, ◌<◌, ◌≤◌, ◌⊎◌, inl, inr, List, [], ◌∷◌, ◌++◌, length, take}
use Rattle.std.proofs.Common.{drop, take-append-drop, refl, sym, ◌∙◌, ap, subst, arith, append_assoc, append-nil}
use Rattle.std.proofs.Common.{length-append}
use Rattle.std.specs.Prelude.{IsTrue}
use Rattle.std.proofs.lemmas.Bool.{cases_lt}
use Rattle.std.proofs.lemmas.List.{append_cancel_left, length-take-le}
use Rattle.csn_bits.specs.Octets.{IsBits}
use Rattle.csn_bits.proofs.Packing.{IsBits-append, IsBits-take}
use Rattle.csn_desc.proofs.BitFacts.{IsBits-along}
use Rattle.csn_look.specs.KeyMarks.{IsWord, has_key, IsKeyOf, BeginsWithKey, StartsKey}
use Rattle.csn_look.specs.Full.{IsFull}
use Rattle.csn_look.proofs.Basics.Places.{word_front}
use Rattle.csn_look.proofs.Tables.Products.{bits_back}
use Rattle.csn_claims.proofs.Pieces.{begun_both}
use Rattle.csn_certify.specs.declared.pick_table.Entry.{Entry}
use Rattle.csn_certify.specs.Conflicts.{IsBegunBy}
use Rattle.csn_certify.specs.PickTables.{entry_of}
use Rattle.csn_certify.specs.Filling.{IsFresh, IsDeep, IsFilled, with_key, with_full, with_none, IsTaken, FillsUnder, FillsAt}

-- ---- words that go on from a word

pub data GoesOn (word held : List ℕ) : Type 0 where
  no_more : held ≡ word → GoesOn word held
  by_zero : IsBegunBy held (word ++ 0 ∷ []) → GoesOn word held
  by_one : IsBegunBy held (word ++ 1 ∷ []) → GoesOn word held

pub goes_on : (word held : List ℕ) → IsWord held → IsBegunBy held word → GoesOn word held
goes_on word held is begun = by_rest begun.0 begun.1
  where
    by_bit : (bit : ℕ) (rest : List ℕ) → bit ≤ 1 → held ≡ word ++ bit ∷ rest → GoesOn word held
    by_bit zero rest small e = by_zero (rest, e ∙ sym (append_assoc word (0 ∷ []) rest))
    by_bit (suc zero) rest small e = by_one (rest, e ∙ sym (append_assoc word (1 ∷ []) rest))
    by_bit (suc (suc bit)) rest small e = absurd (omega (arith, small))

    by_rest : (rest : List ℕ) → held ≡ word ++ rest → GoesOn word held
    by_rest [] e = no_more (e ∙ append-nil word)
    by_rest (bit ∷ rest) e =
        let bits : IsBits (bit ∷ rest) = bits_back word (bit ∷ rest) (IsBits-along (sym e) is.bits) in
        by_bit bit rest bits.0 e

pub begun_itself : (word : List ℕ) → IsBegunBy word word
begun_itself word = ([], sym (append-nil word))

pub begun_before : (word held : List ℕ) (bit : ℕ) → IsBegunBy held (word ++ bit ∷ []) → IsBegunBy held word
begun_before word held bit begun = (bit ∷ begun.0, begun.1 ∙ append_assoc word (bit ∷ []) begun.0)

begun_longer : (word held : List ℕ) → IsBegunBy held word → length word ≤ length held
begun_longer word held begun = let size = ap length begun.1 in omega (arith, size, length-append word begun.0)

begun_more : (word held : List ℕ) (bit : ℕ) → IsBegunBy held (word ++ bit ∷ []) → length word < length held
begun_more word held bit begun =
    let more = begun_longer (word ++ bit ∷ []) held begun in omega (arith, more, length-append word (bit ∷ []))

-- nothing goes on by a 0 and by a 1
apart : (word held : List ℕ) → IsBegunBy held (word ++ 0 ∷ []) → IsBegunBy held (word ++ 1 ∷ []) → ⊥
apart word held zeros ones =
    let low : held ≡ word ++ (0 ∷ zeros.0) = zeros.1 ∙ append_assoc word (0 ∷ []) zeros.0 in
    let high : held ≡ word ++ (1 ∷ ones.0) = ones.1 ∙ append_assoc word (1 ∷ []) ones.0 in
    let same : word ++ (0 ∷ zeros.0) ≡ word ++ (1 ∷ ones.0) = sym low ∙ high in
    let tails : 0 ∷ zeros.0 ≡ 1 ∷ ones.0 = append_cancel_left word (0 ∷ zeros.0) (1 ∷ ones.0) same in
    cc

-- ---- keys and what goes on from a word

module _ (marks word held : List ℕ) (begun : IsBegunBy held word) where
  -- a key of the word is one of what goes on from it
  pub key_on : BeginsWithKey marks word → BeginsWithKey marks held
  key_on h =
      record {
        front = h.front;
        back = h.back ++ begun.0;
        parts = begun.1 ∙ ap (λ l. l ++ begun.0) h.parts ∙ append_assoc h.front h.back begun.0;
        whole = h.whole;
        key = h.key;
      }

  -- what begins a key is begun by what begins one
  starts_front : StartsKey marks held → StartsKey marks word
  starts_front h = by_rest begun.0 begun.1
    where
      by_rest : (rest : List ℕ) → held ≡ word ++ rest → StartsKey marks word
      by_rest [] e =
          let same : held ≡ word = e ∙ append-nil word in
          subst (λ (l : List ℕ). StartsKey marks l) same h
      by_rest (x ∷ rest) e =
          let long : held ++ h.next ∷ h.back ≡ word ++ x ∷ (rest ++ h.next ∷ h.back) = ap (λ l. l ++ h.next ∷ h.back)
          e ∙ append_assoc word (x ∷ rest) (h.next ∷ h.back) in
          record {
            next = x;
            back = rest ++ h.next ∷ h.back;
            whole = h.whole;
            word = subst (λ (l : List ℕ). IsWord l) long h.word;
            key = subst (λ (l : List ℕ). IsTrue (has_key marks l h.whole)) long h.key;
          }

  -- a key of what goes on from the word is one of the word, or goes on from it
  key_back : IsWord held → BeginsWithKey marks held → BeginsWithKey marks word ⊎ StartsKey marks word
  key_back is h = by_order (begun_both h.front h.back word begun.0 [] [] {b = held} {c = held} h.parts begun.1 refl)
    where
      front : IsWord h.front
      front = word_front h.front h.back (subst (λ (l : List ℕ). IsWord l) h.parts is)

      by_rest : (rest : List ℕ) → h.front ≡ word ++ rest → BeginsWithKey marks word ⊎ StartsKey marks word
      by_rest [] e =
          let same : h.front ≡ word = e ∙ append-nil word in
          inl (record { front = h.front; back = []; parts = sym same ∙ sym (append-nil h.front); whole = h.whole; key = h.key })
      by_rest (x ∷ rest) e =
          inr (record {
            next = x;
            back = rest;
            whole = h.whole;
            word = subst (λ (l : List ℕ). IsWord l) e front;
            key = subst (λ (l : List ℕ). IsTrue (has_key marks l h.whole)) e h.key;
          })

      by_order : IsBegunBy h.front word ⊎ IsBegunBy word h.front → BeginsWithKey marks word ⊎ StartsKey marks word
      by_order (inl long) = by_rest long.0 long.1
      by_order (inr short) = inl (record { front = h.front; back = short.0; parts = short.1; whole = h.whole; key = h.key })

-- ---- words that no key begins

pub fresh_empty : (marks word : List ℕ) → word ≡ [] → IsFresh marks word
fresh_empty marks word empty front back parts some key =
    let size = ap length empty in
    let both = ap length parts in
    omega (arith, size, both, length-append front back, some)

pub fresh_key : (marks word : List ℕ) → IsFresh marks word → ¬ IsKeyOf marks word → ¬ BeginsWithKey marks word
fresh_key marks word fresh none h = by_back h.back h.parts
  where
    by_back : (back : List ℕ) → word ≡ h.front ++ back → ⊥
    by_back [] parts =
        let same : word ≡ h.front = parts ∙ append-nil h.front in
        none (subst (λ (l : List ℕ). IsKeyOf marks l) (sym same) (h.whole, h.key))
    by_back (x ∷ back) parts = fresh h.front (x ∷ back) parts (omega arith) (h.whole, h.key)

pub begins_itself : (marks word : List ℕ) → IsKeyOf marks word → BeginsWithKey marks word
begins_itself marks word key = record { front = word; back = []; parts = sym (append-nil word); whole = key.0; key = key.1 }

pub fresh_behind : (marks word more : List ℕ) (bit : ℕ) → more ≡ word ++ bit ∷ [] → ¬ BeginsWithKey marks word → IsFresh marks more
fresh_behind marks word more bit is none front back parts some key =
    elim (begun_both front back word (bit ∷ []) [] [] {b = more} {c = more} parts is refl) [
      | inl long ↦ by_rest long.0 long.1
      | inr short ↦ none (record { front = front; back = short.0; parts = short.1; whole = key.0; key = key.1 })
    ]
  where
    by_rest : (rest : List ℕ) → front ≡ word ++ rest → ⊥
    by_rest [] e =
        let same : word ≡ front = sym (e ∙ append-nil word) in
        none (record { front = front; back = []; parts = same ∙ sym (append-nil front); whole = key.0; key = key.1 })
    by_rest (x ∷ rest) e =
        let long = ap length parts in
        let own = ap length is in
        let its = ap length e in
        absurd (omega (arith, long, own, its, length-append front back, length-append word (bit ∷ []), length-append word (x ∷ rest), some))

-- ---- words behind which all words of one size are keys

module _ (marks word held : List ℕ) (bits : ℕ) (is_word : IsWord held) (begun : IsBegunBy held word) (full : IsFull marks word bits) where
  rest_bits : IsBits begun.0
  rest_bits = bits_back word begun.0 (IsBits-along (sym begun.1) is_word.bits)

  size_of : length held ≡ length word + length begun.0
  size_of = ap length begun.1 ∙ length-append word begun.0

  on : (back : List ℕ) → held ++ back ≡ word ++ (begun.0 ++ back)
  on back = ap (λ l. l ++ back) begun.1 ∙ append_assoc word begun.0 back

  -- so it is with what goes on from them and is no longer
  pub full_on : length held ≤ bits → IsFull marks held bits
  full_on few = record {
    more = few;
    short = full.short;
    full = λ back is size. subst (λ (l : List ℕ). IsKeyOf marks l) (sym (on back))
        (full.full (begun.0 ++ back) (IsBits-append begun.0 back rest_bits is)
        (omega (arith, size, size_of, length-append begun.0 back)));
    none = λ back is size key. full.none (begun.0 ++ back) (IsBits-append begun.0 back rest_bits is)
        (omega (arith, size, size_of, length-append begun.0 back)) (subst (λ (l : List ℕ). IsKeyOf marks l) (on back)
        key);
  }

  -- what goes on from them and is no shorter begins with a key
  pub full_begins : bits ≤ length held → BeginsWithKey marks held
  full_begins many =
      let count = bits - length word in
      let front = take count begun.0 in
      let back = drop count begun.0 in
      let size : length front ≡ count = length-take-le count begun.0 (omega (arith, many, size_of)) in
      let key = full.full front (IsBits-take count begun.0 rest_bits) (omega (arith, size, full.more)) in
      record {
        front = word ++ front;
        back = back;
        parts = begun.1 ∙ ap (λ l. word ++ l) (sym (take-append-drop count begun.0)) ∙ sym (append_assoc word front back);
        whole = key.0;
        key = key.1;
      }

  -- and what is shorter with none, where the first ones begin with none
  pub full_fresh : ¬ BeginsWithKey marks word → length held < bits → ¬ BeginsWithKey marks held
  full_fresh none few h = by_order (begun_both h.front h.back word begun.0 [] [] {b = held} {c = held} h.parts begun.1 refl)
    where
      by_order : IsBegunBy h.front word ⊎ IsBegunBy word h.front → ⊥
      by_order (inl (rest, e)) =
          let front : IsWord h.front = word_front h.front h.back (subst (λ (l : List ℕ). IsWord l) h.parts is_word) in
          let size = ap length h.parts in
          let own = ap length e in
          full.none rest (bits_back word rest (IsBits-along (sym e) front.bits))
          (omega (arith, size, own, few, length-append h.front h.back, length-append word rest))
          (subst (λ (l : List ℕ). IsKeyOf marks l) e (h.whole, h.key))
      by_order (inr (rest, e)) = none (record { front = h.front; back = rest; parts = e; whole = h.whole; key = h.key })

-- ---- how many bits are looked at

module _ (marks word : List ℕ) where
  pub deep_at_key : (n : ℕ) → BeginsWithKey marks word → IsDeep marks word n
  deep_at_key n key held is begun long none = absurd (none (key_on marks word held begun key))

  pub deep_at_none : (n : ℕ) → ¬ StartsKey marks word → IsDeep marks word n
  deep_at_none n none held is begun long no_key start = absurd (none (starts_front marks word held begun start))

  pub deep_at_full : (bits n : ℕ) → IsFull marks word bits → IsDeep marks word n
  deep_at_full bits n full held is begun long no_key start = (bits, by (either bits (length held)))
    where
      either : (a b : ℕ) → (a ≤ b) ⊎ (b ≤ a)
      either a b = grind arith

      by : (bits ≤ length held) ⊎ (length held ≤ bits) → IsFull marks held bits
      by (inl many) = absurd (no_key (full_begins marks word held bits is begun full many))
      by (inr few) = full_on marks word held bits is begun full few

  pub deep_behind : (bit n : ℕ) (more : List ℕ) → more ≡ word ++ bit ∷ [] → IsDeep marks word n → IsDeep marks more n
  deep_behind bit n more same deep held is begun =
      deep held is (begun_before word held bit (subst (λ (l : List ℕ). IsBegunBy held l) same begun))

  pub deep_both : (a b n : ℕ) (low high : List ℕ) → low ≡ word ++ 0 ∷ [] → high ≡ word ++ 1 ∷ [] → IsDeep marks low a
      → IsDeep marks high b → length low ≤ a → a ≤ n → b ≤ n → IsDeep marks word n
  deep_both a b n low high is_low is_high deep_low deep_high more a_most b_most held is begun long none =
      elim (goes_on word held is begun) [
        | no_more same ↦
            let size = ap length same in
            let size_low = ap length is_low in
            absurd (omega (arith, size, size_low, length-append word (0 ∷ []), more, a_most, long))
        | by_zero further ↦ deep_low held is (subst (λ (l : List ℕ). IsBegunBy held l) (sym is_low) further) (omega (arith, a_most, long)) none
        | by_one further ↦ deep_high held is (subst (λ (l : List ℕ). IsBegunBy held l) (sym is_high) further) (omega (arith, b_most, long)) none
      ]

  -- where the word only begins a key, and not all words of one size behind it are keys, more bits are looked at
  pub deep_room : (n : ℕ) → IsWord word → IsDeep marks word n → ¬ BeginsWithKey marks word → StartsKey marks word
      → ((bits : ℕ) → ¬ IsFull marks word bits) → length word < n
  deep_room n is deep none start part = by_order (cases_lt (length word) n)
    where
      by_order : (length word < n) ⊎ (n ≤ length word) → length word < n
      by_order (inl less) = less
      by_order (inr long) = let full = deep word is (begun_itself word) long none start in absurd (part full.0 full.1)

-- ---- filling

module _ (word : List ℕ) (width : ℕ) (R : List ℕ → Entry → Entry → Type 0) (is_word : IsWord word) (within : length word ≤ width) where
  -- the word alone, where no longer one has an entry
  pub fills_last : (entry : Entry) (old new : List Entry) → width ≤ length word → R word (entry_of old word) entry
      → FillsAt word width entry old new → FillsUnder word width R old new
  fills_last entry old new full here put held is short = (
    (λ begun. elim (goes_on word held is begun) [
      | no_more same ↦ subst (λ (l : List ℕ). R l (entry_of old l) (entry_of new l)) (sym same)
          (subst (λ (e : Entry). R word (entry_of old word) e) (sym put.here) here)
      | by_zero further ↦ let more = begun_more word held 0 further in absurd (omega arith)
      | by_one further ↦ let more = begun_more word held 1 further in absurd (omega arith)
    ]),
    (λ never. put.others held is short (λ same. never (subst (λ (l : List ℕ). IsBegunBy held l) same (begun_itself held)))),
  )

  -- the word, and then what goes on by a 0, and by a 1
  pub fills_both : (entry : Entry) (low high : List ℕ) (old a b new : List Entry)
      → low ≡ word ++ 0 ∷ [] → high ≡ word ++ 1 ∷ [] → R word (entry_of old word) entry
      → FillsAt word width entry old a → FillsUnder low width R a b → FillsUnder high width R b new
      → FillsUnder word width R old new
  fills_both entry low high old a b new is_low is_high here put zeros ones held is short = (
    (λ begun. elim (goes_on word held is begun) [
      | no_more same ↦ subst (λ (l : List ℕ). R l (entry_of old l) (entry_of new l)) (sym same)
          (subst (λ (e : Entry). R word (entry_of old word) e) (sym kept_here) here)
      | by_zero further ↦
          let first : entry_of a held ≡ entry_of old held = put.others held is short (λ same. let more =
          begun_more word held 0 further in let size = ap length same in absurd (omega arith)) in
          let last : entry_of new held ≡ entry_of b held =
          (ones held is short).1
          (λ other. apart word held further (subst (λ (l : List ℕ). IsBegunBy held l) is_high other)) in
          let made = (zeros held is short).0 (subst (λ (l : List ℕ). IsBegunBy held l) (sym is_low) further) in
          subst (λ (e : Entry). R held e (entry_of new held)) first (subst (λ (e : Entry). R held (entry_of a held) e) (sym last) made)
      | by_one further ↦
          let first : entry_of a held ≡ entry_of old held = put.others held is short (λ same. let more =
          begun_more word held 1 further in let size = ap length same in absurd (omega arith)) in
          let mid : entry_of b held ≡ entry_of a held =
          (zeros held is short).1
          (λ other. apart word held (subst (λ (l : List ℕ). IsBegunBy held l) is_low other) further) in
          let made = (ones held is short).0 (subst (λ (l : List ℕ). IsBegunBy held l) (sym is_high) further) in
          subst (λ (e : Entry). R held e (entry_of new held)) (mid ∙ first) made
    ]),
    (λ never.
        let first : entry_of a held ≡ entry_of old held =
        put.others held is short
        (λ same. never (subst (λ (l : List ℕ). IsBegunBy held l) same (begun_itself held))) in
        let mid : entry_of b held ≡ entry_of a held =
        (zeros held is short).1
        (λ other. never (begun_before word held 0 (subst (λ (l : List ℕ). IsBegunBy held l) is_low other))) in
        let last : entry_of new held ≡ entry_of b held =
        (ones held is short).1
        (λ other. never (begun_before word held 1 (subst (λ (l : List ℕ). IsBegunBy held l) is_high other))) in
        last ∙ mid ∙ first),
  )
    where
      not_begun : (bit : ℕ) (more : List ℕ) → more ≡ word ++ bit ∷ [] → IsBegunBy word more → ⊥
      not_begun bit more same begun =
          let long = begun_more word word bit (subst (λ (l : List ℕ). IsBegunBy word l) same begun) in absurd (omega arith)

      kept_here : entry_of new word ≡ entry
      kept_here = (ones word is_word within).1 (not_begun 1 high is_high) ∙ (zeros word is_word within).1 (not_begun 0 low is_low) ∙ put.here

module _ (marks : List ℕ) (j : ℕ) (word : List ℕ) (width : ℕ) where
  pub filled_none : (entries : List Entry) → ¬ BeginsWithKey marks word → ¬ StartsKey marks word → FillsUnder word width (IsFilled marks j) entries entries
  filled_none entries no_key no_start held is short = (
    (λ begun.
        with_none
        (λ key. elim (key_back marks word held begun is key) [ inl here ↦ no_key here | inr start ↦ no_start start ])
        (λ start. no_start (starts_front marks word held begun start))
        refl),
    (λ never. refl),
  )

  pub filled_key : (bits : ℕ) (old new : List Entry) → bits ≡ length word → BeginsWithKey marks word
      → FillsUnder word width (IsTaken j bits) old new → FillsUnder word width (IsFilled marks j) old new
  filled_key bits old new size key taken held is short = (
    (λ begun.
        let longer = begun_longer word held begun in
        with_key bits (key_on marks word held begun key) (omega (arith, size, longer)) ((taken held is short).0 begun)),
    (taken held is short).1,
  )

  pub filled_full : (bits : ℕ) (old new : List Entry) → ¬ BeginsWithKey marks word → IsFull marks word bits
      → FillsUnder word width (IsTaken j bits) old new → FillsUnder word width (IsFilled marks j) old new
  filled_full bits old new none full taken held is short = (
    (λ begun. by (either bits (length held)) begun),
    (taken held is short).1,
  )
    where
      either : (a b : ℕ) → (a ≤ b) ⊎ (b < a)
      either a b = grind arith

      by : (bits ≤ length held) ⊎ (length held < bits) → IsBegunBy held word → IsFilled marks j held (entry_of old held) (entry_of new held)
      by (inl many) begun = with_key bits (full_begins marks word held bits is begun full many) many ((taken held is short).0 begun)
      by (inr few) begun = with_full bits (full_fresh marks word held bits is begun full none few)
          (full_on marks word held bits is begun full (omega (arith, few))) ((taken held is short).0 begun)
