-- The keys of nodes by the sets of keys of their parts.
use Rattle.std.proofs.Common.{◌≡◌, ℕ, zero, suc, ◌+◌, ◌%◌, ◌≤◌, Bool, true, false, List, ◌∷◌, length, ◌↔◌, refl, sym, subst, arith}
use Rattle.csn_desc.specs.Nodes.{DescV}
use Rattle.csn_look.specs.Keys.{InKeys, PartsKeys, TimesKeys, parts_cut, parts_whole, times_none, times_cut, times_whole}
use Rattle.csn_look.specs.KeyMarks.{IsWord, KeysAre}
use Rattle.csn_look.specs.KeyProducts.{AfterKeys, after_cut, after_whole}
use Rattle.csn_look.proofs.Tables.KeyWords.{key_word, parts_word, times_word}

module _ (d : DescV) where
  -- ---- one part after another

  module _ (i o : ℕ) (first : List ℕ) (rests : ℕ → List ℕ) where
    pub after_is_parts :
        (parts : List ℕ) → KeysAre first (InKeys d 12 i o) → ((size : ℕ) → KeysAre (rests size) (PartsKeys d 12 parts ((o + size) % 8)))
        → (word : List ℕ) (mark : Bool) → IsWord word → AfterKeys first rests word mark ↔ PartsKeys d 12 (i ∷ parts) o word mark
    after_is_parts parts one more word mark is = (to word mark is, from word mark is)
      where
        to : (word : List ℕ) (mark : Bool) → IsWord word → AfterKeys first rests word mark → PartsKeys d 12 (i ∷ parts) o word mark
        to word mark is (after_cut key same) = parts_cut ((one word false is).0 key) same
        to word mark is (after_whole front back rest is_front key is_back behind left) =
            parts_whole front back rest ((one front true is_front).0 key) ((more (length front) back rest is_back).0 behind) left

        from : (word : List ℕ) (mark : Bool) → IsWord word → PartsKeys d 12 (i ∷ parts) o word mark → AfterKeys first rests word mark
        from word mark is (parts_cut h same) = after_cut ((one word false is).1 h) same
        from word mark is (parts_whole front back rest h hs left) =
            after_whole front back rest (key_word d h) ((one front true (key_word d h)).1 h) (parts_word d hs)
            ((more (length front) back rest (parts_word d hs)).1 hs) left

    pub after_is_times :
        (n : ℕ) → KeysAre first (InKeys d 12 i o) → ((size : ℕ) → KeysAre (rests size) (TimesKeys d 12 n i ((o + size) % 8)))
        → (word : List ℕ) (mark : Bool) → IsWord word → AfterKeys first rests word mark ↔ TimesKeys d 12 (suc n) i o word mark
    after_is_times n one more word mark is = (to word mark is, from word mark is)
      where
        to : (word : List ℕ) (mark : Bool) → IsWord word → AfterKeys first rests word mark → TimesKeys d 12 (suc n) i o word mark
        to word mark is (after_cut key same) = times_cut n refl ((one word false is).0 key) same
        to word mark is (after_whole front back rest is_front key is_back behind left) =
            times_whole n refl front back rest ((one front true is_front).0 key) ((more (length front) back rest is_back).0 behind) left

        from : (word : List ℕ) (mark : Bool) → IsWord word → TimesKeys d 12 (suc n) i o word mark → AfterKeys first rests word mark
        from word mark is (times_none e f m) = absurd (omega (arith, e))
        from word mark is (times_cut m e h same) = after_cut ((one word false is).1 h) same
        from word mark is (times_whole m e front back rest h hs left) =
            let same : m ≡ n = omega (arith, e) in
            let P : ℕ → Type 0 = λ k. TimesKeys d 12 k i ((o + length front) % 8) back rest in
            let hn = subst P same hs in
            after_whole front back rest (key_word d h) ((one front true (key_word d h)).1 h) (times_word d hs)
            ((more (length front) back rest (times_word d hs)).1 hn) left

  -- ---- one more repetition that gives no new key means that none does

  -- one more repetition gives the same keys
  abbrev pub IsStable : ℕ → ℕ → Type 0
  IsStable i n = (o : ℕ) (word : List ℕ) (mark : Bool) → o ≤ 7 → TimesKeys d 12 n i o word mark ↔ TimesKeys d 12 (suc n) i o word mark

  stable_next : (i n : ℕ) → IsStable i n → IsStable i (suc n)
  stable_next i n stable = λ o word mark low. (up o word mark, down o word mark)
    where
      up : (o : ℕ) (word : List ℕ) (mark : Bool) → TimesKeys d 12 (suc n) i o word mark → TimesKeys d 12 (suc (suc n)) i o word mark
      up o word mark (times_none e f m) = absurd (omega (arith, e))
      up o word mark (times_cut m e h same) = times_cut (suc n) refl h same
      up o word mark (times_whole m e front back rest h hs left) =
          let same : m ≡ n = omega (arith, e) in
          let P : ℕ → Type 0 = λ k. TimesKeys d 12 k i ((o + length front) % 8) back rest in
          times_whole (suc n) refl front back rest h ((stable ((o + length front) % 8) back rest (omega arith)).0 (subst P same hs)) left

      down : (o : ℕ) (word : List ℕ) (mark : Bool) → TimesKeys d 12 (suc (suc n)) i o word mark → TimesKeys d 12 (suc n) i o word mark
      down o word mark (times_none e f m) = absurd (omega (arith, e))
      down o word mark (times_cut m e h same) = times_cut n refl h same
      down o word mark (times_whole m e front back rest h hs left) =
          let same : m ≡ suc n = omega (arith, e) in
          let P : ℕ → Type 0 = λ k. TimesKeys d 12 k i ((o + length front) % 8) back rest in
          times_whole n refl front back rest h ((stable ((o + length front) % 8) back rest (omega arith)).1 (subst P same hs)) left

  pub stable_for_ever : (i n more : ℕ) → IsStable i n → (o : ℕ) (word : List ℕ) (mark : Bool)
      → o ≤ 7 → TimesKeys d 12 (more + n) i o word mark ↔ TimesKeys d 12 n i o word mark
  stable_for_ever i n zero stable o word mark low =
      let none : 0 + n ≡ n = omega arith in
      let P : ℕ → Type 0 = λ k. TimesKeys d 12 k i o word mark ↔ TimesKeys d 12 n i o word mark in
      subst P (sym none) (λ h. h, λ h. h)
  stable_for_ever i n (suc more) stable o word mark low =
      let earlier = stable_for_ever i n more stable o word mark low in
      let step = always i n more stable o word mark low in
      let next : suc more + n ≡ suc (more + n) = omega arith in
      let P : ℕ → Type 0 = λ k. TimesKeys d 12 k i o word mark ↔ TimesKeys d 12 n i o word mark in
      subst P (sym next) (λ h. earlier.0 (step.1 h), λ h. step.0 (earlier.1 h))
    where
      always : (i n more : ℕ) → IsStable i n → IsStable i (more + n)
      always i n zero s = let none : 0 + n ≡ n = omega arith in let P : ℕ → Type 0 = IsStable i in subst P (sym none) s
      always i n (suc more) s =
          let next : suc more + n ≡ suc (more + n) = omega arith in
          let P : ℕ → Type 0 = IsStable i in
          subst P (sym next) (stable_next i (more + n) (always i n more s))
