-- How held bits stand to the alternatives of a choice: to one by its table of keys, and to all of them, one after
-- another; and what look-ahead then answers.
use Rattle.std.proofs.Common.{◌≡◌, ℕ, ◌+◌, ◌≤◌, ◌⊎◌, inl, inr, Bool, true, false, List, [], ◌∷◌, ◌++◌, length, refl}
use Rattle.std.proofs.Common.{sym, ◌∙◌, ap, subst, arith, length-append, append-nil, Option, Some, None, slice_get}
use Rattle.std.specs.Prelude.{IsTrue}
use Rattle.std.proofs.lemmas.Option.{slice_get_within}
use Rattle.csn_desc.specs.declared.node.Node.TheVariants.{Null}
use Rattle.csn_desc.specs.Nodes.{DescV}
use Rattle.csn_look.specs.declared.key_table.Begins.{Begins}
use Rattle.csn_look.specs.declared.key_table.Begins.TheVariants as answer
use Rattle.csn_look.specs.Keys.{InKeys, NodeKeys, keys_null}
use Rattle.csn_look.specs.KeyMarks as marks
use Rattle.csn_look.proofs.Meaning.LeastSets.{as_keys}
use Rattle.csn_look.proofs.Basics.Places.{word_front}
use Rattle.csn_look.proofs.Tables.KeyWords.{key_word}
use Rattle.csn_certify.specs.Conflicts.{IsNull}
use Rattle.csn_certify.specs.Picks.{BeginsWithKey, BeginsKey}
use Rattle.csn_certify.specs.Choosing.{IsNone, BeginsKeyOf, StandsTo, AreWithoutKey}

module _ (d : DescV) where
  -- the keys of a node without bits are empty
  pub null_key : {i o : ℕ} {w : List ℕ} {mark : Bool} → IsNull d i → InKeys d 12 i o w mark → w ≡ []
  null_key {o = o} {w = w} {mark = mark} at h = of_null (as_keys at h)
    where
      of_null : NodeKeys d 12 Null o w mark → w ≡ []
      of_null (keys_null none is_whole) = none

module _ (d : DescV) (parts : List ℕ) (octet : ℕ) (held : List ℕ) where
  -- ---- one alternative

  pub is_none : {j part : ℕ} → slice_get parts j ≡ Some part → IsNull d part → IsNone d parts j
  is_none {part = part} at null = record { part = part; is_part = at; is_null = null }

  pub not_none : {j part : ℕ} → slice_get parts j ≡ Some part → (IsNull d part → ⊥) → IsNone d parts j → ⊥
  not_none {part = part} at real h =
      let same : h.part ≡ part = cc in
      let P : ℕ → Type 0 = λ p. IsNull d p in
      real (subst P same h.is_null)

  module _ (j part : ℕ) (table : List ℕ) (at : slice_get parts j ≡ Some part) (are : marks.KeysAre table (InKeys d 12 part octet)) where
    pub with_key : (IsNull d part → ⊥) → marks.IsWord held → marks.BeginsWithKey table held → BeginsWithKey d 12 parts octet held j
    with_key real word h =
        let P : List ℕ → Type 0 = λ l. marks.IsWord l in
        let front = word_front h.front h.back (subst P h.parts word) in
        record {
          own = record { part = part; word = h.front; mark = h.whole; is_part = at; key = (are h.front h.whole front).0 h.key };
          takes_bits = real;
          begins = (h.back, h.parts);
        }

    pub no_key_of : (marks.BeginsWithKey table held → ⊥) → BeginsWithKey d 12 parts octet held j → ⊥
    no_key_of absent h =
        let is_part = h.is_part in
        let same : h.part ≡ part = cc in
        let P : ℕ → Type 0 = λ p. InKeys d 12 p octet h.word h.mark in
        let key = subst P same h.key in
        absent (record { front = h.word; back = h.begins.0; parts = h.begins.1; whole = h.mark; key = (are h.word h.mark (key_word d key)).1 key })

    pub begins_key : marks.StartsKey table held → BeginsKeyOf d parts octet held j
    begins_key h =
        let longer = length-append held (h.next ∷ h.back) in
        record {
          key =
              record {
                j = j;
                own = record {
                  part = part;
                  word = held ++ h.next ∷ h.back;
                  mark = h.whole;
                  is_part = at;
                  key =
                      (are (held ++ h.next ∷ h.back) h.whole h.word).0 h.key;
                };
                begins = (h.next ∷ h.back, refl);
                not_all = omega (arith, longer);
              };
          its = refl;
        }

    pub starts_key : BeginsKeyOf d parts octet held j → marks.StartsKey table held
    starts_key h = by_rest h.key.begins.0 h.key.begins.1
      where
        by_rest : (rest : List ℕ) → h.key.word ≡ held ++ rest → marks.StartsKey table held
        by_rest [] is =
            let size : length h.key.word ≡ length held = ap length (is ∙ append-nil held) in
            let more = h.key.not_all in
            absurd (omega arith)
        by_rest (x ∷ back) is =
            let is_part = h.key.is_part in
            let its = h.its in
            let same : h.key.part ≡ part = cc in
            let P : ℕ → Type 0 = λ p. InKeys d 12 p octet h.key.word h.key.mark in
            let Q : List ℕ → Type 0 = λ l. InKeys d 12 part octet l h.key.mark in
            let key = subst Q is (subst P same h.key.key) in
            let word = key_word d key in
            record { next = x; back = back; whole = h.key.mark; word = word; key = (are (held ++ x ∷ back) h.key.mark word).1 key }

    pub begins_none : (marks.StartsKey table held → ⊥) → BeginsKeyOf d parts octet held j → ⊥
    begins_none absent h = absent (starts_key h)

    -- what the table tells of the held bits
    pub standing : (told : Begins) → (IsNull d part → ⊥) → marks.IsWord held → marks.IsBeginning told table held → StandsTo d parts octet held j (Some told)
    standing answer.Key real word h = with_key real word h
    standing answer.Proper real word h = (not_none at real, no_key_of h.0, begins_key h.1)
    standing answer.Neither real word h = (not_none at real, no_key_of h.0, begins_none h.1)

  -- ---- the first few alternatives

  -- the held bits begin with no key of the first `count` alternatives; `none` is one that takes no bits, where
  -- there is one among them, and `begun` says whether the bits are the beginning of a key
  pub record Among (count : ℕ) (none : Option ℕ) (begun : Bool) : Type 0 where
    pub no_key : (j : ℕ) → BeginsWithKey d 12 parts octet held j → count ≤ j
    pub is_none : (j : ℕ) → none ≡ Some j → IsNone d parts j
    pub no_none : none ≡ None → (j : ℕ) → IsNone d parts j → count ≤ j
    pub begins : begun ≡ true → BeginsKey d 12 parts octet held
    pub begins_not : begun ≡ false → (j : ℕ) → BeginsKeyOf d parts octet held j → count ≤ j

  pub among_first : Among 0 None false
  among_first =
      record {
        no_key = λ j h. omega arith;
        is_none = λ j is. absurd (cc);
        no_none = λ is j h. omega arith;
        begins = λ is. absurd (cc);
        begins_not = λ is j h. omega arith;
      }

  -- the fact of a later alternative, since this one has it not
  pub later : {count j : ℕ} (P : ℕ → Type 0) → (P count → ⊥) → P j → count ≤ j → count + 1 ≤ j
  later {count} {j} P never h low = by_order (either count j low)
    where
      either : (m n : ℕ) → m ≤ n → (n ≡ m) ⊎ (m + 1 ≤ n)
      either m n le = grind arith

      by_order : (j ≡ count) ⊎ (count + 1 ≤ j) → count + 1 ≤ j
      by_order (inl same) = absurd (never (subst P same h))
      by_order (inr more) = more

  no_key_of_none : {j : ℕ} → IsNone d parts j → BeginsWithKey d 12 parts octet held j → ⊥
  no_key_of_none none h = not_none h.is_part h.takes_bits none

  pub begins_none_of_none : {j : ℕ} → IsNone d parts j → BeginsKeyOf d parts octet held j → ⊥
  begins_none_of_none none h =
      let is_part = h.key.is_part in
      let part = none.is_part in
      let its = h.its in
      let same : none.part ≡ h.key.part = cc in
      let P : ℕ → Type 0 = λ p. IsNull d p in
      let size = ap length (null_key d (subst P same none.is_null) h.key.key) in
      let more = h.key.not_all in
      omega arith

  pub among_is : {count : ℕ} {m n : Option ℕ} {b e : Bool} → m ≡ n → e ≡ b → Among count n b → Among count m e
  among_is {count} {m} {b = b} same equal among =
      let P : Option ℕ → Type 0 = λ x. Among count x b in
      let Q : Bool → Type 0 = λ x. Among count m x in
      subst Q (sym equal) (subst P (sym same) among)

  module _ {count : ℕ} {none : Option ℕ} {begun : Bool} (among : Among count none begun) where
    -- one more that takes no bits
    pub among_none : IsNone d parts count → Among (count + 1) (Some count) begun
    among_none here =
        let P : ℕ → Type 0 = λ j. BeginsWithKey d 12 parts octet held j in
        let Q : ℕ → Type 0 = λ j. BeginsKeyOf d parts octet held j in
        let R : ℕ → Type 0 = λ j. IsNone d parts j in
        record {
          no_key = λ j h. later P (no_key_of_none here) h (among.no_key j h);
          is_none = λ j is. let same : count ≡ j = cc in subst R same here;
          no_none = λ is j h. absurd (cc);
          begins = among.begins;
          begins_not = λ is j h. later Q (begins_none_of_none here) h (among.begins_not is j h);
        }

    -- one more of which the held bits are the beginning of a key
    pub among_begun : (IsNone d parts count → ⊥) → (BeginsWithKey d 12 parts octet held count → ⊥)
        → BeginsKeyOf d parts octet held count → Among (count + 1) none true
    among_begun real absent here =
        let P : ℕ → Type 0 = λ j. BeginsWithKey d 12 parts octet held j in
        let R : ℕ → Type 0 = λ j. IsNone d parts j in
        record {
          no_key = λ j h. later P absent h (among.no_key j h);
          is_none = among.is_none;
          no_none = λ is j h. later R real h (among.no_none is j h);
          begins = λ is. here.key;
          begins_not = λ is j h. absurd (cc);
        }

    -- one more of which they are neither
    pub among_neither : (IsNone d parts count → ⊥) → (BeginsWithKey d 12 parts octet held count → ⊥)
        → (BeginsKeyOf d parts octet held count → ⊥) → Among (count + 1) none begun
    among_neither real absent never =
        let P : ℕ → Type 0 = λ j. BeginsWithKey d 12 parts octet held j in
        let Q : ℕ → Type 0 = λ j. BeginsKeyOf d parts octet held j in
        let R : ℕ → Type 0 = λ j. IsNone d parts j in
        record {
          no_key = λ j h. later P absent h (among.no_key j h);
          is_none = among.is_none;
          no_none = λ is j h. later R real h (among.no_none is j h);
          begins = among.begins;
          begins_not = λ is j h. later Q never h (among.begins_not is j h);
        }

    -- and so of all
    pub among_all : length parts ≤ count → AreWithoutKey d parts octet held none begun
    among_all all =
        record {
          no_key = λ j h.
              let inside = slice_get_within parts j h.part h.is_part in
              let low = among.no_key j h in
              absurd (omega arith);
          is_none = among.is_none;
          no_none = λ is j h.
              let inside = slice_get_within parts j h.part h.is_part in
              let low = among.no_none is j h in
              absurd (omega arith);
          begins = (among.begins, λ h. by_begun begun refl h);
        }
      where
        by_begun : (b : Bool) → begun ≡ b → BeginsKey d 12 parts octet held → IsTrue begun
        by_begun true is h = is
        by_begun false is h =
            let inside = slice_get_within parts h.j h.part h.is_part in
            let low = among.begins_not is h.j (record { key = h; its = refl }) in
            absurd (omega arith)
