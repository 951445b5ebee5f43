-- Counts, by the numbers that are kept of labelled fields.
use Rattle.std.proofs.Common.{◌≡◌, ℕ, ◌+◌, ◌*◌, ◌<◌, ◌≤◌, ◌==◌, Bool, true, false, if◌then◌else◌, eqb-true, List, []}
use Rattle.std.proofs.Common.{◌∷◌, ◌++◌, length, length-append, reverse, refl, sym, ◌∙◌, ap, subst, arith, Some}
use Rattle.std.specs.Prelude.{IsTrue, count_by, cond}
use Rattle.std.specs.Option.{option_map}
use Rattle.std.proofs.lemmas.List.{reverse-append}
use Rattle.csn_bits.specs.Numbers.{number_of}
use Rattle.csn_desc.specs.declared.node.Count.{Count}
use Rattle.csn_desc.specs.declared.node.Count.TheVariants.{Fixed, Counted}
use Rattle.csn_desc.specs.Nodes.{DescV}
use Rattle.csn_desc.specs.Values.{Values, value_of, count_of}
use Rattle.csn_desc.specs.Formed.{is_counted, Formed, formed}
use Rattle.csn_certify.specs.declared.numbers.Number.{Number}
use Rattle.csn_certify.specs.CountedValues.{fields_of, HasNumber}
use Rattle.csn_certify.specs.KeptNumbers.{value_in, numbers_of, KeepsCount}
use Rattle.csn_certify.proofs.CountedValues.{count_more}

module _ (d : DescV) where
  -- of a field that counts stand on the number is kept
  pub kept_number : (field : ℕ) → is_counted d.nodes field ≡ true → (v : Values) → value_in field (reverse (numbers_of d v)) ≡ value_of v field
  kept_number field counted [] = refl
  kept_number field counted (last ∷ earlier) = by (kept_number field counted earlier) (is_counted d.nodes last.0) refl
    where
      here : Number
      here = record { field = last.0; value = number_of last.1 }

      by : value_in field (reverse (numbers_of d earlier)) ≡ value_of earlier field → (kept : Bool)
          → is_counted d.nodes last.0 ≡ kept → value_in field (reverse (numbers_of d (last ∷ earlier))) ≡ value_of
          (last ∷ earlier) field
      by before true is =
          let all : numbers_of d (last ∷ earlier) ≡ numbers_of d earlier ++ here ∷ [] =
          ap (λ b. if b then numbers_of d earlier ++ here ∷ [] else numbers_of d earlier) is in
          ap (λ l. value_in field (reverse l)) all ∙ ap (λ l. value_in field l) (reverse-append (numbers_of d earlier) (here ∷ []))
          ∙ ap (λ n. if last.0 == field then Some (number_of last.1) else n) before
      by before false is =
          let all : numbers_of d (last ∷ earlier) ≡ numbers_of d earlier =
          ap (λ b. if b then numbers_of d earlier ++ here ∷ [] else numbers_of d earlier) is in
          ap (λ l. value_in field (reverse l)) all ∙ before ∙ other (last.0 == field) refl
        where
          other : (same : Bool) → (last.0 == field) ≡ same → value_of earlier field ≡ value_of (last ∷ earlier) field
          other true e =
              let one : last.0 ≡ field = eqb-true last.0 field e in
              let no : true ≡ false = sym counted ∙ ap (λ n. is_counted d.nodes n) (sym one) ∙ is in
              absurd (cc)
          other false e = sym (ap (λ b. if b then Some (number_of last.1) else value_of earlier field) e)

  -- what is known of a count on a field
  pub record OnField (numbers : List Number) (v : Values) (field c : ℕ) : Type 0 where
    pub number : ℕ
    pub small : number < 65536
    pub more : c ≤ 65535
    pub found : value_in field (reverse numbers) ≡ Some number
    pub is : value_of v field ≡ Some number
    pub counted : is_counted d.nodes field ≡ true

  pub on_field : (numbers : List Number) (v : Values) (count : Count) (m field c : ℕ)
      → count ≡ Counted m field c → KeepsCount d v numbers count → OnField numbers v field c
  on_field numbers v count m field c is keeps =
      let P : Count → Type 0 = λ k. HasNumber d v k in
      by (subst P is keeps.has)
    where
      by : HasNumber d v (Counted m field c) → OnField numbers v field c
      by here =
          record {
            number = here.2;
            small = here.4;
            more = here.1;
            found = ap (λ l. value_in field (reverse l)) keeps.kept ∙ kept_number field here.0 v ∙ here.3;
            is = here.3;
            counted = here.0;
          }

  -- the number that is kept is that of all values of which these numbers are kept
  pub count_same : (numbers : List Number) (v seen : Values) (count : Count) (m field c number sum : ℕ)
      → count ≡ Counted m field c → KeepsCount d v numbers count
      → numbers ≡ numbers_of d seen → value_in field (reverse numbers) ≡ Some number → sum ≡ m * number + c → count_of seen count ≡ Some sum
  count_same numbers v seen count m field c number sum is keeps kept found all =
      let on = on_field numbers v count m field c is keeps in
      ap (λ k. count_of seen k) is
      ∙ ap (λ n. option_map (λ value. m * value + c) n) (sym (ap (λ l. value_in field (reverse l)) kept ∙ kept_number field on.counted seen) ∙ found)
      ∙ ap (λ n. Some n) (sym all)

  pub fixed_small : (v : Values) (numbers : List Number) (count : Count) (n : ℕ) → count ≡ Fixed n → KeepsCount d v numbers count → n ≤ 65536
  fixed_small v numbers count n is keeps = let P : Count → Type 0 = λ k. HasNumber d v k in subst P is keeps.has

  -- ---- how many numbers are kept

  pub length_kept : (v : Values) → length (numbers_of d v) ≡ count_by (is_counted d.nodes) (fields_of v)
  length_kept [] = refl
  length_kept (last ∷ earlier) = by (is_counted d.nodes last.0) refl (length_kept earlier)
    where
      kept_if : (counted : Bool) → List Number
      kept_if counted = if counted then numbers_of d earlier ++ record { field = last.0; value = number_of last.1 } ∷ [] else numbers_of d earlier

      sum : (counted : Bool) → length (numbers_of d earlier) ≡ count_by (is_counted d.nodes) (fields_of earlier)
          → length (kept_if counted) ≡ cond counted 1 0 + count_by (is_counted d.nodes) (fields_of earlier)
      sum true so_far = omega (arith, so_far, length-append (numbers_of d earlier) (record { field = last.0; value = number_of last.1 } ∷ []))
      sum false so_far = omega (arith, so_far)

      by : (counted : Bool) → is_counted d.nodes last.0 ≡ counted → length (numbers_of d earlier) ≡ count_by (is_counted d.nodes) (fields_of earlier)
          → length (numbers_of d (last ∷ earlier)) ≡ count_by (is_counted d.nodes) (fields_of (last ∷ earlier))
      by counted e so_far =
          ap (λ b. length (kept_if b)) e ∙ sum counted so_far ∙ ap (λ b. cond b 1 0 + count_by (is_counted d.nodes) (fields_of earlier)) (sym e)
          ∙ sym (count_more (is_counted d.nodes) last.0 (fields_of earlier))

  -- a counted part finds room for its number
  pub number_room : {i round : ℕ} (v : Values) → Formed d.nodes (fields_of v) round i → IsTrue (is_counted d.nodes i) → length (numbers_of d v) < 64
  number_room v (formed n at few head have room parts) counted = let less = room counted in omega (arith, less, length_kept v)
