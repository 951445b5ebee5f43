-- Fields that counts stand on, and the numbers that are kept of them.
use Rattle.std.proofs.Common.{◌≡◌, ℕ, ◌+◌, ◌*◌, ◌<◌, ◌≤◌, Bool, true, false, if◌then◌else◌, List, [], ◌∷◌, ◌++◌}
use Rattle.std.proofs.Common.{length, refl, ap, arith, Option, Some, None, slice_get}
use Rattle.std.specs.Option.{option_map, option_and_then}
use Rattle.csn_bits.specs.Numbers.{number_of}
use Rattle.csn_desc.specs.declared.node.Count.{Count}
use Rattle.csn_desc.specs.declared.node.Count.TheVariants.{Fixed, Counted}
use Rattle.csn_desc.specs.declared.node.Node.{Node}
use Rattle.csn_desc.specs.declared.node.Node.TheVariants.{Lits, Spare, Pad, Null, Field, Rest, Seq, Choice, Times, Many, Trunc, Window, Named}
use Rattle.csn_desc.specs.Nodes.{DescV}
use Rattle.csn_desc.specs.TreeV.{TreeV}
use Rattle.csn_desc.specs.Values.{Values, count_of, is_named, is_labelled, with_value}
use Rattle.csn_desc.specs.Means.{NMeans}
use Rattle.csn_desc.specs.Formed.{is_counted, value_width, width_of, labelled_part, Formed, formed, IsDescription}
use Rattle.csn_desc.proofs.NumberFacts.{value_has_width}
use Rattle.csn_certify.specs.declared.numbers.Number.{Number}
use Rattle.csn_certify.specs.CountedValues.{HasNumber}
use Rattle.csn_certify.specs.KeptNumbers.{numbers_of}
use Rattle.csn_certify.proofs.CountedValues.{FewBits, few_bits}

module _ (d : DescV) where
  -- ---- a count of a node is a number

  -- there is such a number
  pub number_there : (v : Values) (count : Count) → HasNumber d v count → (n : ℕ) × (count_of v count ≡ Some n)
  number_there v (Fixed n) has = (n, refl)
  number_there v (Counted m field c) has = (m * has.2 + c, ap (λ n. option_map (λ value. m * value + c) n) has.3)

-- ---- a labelled field that counts stand on

labelled_named : (node : Option Node) (nodes : List Node)
    → FewBits (option_and_then (λ part. width_of (slice_get nodes part)) (labelled_part node))
    → is_labelled node ≡ true
labelled_named None nodes few = absurd few
labelled_named (Some (Named label part)) nodes few = refl
labelled_named (Some (Lits run)) nodes few = absurd few
labelled_named (Some (Spare symbol)) nodes few = absurd few
labelled_named (Some Pad) nodes few = absurd few
labelled_named (Some Null) nodes few = absurd few
labelled_named (Some (Field unit count)) nodes few = absurd few
labelled_named (Some Rest) nodes few = absurd few
labelled_named (Some (Seq parts)) nodes few = absurd few
labelled_named (Some (Choice parts)) nodes few = absurd few
labelled_named (Some (Times count part)) nodes few = absurd few
labelled_named (Some (Many part)) nodes few = absurd few
labelled_named (Some (Trunc parts)) nodes few = absurd few
labelled_named (Some (Window unit count part)) nodes few = absurd few

module _ (d : DescV) where
  -- it has up to 16 bits
  pub counted_few : {i o : ℕ} {v : Values} {b : List ℕ} {t : TreeV} → IsDescription d → is_counted d.nodes i ≡ true → NMeans d i o v b t → length b ≤ 16
  counted_few {i = i} {b = b} is counted h = by (value_width d.nodes i) refl (few_bits d is i counted)
    where
      by : (width : Option ℕ) → value_width d.nodes i ≡ width → FewBits width → length b ≤ 16
      by None e few = absurd few
      by (Some w) e few = let wide = value_has_width d w e h in omega (arith, wide, few.1)

  -- and a label
  pub counted_named : IsDescription d → (i : ℕ) → is_counted d.nodes i ≡ true → is_named d.nodes i ≡ true
  counted_named is i counted = labelled_named (slice_get d.nodes i) d.nodes (few_bits d is i counted)

  -- what is kept behind a part
  pub numbers_behind : IsDescription d → (i : ℕ) (b : List ℕ) (v : Values)
      → numbers_of d (with_value d.nodes i b v) ≡ (if is_counted d.nodes i then numbers_of d v ++ record {
        field =
            i;
        value = number_of b;
      } ∷ [] else numbers_of d v)
  numbers_behind is i b v = by (is_counted d.nodes i) refl (is_named d.nodes i) refl
    where
      more : List Number
      more = numbers_of d v ++ record { field = i; value = number_of b } ∷ []

      by : (counted : Bool) → is_counted d.nodes i ≡ counted → (named : Bool) → is_named d.nodes i ≡ named
          → numbers_of d (if named then (i, b) ∷ v else v) ≡ (if counted then more else numbers_of d v)
      by counted e true f = ap (λ c. if c then more else numbers_of d v) e
      by true e false f = let no = counted_named is i e in absurd (cc)
      by false e false f = refl

  pub formed_few : {i round : ℕ} {seen : List ℕ} → Formed d.nodes seen round i → round < 64
  formed_few (formed n at few head have room parts) = few
