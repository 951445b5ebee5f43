-- Values that are seen are there and fit the widths of their fields, also behind a labelled part.
use Rattle.std.proofs.Common.{◌≡◌, ℕ, zero, suc, ◌^◌, ◌<◌, ◌==◌, ◌⊎◌, Bool, true, false, if◌then◌else◌, List, [], ◌∷◌}
use Rattle.std.proofs.Common.{length, refl, ◌∙◌, ap, subst, arith, inl, inr, Some, eqb-true, Contains}
use Rattle.std.specs.Prelude.{IsSome}
use Rattle.std.specs.List.{slice_index_or}
use Rattle.csn_desc.specs.declared.node.Node.{Node}
use Rattle.csn_desc.specs.TreeV.{TreeV}
use Rattle.csn_desc.specs.Nodes.{DescV}
use Rattle.csn_bits.specs.Numbers.{number_of}
use Rattle.csn_desc.specs.Values.{Values, value_of, is_named, with_value}
use Rattle.csn_desc.specs.Means.{NMeans}
use Rattle.csn_desc.specs.Formed.{value_width, with_seen, HaveValues, FitWidths}
use Rattle.csn_desc.proofs.NumberFacts.{value_has_width}
use Rattle.csn_desc.proofs.MeantBits.{meant_bits}
use Rattle.csn_bits.proofs.NumberFacts.{number_of-lt}

-- ---- they are there

contains_cases : (y : ℕ) (xs : List ℕ) (x : ℕ) → Contains (y ∷ xs) x → (y ≡ x) ⊎ Contains xs x
contains_cases y xs x h = at h.0 h.1 h.2
  where
    at : (k : ℕ) → k < length (y ∷ xs) → slice_index_or (y ∷ xs) k x ≡ x → (y ≡ x) ⊎ Contains xs x
    at zero less is = inl is
    at (suc k) less is = inr (k, omega arith, is)

module _ (nodes : List Node) where
  -- a labelled part that is seen has its value behind it
  pub values_kept : (i : ℕ) (b : List ℕ) (v : Values) (seen : List ℕ) → HaveValues v seen → HaveValues (with_value nodes i b v) (with_seen nodes true i seen)
  values_kept i b v seen values = kept (is_named nodes i)
    where
      found : (field : ℕ) (same : Bool) → (i == field) ≡ same → (i ≡ field) ⊎ IsSome (value_of v field)
          → IsSome (if same then Some (number_of b) else value_of v field)
      found field true is h = refl
      found field false is (inl same) = absurd (grind (arith, is, same))
      found field false is (inr h) = h

      later : (field : ℕ) → (i ≡ field) ⊎ Contains seen field → (i ≡ field) ⊎ IsSome (value_of v field)
      later field (inl same) = inl same
      later field (inr h) = inr (values field h)

      kept : (labelled : Bool) → HaveValues (if labelled then (i, b) ∷ v else v) (if labelled then i ∷ seen else seen)
      kept true field h = found field (i == field) refl (later field (contains_cases i seen field h))
      kept false field h = values field h

-- ---- they fit

pub no_values_fit : (d : DescV) → FitWidths d []
no_values_fit d = record { fit = λ field value width at is. absurd (cc) }

module _ (d : DescV) where
  fits_width : {i o : ℕ} {v : Values} {b : List ℕ} {t : TreeV} (width : ℕ) → value_width d.nodes i ≡ Some width → NMeans d i o v b t → number_of b < 2 ^ width
  fits_width {b = b} width is h =
      let wide = value_has_width d width is h in
      let P : ℕ → Type 0 = λ w. number_of b < 2 ^ w in
      subst P wide (number_of-lt b (meant_bits d h))

  -- behind a labelled part too
  pub fits_kept : {i o : ℕ} {v : Values} {b : List ℕ} {t : TreeV} → FitWidths d v → NMeans d i o v b t → FitWidths d (with_value d.nodes i b v)
  fits_kept {i = i} {v = v} {b = b} widths h = record { fit = λ field value width. behind field value width (is_named d.nodes i) }
    where
      first : (field value width : ℕ) (same : Bool)
          → (i == field) ≡ same → (if same then Some (number_of b) else value_of v field) ≡ Some value
          → value_width d.nodes field ≡ Some width → value < 2 ^ width
      first field value width true same at is =
          let here : number_of b ≡ value = cc in
          let field_is : i ≡ field = eqb-true i field same in
          let wide : value_width d.nodes i ≡ Some width = ap (λ k. value_width d.nodes k) field_is ∙ is in
          let small = fits_width width wide h in
          rw (← here) small
      first field value width false same at is = widths.fit field value width at is

      behind : (field value width : ℕ) (labelled : Bool)
          → value_of (if labelled then (i, b) ∷ v else v) field ≡ Some value → value_width d.nodes field ≡ Some width
          → value < 2 ^ width
      behind field value width true at is = first field value width (i == field) refl at is
      behind field value width false at is = widths.fit field value width at is
