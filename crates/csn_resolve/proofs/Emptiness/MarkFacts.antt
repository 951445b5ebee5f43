-- Facts about rules that are marked as passing a test.
use Rattle.std.proofs.Common.{◌≡◌, ℕ, ◌+◌, Bool, true, false, ◌||◌, ◌&&◌, List, drop, slice_get, Some, refl, ◌∙◌, ap}
use Rattle.csn_desc.specs.declared.reading.Reading.{Reading}
use Rattle.csn_grammar.specs.ExprV.{ExprV, BranchV, branch, exprs_of, branches_of}
use Rattle.csn_resolve.specs.Tests.{is_void, some_void, all_void}
use Rattle.csn_resolve.proofs.Basics.Parts.{drop_at}

module _ (r : Reading) (h : List ℕ → Bool) where
  pub some-next :
      (xs : List ExprV) (at : ℕ) (x : ExprV) → slice_get xs at ≡ Some x → is_void r h x ≡ false
      → some_void r h (exprs_of (drop at xs)) ≡ some_void r h (exprs_of (drop (at + 1) xs))
  some-next xs at x here unlike =
      ap (λ l. some_void r h (exprs_of l)) (drop_at xs at x here) ∙ ap (λ b. b || some_void r h (exprs_of (drop (at + 1) xs))) unlike

  pub some-here :
      (xs : List ExprV) (at : ℕ) (x : ExprV) → slice_get xs at ≡ Some x → is_void r h x ≡ true
      → some_void r h (exprs_of (drop at xs)) ≡ true
  some-here xs at x here sure =
      ap (λ l. some_void r h (exprs_of l)) (drop_at xs at x here) ∙ ap (λ b. b || some_void r h (exprs_of (drop (at + 1) xs))) sure

  branch-passed :
      (error : Bool) (x : ExprV) (bs : List BranchV) → (error ≡ false → is_void r h x ≡ true)
      → all_void r h (branch error x (branches_of bs)) ≡ all_void r h (branches_of bs)
  branch-passed true x bs p = refl
  branch-passed false x bs p = ap (λ b. b && all_void r h (branches_of bs)) (p refl)

  pub all-next :
      (bs : List BranchV) (at : ℕ) (b : BranchV) → slice_get bs at ≡ Some b → (b.error ≡ false → is_void r h b.body ≡ true)
      → all_void r h (branches_of (drop at bs)) ≡ all_void r h (branches_of (drop (at + 1) bs))
  all-next bs at b here p =
      ap (λ l. all_void r h (branches_of l)) (drop_at bs at b here) ∙ branch-passed b.error b.body (drop (at + 1) bs) p

  branch-full :
      (error : Bool) (x : ExprV) (bs : List BranchV) → error ≡ false → is_void r h x ≡ false
      → all_void r h (branch error x (branches_of bs)) ≡ false
  branch-full true x bs p q = absurd (cc)
  branch-full false x bs p q = ap (λ b. b && all_void r h (branches_of bs)) q

  pub all-not :
      (bs : List BranchV) (at : ℕ) (b : BranchV) → slice_get bs at ≡ Some b → b.error ≡ false → is_void r h b.body ≡ false
      → all_void r h (branches_of (drop at bs)) ≡ false
  all-not bs at b here p q =
      ap (λ l. all_void r h (branches_of l)) (drop_at bs at b here) ∙ branch-full b.error b.body (drop (at + 1) bs) p q
