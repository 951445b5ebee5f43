-- The one alternative that is kept, found by going through all.
use Rattle.std.proofs.Common.{◌≡◌, true, false, List, [], ◌∷◌, refl, sym, ◌∙◌, ap, Option, Some, None}
use Rattle.std.specs.Prelude.{is_some}
use Rattle.std.specs.Option.{option_copied}
use Rattle.std.specs.Borrow.{Bor}
use Rattle.csn_desc.specs.declared.reading.Reading.{Reading}
use Rattle.csn_grammar.specs.ExprV.{ExprV, BranchV, branches_of}
use Rattle.csn_grammar.specs.RulesV.{RulesV}
use Rattle.csn_grammar.specs.Void.{Kept}
use Rattle.csn_resolve.specs.Made.{IsKept, only}
use Rattle.csn_resolve.proofs.Giving.BuildFacts.{kept-as, kept-first, not-kept, none-left}

-- the alternatives that were found kept, and those that are still to come
abbrev pub before : Option (Bor ExprV) → List ExprV → List ExprV
before None xs = xs
before (Some x) xs = x.now ∷ xs

module _ (rules : RulesV) (r : Reading) where
  pub record OnlyAfter (bs rest : List BranchV) (found : Option (Bor ExprV)) : Type 0 where
    pub all : (xs : List ExprV) → Kept rules r (branches_of bs) xs → (ys : List ExprV) × Kept rules r (branches_of rest) ys × (xs ≡ before found ys)

  pub only-begin : (bs : List BranchV) → OnlyAfter bs bs None
  only-begin bs = record { all = λ xs kept. (xs, kept, refl) }

  pub only-next :
      (bs : List BranchV) {left rest : List BranchV} {b : BranchV} (x : Bor ExprV) → left ≡ b ∷ rest → IsKept rules r b → x.now ≡ b.body
      → OnlyAfter bs left None → OnlyAfter bs rest (Some x)
  only-next bs {rest = rest} x are is body h =
      record {
        all = λ xs kept.
            let there = h.all xs kept in
            let first = kept-first rules r rest is.plain is.full (kept-as rules r are there.1) in
            (first.0, first.2, there.2 ∙ (first.1 ∙ ap (λ z. z ∷ first.0) (sym body)));
      }

  pub only-past :
      (bs : List BranchV) {left rest : List BranchV} {b : BranchV} {found : Option (Bor ExprV)} → left ≡ b ∷ rest → ¬ IsKept rules r b
      → OnlyAfter bs left found → OnlyAfter bs rest found
  only-past bs {rest = rest} are not h =
      record { all = λ xs kept. let there = h.all xs kept in (there.0, not-kept rules r rest not (kept-as rules r are there.1), there.2) }

  -- a second one
  pub only-two :
      (bs : List BranchV) {left rest : List BranchV} {b : BranchV} (x : Bor ExprV) → left ≡ b ∷ rest → IsKept rules r b
      → OnlyAfter bs left (Some x) → (xs : List ExprV) → Kept rules r (branches_of bs) xs → None ≡ only xs
  only-two bs {rest = rest} x are is h xs kept =
      let there = h.all xs kept in
      let first = kept-first rules r rest is.plain is.full (kept-as rules r are there.1) in
      sym (ap only (there.2 ∙ ap (λ l. x.now ∷ l) first.1))

  pub only-one :
      (bs : List BranchV) {left : List BranchV} (x : Bor ExprV) → left ≡ []
      → OnlyAfter bs left (Some x) → (xs : List ExprV) → Kept rules r (branches_of bs) xs → Some x.now ≡ only xs
  only-one bs x none h xs kept =
      let there = h.all xs kept in sym (ap only (there.2 ∙ ap (λ l. x.now ∷ l) (none-left rules r none there.1)))

  pub only-none :
      (bs : List BranchV) {left : List BranchV} → left ≡ []
      → OnlyAfter bs left None → (xs : List ExprV) → Kept rules r (branches_of bs) xs → None ≡ only xs
  only-none bs none h xs kept =
      let there = h.all xs kept in sym (ap only (there.2 ∙ none-left rules r none there.1))

  pub only-second :
      (bs : List BranchV) (found : Option (Bor ExprV)) {left rest : List BranchV} {b : BranchV} → true ≡ is_some found → left ≡ b ∷ rest → IsKept rules r b
      → OnlyAfter bs left found → (xs : List ExprV) → Kept rules r (branches_of bs) xs → None ≡ only xs
  only-second bs None some are is h = absurd (cc)
  only-second bs (Some x) some are is h = only-two bs x are is h

  pub only-first :
      (bs : List BranchV) (found : Option (Bor ExprV)) {left rest : List BranchV} {b : BranchV} (x : Bor ExprV) → false ≡ is_some found
      → left ≡ b ∷ rest → IsKept rules r b → x.now ≡ b.body → OnlyAfter bs left found → OnlyAfter bs rest (Some x)
  only-first bs None x none are is body h = only-next bs x are is body h
  only-first bs (Some y) x none are is body h = absurd (cc)

  pub only-all :
      (bs : List BranchV) (found : Option (Bor ExprV)) {left : List BranchV} → left ≡ []
      → OnlyAfter bs left found → (xs : List ExprV) → Kept rules r (branches_of bs) xs → option_copied found ≡ only xs
  only-all bs None none h = only-none bs none h
  only-all bs (Some x) none h = only-one bs x none h
