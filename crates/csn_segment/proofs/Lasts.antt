-- The last element of a list that passes a test.
use Rattle.std.proofs.Common.{◌≡◌, Bool, true, false, cond, List, [], ◌∷◌, ◌++◌, reverse, find, filter, Option, Some, None, refl, sym, ap, ◌∙◌}
use Rattle.std.specs.Option.{option_or}
use Rattle.std.proofs.lemmas.List.{reverse-append}
use Rattle.std.proofs.lemmas.List.Folds.{find-append}

module _ {X : Type 0} (p : X → Bool) where
  -- it is the new element, or the last one before
  pub last-append : (xs : List X) (x : X) → find p (reverse (xs ++ x ∷ [])) ≡ cond (p x) (Some x) (find p (reverse xs))
  last-append xs x = ap (find p) (reverse-append xs (x ∷ []))

  last-cons : (x : X) (xs : List X) → find p (reverse (x ∷ xs)) ≡ option_or (find p (reverse xs)) (cond (p x) (Some x) None)
  last-cons x xs = ap (find p) (reverse-append (x ∷ []) xs) ∙ find-append p (reverse xs) (x ∷ [])

  or_none : (o : Option X) → option_or o None ≡ o
  or_none None = refl
  or_none (Some x) = refl

  at_kept : (b : Bool) (x : X) (xs : List X) → p x ≡ b → find p (reverse (cond b (x ∷ xs) xs)) ≡ option_or (find p (reverse xs)) (cond b (Some x) None)
  at_kept true x xs e = last-cons x xs ∙ ap (λ b. option_or (find p (reverse xs)) (cond b (Some x) None)) e
  at_kept false x xs e = sym (or_none (find p (reverse xs)))

  -- those that fail the test may be left out
  pub last-filter : (xs : List X) → find p (reverse (filter p xs)) ≡ find p (reverse xs)
  last-filter [] = refl
  last-filter (x ∷ xs) =
      at_kept (p x) x (filter p xs) refl ∙ ap (λ o. option_or o (cond (p x) (Some x) None)) (last-filter xs) ∙ sym (last-cons x xs)
