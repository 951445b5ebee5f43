-- Facts about rules in tail form.
use Rattle.std.proofs.Common.{◌≡◌, ℕ, ◌-◌, ◌≤◌, ◌<◌, Bool, true, false, List, [], ◌∷◌, length, take, slice_get, Some, None, Option, refl, sym, ◌∙◌, ap, arith}
use Rattle.std.specs.Prelude.{if◌then◌else◌}
use Rattle.std.specs.Option.{option_map, option_or}
use Rattle.csn_grammar.specs.ExprV.{ExprV, BranchV, expr, name, group, seq, choice, item, no_item, branch, no_branch, exprs_of, branches_of}
use Rattle.csn_grammar.specs.Names.{same_name}
use Rattle.csn_grammar.specs.TailForm.{WordV, word_of, again_of, end_with, end_of, last_item, front_items, tail_of_body}
use Rattle.csn_resolve.specs.Views.{name_in}

-- the word of an item that the name stands behind
abbrev pub again_by : List ℕ → ExprV → Option (List ℕ) → Option WordV
again_by n x None = None
again_by n x (Some m) = if same_name m n then word_of x else None

again-two : (n : List ℕ) (s e : ℕ) (x y : ExprV) → again_of n (expr s e (seq (item x (item y no_item)))) ≡ again_by n x (name_in y)
again-two n s e x (expr a b (name m)) = refl
again-two n s e x (expr a b f) = refl

pub again-none : (n : List ℕ) (s e : ℕ) (xs : List ExprV) → (length xs ≡ 2 → ⊥) → again_of n (expr s e (seq (exprs_of xs))) ≡ None
again-none n s e [] other = refl
again-none n s e (x ∷ []) other = refl
again-none n s e (x ∷ y ∷ []) other = absurd (other refl)
again-none n s e (x ∷ expr a b (name m) ∷ z ∷ zs) other = refl
again-none n s e (x ∷ expr a b f ∷ z ∷ zs) other = refl

-- a list of two
pub two : {A : Type 0} (xs : List A) (y : A) → length xs ≡ 2 → slice_get xs 1 ≡ Some y → (x : A) × (slice_get xs 0 ≡ Some x) × (xs ≡ x ∷ y ∷ [])
two [] y p q = absurd (cc)
two (x ∷ []) y p q = absurd (cc)
two (x ∷ z ∷ []) y p q = let same : z ≡ y = cc in (x, refl, ap (λ w. x ∷ w ∷ []) same)
two (x ∷ z ∷ u ∷ zs) y p q = absurd (omega (arith, p))

pub again-is :
    (n : List ℕ) (s e : ℕ) (xs : List ExprV) (x y : ExprV) → length xs ≡ 2 → slice_get xs 0 ≡ Some x → slice_get xs 1 ≡ Some y
    → again_of n (expr s e (seq (exprs_of xs))) ≡ again_by n x (name_in y)
again-is n s e xs x y long at_0 at_1 =
    let both = two xs y long at_1 in
    let same : both.0 ≡ x = cc in
    ap (λ l. again_of n (expr s e (seq (exprs_of l)))) both.2 ∙ (again-two n s e both.0 y ∙ ap (λ z. again_by n z (name_in y)) same)

pub again-nameless :
    (n : List ℕ) (s e : ℕ) (xs : List ExprV) (y : ExprV) → length xs ≡ 2 → slice_get xs 1 ≡ Some y → name_in y ≡ None
    → again_of n (expr s e (seq (exprs_of xs))) ≡ None
again-nameless n s e xs y long at_1 none =
    let both = two xs y long at_1 in again-is n s e xs both.0 y long both.1 at_1 ∙ ap (again_by n both.0) none

pub again-other :
    (n m : List ℕ) (s e : ℕ) (xs : List ExprV) (y : ExprV) → length xs ≡ 2 → slice_get xs 1 ≡ Some y → name_in y ≡ Some m
    → same_name m n ≡ false → again_of n (expr s e (seq (exprs_of xs))) ≡ None
again-other n m s e xs y long at_1 is unlike =
    let both = two xs y long at_1 in
    again-is n s e xs both.0 y long both.1 at_1 ∙ (ap (again_by n both.0) is ∙ ap (λ b. if b then word_of both.0 else None) unlike)

pub again-word :
    (n m : List ℕ) (s e : ℕ) (xs : List ExprV) (x y : ExprV) → length xs ≡ 2 → slice_get xs 0 ≡ Some x → slice_get xs 1 ≡ Some y
    → name_in y ≡ Some m → same_name m n ≡ true → again_of n (expr s e (seq (exprs_of xs))) ≡ word_of x
again-word n m s e xs x y long at_0 at_1 is sure =
    again-is n s e xs x y long at_0 at_1 ∙ (ap (again_by n x) is ∙ ap (λ b. if b then word_of x else None) sure)

-- ---- braces round two alternatives

end-two :
    (n : List ℕ) (s e a b : ℕ) (c d : Bool) (x y : ExprV)
    → end_of n (expr s e (group (expr a b (choice (branch c x (branch d y no_branch))))))
    ≡ (if c then None else (if d then None else option_or (end_with s (again_of n y) (word_of x)) (end_with s (again_of n x) (word_of y))))
end-two n s e a b true d x y = refl
end-two n s e a b false true x y = refl
end-two n s e a b false false x y = refl

end-one : (n : List ℕ) (s e a b : ℕ) (c : Bool) (x : ExprV) → end_of n (expr s e (group (expr a b (choice (branch c x no_branch))))) ≡ None
end-one n s e a b true x = refl
end-one n s e a b false x = refl

end-many :
    (n : List ℕ) (s e a b : ℕ) (c d f : Bool) (x y z : ExprV) (bs : List BranchV)
    → end_of n (expr s e (group (expr a b (choice (branch c x (branch d y (branch f z (branches_of bs)))))))) ≡ None
end-many n s e a b true d f x y z bs = refl
end-many n s e a b false true f x y z bs = refl
end-many n s e a b false false f x y z bs = refl

pub end-none : (n : List ℕ) (s e a b : ℕ) (bs : List BranchV) → (length bs ≡ 2 → ⊥) → end_of n (expr s e (group (expr a b (choice (branches_of bs))))) ≡ None
end-none n s e a b [] other = refl
end-none n s e a b (x ∷ []) other = end-one n s e a b x.error x.body
end-none n s e a b (x ∷ y ∷ []) other = absurd (other refl)
end-none n s e a b (x ∷ y ∷ z ∷ bs) other = end-many n s e a b x.error y.error z.error x.body y.body z.body bs

pub end-is :
    (n : List ℕ) (s e a b : ℕ) (bs : List BranchV) (x y : BranchV) → length bs ≡ 2 → slice_get bs 0 ≡ Some x → slice_get bs 1 ≡ Some y
    → end_of n (expr s e (group (expr a b (choice (branches_of bs)))))
    ≡ (if x.error then None else
    (if y.error then None else option_or (end_with s (again_of n y.body) (word_of x.body))
    (end_with s (again_of n x.body) (word_of y.body))))
end-is n s e a b bs x y long at_0 at_1 =
    let both = two bs y long at_1 in
    let same : both.0 ≡ x = cc in
    ap (λ l. end_of n (expr s e (group (expr a b (choice (branches_of l)))))) both.2
    ∙ (end-two n s e a b both.0.error y.error both.0.body y.body
    ∙ ap (λ (z : BranchV). if z.error then None else
    (if y.error then None else option_or (end_with s (again_of n y.body) (word_of z.body))
    (end_with s (again_of n z.body) (word_of y.body)))) same)

pub end-left-error :
    (n : List ℕ) (s e a b : ℕ) (bs : List BranchV) (x y : BranchV) → length bs ≡ 2 → slice_get bs 0 ≡ Some x → slice_get bs 1 ≡ Some y
    → x.error ≡ true → end_of n (expr s e (group (expr a b (choice (branches_of bs))))) ≡ None
end-left-error n s e a b bs x y long at_0 at_1 error =
    end-is n s e a b bs x y long at_0 at_1
    ∙ ap (λ z. if z then None else
    (if y.error then None else option_or (end_with s (again_of n y.body) (word_of x.body))
    (end_with s (again_of n x.body) (word_of y.body)))) error

pub end-right-error :
    (n : List ℕ) (s e a b : ℕ) (bs : List BranchV) (x y : BranchV) → length bs ≡ 2 → slice_get bs 0 ≡ Some x → slice_get bs 1 ≡ Some y
    → x.error ≡ false → y.error ≡ true → end_of n (expr s e (group (expr a b (choice (branches_of bs))))) ≡ None
end-right-error n s e a b bs x y long at_0 at_1 plain error =
    end-is n s e a b bs x y long at_0 at_1
    ∙ (ap (λ z. if z then None else
    (if y.error then None else option_or (end_with s (again_of n y.body) (word_of x.body))
    (end_with s (again_of n x.body) (word_of y.body)))) plain
    ∙ ap (λ z. if z then None else option_or (end_with s (again_of n y.body) (word_of x.body)) (end_with s (again_of n x.body) (word_of y.body))) error)

pub end-sides :
    (n : List ℕ) (s e a b : ℕ) (bs : List BranchV) (x y : BranchV) → length bs ≡ 2 → slice_get bs 0 ≡ Some x → slice_get bs 1 ≡ Some y
    → x.error ≡ false → y.error ≡ false → end_of n (expr s e (group (expr a b (choice (branches_of bs)))))
    ≡ option_or (end_with s (again_of n y.body) (word_of x.body)) (end_with s (again_of n x.body) (word_of y.body))
end-sides n s e a b bs x y long at_0 at_1 plain other =
    end-is n s e a b bs x y long at_0 at_1
    ∙ (ap (λ z. if z then None else
    (if y.error then None else option_or (end_with s (again_of n y.body) (word_of x.body))
    (end_with s (again_of n x.body) (word_of y.body)))) plain
    ∙ ap (λ z. if z then None else option_or (end_with s (again_of n y.body) (word_of x.body)) (end_with s (again_of n x.body) (word_of y.body))) other)

-- ---- the last item, and those before it

last-is : (x : ExprV) (xs : List ExprV) (z : ExprV) → slice_get (x ∷ xs) (length xs) ≡ Some z → last_item x (exprs_of xs) ≡ z
last-is x [] z p = cc
last-is x (y ∷ xs) z p = last-is y xs z p

front-is : (x : ExprV) (xs : List ExprV) → front_items x (exprs_of xs) ≡ exprs_of (take (length xs) (x ∷ xs))
front-is x [] = refl
front-is x (y ∷ xs) = ap (item x) (front-is y xs)

pub tail-short : (n : List ℕ) (s e : ℕ) (xs : List ExprV) → length xs < 2 → tail_of_body n (expr s e (seq (exprs_of xs))) ≡ None
tail-short n s e [] few = refl
tail-short n s e (x ∷ []) few = refl
tail-short n s e (x ∷ y ∷ xs) few = absurd (omega (arith, few))

pub tail-is :
    (n : List ℕ) (s e : ℕ) (xs : List ExprV) (count : ℕ) (z : ExprV) → 2 ≤ length xs → count ≡ length xs - 1 → slice_get xs count ≡ Some z
    → tail_of_body n (expr s e (seq (exprs_of xs))) ≡ option_map (λ end. record { items = exprs_of (take count xs); end = end }) (end_of n z)
tail-is n s e [] count z long is at = absurd (omega (arith, long))
tail-is n s e (x ∷ []) count z long is at = absurd (omega (arith, long))
tail-is n s e (x ∷ y ∷ xs) count z long is at =
    let same : count ≡ length (y ∷ xs) = omega (arith, is) in
    let here : slice_get (x ∷ y ∷ xs) (length (y ∷ xs)) ≡ Some z = ap (slice_get (x ∷ y ∷ xs)) (sym same) ∙ at in
    let last : last_item y (exprs_of xs) ≡ z = last-is x (y ∷ xs) z here in
    let front : front_items x (item y (exprs_of xs)) ≡ exprs_of (take count (x ∷ y ∷ xs)) =
    front-is x (y ∷ xs) ∙ ap (λ k. exprs_of (take k (x ∷ y ∷ xs))) (sym same) in
    ap (λ i. option_map (λ end. record { items = i; end = end }) (end_of n (last_item y (exprs_of xs)))) front
    ∙ ap (λ w. option_map (λ end. record { items = exprs_of (take count (x ∷ y ∷ xs)); end = end }) (end_of n w)) last
