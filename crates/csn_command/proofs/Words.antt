-- Lists of as many members as a row of the command table has words.
use Rattle.std.proofs.Common.{◌≡◌, ◌<◌, ◌≤◌, List, [], ◌∷◌, ◌++◌, reverse, length, get_or, arith, Option, None}
use Rattle.std.proofs.Common.{IfSome, IsSome, is_some, true≢false, sym, subst, ap, ◌∙◌}
use Rattle.std.proofs.lemmas.List.{append_cancel_right, reverse-append}

-- a list of four members is these four
pub four_members : {A : Type 0} (xs : List A) (a b c d : A) → 4 ≤ length xs → length xs < 5 → a ≡ get_or xs 0 a
    → b ≡ get_or xs 1 b → c ≡ get_or xs 2 c → d ≡ get_or xs 3 d → xs ≡ a ∷ b ∷ c ∷ d ∷ []
four_members [] a b c d low high p q r s = absurd (omega arith)
four_members (w ∷ []) a b c d low high p q r s = absurd (omega arith)
four_members (w ∷ x ∷ []) a b c d low high p q r s = absurd (omega arith)
four_members (w ∷ x ∷ y ∷ []) a b c d low high p q r s = absurd (omega arith)
four_members (w ∷ x ∷ y ∷ z ∷ []) a b c d low high p q r s = cc
four_members (w ∷ x ∷ y ∷ z ∷ v ∷ rest) a b c d low high p q r s = absurd (omega arith)

-- a list of one member is this one
pub one_member : {A : Type 0} (xs : List A) (a : A) → 1 ≤ length xs → length xs < 2 → a ≡ get_or xs 0 a → xs ≡ a ∷ []
one_member [] a low high p = absurd (omega arith)
one_member (w ∷ []) a low high p = cc
one_member (w ∷ x ∷ rest) a low high p = absurd (omega arith)

-- a list of two members is these two
pub two_members : {A : Type 0} (xs : List A) (a b : A) → 2 ≤ length xs → length xs < 3 → a ≡ get_or xs 0 a → b ≡ get_or xs 1 b → xs ≡ a ∷ b ∷ []
two_members [] a b low high p q = absurd (omega arith)
two_members (w ∷ []) a b low high p q = absurd (omega arith)
two_members (w ∷ x ∷ []) a b low high p q = cc
two_members (w ∷ x ∷ y ∷ rest) a b low high p q = absurd (omega arith)

-- a list of three members is these three
pub three_members : {A : Type 0} (xs : List A) (a b c : A) → 3 ≤ length xs → length xs < 4 → a ≡ get_or xs 0 a
    → b ≡ get_or xs 1 b → c ≡ get_or xs 2 c → xs ≡ a ∷ b ∷ c ∷ []
three_members [] a b c low high p q r = absurd (omega arith)
three_members (w ∷ []) a b c low high p q r = absurd (omega arith)
three_members (w ∷ x ∷ []) a b c low high p q r = absurd (omega arith)
three_members (w ∷ x ∷ y ∷ []) a b c low high p q r = cc
three_members (w ∷ x ∷ y ∷ z ∷ rest) a b c low high p q r = absurd (omega arith)

-- lists with a member behind each are the same in front and in that member
pub last_apart : {A : Type 0} (xs ys : List A) (x y : A) → xs ++ x ∷ [] ≡ ys ++ y ∷ [] → (xs ≡ ys) × (x ≡ y)
last_apart xs ys x y e =
    let turned : x ∷ reverse xs ≡ y ∷ reverse ys = sym (reverse-append xs (x ∷ [])) ∙ ap (λ l. reverse l) e ∙ reverse-append ys (y ∷ []) in
    let same : x ≡ y = cc (turned) in
    (append_cancel_right xs ys (y ∷ []) (ap (λ w. xs ++ w ∷ []) (sym same) ∙ e), same)

-- where there is none, nothing is asked of it
pub if_none : {A : Type 0} (o : Option A) (P : A → Type 0) → o ≡ None → IfSome o P
if_none o P is = subst (λ s. IfSome s P) (sym is) tt

-- and it is not there
pub some_of_none : {A : Type 0} (o : Option A) → o ≡ None → IsSome o → ⊥
some_of_none o is some = true≢false (sym some ∙ ap is_some is)
