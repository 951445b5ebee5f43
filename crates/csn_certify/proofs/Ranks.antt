-- The rank of a conflict is its own.
use Rattle.std.proofs.Common.{◌≡◌, ℕ, List, [], ◌∷◌, ◌++◌, refl, ap, inl, inr, arith}
use Rattle.csn_certify.specs.declared.conflict.Conflict.{Conflict}
use Rattle.csn_certify.specs.declared.conflict.Conflict.TheVariants.{TwoEmpty, NotFirm, Overlap, EmptyClash, LoopClash, NotLast}
use Rattle.csn_certify.specs.Conflicts.{text_of, rank_of, NotAfter}

-- two lists that come before one another are one
pub NotAfter-both : (xs ys : List ℕ) → NotAfter xs ys → NotAfter ys xs → xs ≡ ys
NotAfter-both [] [] l r = refl
NotAfter-both [] (y ∷ ys) l r = absurd r
NotAfter-both (x ∷ xs) [] l r = absurd l
NotAfter-both (x ∷ xs) (y ∷ ys) (inl less) (inl more) = absurd (omega arith)
NotAfter-both (x ∷ xs) (y ∷ ys) (inl less) (inr same) = let e = same.0 in absurd (omega arith)
NotAfter-both (x ∷ xs) (y ∷ ys) (inr same) (inl less) = let e = same.0 in absurd (omega arith)
NotAfter-both (x ∷ xs) (y ∷ ys) (inr left) (inr right) = let rest = NotAfter-both xs ys left.1 right.1 in let e = left.0 in cc

-- a text says where it ends
text_then : (v w x y : List ℕ) → text_of v ++ x ≡ text_of w ++ y → (v ≡ w) × (x ≡ y)
text_then [] [] x y same = (refl, cc)
text_then [] (b ∷ w) x y same = absurd (cc)
text_then (a ∷ v) [] x y same = absurd (cc)
text_then (a ∷ v) (b ∷ w) x y same =
    let tails : text_of v ++ x ≡ text_of w ++ y = cc in
    let heads : a ≡ b = cc in
    let both = text_then v w x y tails in
    let words = both.0 in
    (cc, both.1)

two_texts : (v w x y : List ℕ) → text_of v ++ text_of x ≡ text_of w ++ text_of y → (v ≡ w) × (x ≡ y)
two_texts v w x y same =
    let first = text_then v w (text_of x) (text_of y) same in
    (first.0, (text_then x y [] [] (ap (λ t. t ++ []) first.1)).0)

-- conflicts of one rank are one
pub rank_of-one : (c e : Conflict) → rank_of c ≡ rank_of e → c ≡ e
rank_of-one (TwoEmpty node i j) (TwoEmpty k m n) same = cc
rank_of-one (NotFirm node i) (NotFirm k m) same = cc
rank_of-one (Overlap node octet i j v w) (Overlap k o m n x y) same =
    let words : text_of v ++ text_of w ≡ text_of x ++ text_of y = cc in
    let both = two_texts v x w y words in
    let a = both.0 in
    let b = both.1 in
    cc
rank_of-one (EmptyClash node octet bit) (EmptyClash k o b) same = cc
rank_of-one (LoopClash node octet bit) (LoopClash k o b) same = cc
rank_of-one (NotLast node octet) (NotLast k o) same = cc
rank_of-one _ _ same = cc
