-- Lines, and the text that answers them.
use Rattle.std.proofs.Common.{◌≡◌, ℕ, suc, ◌+◌, ◌<◌, add-one, get_or, take, drop, drop-cons, Bool, true, false, cond}
use Rattle.std.proofs.Common.{eqb, List, [], ◌∷◌, ◌++◌, length, refl, sym, ◌∙◌, ap, arith, map, ltb}
use Rattle.std.proofs.lemmas.List.{map-append, take-append-drop}
use Rattle.std.proofs.lemmas.List.Elements.{filter-append}
use Rattle.std.specs.List.{filter}
use Rattle.csn_lines.specs.Lines.{begin_first, between_feeds, HasNoFeed, without_return, answered}

begin_first-nil : (c : ℕ) (xs : List (List ℕ)) → begin_first c xs ≡ [] → ⊥
begin_first-nil c [] h = cc
begin_first-nil c (x ∷ xs) h = cc

-- an input has one piece at least
between_feeds-nil : (a : List ℕ) → between_feeds a ≡ [] → ⊥
between_feeds-nil [] h = cc
between_feeds-nil (c ∷ a) h =
    let go : (v : Bool) → cond v ([] ∷ between_feeds a) (begin_first c (between_feeds a)) ≡ [] → ⊥ =
    λ v. elim v as (λ v. cond v ([] ∷ between_feeds a) (begin_first c (between_feeds a)) ≡ [] → ⊥) [ true ↦ λ e. cc | false ↦ λ e. begin_first-nil c _ e ]
    in go (eqb c 10) h

begin_first-append : (c : ℕ) (xs ys : List (List ℕ)) → (xs ≡ [] → ⊥) → begin_first c (xs ++ ys) ≡ begin_first c xs ++ ys
begin_first-append c [] ys h = absurd (h refl)
begin_first-append c (x ∷ xs) ys h = refl

-- the pieces before a line feed, and then those behind it
pub between_feeds-append : (a b : List ℕ) → between_feeds (a ++ 10 ∷ b) ≡ between_feeds a ++ between_feeds b
between_feeds-append [] b = refl
between_feeds-append (c ∷ a) b =
    let rest = between_feeds-append a b in
    let go : (v : Bool)
    → cond v ([] ∷ between_feeds (a ++ 10 ∷ b)) (begin_first c (between_feeds (a ++ 10 ∷ b))) ≡ cond v
    ([] ∷ between_feeds a) (begin_first c (between_feeds a)) ++ between_feeds b =
    λ v. elim v as (λ v. cond v ([] ∷ between_feeds (a ++ 10 ∷ b)) (begin_first c (between_feeds (a ++ 10 ∷ b)))
    ≡ cond v ([] ∷ between_feeds a) (begin_first c (between_feeds a)) ++ between_feeds b)
    [ true ↦ ap (λ xs. [] ∷ xs) rest | false ↦ ap (begin_first c) rest ∙ begin_first-append c _ _ (between_feeds-nil a) ]
    in go (eqb c 10)

-- bytes without a line feed are one piece
pub between_feeds-one : (a : List ℕ) → HasNoFeed a → between_feeds a ≡ a ∷ []
between_feeds-one [] h = refl
between_feeds-one (c ∷ a) h =
    let rest = between_feeds-one a h.1 in
    let not_feed : eqb c 10 ≡ false = grind arith in
    rw not_feed (ap (begin_first c) rest)

pub HasNoFeed-append : (a b : List ℕ) → HasNoFeed a → HasNoFeed b → HasNoFeed (a ++ b)
HasNoFeed-append [] b h k = k
HasNoFeed-append (c ∷ a) b h k = (h.0, HasNoFeed-append a b h.1 k)

pub answered-append : (a b : List (List ℕ)) → answered (a ++ b) ≡ answered a ++ answered b
answered-append a b =
    ap (filter (λ line. ltb 0 (length line))) (map-append without_return a b)
    ∙ filter-append (λ line. ltb 0 (length line)) (map without_return a) (map without_return b)

-- bytes of which none is a line feed, place by place
pub HasNoFeed-from_places : (bytes : List ℕ) → ((k : ℕ) → k < length bytes → get_or bytes k 0 ≡ 10 → ⊥) → HasNoFeed bytes
HasNoFeed-from_places [] h = tt
HasNoFeed-from_places (c ∷ bytes) h =
    (λ is. h 0 (omega arith) is, HasNoFeed-from_places bytes (λ k less is. h (suc k) (omega arith) is))

-- what stands before the first line feed, the line feed, and what stands behind it
pub split_at : (bytes : List ℕ) (k : ℕ) → k < length bytes → get_or bytes k 0 ≡ 10 → bytes ≡ take k bytes ++ 10 ∷ drop (k + 1) bytes
split_at bytes k h is =
    sym (take-append-drop k bytes)
    ∙ ap (λ rest. take k bytes ++ rest) (drop-cons bytes k 0 h ∙ ap (λ c. c ∷ drop (suc k) bytes) is ∙ ap
    (λ j. 10 ∷ drop j bytes) (sym (add-one k)))
