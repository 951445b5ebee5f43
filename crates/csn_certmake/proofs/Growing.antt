-- Certificates that grow at their end.
use Rattle.std.proofs.Common.{◌≡◌, ℕ, zero, suc, ◌+◌, ◌<◌, List, [], ◌∷◌, ◌++◌, length, take, refl, sym, ap, ◌∙◌}
use Rattle.std.proofs.Common.{subst, arith, slice_get, get_or, Some, IfSome}
use Rattle.std.specs.Prelude.{IsSome, Option}
use Rattle.std.proofs.Math.Seq.{take-suc}
use Rattle.std.proofs.lemmas.Option.{slice_get-get_or}
use Rattle.csn_cert.specs.PatternV.{PatternV}
use Rattle.csn_cert.specs.PatternText.{ComesBefore}
use Rattle.csn_cert.specs.CertificateV.{Rises, NodeV, PositionV}
use Rattle.csn_cert.specs.Growing.{last_of, at_last, node_with, position_with, with_position, node_with_pattern}
use Rattle.csn_cert.specs.Growing.{with_pattern, last_position, last_pattern, last_in}

pub last_push : {A : Type 0} (xs : List A) (x : A) → last_of (xs ++ x ∷ []) ≡ Some x
last_push [] x = refl
last_push (y ∷ []) x = refl
last_push (y ∷ z ∷ xs) x = last_push (z ∷ xs) x

pub at_last_push : {A : Type 0} (f : A → A) (xs : List A) (x : A) → at_last f (xs ++ x ∷ []) ≡ xs ++ f x ∷ []
at_last_push f [] x = refl
at_last_push f (y ∷ []) x = refl
at_last_push f (y ∷ z ∷ xs) x = ap (λ l. y ∷ l) (at_last_push f (z ∷ xs) x)

-- a list that is not empty, parted before its last one
record Parted {A : Type 0} (xs : List A) : Type 0 where
  front : List A
  last : A
  is : xs ≡ front ++ last ∷ []

parted : {A : Type 0} (xs : List A) → 0 < length xs → Parted xs
parted [] some = absurd (omega arith)
parted (x ∷ []) some = record { front = []; last = x; is = refl }
parted (x ∷ y ∷ xs) some = (let rest = parted (y ∷ xs) (omega arith) in record { front = x ∷ rest.front; last = rest.last; is = ap (λ l. x ∷ l) rest.is })

-- ---- patterns that are added to a new position

pub new_position_is_last : (p : PositionV) (c : List NodeV) → 0 < length c → last_position (with_position p c) ≡ Some p
new_position_is_last p c some =
    let here = parted c some in
    ap (λ l. last_position (with_position p l)) here.is
    ∙ ap last_position (at_last_push (node_with p) here.front here.last)
    ∙ ap (last_in (λ (n : NodeV). n.positions)) (last_push here.front (node_with p here.last))
    ∙ last_push here.last.positions p

pub one_pattern_more : (k : PatternV) (p : PositionV) (c : List NodeV)
    → 0 < length c → with_pattern k (with_position p c) ≡ with_position (position_with k p) c
one_pattern_more k p c some =
    let here = parted c some in
    ap (λ l. with_pattern k (with_position p l)) here.is
    ∙ ap (with_pattern k) (at_last_push (node_with p) here.front here.last)
    ∙ at_last_push (node_with_pattern k) here.front (node_with p here.last)
    ∙ ap (λ ps. here.front ++ record here.last { positions = ps } ∷ []) (at_last_push (position_with k) here.last.positions p)
    ∙ sym (at_last_push (node_with (position_with k p)) here.front here.last)
    ∙ ap (with_position (position_with k p)) (sym here.is)

-- each pattern comes after the last of those before it
pub next_comes_after : (patterns : List PatternV) (at : ℕ) (next : PatternV)
    → Rises ComesBefore patterns → slice_get patterns at ≡ Some next → IfSome (last_of (take at patterns))
    (λ last. ComesBefore last next)
next_comes_after patterns zero next rises is = tt
next_comes_after [] (suc at) next rises is = tt
next_comes_after (p ∷ []) (suc at) next rises is = absurd (cc)
next_comes_after (p ∷ q ∷ patterns) (suc zero) next rises is = (let same : q ≡ next = cc in subst (λ (k : PatternV). ComesBefore p k) same rises.0)
next_comes_after (p ∷ q ∷ patterns) (suc (suc at)) next rises is = next_comes_after (q ∷ patterns) (suc at) next rises.1 is

pub there_is_a_position : (c after : List NodeV) (p : PositionV) → 0 < length c → after ≡ with_position p c → IsSome (last_position after)
there_is_a_position c after p some is = (let last : last_position after ≡ Some p = ap last_position is ∙ new_position_is_last p c some in rw last refl)

pub next_is_in_order : (c after : List NodeV) (p : PositionV) (patterns : List PatternV) (at : ℕ) (next : PatternV)
    → 0 < length c → after ≡ with_position p c → p.patterns ≡ take at patterns → Rises ComesBefore patterns
    → slice_get patterns at ≡ Some next → IfSome (last_pattern after) (λ last. ComesBefore last next)
next_is_in_order c after p patterns at next some is has rises there =
    let last : last_pattern after ≡ last_of (take at patterns) = ap (last_in (λ (p : PositionV). p.patterns))
    (ap last_position is ∙ new_position_is_last p c some) ∙ ap last_of has in
    subst (λ (o : Option PatternV). IfSome o (λ last. ComesBefore last next)) (sym last) (next_comes_after patterns at next rises there)

-- the pattern at a place, as a loop takes it
pub item_there : (patterns : List PatternV) (at : ℕ) (next : PatternV)
    → at < length patterns → next ≡ get_or patterns at next → slice_get patterns at ≡ Some next
item_there patterns at next low is = slice_get-get_or patterns at next low ∙ ap (λ p. Some p) (sym is)

pub one_taken : (patterns : List PatternV) (at : ℕ) (next : PatternV)
    → at < length patterns → next ≡ get_or patterns at next → take at patterns ++ next ∷ [] ≡ take (at + 1) patterns
one_taken patterns at next low is =
    let step : suc at ≡ at + 1 = omega arith in
    sym (ap (λ (n : ℕ). take n patterns) (sym step) ∙ take-suc patterns at next low ∙ ap (λ p. take at patterns ++ p ∷ []) (sym is))
