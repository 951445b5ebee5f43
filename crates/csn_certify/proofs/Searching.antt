-- Searching conflicts in the order of their ranks.
use Rattle.std.proofs.Common.{◌≡◌, ℕ, ◌+◌, ◌<◌, ◌≤◌, ◌⊎◌, inl, inr, Bool, true, false, List, [], ◌∷◌, ◌++◌, length}
use Rattle.std.proofs.Common.{get_or, refl, sym, ◌∙◌, ap, subst, arith, append_assoc, Option, Some, None}
use Rattle.std.specs.Prelude.{Result, Ok, Err, IfOk, ◌==◌, ◌&&◌}
use Rattle.std.proofs.lemmas.List.{append-nil}
use Rattle.std.proofs.lemmas.Option.{slice_get_within}
use Rattle.csn_desc.specs.Nodes.{DescV}
use Rattle.csn_claims.proofs.Pieces.{order, equal_numbers, first_less, second_less}
use Rattle.csn_certify.specs.declared.conflict.Conflict.{Conflict}
use Rattle.csn_certify.specs.declared.conflict.Conflict.TheVariants.{TwoEmpty, NotFirm, Overlap, EmptyClash, LoopClash, NotLast}
use Rattle.csn_certify.specs.Conflicts.{IsConflict, two_empty, choice_not_firm, many_not_firm, times_not_firm}
use Rattle.csn_certify.specs.Conflicts.{overlap, empty_clash, loop_clash, not_last, rank_of, NotAfter}
use Rattle.csn_certify.specs.Search.{IsUnder, IsFirstUnder, IsFirstOrNone, IsLeastFrom}

-- ---- ranks

pub first_of_one : (xs : List ℕ) → NotAfter xs xs
first_of_one [] = tt
first_of_one (x ∷ xs) = inr (refl, first_of_one xs)

pub first_behind : (front xs ys : List ℕ) → NotAfter xs ys → NotAfter (front ++ xs) (front ++ ys)
first_behind [] xs ys h = h
first_behind (a ∷ front) xs ys h = inr (refl, first_behind front xs ys h)

-- a rank under some numbers and one more
under_more : (front rest : List ℕ) (x : ℕ) (c : Conflict) → rank_of c ≡ front ++ x ∷ rest → IsUnder (front ++ x ∷ []) c
under_more front rest x c is = (rest, is ∙ sym (append_assoc front (x ∷ []) rest))

under_less : (front : List ℕ) (x : ℕ) (c : Conflict) → IsUnder (front ++ x ∷ []) c → (rest : List ℕ) × (rank_of c ≡ front ++ x ∷ rest)
under_less front x c h = (h.0, h.1 ∙ append_assoc front (x ∷ []) h.0)

-- conflicts under a lower number come first
lower_first : (front r s : List ℕ) (x y : ℕ) (c e : Conflict) → x < y → rank_of c ≡ front ++ x ∷ r
    → rank_of e ≡ front ++ y ∷ s → NotAfter (rank_of c) (rank_of e)
lower_first front r s x y c e less is_c is_e =
    let P : List ℕ → Type 0 = λ l. NotAfter l (rank_of e) in
    let Q : List ℕ → Type 0 = λ l. NotAfter (front ++ x ∷ r) l in
    subst P (sym is_c) (subst Q (sym is_e) (first_behind front (x ∷ r) (y ∷ s) (inl less)))

-- ---- a search goes through the next numbers of the ranks

-- no rank is these numbers and nothing more
abbrev pub IsBranch : List ℕ → Type 0
IsBranch front = (c : Conflict) → ¬ (rank_of c ≡ front)

-- the next number of a rank
record NextNumber (front : List ℕ) (c : Conflict) : Type 0 where
  number : ℕ
  rest : List ℕ
  is : rank_of c ≡ front ++ number ∷ rest

next_number : (front rest : List ℕ) (c : Conflict) → IsBranch front → rank_of c ≡ front ++ rest → NextNumber front c
next_number front [] c branch is = absurd (branch c (is ∙ append-nil front))
next_number front (x ∷ rest) c branch is = record { number = x; rest = rest; is = is }

module _ (d : DescV) where
  -- there is no conflict under a lower next number
  abbrev pub NoneBelow : List ℕ → ℕ → Type 0
  NoneBelow front n = (x : ℕ) → x < n → IsFirstUnder d (front ++ x ∷ []) None

  pub none_first : (front : List ℕ) → NoneBelow front 0
  none_first front x less = absurd (omega (arith, less))

  pub none_more : (front : List ℕ) (n : ℕ) → NoneBelow front n → IsFirstUnder d (front ++ n ∷ []) None → NoneBelow front (n + 1)
  none_more front n below here x less =
      elim (order x n) [
        | first_less lower ↦ below x lower
        | equal_numbers same ↦ subst (λ (y : ℕ). IsFirstUnder d (front ++ y ∷ []) None) (sym same) here
        | second_less higher ↦ absurd (omega (arith, less, higher))
      ]

  -- the first one under the next number is the first of all
  pub found_at : (front : List ℕ) (n : ℕ) (c : Conflict) → IsBranch front → NoneBelow front n
      → IsFirstUnder d (front ++ n ∷ []) (Some c) → IsFirstUnder d front (Some c)
  found_at front n c branch below h = ((n ∷ here.0, here.1), h.1, before)
    where
      here : (rest : List ℕ) × (rank_of c ≡ front ++ n ∷ rest)
      here = under_less front n c h.0

      before : (other : Conflict) → IsUnder front other → IsConflict d 12 other → NotAfter (rank_of c) (rank_of other)
      before other under holds =
          let next = next_number front under.0 other branch under.1 in
          elim (order next.number n) [
            | first_less lower ↦ absurd (below next.number lower other (under_more front next.rest next.number other next.is) holds)
            | equal_numbers same ↦ h.2 other (subst (λ (y : ℕ). IsUnder (front ++ y ∷ []) other) same
                (under_more front next.rest next.number other next.is)) holds
            | second_less higher ↦ lower_first front here.0 next.rest n next.number c other higher here.1 next.is
          ]

  -- there is none where there is none under any next number
  pub none_of : (front : List ℕ) → IsBranch front → ((x : ℕ) → IsFirstUnder d (front ++ x ∷ []) None) → IsFirstUnder d front None
  none_of front branch none c under holds =
      let next = next_number front under.0 c branch under.1 in
      none next.number c (under_more front next.rest next.number c next.is) holds

  -- and so where the next numbers have been gone through, and there is none behind
  pub gone_through : (front : List ℕ) (count : ℕ) → IsBranch front → NoneBelow front count
      → ((x : ℕ) → count ≤ x → IsFirstUnder d (front ++ x ∷ []) None) → IsFirstUnder d front None
  gone_through front count branch below past = none_of front branch each
    where
      each : (x : ℕ) → IsFirstUnder d (front ++ x ∷ []) None
      each x =
          elim (order x count) [
            | first_less lower ↦ below x lower
            | equal_numbers same ↦ past x (omega arith)
            | second_less higher ↦ past x (omega arith)
          ]

-- ---- the numbers that ranks begin with

-- ranks go on behind these numbers: behind a node, a kind, an octet position, and of an overlap behind its kind and the
-- first of its alternatives
abbrev pub is_front : List ℕ → Bool
is_front [] = true
is_front (node ∷ []) = true
is_front (node ∷ kind ∷ []) = true
is_front (node ∷ kind ∷ octet ∷ []) = kind == 3
is_front (node ∷ kind ∷ octet ∷ there ∷ []) = kind == 3 && there == 3
is_front (node ∷ kind ∷ octet ∷ there ∷ i ∷ []) = kind == 3 && there == 3
is_front (node ∷ kind ∷ octet ∷ there ∷ i ∷ j ∷ words) = false

rank_is_whole : (c : Conflict) → is_front (rank_of c) ≡ false
rank_is_whole (TwoEmpty node i j) = refl
rank_is_whole _ = refl

pub branch_at : (front : List ℕ) → is_front front ≡ true → IsBranch front
branch_at front more c is = let whole = rank_is_whole c in let same = ap is_front is in cc

-- ---- the whole search

-- the node that a conflict tells, the first number of its rank
abbrev pub node_of : Conflict → ℕ
node_of c = get_or (rank_of c) 0 0

pub node_under : (node : ℕ) (front : List ℕ) (c : Conflict) → IsUnder (node ∷ front) c → node_of c ≡ node
node_under node front c h = ap (λ l. get_or l 0 0) h.1

module _ (d : DescV) where
  node_inside : (c : Conflict) → IsConflict d 12 c → node_of c < length d.nodes
  node_inside c (two_empty at less at_i at_j null_i null_j) = slice_get_within d.nodes _ _ at
  node_inside c (choice_not_firm at at_i real not_firm) = slice_get_within d.nodes _ _ at
  node_inside c (many_not_firm at is not_firm) = slice_get_within d.nodes _ _ at
  node_inside c (times_not_firm at is null) = slice_get_within d.nodes _ _ at
  node_inside c (overlap mark_i mark_j at reached less at_i at_j real_i real_j key_i key_j begun) = slice_get_within d.nodes _ _ at
  node_inside c (empty_clash at reached at_i null at_j other start follow) = slice_get_within d.nodes _ _ at
  node_inside c (loop_clash at reached start follow) = slice_get_within d.nodes _ _ at
  node_inside c (not_last n from at last reached ends follow) = slice_get_within d.nodes _ _ at

  -- the nodes have been gone through
  pub nodes_end : (count : ℕ) → length d.nodes ≤ count → NoneBelow d [] count → IsFirstUnder d [] None
  nodes_end count all below = gone_through d [] count (branch_at [] refl) below past
    where
      past : (y : ℕ) → count ≤ y → IsFirstUnder d (y ∷ []) None
      past y over c under holds =
          let here = node_under y [] c under in
          let inside = node_inside c holds in
          absurd (omega (arith, all, over, here, inside))

  pub first_of_all : (r : Option Conflict) → IsFirstUnder d [] r → IsFirstOrNone d r
  first_of_all None h = λ c holds. h c (rank_of c, refl) holds
  first_of_all (Some c) h =
      record { holds = h.1; first = λ other holds. h.2 other (rank_of other, refl) holds }

-- ---- further steps of a search

module _ (d : DescV) where
  -- all conflicts under some numbers are under more of them
  pub widen : (front more : List ℕ) (r : Option Conflict)
      → ((c : Conflict) → IsUnder front c → IsConflict d 12 c → IsUnder (front ++ more) c)
      → IsFirstUnder d (front ++ more) r → IsFirstUnder d front r
  widen front more None all h = λ c under holds. h c (all c under holds) holds
  widen front more (Some c) all h =
      let under = h.0 in (
        (more ++ under.0, under.1 ∙ append_assoc front more under.0),
        h.1,
        (λ other under_other holds. h.2 other (all other under_other holds) holds),
      )

  -- the last next number that there is
  pub last_class : (front : List ℕ) (n : ℕ) (r : Option Conflict) → IsBranch front → NoneBelow d front n
      → ((x : ℕ) → n < x → IsFirstUnder d (front ++ x ∷ []) None) → IsFirstUnder d (front ++ n ∷ []) r
      → IsFirstUnder d front r
  last_class front n (Some c) branch below past h = found_at d front n c branch below h
  last_class front n None branch below past h = none_of d front branch each
    where
      each : (x : ℕ) → IsFirstUnder d (front ++ x ∷ []) None
      each x =
          elim (order x n) [
            | first_less lower ↦ below x lower
            | equal_numbers same ↦ subst (λ (y : ℕ). IsFirstUnder d (front ++ y ∷ []) None) (sym same) h
            | second_less higher ↦ past x higher
          ]

-- the least number is at most each
pub least_number : (from i n : ℕ) (P : ℕ → Type 0) → IsLeastFrom from P (Some i) → from ≤ n → P n → i ≤ n
least_number from i n P least up p =
    elim (order n i) [
      | first_less lower ↦ absurd (least.2 n up lower p)
      | equal_numbers same ↦ omega arith
      | second_less higher ↦ omega arith
    ]

-- a lower first number, or the same and what follows
pub by_number : (x y : ℕ) (xs ys : List ℕ) → x ≤ y → (x ≡ y → NotAfter xs ys) → NotAfter (x ∷ xs) (y ∷ ys)
by_number x y xs ys most rest =
    elim (order x y) [
      | first_less lower ↦ inl lower
      | equal_numbers same ↦ inr (same, rest same)
      | second_less higher ↦ absurd (omega arith)
    ]

-- the second number of a rank
pub classes : (node x : ℕ) (c : Conflict) → IsUnder (node ∷ x ∷ []) c → ((x ≡ 1) ⊎ (x ≡ 2)) ⊎ (x ≡ 3)
classes node x (TwoEmpty k i j) h = let is = h.1 in inl (inl (cc))
classes node x (NotFirm k i) h = let is = h.1 in inl (inr (cc))
classes node x (Overlap k o i j v w) h = let is = h.1 in inr (cc)
classes node x (EmptyClash k o b) h = let is = h.1 in inr (cc)
classes node x (LoopClash k o b) h = let is = h.1 in inr (cc)
classes node x (NotLast k o) h = let is = h.1 in inr (cc)

-- ---- the stages of a node

module _ (d : DescV) where
  -- no rank has a second number below 1, or above 3
  pub stage_none : (node : ℕ) → NoneBelow d (node ∷ []) 1
  stage_none node x less c under holds =
      elim (classes node x c under) [
        | inl low ↦ elim low [ inl is ↦ absurd (omega arith) | inr is ↦ absurd (omega arith) ]
        | inr is ↦ absurd (omega arith)
      ]

  stage_past : (node x : ℕ) → 3 < x → IsFirstUnder d (node ∷ x ∷ []) None
  stage_past node x more c under holds =
      elim (classes node x c under) [
        | inl low ↦ elim low [ inl is ↦ absurd (omega arith) | inr is ↦ absurd (omega arith) ]
        | inr is ↦ absurd (omega arith)
      ]

  pub first_stage : (node : ℕ) (c : Conflict) → IsFirstUnder d (node ∷ 1 ∷ []) (Some c) → IsFirstUnder d (node ∷ []) (Some c)
  first_stage node c h = found_at d (node ∷ []) 1 c (branch_at (node ∷ []) refl) (stage_none node) h

  pub second_stage : (node : ℕ) (c : Conflict) → IsFirstUnder d (node ∷ 1 ∷ []) None → IsFirstUnder d (node ∷ 2 ∷ [])
      (Some c) → IsFirstUnder d (node ∷ []) (Some c)
  second_stage node c first h = found_at d (node ∷ []) 2 c (branch_at (node ∷ []) refl) (none_more d (node ∷ []) 1 (stage_none node) first) h

  pub third_stage : (node : ℕ) (r : Option Conflict) → IsFirstUnder d (node ∷ 1 ∷ []) None
      → IsFirstUnder d (node ∷ 2 ∷ []) None → IsFirstUnder d (node ∷ 3 ∷ []) r → IsFirstUnder d (node ∷ []) r
  third_stage node r first second h =
      last_class d (node ∷ []) 3 r (branch_at (node ∷ []) refl)
      (none_more d (node ∷ []) 2 (none_more d (node ∷ []) 1 (stage_none node) first) second) (stage_past node) h

-- ---- answers that are not a conflict

module _ (d : DescV) (front : List ℕ) where
  -- there is none, since the answer is none
  pub is_none : (r : Option Conflict) → ((c : Conflict) → r ≡ Some c → ⊥) → IsFirstUnder d front r → IsFirstUnder d front None
  is_none None other h = h
  is_none (Some c) other h = absurd (other c refl)

  pub as_none : (r : Option Conflict) → r ≡ None → IsFirstUnder d front None → IsFirstUnder d front r
  as_none r is h = subst (λ (s : Option Conflict). IsFirstUnder d front s) (sym is) h

  pub known_some : (r : Option Conflict) (c : Conflict) → r ≡ Some c → IsFirstUnder d front r → IsFirstUnder d front (Some c)
  known_some r c is h = subst (λ (s : Option Conflict). IsFirstUnder d front s) is h

  pub known_none : (r : Option Conflict) → r ≡ None → IsFirstUnder d front r → IsFirstUnder d front None
  known_none r is h = subst (λ (s : Option Conflict). IsFirstUnder d front s) is h

-- what follows of an answer, where memory did not run out
pub if_ok_more : {A E : Type 0} (r : Result A E) (P Q : A → Type 0) → ((x : A) → P x → Q x) → IfOk r P → IfOk r Q
if_ok_more (Ok x) P Q more h = more x h
if_ok_more (Err e) P Q more h = h
