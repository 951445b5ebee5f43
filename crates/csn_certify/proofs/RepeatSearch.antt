-- The search for the first conflict of a repetition, and of what ends with what is read.
use Rattle.std.proofs.Common.{◌≡◌, ℕ, ◌≤◌, inl, List, [], ◌∷◌, refl, sym, ◌∙◌, ap, subst, arith, lit<, Option, Some, None, slice_get}
use Rattle.csn_desc.specs.declared.node.Count.{Count}
use Rattle.csn_desc.specs.declared.node.Node.TheVariants.{Times, Many}
use Rattle.csn_desc.specs.Nodes.{DescV}
use Rattle.csn_look.specs.Nullable.{Nullable}
use Rattle.csn_look.specs.Keys.{IsNotFirm, IsFirm}
use Rattle.csn_look.specs.Reached.{Reached}
use Rattle.csn_look.proofs.Handing.ReachedParts.{reached_small, end_small}
use Rattle.csn_certify.specs.declared.conflict.Conflict.{Conflict}
use Rattle.csn_certify.specs.declared.conflict.Conflict.TheVariants.{TwoEmpty, NotFirm, Overlap, EmptyClash, LoopClash, NotLast}
use Rattle.csn_certify.specs.Conflicts.{IsConflict, many_not_firm, times_not_firm, loop_clash, not_last, rank_of, NotAfter}
use Rattle.csn_certify.specs.Search.{IsUnder, IsFirstUnder, IsLeastFrom, IsClashing, MayEndAt, IsFollowed, IsLastNode}
use Rattle.csn_certify.proofs.Searching.{NoneBelow, gone_through, found_at, widen, least_number, by_number, first_behind, first_of_one, branch_at}
use Rattle.csn_certify.proofs.ConflictKinds.{TimesFits, ManyFits, LastFits, times_fits, many_fits, last_fits}

-- ---- by number

module _ (d : DescV) (node part : ℕ) (count : Count) (at : slice_get d.nodes node ≡ Some (Times count part)) where
  of_times : (c : Conflict) → IsUnder (node ∷ []) c → TimesFits d part c → (c ≡ NotFirm node 0) × Nullable d part
  of_times (TwoEmpty k i j) under fits = absurd fits
  of_times (NotFirm k i) under fits = let is = under.1 in let first = fits.0 in (cc, fits.1)
  of_times (Overlap k o i j v w) under fits = absurd fits
  of_times (EmptyClash k o b) under fits = absurd fits
  of_times (LoopClash k o b) under fits = absurd fits
  of_times (NotLast k o) under fits = absurd fits

  pub times_none : ¬ Nullable d part → IsFirstUnder d (node ∷ []) None
  times_none some c under holds = some (of_times c under (times_fits d node [] count part c at under holds)).1

  pub times_some : Nullable d part → IsFirstUnder d (node ∷ []) (Some (NotFirm node 0))
  times_some null = (
    (2 ∷ 0 ∷ [], refl),
    times_not_firm at refl null,
    (λ other under holds.
        let is = (of_times other under (times_fits d node [] count part other at under holds)).0 in
        subst (λ (e : Conflict). NotAfter (rank_of (NotFirm node 0)) (rank_of e)) (sym is) (first_of_one (rank_of (NotFirm node 0)))),
  )

-- ---- free

-- the conflicts of a free repetition
data ManyCase (d : DescV) (node part : ℕ) (c : Conflict) : Type 0 where
  case_firm : c ≡ NotFirm node 0 → IsNotFirm d 12 part → ManyCase d node part c
  case_clash : (octet bit : ℕ) → c ≡ LoopClash node octet bit → Reached d part octet → IsClashing d part node octet bit → ManyCase d node part c

module _ (d : DescV) (node part : ℕ) (at : slice_get d.nodes node ≡ Some (Many part)) where
  case_of : (front : List ℕ) (c : Conflict) → IsUnder (node ∷ front) c → ManyFits d part c → ManyCase d node part c
  case_of front (TwoEmpty k i j) under fits = absurd fits
  case_of front (NotFirm k i) under fits = let is = under.1 in let first = fits.0 in case_firm (cc) fits.1
  case_of front (Overlap k o i j v w) under fits = absurd fits
  case_of front (EmptyClash k o b) under fits = absurd fits
  case_of front (LoopClash k o b) under fits =
      let is = under.1 in
      let same : k ≡ node = cc in
      case_clash o b (cc) fits.0 (subst (λ (q : ℕ). IsClashing d part q o b) same fits.1)
  case_of front (NotLast k o) under fits = absurd fits

  of_many : (front : List ℕ) (c : Conflict) → IsUnder (node ∷ front) c → IsConflict d 12 c → ManyCase d node part c
  of_many front c under holds = case_of front c under (many_fits d node front part c at under holds)

  -- the part is not firm
  pub many_some : IsNotFirm d 12 part → IsFirstUnder d (node ∷ []) (Some (NotFirm node 0))
  many_some bad = ((2 ∷ 0 ∷ [], refl), many_not_firm at refl bad, before)
    where
      before : (other : Conflict) → IsUnder (node ∷ []) other → IsConflict d 12 other → NotAfter (rank_of (NotFirm node 0)) (rank_of other)
      before other under holds =
          elim (of_many [] other under holds) [
            | case_firm is b ↦ subst (λ (e : Conflict). NotAfter (rank_of (NotFirm node 0)) (rank_of e)) (sym is) (first_of_one (rank_of (NotFirm node 0)))
            | case_clash o b is r s ↦ subst (λ (e : Conflict). NotAfter (rank_of (NotFirm node 0)) (rank_of e)) (sym is)
                (first_behind (node ∷ []) (2 ∷ 0 ∷ []) (3 ∷ o ∷ 5 ∷ b ∷ []) (inl (lit< tt)))
          ]

  -- and where it is, there are clashes alone
  pub many_firm : (r : Option Conflict) → IsFirm d 12 part → IsFirstUnder d (node ∷ 3 ∷ []) r → IsFirstUnder d (node ∷ []) r
  many_firm r firm h = widen d (node ∷ []) (3 ∷ []) r all h
    where
      all : (c : Conflict) → IsUnder (node ∷ []) c → IsConflict d 12 c → IsUnder (node ∷ 3 ∷ []) c
      all c under holds =
          elim (of_many [] c under holds) [
            | case_firm is bad ↦ absurd (firm bad)
            | case_clash o b is r s ↦ (o ∷ 5 ∷ b ∷ [], ap rank_of is)
          ]

  -- at an octet position
  clash_at : (octet : ℕ) (c : Conflict) → IsUnder (node ∷ 3 ∷ octet ∷ []) c → ManyCase d node part c → (bit : ℕ)
      × (c ≡ LoopClash node octet bit) × Reached d part octet × IsClashing d part node octet bit
  clash_at octet c under (case_firm is bad) =
      let theirs : rank_of c ≡ node ∷ 2 ∷ 0 ∷ [] = ap rank_of is in
      let rank = under.1 in
      absurd (cc)
  clash_at octet c under (case_clash o b is r s) =
      let theirs : rank_of c ≡ node ∷ 3 ∷ o ∷ 5 ∷ b ∷ [] = ap rank_of is in
      let rank = under.1 in
      let same : o ≡ octet = cc in
      (b, is ∙ ap (λ k. LoopClash node k b) same, subst (λ (q : ℕ). Reached d part q) same r, subst (λ (q : ℕ). IsClashing d part node q b) same s)

  of_clash : (octet : ℕ) (c : Conflict) → IsUnder (node ∷ 3 ∷ octet ∷ []) c → IsConflict d 12 c → (bit : ℕ)
      × (c ≡ LoopClash node octet bit) × Reached d part octet × IsClashing d part node octet bit
  of_clash octet c under holds = clash_at octet c under (of_many (3 ∷ octet ∷ []) c under holds)

  pub loop_not_reached : (octet : ℕ) → ¬ Reached d part octet → IsFirstUnder d (node ∷ 3 ∷ octet ∷ []) None
  loop_not_reached octet apart c under holds = apart (of_clash octet c under holds).2

  pub loop_none : (octet : ℕ) → IsLeastFrom 0 (IsClashing d part node octet) None → IsFirstUnder d (node ∷ 3 ∷ octet ∷ []) None
  loop_none octet none c under holds = let h = of_clash octet c under holds in none h.0 (omega arith) h.3

  pub loop_some : (octet bit : ℕ) → Reached d part octet → IsLeastFrom 0 (IsClashing d part node octet) (Some bit)
      → IsFirstUnder d (node ∷ 3 ∷ octet ∷ []) (Some (LoopClash node octet bit))
  loop_some octet bit reached least = (
    (5 ∷ bit ∷ [], refl),
    loop_clash at reached least.1.0 least.1.1,
    (λ other under holds.
        let h = of_clash octet other under holds in
        let up = least_number 0 bit h.0 (IsClashing d part node octet) least (omega arith) h.3 in
        subst (λ (e : Conflict). NotAfter (rank_of (LoopClash node octet bit)) (rank_of e)) (sym h.1)
        (first_behind (node ∷ 3 ∷ octet ∷ 5 ∷ []) (bit ∷ []) (h.0 ∷ []) (by_number bit h.0 [] [] up (λ same. tt)))),
  )

  -- the octet positions have been gone through
  pub loops_end : (count : ℕ) → 8 ≤ count → NoneBelow d (node ∷ 3 ∷ []) count → IsFirstUnder d (node ∷ 3 ∷ []) None
  loops_end count all below =
      gone_through d (node ∷ 3 ∷ []) count (branch_at (node ∷ 3 ∷ []) refl) below
      (λ x over. loop_not_reached x (λ reached. let small = reached_small d reached in absurd (omega (arith, small, over, all))))

-- ---- what must be last

record IsNotLast (d : DescV) (node : ℕ) (c : Conflict) : Type 0 where
  octet : ℕ
  is : c ≡ NotLast node octet
  ends : MayEndAt d node octet
  followed : IsFollowed d node octet

module _ (d : DescV) (node : ℕ) (last : IsLastNode d node) where
  not_last_of : (front : List ℕ) (c : Conflict) → IsUnder (node ∷ front) c → LastFits d c → IsNotLast d node c
  not_last_of front (TwoEmpty k i j) under fits = absurd fits
  not_last_of front (NotFirm k i) under fits = absurd fits
  not_last_of front (Overlap k o i j v w) under fits = absurd fits
  not_last_of front (EmptyClash k o b) under fits = absurd fits
  not_last_of front (LoopClash k o b) under fits = absurd fits
  not_last_of front (NotLast k o) under fits =
      let is = under.1 in
      let same : k ≡ node = cc in
      record { octet = o; is = cc; ends = subst (λ (q : ℕ). MayEndAt d q o) same fits.0; followed = subst (λ (q : ℕ). IsFollowed d q o) same fits.1 }

  of_last : (front : List ℕ) (c : Conflict) → IsUnder (node ∷ front) c → IsConflict d 12 c → IsNotLast d node c
  of_last front c under holds = not_last_of front c under (last_fits d node front last.0 c last.1 last.2 under holds)

  -- all are at octet positions
  pub last_octets : (r : Option Conflict) → IsFirstUnder d (node ∷ 3 ∷ []) r → IsFirstUnder d (node ∷ []) r
  last_octets r h =
      widen d (node ∷ []) (3 ∷ []) r (λ c under holds. let n = of_last [] c under holds in (n.octet ∷ 6 ∷ [], ap rank_of n.is)) h

  same_octet : (octet k : ℕ) (c : Conflict) → IsUnder (node ∷ 3 ∷ octet ∷ []) c → c ≡ NotLast node k → k ≡ octet
  same_octet octet k c under is =
      let rank : rank_of c ≡ node ∷ 3 ∷ k ∷ 6 ∷ [] = ap rank_of is in
      let too = under.1 in
      cc

  pub last_none : (octet : ℕ) → (MayEndAt d node octet → IsFollowed d node octet → ⊥) → IsFirstUnder d (node ∷ 3 ∷ octet ∷ []) None
  last_none octet good c under holds =
      let n = of_last (3 ∷ octet ∷ []) c under holds in
      let same = same_octet octet n.octet c under n.is in
      good (subst (λ (q : ℕ). MayEndAt d node q) same n.ends) (subst (λ (q : ℕ). IsFollowed d node q) same n.followed)

  pub last_found : (octet : ℕ) → MayEndAt d node octet → IsFollowed d node octet → NoneBelow d (node ∷ 3 ∷ []) octet
      → IsFirstUnder d (node ∷ []) (Some (NotLast node octet))
  last_found octet ends followed below =
      last_octets (Some (NotLast node octet)) (found_at d (node ∷ 3 ∷ []) octet (NotLast node octet) (branch_at (node ∷ 3 ∷ []) refl) below here)
    where
      here : IsFirstUnder d (node ∷ 3 ∷ octet ∷ []) (Some (NotLast node octet))
      here = (
        (6 ∷ [], refl),
        not_last last.0 ends.0 last.1 last.2 ends.1 ends.2 followed.1,
        (λ other under holds.
            let n = of_last (3 ∷ octet ∷ []) other under holds in
            let same = same_octet octet n.octet other under n.is in
            subst (λ (e : Conflict). NotAfter (rank_of (NotLast node octet)) (rank_of e))
            (sym (n.is ∙ ap (λ k. NotLast node k) same)) (first_of_one (rank_of (NotLast node octet)))),
      )

  pub lasts_end : (count : ℕ) → 8 ≤ count → NoneBelow d (node ∷ 3 ∷ []) count → IsFirstUnder d (node ∷ []) None
  lasts_end count all below c under holds =
      let n = of_last [] c under holds in
      let low = reached_small d n.ends.1 in
      let small = end_small d n.ends.2 low in
      below n.octet (omega (arith, small, all)) c (6 ∷ [], ap rank_of n.is) holds
