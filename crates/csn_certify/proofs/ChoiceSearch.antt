-- The search for the first conflict of a choice.
use Rattle.std.proofs.Common.{◌≡◌, ℕ, ◌+◌, ◌<◌, ◌≤◌, ◌⊎◌, inl, inr, List, [], ◌∷◌, ◌++◌, length, refl, sym, ◌∙◌, ap}
use Rattle.std.proofs.Common.{subst, arith, Option, Some, None, slice_get}
use Rattle.std.proofs.lemmas.Option.{slice_get_within}
use Rattle.csn_desc.specs.declared.node.Node.TheVariants.{Null, Choice}
use Rattle.csn_desc.specs.Nodes.{DescV}
use Rattle.csn_look.specs.Keys.{IsNotFirm, IsFirm}
use Rattle.csn_look.specs.Starts.{InStart, NodeStarts, starts_choice}
use Rattle.csn_look.specs.Reached.{Reached}
use Rattle.csn_look.proofs.Meaning.LeastSets.{as_starts}
use Rattle.csn_look.proofs.Handing.ReachedParts.{reached_small}
use Rattle.csn_certify.specs.declared.conflict.Conflict.{Conflict}
use Rattle.csn_certify.specs.declared.conflict.Conflict.TheVariants.{TwoEmpty, NotFirm, Overlap, EmptyClash, LoopClash, NotLast}
use Rattle.csn_certify.specs.Conflicts.{IsNull, IsConflict, two_empty, choice_not_firm, empty_clash, rank_of, NotAfter}
use Rattle.csn_certify.specs.Search.{IsUnder, IsFirstUnder, IsNullAt, IsLeastFrom, IsClashing}
use Rattle.csn_certify.proofs.Searching.{NoneBelow, none_of, gone_through, found_at, last_class, by_number}
use Rattle.csn_certify.proofs.Searching.{first_behind, least_number, first_of_one, branch_at}
use Rattle.csn_certify.proofs.ConflictKinds.{ChoiceFits, choice_fits}

-- what takes no bits begins with none
null_starts : (d : DescV) (q octet bit : ℕ) → IsNull d q → InStart d q octet bit → ⊥
null_starts d q octet bit null h = let here : NodeStarts d Null octet bit = as_starts null h in elim here [ ]

-- a choice begins with what some alternative begins with
record Begins (d : DescV) (parts : List ℕ) (octet bit : ℕ) : Type 0 where
  j : ℕ
  q : ℕ
  is_part : slice_get parts j ≡ Some q
  start : InStart d q octet bit

choice_start : (d : DescV) (node octet bit : ℕ) (parts : List ℕ) → slice_get d.nodes node ≡ Some (Choice parts)
    → InStart d node octet bit → Begins d parts octet bit
choice_start d node octet bit parts at h = of_node (as_starts at h)
  where
    of_node : NodeStarts d (Choice parts) octet bit → Begins d parts octet bit
    of_node (starts_choice {i = i} j at_j start) = record { j = j; q = i; is_part = at_j; start = start }

-- ---- two alternatives that take no bits

record IsTwoEmpty (d : DescV) (parts : List ℕ) (node : ℕ) (c : Conflict) : Type 0 where
  i : ℕ
  j : ℕ
  is : c ≡ TwoEmpty node i j
  less : i < j
  null_i : IsNullAt d parts i
  null_j : IsNullAt d parts j

module _ (d : DescV) (node : ℕ) (parts : List ℕ) (at : slice_get d.nodes node ≡ Some (Choice parts)) where
  two_fits : (c : Conflict) → IsUnder (node ∷ 1 ∷ []) c → ChoiceFits d parts c → IsTwoEmpty d parts node c
  two_fits (TwoEmpty k i j) under fits = let is = under.1 in record { i = i; j = j; is = cc; less = fits.0; null_i = fits.1; null_j = fits.2 }
  two_fits (NotFirm k i) under fits = let is = under.1 in absurd (cc)
  two_fits (Overlap k o i j v w) under fits = let is = under.1 in absurd (cc)
  two_fits (EmptyClash k o b) under fits = let is = under.1 in absurd (cc)
  two_fits (LoopClash k o b) under fits = absurd fits
  two_fits (NotLast k o) under fits = absurd fits

  of_two : (c : Conflict) → IsUnder (node ∷ 1 ∷ []) c → IsConflict d 12 c → IsTwoEmpty d parts node c
  of_two c under holds = two_fits c under (choice_fits d node (1 ∷ []) parts c at under holds)

  pub two_none : IsLeastFrom 0 (IsNullAt d parts) None → IsFirstUnder d (node ∷ 1 ∷ []) None
  two_none none c under holds = let two = of_two c under holds in none two.i (omega arith) two.null_i

  pub two_one : (i : ℕ) → IsLeastFrom 0 (IsNullAt d parts) (Some i) → IsLeastFrom (i + 1) (IsNullAt d parts) None → IsFirstUnder d (node ∷ 1 ∷ []) None
  two_one i least none c under holds =
      let two = of_two c under holds in
      let less = two.less in
      let up = least_number 0 i two.i (IsNullAt d parts) least (omega arith) two.null_i in
      none two.j (omega (arith, up, less)) two.null_j

  pub two_some : (i j : ℕ) → IsLeastFrom 0 (IsNullAt d parts) (Some i)
      → IsLeastFrom (i + 1) (IsNullAt d parts) (Some j) → IsFirstUnder d (node ∷ 1 ∷ []) (Some (TwoEmpty node i j))
  two_some i j least later =
      let null_i = least.1 in
      let null_j = later.1 in (
        (i ∷ j ∷ [], refl),
        two_empty at (omega (arith, later.0)) null_i.1 null_j.1 null_i.2 null_j.2,
        before,
      )
    where
      before : (other : Conflict) → IsUnder (node ∷ 1 ∷ []) other → IsConflict d 12 other → NotAfter (rank_of (TwoEmpty node i j)) (rank_of other)
      before other under holds =
          let two = of_two other under holds in
          let less = two.less in
          let up = least_number 0 i two.i (IsNullAt d parts) least (omega arith) two.null_i in
          let far = least_number (i + 1) j two.j (IsNullAt d parts) later (omega (arith, up, less)) two.null_j in
          subst (λ (e : Conflict). NotAfter (rank_of (TwoEmpty node i j)) (rank_of e)) (sym two.is)
          (first_behind (node ∷ 1 ∷ []) (i ∷ j ∷ []) (two.i ∷ two.j ∷ []) (by_number i two.i (j ∷ []) (two.j ∷ []) up
          (λ same. by_number j two.j [] [] far (λ too. tt))))

-- ---- an alternative that is not firm

record IsNotFirmAt (d : DescV) (parts : List ℕ) (node : ℕ) (c : Conflict) : Type 0 where
  i : ℕ
  p : ℕ
  is : c ≡ NotFirm node i
  is_part : slice_get parts i ≡ Some p
  real : ¬ IsNull d p
  not_firm : IsNotFirm d 12 p

module _ (d : DescV) (node : ℕ) (parts : List ℕ) (at : slice_get d.nodes node ≡ Some (Choice parts)) where
  firm_fits : (c : Conflict) → IsUnder (node ∷ 2 ∷ []) c → ChoiceFits d parts c → IsNotFirmAt d parts node c
  firm_fits (TwoEmpty k i j) under fits = let is = under.1 in absurd (cc)
  firm_fits (NotFirm k i) under fits = let is = under.1 in record { i = i; p = fits.0; is = cc; is_part = fits.1; real = fits.2; not_firm = fits.3 }
  firm_fits (Overlap k o i j v w) under fits = let is = under.1 in absurd (cc)
  firm_fits (EmptyClash k o b) under fits = let is = under.1 in absurd (cc)
  firm_fits (LoopClash k o b) under fits = absurd fits
  firm_fits (NotLast k o) under fits = absurd fits

  of_firm : (front : List ℕ) (c : Conflict) → IsUnder (node ∷ 2 ∷ front) c → IsConflict d 12 c → IsNotFirmAt d parts node c
  of_firm front c under holds = firm_fits c (front ++ under.0, under.1) (choice_fits d node (2 ∷ front) parts c at under holds)

  -- the alternative of a conflict
  same_alternative : (i k : ℕ) (c : Conflict) → IsUnder (node ∷ 2 ∷ i ∷ []) c → c ≡ NotFirm node k → k ≡ i
  same_alternative i k c under is =
      let rank : rank_of c ≡ node ∷ 2 ∷ k ∷ [] = ap rank_of is in
      let too = under.1 in
      cc

  pub firm_at : (i p : ℕ) → slice_get parts i ≡ Some p → (IsNull d p ⊎ IsFirm d 12 p) → IsFirstUnder d (node ∷ 2 ∷ i ∷ []) None
  firm_at i p is_part good c under holds =
      let bad = of_firm (i ∷ []) c under holds in
      let here = same_alternative i bad.i c under bad.is in
      let theirs = bad.is_part in
      let one : bad.p ≡ p = cc in
      elim good [
        | inl null ↦ bad.real (subst (λ (q : ℕ). IsNull d q) (sym one) null)
        | inr firm ↦ firm (subst (λ (q : ℕ). IsNotFirm d 12 q) one bad.not_firm)
      ]

  pub not_firm_at : (i p : ℕ) → slice_get parts i ≡ Some p → ¬ IsNull d p → IsNotFirm d 12 p → IsFirstUnder d (node ∷ 2 ∷ i ∷ []) (Some (NotFirm node i))
  not_firm_at i p is_part real bad = (
    ([], refl),
    choice_not_firm at is_part real bad,
    (λ other under holds.
        let theirs = of_firm (i ∷ []) other under holds in
        let here = same_alternative i theirs.i other under theirs.is in
        subst (λ (e : Conflict). NotAfter (rank_of (NotFirm node i)) (rank_of e)) (sym (theirs.is ∙ ap (λ k. NotFirm node k) here))
        (first_of_one (rank_of (NotFirm node i)))),
  )

  pub not_firm_found : (i p : ℕ) → slice_get parts i ≡ Some p → ¬ IsNull d p → IsNotFirm d 12 p
      → NoneBelow d (node ∷ 2 ∷ []) i → IsFirstUnder d (node ∷ 2 ∷ []) (Some (NotFirm node i))
  not_firm_found i p is_part real bad below =
      found_at d (node ∷ 2 ∷ []) i (NotFirm node i) (branch_at (node ∷ 2 ∷ []) refl) below (not_firm_at i p is_part real bad)

  pub all_firm : (count : ℕ) → length parts ≤ count → NoneBelow d (node ∷ 2 ∷ []) count → IsFirstUnder d (node ∷ 2 ∷ []) None
  all_firm count all below c under holds =
      let bad = of_firm [] c under holds in
      let inside = slice_get_within parts bad.i bad.p bad.is_part in
      let rank : rank_of c ≡ node ∷ 2 ∷ bad.i ∷ [] = ap rank_of bad.is in
      below bad.i (omega (arith, all, inside)) c ([], rank) holds

-- ---- overlaps and clashes

module _ (d : DescV) (node : ℕ) (parts : List ℕ) (at : slice_get d.nodes node ≡ Some (Choice parts)) where
  -- the octet position and the kind of a conflict
  octet_fits : (octet x : ℕ) (c : Conflict) → IsUnder (node ∷ 3 ∷ octet ∷ x ∷ []) c → ChoiceFits d parts c → ((x ≡ 3) ⊎ (x ≡ 4)) × Reached d node octet
  octet_fits octet x (TwoEmpty k i j) under fits = let is = under.1 in absurd (cc)
  octet_fits octet x (NotFirm k i) under fits = let is = under.1 in absurd (cc)
  octet_fits octet x (Overlap k o i j v w) under fits =
      let is = under.1 in
      let same_node : k ≡ node = cc in
      let same_octet : o ≡ octet = cc in
      (inl (cc), subst (λ (q : ℕ). Reached d node q) same_octet (subst (λ (q : ℕ). Reached d q o) same_node fits.0))
  octet_fits octet x (EmptyClash k o b) under fits =
      let is = under.1 in
      let same_node : k ≡ node = cc in
      let same_octet : o ≡ octet = cc in
      (inr (cc), subst (λ (q : ℕ). Reached d node q) same_octet (subst (λ (q : ℕ). Reached d q o) same_node fits.0))
  octet_fits octet x (LoopClash k o b) under fits = absurd fits
  octet_fits octet x (NotLast k o) under fits = absurd fits

  octet_class : (octet x : ℕ) (c : Conflict) → IsUnder (node ∷ 3 ∷ octet ∷ x ∷ []) c → IsConflict d 12 c → ((x ≡ 3) ⊎ (x ≡ 4)) × Reached d node octet
  octet_class octet x c under holds = octet_fits octet x c under (choice_fits d node (3 ∷ octet ∷ x ∷ []) parts c at under holds)

  -- a choice that is not reached there has none
  pub not_reached : (octet : ℕ) → ¬ Reached d node octet → IsFirstUnder d (node ∷ 3 ∷ octet ∷ []) None
  not_reached octet apart =
      none_of d (node ∷ 3 ∷ octet ∷ []) (branch_at (node ∷ 3 ∷ octet ∷ []) refl) (λ x c under holds. apart (octet_class octet x c under holds).1)

  below_three : (octet : ℕ) → NoneBelow d (node ∷ 3 ∷ octet ∷ []) 3
  below_three octet x less c under holds =
      elim (octet_class octet x c under holds).0 [ inl is ↦ absurd (omega arith) | inr is ↦ absurd (omega arith) ]

  -- overlaps come before clashes
  pub overlap_found : (octet : ℕ) (c : Conflict) → IsFirstUnder d (node ∷ 3 ∷ octet ∷ 3 ∷ []) (Some c) → IsFirstUnder d (node ∷ 3 ∷ octet ∷ []) (Some c)
  overlap_found octet c h = found_at d (node ∷ 3 ∷ octet ∷ []) 3 c (branch_at (node ∷ 3 ∷ octet ∷ []) refl) (below_three octet) h

  pub clashes_after : (octet : ℕ) (r : Option Conflict) → IsFirstUnder d (node ∷ 3 ∷ octet ∷ 3 ∷ []) None
      → IsFirstUnder d (node ∷ 3 ∷ octet ∷ 4 ∷ []) r → IsFirstUnder d (node ∷ 3 ∷ octet ∷ []) r
  clashes_after octet r none h =
      last_class d (node ∷ 3 ∷ octet ∷ []) 4 r (branch_at (node ∷ 3 ∷ octet ∷ []) refl) below past h
    where
      below : NoneBelow d (node ∷ 3 ∷ octet ∷ []) 4
      below x less c under holds =
          elim (octet_class octet x c under holds).0 [
            | inl is ↦ none c (subst (λ (y : ℕ). IsUnder (node ∷ 3 ∷ octet ∷ y ∷ []) c) is under) holds
            | inr is ↦ absurd (omega arith)
          ]

      past : (x : ℕ) → 4 < x → IsFirstUnder d (node ∷ 3 ∷ octet ∷ x ∷ []) None
      past x more c under holds =
          elim (octet_class octet x c under holds).0 [ inl is ↦ absurd (omega arith) | inr is ↦ absurd (omega arith) ]

  -- ---- a clash beside an alternative that takes no bits

  clash_fits : (octet : ℕ) (c : Conflict) → IsUnder (node ∷ 3 ∷ octet ∷ 4 ∷ []) c → ChoiceFits d parts c → (bit : ℕ)
      × (c ≡ EmptyClash node octet bit) × ((i : ℕ) × IsNullAt d parts i) × IsClashing d node node octet bit
  clash_fits octet (TwoEmpty k i j) under fits = let is = under.1 in absurd (cc)
  clash_fits octet (NotFirm k i) under fits = let is = under.1 in absurd (cc)
  clash_fits octet (Overlap k o i j v w) under fits = let is = under.1 in absurd (cc)
  clash_fits octet (EmptyClash k o b) under fits =
      let is = under.1 in
      let same_node : k ≡ node = cc in
      let same_octet : o ≡ octet = cc in
      (b, cc, fits.1, subst (λ (q : ℕ). IsClashing d node node q b) same_octet (subst (λ (q : ℕ). IsClashing d q q o b) same_node fits.2))
  clash_fits octet (LoopClash k o b) under fits = absurd fits
  clash_fits octet (NotLast k o) under fits = absurd fits

  of_clash : (octet : ℕ) (c : Conflict) → IsUnder (node ∷ 3 ∷ octet ∷ 4 ∷ []) c → IsConflict d 12 c → (bit : ℕ)
      × (c ≡ EmptyClash node octet bit) × ((i : ℕ) × IsNullAt d parts i) × IsClashing d node node octet bit
  of_clash octet c under holds = clash_fits octet c under (choice_fits d node (3 ∷ octet ∷ 4 ∷ []) parts c at under holds)

  pub no_null : (octet : ℕ) → IsLeastFrom 0 (IsNullAt d parts) None → IsFirstUnder d (node ∷ 3 ∷ octet ∷ 4 ∷ []) None
  no_null octet none c under holds = let h = (of_clash octet c under holds).2 in none h.0 (omega arith) h.1

  pub no_clash : (octet : ℕ) → IsLeastFrom 0 (IsClashing d node node octet) None → IsFirstUnder d (node ∷ 3 ∷ octet ∷ 4 ∷ []) None
  no_clash octet none c under holds = let h = of_clash octet c under holds in none h.0 (omega arith) h.3

  pub clash_some : (octet i bit : ℕ) → Reached d node octet → IsNullAt d parts i
      → IsLeastFrom 0 (IsClashing d node node octet) (Some bit)
      → IsFirstUnder d (node ∷ 3 ∷ octet ∷ 4 ∷ []) (Some (EmptyClash node octet bit))
  clash_some octet i bit reached null least = (
    (bit ∷ [], refl),
    made (choice_start d node octet bit parts at least.1.0),
    (λ other under holds.
        let h = of_clash octet other under holds in
        let up = least_number 0 bit h.0 (IsClashing d node node octet) least (omega arith) h.3 in
        subst (λ (e : Conflict). NotAfter (rank_of (EmptyClash node octet bit)) (rank_of e)) (sym h.1)
        (first_behind (node ∷ 3 ∷ octet ∷ 4 ∷ []) (bit ∷ []) (h.0 ∷ []) (by_number bit h.0 [] [] up (λ same. tt)))),
  )
    where
      apart : (j q : ℕ) → slice_get parts j ≡ Some q → InStart d q octet bit → ¬ (j ≡ i)
      apart j q at_j start same =
          let at_i = null.1 in
          let one : null.0 ≡ q = cc in
          null_starts d q octet bit (subst (λ (k : ℕ). IsNull d k) one null.2) start

      made : Begins d parts octet bit → IsConflict d 12 (EmptyClash node octet bit)
      made s = empty_clash at reached null.1 null.2 s.is_part (apart s.j s.q s.is_part s.start) s.start least.1.1

-- ---- the whole choice

module _ (d : DescV) (node : ℕ) (parts : List ℕ) (at : slice_get d.nodes node ≡ Some (Choice parts)) where
  -- the octet positions have been gone through
  pub octets_end : (count : ℕ) → 8 ≤ count → NoneBelow d (node ∷ 3 ∷ []) count → IsFirstUnder d (node ∷ 3 ∷ []) None
  octets_end count all below =
      gone_through d (node ∷ 3 ∷ []) count (branch_at (node ∷ 3 ∷ []) refl) below
      (λ x over. not_reached d node parts at x (λ reached. let small = reached_small d reached in absurd (omega (arith, small, over, all))))
