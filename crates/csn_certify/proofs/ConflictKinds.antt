-- The conflicts that a node of each kind may have.
use Rattle.std.proofs.Common.{◌≡◌, ℕ, ◌<◌, ◌⊎◌, List, [], ◌∷◌, refl, ◌∙◌, ap, subst, Bool, Some, None, slice_get}
use Rattle.std.specs.Prelude.{⊤}
use Rattle.csn_desc.specs.declared.node.Count.{Count}
use Rattle.csn_desc.specs.declared.node.Node.{Node}
use Rattle.csn_desc.specs.declared.node.Node.TheVariants.{Lits, Spare, Pad, Null, Field, Rest, Seq, Choice, Times, Many, Trunc, Window, Named}
use Rattle.csn_desc.specs.Nodes.{DescV}
use Rattle.csn_look.specs.Nullable.{Nullable}
use Rattle.csn_look.specs.Starts.{starts_choice}
use Rattle.csn_look.specs.Keys.{InKeys, IsNotFirm}
use Rattle.csn_look.specs.Reached.{Reached}
use Rattle.csn_look.proofs.Meaning.LeastSets.{starts_at}
use Rattle.csn_certify.specs.declared.conflict.Conflict.{Conflict}
use Rattle.csn_certify.specs.declared.conflict.Conflict.TheVariants.{TwoEmpty, NotFirm, Overlap, EmptyClash, LoopClash, NotLast}
use Rattle.csn_certify.specs.Conflicts.{IsBegunBy, IsLast, IsNull, IsConflict, two_empty, choice_not_firm}
use Rattle.csn_certify.specs.Conflicts.{many_not_firm, times_not_firm, overlap, empty_clash, loop_clash, not_last}
use Rattle.csn_certify.specs.Search.{IsUnder, IsFirstUnder, IsNullAt, IsClashing, MayEndAt, IsFollowed}
use Rattle.csn_certify.proofs.Searching.{node_of, node_under}

-- nodes that have no conflict
abbrev pub IsPlain : Node → Type 0
IsPlain (Lits run) = ⊤
IsPlain (Spare symbol) = ⊤
IsPlain Null = ⊤
IsPlain (Field unit count) = ⊤
IsPlain (Seq parts) = ⊤
IsPlain (Window unit count part) = ⊤
IsPlain (Named label part) = ⊤
IsPlain Pad = ⊥
IsPlain Rest = ⊥
IsPlain (Choice parts) = ⊥
IsPlain (Times count part) = ⊥
IsPlain (Many part) = ⊥
IsPlain (Trunc parts) = ⊥

plain_not_last : (n : Node) → IsLast n → IsPlain n → ⊥
plain_not_last (Lits run) last plain = last
plain_not_last (Spare symbol) last plain = last
plain_not_last Null last plain = last
plain_not_last (Field unit count) last plain = last
plain_not_last (Seq parts) last plain = last
plain_not_last (Window unit count part) last plain = last
plain_not_last (Named label part) last plain = last
plain_not_last Pad last plain = plain
plain_not_last Rest last plain = plain
plain_not_last (Choice parts) last plain = plain
plain_not_last (Times count part) last plain = plain
plain_not_last (Many part) last plain = plain
plain_not_last (Trunc parts) last plain = plain

-- one node has one kind
one_node : (nodes : List Node) (i j : ℕ) (n m : Node) → i ≡ j → slice_get nodes i ≡ Some n → slice_get nodes j ≡ Some m → n ≡ m
one_node nodes i j n m same at_n at_m = cc

module _ (d : DescV) where
  -- what is told of a conflict of a choice with these alternatives
  abbrev pub ChoiceFits : List ℕ → Conflict → Type 0
  ChoiceFits parts (TwoEmpty node i j) = (i < j) × IsNullAt d parts i × IsNullAt d parts j
  ChoiceFits parts (NotFirm node i) = (p : ℕ) × (slice_get parts i ≡ Some p) × (¬ IsNull d p) × IsNotFirm d 12 p
  ChoiceFits parts (Overlap node octet i j word_i word_j) =
      Reached d node octet × (i < j)
      × ((p : ℕ) × (q : ℕ) × (slice_get parts i ≡ Some p) × (slice_get parts j ≡ Some q) × (¬ IsNull d p) × (¬ IsNull d q)
      × ((mark_i : Bool) × (mark_j : Bool) × InKeys d 12 p octet word_i mark_i × InKeys d 12 q octet word_j mark_j))
      × (IsBegunBy word_i word_j ⊎ IsBegunBy word_j word_i)
  ChoiceFits parts (EmptyClash node octet bit) =
      Reached d node octet × ((i : ℕ) × IsNullAt d parts i) × IsClashing d node node octet bit
  ChoiceFits parts (LoopClash node octet bit) = ⊥
  ChoiceFits parts (NotLast node octet) = ⊥

  of_choice : {c : Conflict} (parts : List ℕ) → slice_get d.nodes (node_of c) ≡ Some (Choice parts) → IsConflict d 12 c → ChoiceFits parts c
  of_choice parts is (two_empty {p = p} {q = q} at less at_i at_j null_i null_j) =
      (less, (p, cc, null_i), (q, cc, null_j))
  of_choice parts is (choice_not_firm {p = p} at at_i real not_firm) = (p, cc, real, not_firm)
  of_choice parts is (many_not_firm at same not_firm) = absurd (cc)
  of_choice parts is (times_not_firm at same null) = absurd (cc)
  of_choice parts is (overlap {p = p} {q = q} mark_i mark_j at reached less at_i at_j real_i real_j key_i key_j begun) =
      (reached, less, (p, q, cc, cc, real_i, real_j, (mark_i, mark_j, key_i, key_j)), begun)
  of_choice parts is (empty_clash {i = i} {j = j} {p = p} {parts = others} at reached at_i null at_j other start follow) =
      (reached, (i, (p, cc, null)), (starts_at (Choice others) at (starts_choice j at_j start), follow))
  of_choice parts is (loop_clash at reached start follow) = absurd (cc)
  of_choice parts is (not_last n from at last reached ends follow) =
      absurd (subst IsLast (one_node d.nodes _ _ n (Choice parts) refl at is) last)

  -- of a repetition by number
  abbrev pub TimesFits : ℕ → Conflict → Type 0
  TimesFits part (NotFirm node i) = (i ≡ 0) × Nullable d part
  TimesFits part _ = ⊥

  of_times : {c : Conflict} (count : Count) (part : ℕ) → slice_get d.nodes (node_of c) ≡ Some (Times count part) → IsConflict d 12 c → TimesFits part c
  of_times count part is (two_empty at less at_i at_j null_i null_j) = absurd (cc)
  of_times count part is (choice_not_firm at at_i real not_firm) = absurd (cc)
  of_times count part is (many_not_firm at same not_firm) = absurd (cc)
  of_times count part is (times_not_firm {p = p} at same null) =
      let one : p ≡ part = cc in (same, subst (λ (k : ℕ). Nullable d k) one null)
  of_times count part is (overlap mark_i mark_j at reached less at_i at_j real_i real_j key_i key_j begun) = absurd (cc)
  of_times count part is (empty_clash at reached at_i null at_j other start follow) = absurd (cc)
  of_times count part is (loop_clash at reached start follow) = absurd (cc)
  of_times count part is (not_last n from at last reached ends follow) =
      absurd (subst IsLast (one_node d.nodes _ _ n (Times count part) refl at is) last)

  -- of a free repetition
  abbrev pub ManyFits : ℕ → Conflict → Type 0
  ManyFits part (NotFirm node i) = (i ≡ 0) × IsNotFirm d 12 part
  ManyFits part (LoopClash node octet bit) = Reached d part octet × IsClashing d part node octet bit
  ManyFits part _ = ⊥

  of_many : {c : Conflict} (part : ℕ) → slice_get d.nodes (node_of c) ≡ Some (Many part) → IsConflict d 12 c → ManyFits part c
  of_many part is (two_empty at less at_i at_j null_i null_j) = absurd (cc)
  of_many part is (choice_not_firm at at_i real not_firm) = absurd (cc)
  of_many part is (many_not_firm {p = p} at same not_firm) =
      let one : p ≡ part = cc in (same, subst (λ (k : ℕ). IsNotFirm d 12 k) one not_firm)
  of_many part is (times_not_firm at same null) = absurd (cc)
  of_many part is (overlap mark_i mark_j at reached less at_i at_j real_i real_j key_i key_j begun) = absurd (cc)
  of_many part is (empty_clash at reached at_i null at_j other start follow) = absurd (cc)
  of_many part is (loop_clash {node = node} {octet = octet} {bit = bit} {p = p} at reached start follow) =
      let one : p ≡ part = cc in
      subst (λ (k : ℕ). Reached d k octet × IsClashing d k node octet bit) one (reached, (start, follow))
  of_many part is (not_last n from at last reached ends follow) =
      absurd (subst IsLast (one_node d.nodes _ _ n (Many part) refl at is) last)

  -- of a node that must be last
  abbrev pub LastFits : Conflict → Type 0
  LastFits (NotLast node octet) = MayEndAt d node octet × IsFollowed d node octet
  LastFits _ = ⊥

  of_last : {c : Conflict} (n : Node) → IsLast n → slice_get d.nodes (node_of c) ≡ Some n → IsConflict d 12 c → LastFits c
  of_last n is_last is (two_empty {parts = ps} at less at_i at_j null_i null_j) = subst IsLast (one_node d.nodes _ _ n (Choice ps) refl is at) is_last
  of_last n is_last is (choice_not_firm {parts = ps} at at_i real not_firm) = subst IsLast (one_node d.nodes _ _ n (Choice ps) refl is at) is_last
  of_last n is_last is (many_not_firm {p = p} at same not_firm) = absurd (subst IsLast (one_node d.nodes _ _ n (Many p) refl is at) is_last)
  of_last n is_last is (times_not_firm {p = p} {count = count} at same null) =
      absurd (subst IsLast (one_node d.nodes _ _ n (Times count p) refl is at) is_last)
  of_last n is_last is (overlap {parts = ps} mark_i mark_j at reached less at_i at_j real_i real_j key_i key_j begun)
      = subst IsLast (one_node d.nodes _ _ n (Choice ps) refl is at) is_last
  of_last n is_last is (empty_clash {parts = ps} at reached at_i null at_j other start follow) =
      subst IsLast (one_node d.nodes _ _ n (Choice ps) refl is at) is_last
  of_last n is_last is (loop_clash {p = p} at reached start follow) = subst IsLast (one_node d.nodes _ _ n (Many p) refl is at) is_last
  of_last n is_last is (not_last {bit = bit} m from at last reached ends follow) = ((from, reached, ends), (bit, follow))

  -- and of the others
  of_plain : {c : Conflict} (n : Node) → IsPlain n → slice_get d.nodes (node_of c) ≡ Some n → IsConflict d 12 c → ⊥
  of_plain n plain is (two_empty {parts = ps} at less at_i at_j null_i null_j) = subst IsPlain (one_node d.nodes _ _ n (Choice ps) refl is at) plain
  of_plain n plain is (choice_not_firm {parts = ps} at at_i real not_firm) = subst IsPlain (one_node d.nodes _ _ n (Choice ps) refl is at) plain
  of_plain n plain is (many_not_firm {p = p} at same not_firm) = subst IsPlain (one_node d.nodes _ _ n (Many p) refl is at) plain
  of_plain n plain is (times_not_firm {p = p} {count = count} at same null) = subst IsPlain (one_node d.nodes _ _ n (Times count p) refl is at) plain
  of_plain n plain is (overlap {parts = ps} mark_i mark_j at reached less at_i at_j real_i real_j key_i key_j begun) =
      subst IsPlain (one_node d.nodes _ _ n (Choice ps) refl is at) plain
  of_plain n plain is (empty_clash {parts = ps} at reached at_i null at_j other start follow) =
      subst IsPlain (one_node d.nodes _ _ n (Choice ps) refl is at) plain
  of_plain n plain is (loop_clash {p = p} at reached start follow) = subst IsPlain (one_node d.nodes _ _ n (Many p) refl is at) plain
  of_plain n plain is (not_last m from at last reached ends follow) =
      plain_not_last n (subst IsLast (one_node d.nodes _ _ m n refl at is) last) plain

  -- ---- by the node's number

  at_node : (node : ℕ) (front : List ℕ) (n : Node) (c : Conflict) → slice_get d.nodes node ≡ Some n
      → IsUnder (node ∷ front) c → slice_get d.nodes (node_of c) ≡ Some n
  at_node node front n c at under = ap (λ (k : ℕ). slice_get d.nodes k) (node_under node front c under) ∙ at

  pub choice_fits : (node : ℕ) (front parts : List ℕ) (c : Conflict) → slice_get d.nodes node ≡ Some (Choice parts)
      → IsUnder (node ∷ front) c → IsConflict d 12 c → ChoiceFits parts c
  choice_fits node front parts c at under holds = of_choice parts (at_node node front (Choice parts) c at under) holds

  pub times_fits : (node : ℕ) (front : List ℕ) (count : Count) (part : ℕ) (c : Conflict)
      → slice_get d.nodes node ≡ Some (Times count part) → IsUnder (node ∷ front) c → IsConflict d 12 c
      → TimesFits part c
  times_fits node front count part c at under holds = of_times count part (at_node node front (Times count part) c at under) holds

  pub many_fits : (node : ℕ) (front : List ℕ) (part : ℕ) (c : Conflict) → slice_get d.nodes node ≡ Some (Many part)
      → IsUnder (node ∷ front) c → IsConflict d 12 c → ManyFits part c
  many_fits node front part c at under holds = of_many part (at_node node front (Many part) c at under) holds

  pub last_fits : (node : ℕ) (front : List ℕ) (n : Node) (c : Conflict) → slice_get d.nodes node ≡ Some n → IsLast n
      → IsUnder (node ∷ front) c → IsConflict d 12 c → LastFits c
  last_fits node front n c at last under holds = of_last n last (at_node node front n c at under) holds

  pub plain_none : (node : ℕ) (n : Node) → slice_get d.nodes node ≡ Some n → IsPlain n → IsFirstUnder d (node ∷ []) None
  plain_none node n at plain c under holds = of_plain n plain (at_node node [] n c at under) holds

  pub plain_is : (node : ℕ) (n m : Node) → slice_get d.nodes node ≡ Some n → n ≡ m → IsPlain m → IsFirstUnder d (node ∷ []) None
  plain_is node n m at same plain = plain_none node m (at ∙ ap Some same) plain
