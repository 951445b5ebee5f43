-- What the tables tell a search: of nodes that are firm, and of bits that stand next.
use Rattle.std.proofs.Common.{◌≡◌, ℕ, zero, suc, ◌+◌, ◌<◌, ◌≤◌, ◌⊎◌, ◌↔◌, inl, inr, Bool, true, false, ◌&&◌, ◌||◌}
use Rattle.std.proofs.Common.{not, List, [], ◌∷◌, length, refl, sym, ◌∙◌, ap, subst, arith, lit<, lit≤, Option, Some}
use Rattle.std.proofs.Common.{None, slice_get}
use Rattle.std.specs.Prelude.{IsTrue, IsSomeAnd}
use Rattle.std.specs.Ordering.{nat_cmp}
use Rattle.std.specs.FinSet as set
use Rattle.std.proofs.lemmas.Bool.{or_right}
use Rattle.csn_desc.specs.declared.node.Count.{Count}
use Rattle.csn_desc.specs.declared.node.Node.{Node}
use Rattle.csn_desc.specs.declared.node.Node.TheVariants.{Choice, Times, Many}
use Rattle.csn_desc.specs.Formed.{IsDescription}
use Rattle.csn_desc.specs.Nodes.{DescV}
use Rattle.csn_look.specs.declared.node_sets.NodeSets.{NodeSets}
use Rattle.csn_look.specs.declared.symbol_set.Sign.{Sign}
use Rattle.csn_look.specs.declared.symbol_set.Sign.TheVariants.{Zero, One, End}
use Rattle.csn_look.specs.LookV.{LookV}
use Rattle.csn_look.specs.ReachV.{ReachV}
use Rattle.csn_look.specs.SignsV.{SignsV}
use Rattle.csn_look.specs.Signs.{has_sign, bit_of_sign, no_signs}
use Rattle.csn_look.specs.Told.{OctetsAre, SignsAre, FollowHas}
use Rattle.csn_look.specs.Sums.{Has}
use Rattle.csn_look.specs.FollowV.{IsFollow}
use Rattle.csn_look.specs.NodeSets.{SetsAre, IsLookOf}
use Rattle.csn_look.specs.Starts.{InStart, PartsStart, InFirst}
use Rattle.csn_look.specs.Keys.{InKeys, IsNotFirm, IsFirm}
use Rattle.csn_look.specs.Ends.{InEnds}
use Rattle.csn_look.specs.Reached.{Reached, InFollow, OfPart, follow_later, follow_seq}
use Rattle.csn_look.specs.Reached.{follow_kept, follow_trunc, follow_times_again, follow_times, follow_many_again}
use Rattle.csn_look.specs.Reached.{follow_many, follow_choice, follow_named, follow_window}
use Rattle.csn_look.specs.Nullable.{Nullable}
use Rattle.csn_equations.proofs.Small.{parts_bit, node_bit}
use Rattle.csn_equations.specs.Reached as reach
use Rattle.csn_look.proofs.Meaning.LeastSets.{StartWith, FollowWith, each_start, each_follow}
use Rattle.csn_look.proofs.Meaning.EmptyKeys.{empty_key}
use Rattle.csn_look.proofs.Basics.Octets.{has_union, has_none}
use Rattle.csn_look.proofs.Handing.ReachedParts.{reached_small, parts_below}
use Rattle.csn_look.proofs.Sets.LookFacts.{follow_has}
use Rattle.csn_look.proofs.Sets.Telling.{both, together, is_so}
use Rattle.csn_claims.proofs.Pieces.{order, equal_numbers, first_less, second_less}
use Rattle.csn_certify.specs.Search.{IsSurveyed, IsLeastFrom, IsClashing, IsFollowed, MayEndAt, IsNullAt}
use Rattle.csn_certify.specs.Conflicts.{IsNull}
use Rattle.std.proofs.lemmas.Option.{slice_get_within}

-- a part is a node
pub part_inside : (d : DescV) (node : ℕ) (parts : List ℕ) (j p : ℕ)
    → IsDescription d → slice_get d.nodes node ≡ Some (Choice parts) → slice_get parts j ≡ Some p → p < length d.nodes
part_inside d node parts j p is at at_j = parts_below d node (Choice parts) (length d.nodes) is at (omega arith) j p at_j

pub times_inside : (d : DescV) (node part : ℕ) (count : Count) → IsDescription d → slice_get d.nodes node ≡ Some (Times count part) → part < length d.nodes
times_inside d node part count is at = parts_below d node (Times count part) (length d.nodes) is at (omega arith) 0 part refl

pub many_inside : (d : DescV) (node part : ℕ) → IsDescription d → slice_get d.nodes node ≡ Some (Many part) → part < length d.nodes
many_inside d node part is at = parts_below d node (Many part) (length d.nodes) is at (omega arith) 0 part refl

-- ---- firm or not

module _ (d : DescV) where
  settled : (i : ℕ) (sets : NodeSets) → SetsAre d i sets → IsNotFirm d 12 i ⊎ IsFirm d 12 i
  settled i sets t = by_tests sets.nullable sets.whole_empty sets.cut_empty refl refl refl
    where
      no_key : (mark : Bool) → sets.whole_empty ≡ false → sets.cut_empty ≡ false → InKeys d 12 i 0 [] mark → ⊥
      no_key true whole cut key = let shown = t.whole_empty.1 key in let no_whole : true ≡ false = sym shown ∙ whole in absurd (cc)
      no_key false whole cut key = let shown = t.cut_empty.1 key in let no_cut : true ≡ false = sym shown ∙ cut in absurd (cc)

      by_tests : (a b c : Bool) → sets.nullable ≡ a → sets.whole_empty ≡ b → sets.cut_empty ≡ c → IsNotFirm d 12 i ⊎ IsFirm d 12 i
      by_tests true b c null whole cut = inl (inl (t.nullable.0 null))
      by_tests false true c null whole cut = inl (inr (0, lit< tt, true, t.whole_empty.0 whole))
      by_tests false false true null whole cut = inl (inr (0, lit< tt, false, t.cut_empty.0 cut))
      by_tests false false false null whole cut =
          inr (λ bad. elim bad [
            | inl some ↦ let shown = t.nullable.1 some in let differ : true ≡ false = sym shown ∙ null in absurd (cc)
            | inr key ↦ no_key key.2 whole cut (empty_key d 12 (lit< tt) 0 key.3 refl)
          ])

  -- a node that is known is firm or is not
  pub firm_or_not : (look : List NodeSets) (i : ℕ) → IsLookOf d look → i < length d.nodes → IsNotFirm d 12 i ⊎ IsFirm d 12 i
  firm_or_not look i is inside = let known = is.known i inside in settled i known.0 known.2

  pub not_firm : (look : List NodeSets) (i : ℕ) → IsLookOf d look → i < length d.nodes → ¬ IsFirm d 12 i → IsNotFirm d 12 i
  not_firm look i is inside soft = elim (firm_or_not look i is inside) [ inl bad ↦ bad | inr firm ↦ absurd (soft firm) ]

-- ---- bits

module _ (d : DescV) where
  -- what a node begins with is a bit
  pub start_bit : {i o bit : ℕ} → InStart d i o bit → bit ≤ 1
  start_bit h =
      each_start (λ i o bit. bit ≤ 1) (λ i o bit made. node_bit (Nullable d) (InEnds d) (StartWith d (λ i o bit. bit ≤ 1)) (λ j r b first. first.1)
      d made.has) h

  parts_start_bit : {parts : List ℕ} {o bit : ℕ} → PartsStart d parts o bit → bit ≤ 1
  parts_start_bit h = parts_bit (Nullable d) (InEnds d) (InStart d) (λ i o bit first. start_bit first) h

  -- and so is what may follow one
  abbrev IsBitOrEnd : ℕ → ℕ → Option ℕ → Type 0
  IsBitOrEnd i o s = (bit : ℕ) → s ≡ Some bit → bit ≤ 1

  part_follow_bit : {n : Node} {k : ℕ} {after : List ℕ} {i o : ℕ} {s : Option ℕ} (bit : ℕ) → s ≡ Some bit
      → reach.PartFollow (Nullable d) (InEnds d) (InStart d) (FollowWith d IsBitOrEnd) n k after i o s → bit ≤ 1
  part_follow_bit b is (follow_later {bit = bit} h) = let same : bit ≡ b = cc in let small = parts_start_bit h in omega (arith, same, small)
  part_follow_bit b is (follow_seq null h) = h.1 b is
  part_follow_bit b is (follow_kept {bit = bit} h) = let same : bit ≡ b = cc in let small = parts_start_bit h in omega (arith, same, small)
  part_follow_bit b is (follow_trunc h) = h.1 b is
  part_follow_bit b is (follow_times_again {bit = bit} h) = let same : bit ≡ b = cc in let small = start_bit h in omega (arith, same, small)
  part_follow_bit b is (follow_times h) = h.1 b is
  part_follow_bit b is (follow_many_again {bit = bit} h) = let same : bit ≡ b = cc in let small = start_bit h in omega (arith, same, small)
  part_follow_bit b is (follow_many h) = h.1 b is
  part_follow_bit b is (follow_choice h) = h.1 b is
  part_follow_bit b is (follow_named h) = h.1 b is
  part_follow_bit b is (follow_window none) = absurd (cc)

  made_follow_bit : (i o : ℕ) (s : Option ℕ)
      → ((i ≡ 0) × (s ≡ None)) ⊎ OfPart d i (λ k n after. reach.PartFollow (Nullable d) (InEnds d) (InStart d) (FollowWith d IsBitOrEnd) n k after i o s)
      → IsBitOrEnd i o s
  made_follow_bit i o s (inl root) bit is = let none = root.1 in absurd (cc)
  made_follow_bit i o s (inr part) bit is = part_follow_bit bit is part.so

  pub follow_bit : {i o : ℕ} {s : Option ℕ} (bit : ℕ) → s ≡ Some bit → InFollow d i o s → bit ≤ 1
  follow_bit bit is h = each_follow IsBitOrEnd made_follow_bit h bit is

-- ---- the signs that stand next

module _ (d : DescV) (node octet : ℕ) (follow : List SignsV) (next : SignsV) (small : octet ≤ 7)
    (are : IsFollow follow (InFollow d node)) (at : slice_get follow octet ≡ Some next) where
  pub sign_follows : (sign : Sign) → IsTrue (has_sign next sign) ↔ InFollow d node octet (bit_of_sign sign)
  sign_follows sign = both (follow_has follow octet next sign at) (are octet sign small)

  -- a bit stands next
  pub followed : IsTrue (has_sign next Zero || has_sign next One) ↔ IsFollowed d node octet
  followed = ((λ h. some (has_sign next Zero) (has_sign next One) refl refl h), (λ h. back h.0 h.1))
    where
      some : (a b : Bool) → has_sign next Zero ≡ a → has_sign next One ≡ b → (a || b) ≡ true → IsFollowed d node octet
      some true b z o shown = (0, (sign_follows Zero).0 z)
      some false b z o shown = (1, (sign_follows One).0 (o ∙ shown))

      back : (bit : ℕ) → InFollow d node octet (Some bit) → IsTrue (has_sign next Zero || has_sign next One)
      back zero h = let shown = (sign_follows Zero).1 h in ap (λ b. b || has_sign next One) shown
      back (suc zero) h = let shown = (sign_follows One).1 h in or_right (has_sign next Zero) (has_sign next One) shown
      back (suc (suc bit)) h = let most = follow_bit d (suc (suc bit)) refl h in absurd (omega (arith, most))

  pub followed_by : (a b : Bool) → a ≡ has_sign next Zero → b ≡ has_sign next One → IsTrue (a || b) ↔ IsFollowed d node octet
  followed_by a b is_zero is_one =
      is_so (ap (λ x. x || b) is_zero ∙ ap (λ x. has_sign next Zero || x) is_one) followed

  -- a part begins with a sign that stands next
  pub clashes : (part bit : ℕ) (sign : Sign) (a b start : Bool)
      → bit_of_sign sign ≡ Some bit → (IsTrue start ↔ InStart d part octet bit) → a ≡ start → b ≡ has_sign next sign
      → IsTrue (a && b) ↔ IsClashing d part node octet bit
  clashes part bit sign a b start sign_is starts is_start is_next =
      together (is_so is_start starts)
      (is_so is_next (subst (λ (s : Option ℕ). IsTrue (has_sign next sign) ↔ InFollow d node octet s) sign_is (sign_follows sign)))

-- ---- the least bit that clashes

module _ (d : DescV) (part node octet : ℕ) where
  pub clash_zero : IsClashing d part node octet 0 → IsLeastFrom 0 (IsClashing d part node octet) (Some 0)
  clash_zero clash = (lit≤ tt, clash, (λ m up less. absurd (omega (arith, less))))

  pub clash_one : ¬ IsClashing d part node octet 0 → IsClashing d part node octet 1 → IsLeastFrom 0 (IsClashing d part node octet) (Some 1)
  clash_one not_zero clash = (
    lit≤ tt,
    clash,
    (λ m up less h. not_zero (let least : m ≡ 0 = omega (arith, less) in
        subst (λ (b : ℕ). IsClashing d part node octet b) least h)),
  )

  pub clash_none : ¬ IsClashing d part node octet 0 → ¬ IsClashing d part node octet 1 → IsLeastFrom 0 (IsClashing d part node octet) None
  clash_none not_zero not_one n up h = by_bit n (start_bit d h.0) h
    where
      by_bit : (n : ℕ) → n ≤ 1 → IsClashing d part node octet n → ⊥
      by_bit zero small h = not_zero h
      by_bit (suc zero) small h = not_one h
      by_bit (suc (suc n)) small h = absurd (omega (arith, small))

-- ---- a part alone, where nothing follows it

no_sign : (sign : Sign) → IsTrue (has_sign no_signs sign) → ⊥
no_sign Zero shown = cc
no_sign One shown = cc
no_sign End shown = cc

-- there are no signs at any octet position
abbrev pub IsNothing : List SignsV → Type 0
IsNothing follow = (o : ℕ) (s : SignsV) → slice_get follow o ≡ Some s → s ≡ no_signs

-- eight times no signs are nothing
abbrev AllAre : SignsV → List SignsV → Type 0
AllAre e [] = Unit {0}
AllAre e (x ∷ l) = (x ≡ e) × AllAre e l

each_is : (e : SignsV) (l : List SignsV) (o : ℕ) (s : SignsV) → AllAre e l → slice_get l o ≡ Some s → s ≡ e
each_is e [] o s all at = absurd (cc)
each_is e (x ∷ l) zero s all at = let same : x ≡ s = cc in sym same ∙ all.0
each_is e (x ∷ l) (suc o) s all at = each_is e l o s all.1 at

pub no_follows : (follow : List SignsV) (e : SignsV) → follow ≡ e ∷ e ∷ e ∷ e ∷ e ∷ e ∷ e ∷ e ∷ [] → e ≡ no_signs → IsNothing follow
no_follows follow e is none o s at =
    let eight : AllAre e (e ∷ e ∷ e ∷ e ∷ e ∷ e ∷ e ∷ e ∷ []) = (refl, (refl, (refl, (refl, (refl, (refl, (refl, (refl, tt)))))))) in
    let there : slice_get (e ∷ e ∷ e ∷ e ∷ e ∷ e ∷ e ∷ e ∷ []) o ≡ Some s = subst (λ (l : List SignsV). slice_get l o ≡ Some s) is at in
    each_is e (e ∷ e ∷ e ∷ e ∷ e ∷ e ∷ e ∷ e ∷ []) o s eight there ∙ none

no_follow : (follow : List SignsV) (octet : ℕ) (next : Option ℕ) → IsNothing follow → FollowHas follow octet next → ⊥
no_follow follow octet next nothing h = by_get (slice_get follow octet) (nothing octet) h.2
  where
    by_get : (got : Option SignsV) → ((s : SignsV) → got ≡ Some s → s ≡ no_signs) → IsSomeAnd got (λ signs. IsTrue (has_sign signs h.0)) → ⊥
    by_get None none shown = shown
    by_get (Some s) none shown = no_sign h.0 (subst (λ (t : SignsV). IsTrue (has_sign t h.0)) (none s refl) shown)

module _ (d : DescV) (part octet : ℕ) (signs : SignsV) (follow : List SignsV) (nothing : IsNothing follow)
    (are : SignsAre signs (InFirst d (FollowHas follow) part octet)) where
  pub starts_zero : IsTrue signs.zero ↔ InStart d part octet 0
  starts_zero = (
    (λ shown. elim ((are Zero).0 shown) [ inl start ↦ start | inr after ↦ absurd (no_follow follow octet (Some 0) nothing after.1) ]),
    (λ start. (are Zero).1 (inl start)),
  )

  pub starts_one : IsTrue signs.one ↔ InStart d part octet 1
  starts_one = (
    (λ shown. elim ((are One).0 shown) [ inl start ↦ start | inr after ↦ absurd (no_follow follow octet (Some 1) nothing after.1) ]),
    (λ start. (are One).1 (inl start)),
  )

-- ---- where a node may end

-- from where it is reached below an octet position
abbrev pub EndsBelow : DescV → ℕ → ℕ → ℕ → Type 0
EndsBelow d node count octet = (from : ℕ) × (from < count) × Reached d node from × InEnds d node from octet

module _ (d : DescV) (node : ℕ) where
  pub ends_none : (s : set.FinSet nat_cmp) → s ≡ set.empty → OctetsAre s (EndsBelow d node 0)
  ends_none s empty o small = ((λ shown. absurd (has_none s o empty shown)), (λ h. let less = h.1 in absurd (omega (arith, less))))

  pub ends_more : (s more new : set.FinSet nat_cmp) (from : ℕ)
      → OctetsAre more (λ octet. Reached d node from × InEnds d node from octet)
      → new ≡ set.union s more → OctetsAre s (EndsBelow d node from) → OctetsAre new (EndsBelow d node (from + 1))
  ends_more s more new from are is before o small = (
    (λ shown. elim ((has_union s more o).0 (ap (λ u. set.contains u o) (sym is) ∙ shown)) [
      | inl old ↦ let h = (before o small).0 old in let less = h.1 in (h.0, omega (arith, less), h.2, h.3)
      | inr here ↦ let h = (are o small).0 here in (from, omega arith, h.0, h.1)
    ]),
    (λ h. ap (λ u. set.contains u o) is ∙ (has_union s more o).1 (old_or_here h.0 h.1 h.2 h.3)),
  )
    where
      old_or_here : (k : ℕ) → k < from + 1 → Reached d node k → InEnds d node k o → Has s o ⊎ Has more o
      old_or_here k less r ends =
          elim (order k from) [
            | first_less lower ↦ inl ((before o small).1 (k, lower, r, ends))
            | equal_numbers same ↦ inr ((are o small).1 (subst (λ (q : ℕ). Reached d node q) same r, subst (λ (q : ℕ). InEnds d node q o) same ends))
            | second_less higher ↦ absurd (omega (arith, less, higher))
          ]

  pub ends_here : (s : set.FinSet nat_cmp) (from : ℕ) → Reached d node from → OctetsAre s (InEnds d node from)
      → OctetsAre s (λ octet. Reached d node from × InEnds d node from octet)
  ends_here s from reached are o small = ((λ shown. (reached, (are o small).0 shown)), (λ h. (are o small).1 h.1))

  pub ends_nowhere : (s : set.FinSet nat_cmp) (from : ℕ) → ¬ Reached d node from → s ≡ set.empty
      → OctetsAre s (λ octet. Reached d node from × InEnds d node from octet)
  ends_nowhere s from apart empty o small = ((λ shown. absurd (has_none s o empty shown)), (λ h. absurd (apart h.0)))

  pub ends_all : (s : set.FinSet nat_cmp) (count : ℕ) → 8 ≤ count → OctetsAre s (EndsBelow d node count) → OctetsAre s (MayEndAt d node)
  ends_all s count all are o small = (
    (λ shown. let h = (are o small).0 shown in (h.0, h.2, h.3)),
    (λ h. let low = reached_small d h.1 in (are o small).1 (h.0, omega (arith, low, all), h.1, h.2)),
  )

-- ---- what tests say

-- a test that failed denies
pub denied : (b : Bool) (P : Type 0) → (IsTrue b ↔ P) → b ≡ false → ¬ P
denied b P f fails p = let shown = f.1 p in let differ : true ≡ false = sym shown ∙ fails in absurd (cc)

-- an octet position is in the set or not
pub reached_there : (d : DescV) (node octet : ℕ) (s : set.FinSet nat_cmp) (b : Bool) → OctetsAre s (Reached d node)
    → octet ≤ 7 → b ≡ set.contains s octet → IsTrue b ↔ Reached d node octet
reached_there d node octet s b are small is = ((λ shown. (are octet small).0 (sym is ∙ shown)), (λ r. is ∙ (are octet small).1 r))

module _ (d : DescV) (look : List NodeSets) (p : ℕ) (a b : Bool) (is : IsLookOf d look) (inside : p < length d.nodes)
    (null : IsTrue a ↔ IsNull d p) (firm : IsTrue b ↔ IsFirm d 12 p) where
  pub soft_part : (not a && not b) ≡ true → (¬ IsNull d p) × IsNotFirm d 12 p
  soft_part shown = by_tests a b refl refl shown
    where
      by_tests : (x y : Bool) → a ≡ x → b ≡ y → (not x && not y) ≡ true → (¬ IsNull d p) × IsNotFirm d 12 p
      by_tests true y is_x is_y shown = absurd (cc)
      by_tests false true is_x is_y shown = absurd (cc)
      by_tests false false is_x is_y shown = (denied a (IsNull d p) null is_x, not_firm d look p is inside (denied b (IsFirm d 12 p) firm is_y))

  pub good_part : (not a && not b) ≡ false → IsNull d p ⊎ IsFirm d 12 p
  good_part fails = by_tests a b refl refl fails
    where
      by_tests : (x y : Bool) → a ≡ x → b ≡ y → (not x && not y) ≡ false → IsNull d p ⊎ IsFirm d 12 p
      by_tests true y is_x is_y fails = inl (null.0 is_x)
      by_tests false true is_x is_y fails = inr (firm.0 is_y)
      by_tests false false is_x is_y fails = absurd (cc)

-- ---- the first alternative that takes no bits

module _ (d : DescV) (parts : List ℕ) (from : ℕ) where
  -- none does so below a number
  abbrev pub NoNullBelow : ℕ → Type 0
  NoNullBelow n = (k : ℕ) → from ≤ k → k < n → ¬ IsNullAt d parts k

  pub null_more : (j p : ℕ) → slice_get parts j ≡ Some p → ¬ IsNull d p → NoNullBelow j → NoNullBelow (j + 1)
  null_more j p at real before k up less null =
      elim (order k j) [
        | first_less lower ↦ before k up lower null
        | equal_numbers same ↦
            let theirs = null.1 in
            let one : null.0 ≡ p = cc in
            real (subst (λ (q : ℕ). IsNull d q) one null.2)
        | second_less higher ↦ absurd (omega (arith, less, higher))
      ]

  pub null_end : (count : ℕ) → length parts ≤ count → NoNullBelow count → IsLeastFrom from (IsNullAt d parts) None
  null_end count all before n up null =
      let inside = slice_get_within parts n null.0 null.1 in before n up (omega (arith, all, inside)) null

-- a node's number is one of a table that has as many rows as there are nodes
pub in_table : {i rows count : ℕ} → rows ≡ count → i < count → i < rows
in_table same inside = omega (arith, inside, same)

-- a part of a choice has tables of keys
pub part_has_keys :
    (d : DescV) {look : LookV} {reach : ReachV} (node : ℕ) (parts : List ℕ) (j p : ℕ) → IsSurveyed d look reach
    → slice_get d.nodes node ≡ Some (Choice parts) → slice_get parts j ≡ Some p → p < length look.rows
part_has_keys d node parts j p known at at_j = in_table known.keys.same (part_inside d node parts j p known.description at at_j)

-- the least number is none, since the answer is none
pub least_is_none : (from : ℕ) (P : ℕ → Type 0) (r : Option ℕ) → ((n : ℕ) → r ≡ Some n → ⊥) → IsLeastFrom from P r → IsLeastFrom from P None
least_is_none from P None other h = h
least_is_none from P (Some n) other h = absurd (other n refl)

-- where a node ends and what may follow it
module _ (d : DescV) (node octet : ℕ) (ends : set.FinSet nat_cmp) (a b : Bool)
    (are : OctetsAre ends (MayEndAt d node)) (small : octet ≤ 7) (is : a ≡ set.contains ends octet)
    (follows : IsTrue b ↔ IsFollowed d node octet) where
  both_tests : IsTrue (a && b) ↔ (MayEndAt d node octet × IsFollowed d node octet)
  both_tests = together (is_so is (are octet small)) follows

  pub both_hold : (a && b) ≡ true → MayEndAt d node octet × IsFollowed d node octet
  both_hold shown = both_tests.0 shown

  pub not_both : (a && b) ≡ false → MayEndAt d node octet → IsFollowed d node octet → ⊥
  not_both fails ends followed = denied (a && b) (MayEndAt d node octet × IsFollowed d node octet) both_tests fails (ends, followed)
