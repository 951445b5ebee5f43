-- The claims of one node, octet position by octet position.
use Rattle.std.proofs.Common.{◌≡◌, ◌≢◌, ℕ, ◌+◌, ◌<◌, ◌≤◌, ⊎_elim, Bool, true, false, List, [], ◌∷◌, ◌++◌, length}
use Rattle.std.proofs.Common.{refl, sym, ap, ◌∙◌, subst, arith, length-append, slice_get, get_or, slice_index_or}
use Rattle.std.proofs.Common.{Some, None, IfSome, find}
use Rattle.std.specs.Prelude.{Option, IsTrue, ◌==◌, ◌↔◌}
use Rattle.std.specs.List.{AllByRecursion}
use Rattle.std.proofs.lemmas.Bool.{cases_lt}
use Rattle.std.proofs.lemmas.List.{get_or_append_left, get_or_push}
use Rattle.std.proofs.lemmas.Option.{slice_get-get_or, get_or_from_slice_get}
use Rattle.std.specs.Ordering.{nat_cmp}
use Rattle.std.specs.FinSet as set
use Rattle.csn_desc.specs.Nodes.{DescV}
use Rattle.csn_cert.specs.PatternV.{PatternV}
use Rattle.csn_cert.specs.CertificateV.{NodeV, PositionV}
use Rattle.csn_cert.specs.Growing.{last_of, node_with, with_position, last_position, last_in}
use Rattle.csn_look.specs.LookV.{LookV}
use Rattle.csn_look.specs.ReachV.{ReachV}
use Rattle.csn_look.specs.Told.{OctetsAre}
use Rattle.csn_look.specs.Sums.{Has}
use Rattle.csn_look.specs.Nullable.{Nullable}
use Rattle.csn_look.specs.Ends.{InEnds}
use Rattle.csn_look.specs.Reached.{Reached, InFollow}
use Rattle.csn_certmake.specs.Digits.{DigitsAre, SaysFollow}
use Rattle.csn_certmake.specs.Rows.{IsKnown, TellsPosition, TellsClaim, TellsNode, AddsNode}
use Rattle.csn_certmake.proofs.Growing.{last_push, at_last_push}
use Rattle.csn_certmake.proofs.Positions.{octet_is, octet_differs}

-- ---- where a claim is found

is_at : ℕ → PositionV → Bool
is_at octet p = p.octet == octet

found_in_front : (ps : List PositionV) (p : PositionV) (octet : ℕ)
    → p.octet ≢ octet → find (λ q. q.octet == octet) (ps ++ p ∷ []) ≡ find (λ q. q.octet == octet) ps
found_in_front [] p octet differ = rw (octet_differs p.octet octet differ) refl
found_in_front (q ∷ ps) p octet differ = by_test (q.octet == octet) refl (found_in_front ps p octet differ)
  where
    by_test : (b : Bool) → (q.octet == octet) ≡ b → find (λ q. q.octet == octet) (ps ++ p ∷ []) ≡ find
        (λ q. q.octet == octet) ps → find (λ q. q.octet == octet) ((q ∷ ps) ++ p ∷ []) ≡ find (λ q. q.octet == octet)
        (q ∷ ps)
    by_test true is behind = rw is refl
    by_test false is behind = rw is behind

found_last : (ps : List PositionV) (p : PositionV) (octet : ℕ) → AllByRecursion (λ p. p.octet < octet) ps
    → p.octet ≡ octet → find (λ q. q.octet == octet) (ps ++ p ∷ []) ≡ Some p
found_last [] p octet below is = rw (octet_is p.octet octet is) refl
found_last (q ∷ ps) p octet below is = (let low : q.octet < octet = below.0 in let differ : q.octet ≢ octet =
    omega (arith, low) in rw (octet_differs q.octet octet differ) (found_last ps p octet below.1 is))

found_none : (ps : List PositionV) (octet : ℕ) → AllByRecursion (λ p. p.octet < octet) ps → find (λ q. q.octet == octet) ps ≡ None
found_none [] octet below = refl
found_none (q ∷ ps) octet below = (let low : q.octet < octet = below.0 in let differ : q.octet ≢ octet =
    omega (arith, low) in rw (octet_differs q.octet octet differ) (found_none ps octet below.1))

below_more : (ps : List PositionV) (octet : ℕ) → AllByRecursion (λ p. p.octet < octet) ps → AllByRecursion (λ p. p.octet < octet + 1) ps
below_more [] octet below = tt
below_more (q ∷ ps) octet below = (let low : q.octet < octet = below.0 in omega (arith, low), below_more ps octet below.1)

below_push : (ps : List PositionV) (p : PositionV) (octet : ℕ) → AllByRecursion (λ p. p.octet < octet) ps
    → p.octet ≡ octet → AllByRecursion (λ p. p.octet < octet + 1) (ps ++ p ∷ [])
below_push [] p octet below is = (omega (arith, is), tt)
below_push (q ∷ ps) p octet below is = (let low : q.octet < octet = below.0 in omega (arith, low), below_push ps p octet below.1 is)

below_last : (ps : List PositionV) (octet : ℕ) → AllByRecursion (λ p. p.octet < octet) ps → IfSome (last_of ps) (λ p. p.octet < octet)
below_last [] octet below = tt
below_last (q ∷ []) octet below = below.0
below_last (q ∷ r ∷ ps) octet below = below_last (r ∷ ps) octet below.1

-- ---- a node that is added, up to an octet position

pub record NodeSo (look : LookV) (reach : ReachV) (row : List (List PatternV)) (i octet : ℕ) (old new : List NodeV) : Type 0 where
  pub node : NodeV
  pub added : new ≡ old ++ node ∷ []
  pub below : AllByRecursion (λ p. p.octet < octet) node.positions
  pub nullable : (d : DescV) → IsKnown d look reach → IsTrue node.nullable ↔ Nullable d i
  pub follow : (d : DescV) → IsKnown d look reach → SaysFollow node.follow (InFollow d i)
  pub claims : (d : DescV) (o : ℕ) → IsKnown d look reach → o < octet → TellsClaim d row i o (find (λ p. p.octet == o) node.positions)

pub node_begun : (look : LookV) (reach : ReachV) (row : List (List PatternV)) (i : ℕ) (old new : List NodeV)
    (nullable : Bool) (follow : ℕ) → new ≡ old ++ record { nullable = nullable; follow = follow; positions = [] } ∷ []
    → ((d : DescV) → IsKnown d look reach → IsTrue nullable ↔ Nullable d i)
    → ((d : DescV) → IsKnown d look reach → SaysFollow follow (InFollow d i)) → NodeSo look reach row i 0 old new
node_begun look reach row i old new nullable follow added is_nullable is_follow =
    record {
      node = record { nullable = nullable; follow = follow; positions = [] };
      added = added;
      below = tt;
      nullable = is_nullable;
      follow = is_follow;
      claims = λ d o known low. absurd (omega arith);
    }

-- each octet position was seen
pub node_done : (look : LookV) (reach : ReachV) (row : List (List PatternV)) (i octet : ℕ) (old new : List NodeV)
    → 8 ≤ octet → NodeSo look reach row i octet old new → AddsNode look reach row i old new
node_done look reach row i octet old new all so =
    record {
      node = so.node;
      added = so.added;
      tells = λ d known. record {
        nullable = so.nullable d known;
        follow = so.follow d known;
        claims = λ o low. so.claims d o known (omega (arith, all, low));
      };
    }

pub node_there : (look : LookV) (reach : ReachV) (row : List (List PatternV)) (i octet : ℕ) (old new : List NodeV)
    → NodeSo look reach row i octet old new → 0 < length new
node_there look reach row i octet old new so =
    (let long : length new ≡ length old + 1 = ap length so.added ∙ length-append old (so.node ∷ []) in
    omega (arith, long))

pub position_below : (look : LookV) (reach : ReachV) (row : List (List PatternV)) (i octet : ℕ) (old new : List NodeV)
    → NodeSo look reach row i octet old new → IfSome (last_position new) (λ p. p.octet < octet)
position_below look reach row i octet old new so =
    let last : last_position new ≡ last_of so.node.positions = ap last_position so.added ∙ ap (last_in (λ (n : NodeV). n.positions)) (last_push old so.node) in
    subst (λ (o : Option PositionV). IfSome o (λ p. p.octet < octet)) (sym last) (below_last so.node.positions octet so.below)

-- what holds of each octet position and of one more
up_to : (Q : ℕ → Type 0) (octet : ℕ) → ((o : ℕ) → o < octet → Q o) → Q octet → (o : ℕ) → o < octet + 1 → Q o
up_to Q octet each here o low =
    ⊎_elim (λ (before : o < octet). each o before)
    (λ (past : octet ≤ o). let at : octet ≡ o = omega arith in subst (λ (k : ℕ). Q k) at here)
    (cases_lt o octet)

-- the octet position is not reached
pub node_skips : (look : LookV) (reach : ReachV) (row : List (List PatternV)) (i octet : ℕ) (old new : List NodeV)
    → NodeSo look reach row i octet old new → ((d : DescV) → IsKnown d look reach → ¬ Reached d i octet)
    → NodeSo look reach row i (octet + 1) old new
node_skips look reach row i octet old new so unreached =
    record {
      node = so.node;
      added = so.added;
      below = below_more so.node.positions octet so.below;
      nullable = so.nullable;
      follow = so.follow;
      claims = λ d o known low.
          up_to (λ k. TellsClaim d row i k (find (λ p. p.octet == k) so.node.positions)) octet (λ k less. so.claims d k known less)
          (subst (λ (claim : Option PositionV). TellsClaim d row i octet claim) (sym (found_none so.node.positions octet so.below)) (unreached d known)) o low;
    }

-- it is reached, and has a position
pub node_has : (look : LookV) (reach : ReachV) (row : List (List PatternV)) (i octet : ℕ) (old new newer : List NodeV)
    (p : PositionV) → NodeSo look reach row i octet old new → newer ≡ with_position p new → p.octet ≡ octet
    → ((d : DescV) → IsKnown d look reach → Reached d i octet × TellsPosition d row i octet p)
    → NodeSo look reach row i (octet + 1) old newer
node_has look reach row i octet old new newer p so added at tells =
    record {
      node = node_with p so.node;
      added = added ∙ ap (with_position p) so.added ∙ at_last_push (node_with p) old so.node;
      below = below_push so.node.positions p octet so.below at;
      nullable = so.nullable;
      follow = so.follow;
      claims = λ d o known low.
          up_to (λ k. TellsClaim d row i k (find (λ q. q.octet == k) (so.node.positions ++ p ∷ []))) octet
          (λ k less.
          let differ : p.octet ≢ k = omega (arith, at, less) in
          subst (λ (claim : Option PositionV). TellsClaim d row i k claim) (sym (found_in_front so.node.positions p k differ)) (so.claims d k known less))
          (subst (λ (claim : Option PositionV). TellsClaim d row i octet claim)
          (sym (found_last so.node.positions p octet so.below at)) (tells d known)) o low;
    }

-- digits of a set of ends
pub ends_told : (d : DescV) (i octet digits : ℕ) (ends : set.FinSet nat_cmp) → DigitsAre 8 digits (Has ends)
    → OctetsAre ends (InEnds d i octet) → DigitsAre 8 digits (InEnds d i octet)
ends_told d i octet digits ends written are place low =
    let first = written place low in
    let second = are place (omega arith) in (
      λ h. second.0 (first.0 h),
      λ h. first.1 (second.1 h),
    )

-- ---- node by node

abbrev pub NodesSo : LookV → ReachV → List (List (List PatternV)) → ℕ → List NodeV → Type 0
NodesSo look reach rows count c =
    (d : DescV) → IsKnown d look reach → (i : ℕ) → i < count → (n : NodeV) × (slice_get c i ≡ Some n) × TellsNode d (slice_index_or rows i []) i n

pub nodes_more : (look : LookV) (reach : ReachV) (rows : List (List (List PatternV))) (count : ℕ)
    (row : List (List PatternV)) (c new : List NodeV) → length c ≡ count → NodesSo look reach rows count c
    → slice_index_or rows count [] ≡ row → AddsNode look reach row count c new → NodesSo look reach rows (count + 1)
    new
nodes_more look reach rows count row c new long so is adds d known =
    up_to (λ i. (n : NodeV) × (slice_get new i ≡ Some n) × TellsNode d (slice_index_or rows i []) i n) count
    (λ i low.
    let before = so d known i low in
    let n : NodeV = before.0 in
    let longer : length new ≡ length c + 1 = ap length adds.added ∙ length-append c (adds.node ∷ []) in (
      n,
      slice_get-get_or new i n (omega (arith, low, long, longer))
          ∙ ap (λ x. Some x) (ap (λ l. get_or l i n) adds.added ∙ get_or_append_left c (adds.node ∷ []) n i
          (omega (arith, low, long)) ∙ get_or_from_slice_get c i n n before.1),
      before.2,
    ))
    (let longer : length new ≡ length c + 1 = ap length adds.added ∙ length-append c (adds.node ∷ []) in (
      adds.node,
      slice_get-get_or new count adds.node (omega (arith, long, longer))
          ∙ ap (λ x. Some x) (ap (λ l. get_or l count adds.node) adds.added ∙ get_or_push c adds.node adds.node count
          long),
      subst (λ (r : List (List PatternV)). TellsNode d r count adds.node) (sym is) (adds.tells d known),
    ))
