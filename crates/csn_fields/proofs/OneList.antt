-- A tree at a node has no two lists of events.
use Rattle.std.proofs.Common.{◌≡◌, ℕ, ◌+◌, List, [], ◌∷◌, ◌++◌, length, refl, sym, ap, subst, ◌∙◌, Some, None}
use Rattle.std.specs.Prelude.{slice_get}
use Rattle.csn_desc.specs.declared.node.Node.{Node}
use Rattle.csn_desc.specs.declared.node.Node.TheVariants.{Null, Seq, Choice, Times, Many, Trunc, Window, Named}
use Rattle.csn_desc.specs.TreeV.{TreeV, Trees}
use Rattle.csn_desc.specs.Nodes.{DescV}
use Rattle.csn_fields.specs.declared.leaf.Role.{Role}
use Rattle.csn_fields.specs.declared.leaf.Role.TheVariants as role
use Rattle.csn_fields.specs.declared.event.Event.{Event}
use Rattle.csn_fields.specs.declared.event.Event.TheVariants as event
use Rattle.csn_fields.specs.Leaves.{kind_of, bits_of_leaf}
use Rattle.csn_fields.specs.Events as spec
use Rattle.csn_fields.specs.Events.{EventsAt, InsideEvents, PartsEvents, TurnsEvents, leaf_with}
use Rattle.csn_fields.specs.Laws.{TreesHaveOneListOfEvents}

module _ (d : DescV) where
  -- up to one place, by one list of events
  pub record Same (to other : ℕ) (events others : List Event) : Type 0 where
    pub to_is : to ≡ other
    pub are : events ≡ others

  -- a node whose parts have events is no leaf
  no_kind : {n : Node} {from to : ℕ} {t : TreeV} {events : List Event} → InsideEvents d n from to t events → kind_of n ≡ None
  no_kind (spec.inside_null far are) = refl
  no_kind (spec.inside_seq h) = refl
  no_kind (spec.inside_trunc h) = refl
  no_kind (spec.inside_choice i at h) = refl
  no_kind (spec.inside_times h) = refl
  no_kind (spec.inside_many h) = refl
  no_kind (spec.inside_window h) = refl
  no_kind (spec.inside_named h) = refl

  same_node : (i : ℕ) (m n : Node) → slice_get d.nodes i ≡ Some m → slice_get d.nodes i ≡ Some n → m ≡ n
  same_node i m n at_m at_n = let twice : Some m ≡ Some n = sym at_m ∙ at_n in cc

  both_end : {from to other : ℕ} {events others : List Event} → to ≡ from → other ≡ from → events ≡ [] → others ≡ [] → Same to other events others
  both_end far far2 are are2 = record { to_is = far ∙ sym far2; are = are ∙ sym are2 }

  both_next : {to other : ℕ} {events others : List Event} (first rest first2 rest2 : List Event) → events ≡ first ++ rest → others ≡ first2 ++ rest2
      → first ≡ first2 → Same to other rest rest2 → Same to other events others
  both_next first rest first2 rest2 are are2 same later =
      record { to_is = later.to_is; are = are ∙ ap (λ l. l ++ rest) same ∙ ap (λ l. first2 ++ l) later.are ∙ sym are2 }

  mutual
    pub one_list : {i from to other : ℕ} {role : Role} {t : TreeV} {events others : List Event}
        → EventsAt d i role from to t events → EventsAt d i role from other t others → Same to other events others
    one_list {i} {from} {to} {other} {role} {t} (spec.events_leaf n kind b at kind_is told far are)
        (spec.events_leaf m kind2 c at2 kind_is2 told2 far2 are2) =
        let same : n ≡ m = same_node _ n m at at2 in
        let kinds : Some kind ≡ Some kind2 = sym kind_is ∙ ap (λ x. kind_of x) same ∙ kind_is2 in
        let bits : Some b ≡ Some c = sym told ∙ ap (λ x. bits_of_leaf x from t) same ∙ told2 in
        let kind_same : kind ≡ kind2 = cc in
        let bits_same : b ≡ c = cc in
        record {
          to_is = far ∙ ap (λ l. from + length l) bits_same ∙ sym far2;
          are =
              are ∙ ap (λ k. event.Leaf (leaf_with i k role from b) ∷ []) kind_same
              ∙ ap (λ l. event.Leaf (leaf_with i kind2 role from l) ∷ []) bits_same ∙ sym are2;
        }
    one_list (spec.events_leaf n kind b at kind_is told far are) (spec.events_node m inside at2 h are2) =
        let same : n ≡ m = same_node _ n m at at2 in
        let clash : Some kind ≡ None = sym kind_is ∙ ap (λ x. kind_of x) same ∙ no_kind h in
        absurd (cc)
    one_list (spec.events_node n inside at h are) (spec.events_leaf m kind b at2 kind_is told far are2) =
        let same : n ≡ m = same_node _ n m at at2 in
        let clash : Some kind ≡ None = sym kind_is ∙ ap (λ x. kind_of x) (sym same) ∙ no_kind h in
        absurd (cc)
    one_list {i} {from} {to} {other} {role} {t} (spec.events_node n inside at h are) (spec.events_node m inside2 at2 h2 are2) =
        let same : m ≡ n = same_node _ m n at2 at in
        let inner = one_inside n h (subst (λ x. InsideEvents d x from other t inside2) same h2) in
        record {
          to_is = inner.to_is;
          are =
              are ∙ ap (λ l. event.Begin i role from ∷ (l ++ event.End i to ∷ [])) inner.are
              ∙ ap (λ p. event.Begin i role from ∷ (inside2 ++ event.End i p ∷ [])) inner.to_is ∙ sym are2;
        }

    one_inside : (n : Node) {from to other : ℕ} {t : TreeV} {events others : List Event}
        → InsideEvents d n from to t events → InsideEvents d n from other t others → Same to other events others
    one_inside Null (spec.inside_null far are) (spec.inside_null far2 are2) = both_end far far2 are are2
    one_inside (Seq parts) (spec.inside_seq h) (spec.inside_seq g) = one_parts h g
    one_inside (Trunc parts) (spec.inside_trunc h) (spec.inside_trunc g) = one_parts h g
    one_inside (Choice parts) {from} {other = other} {others = others} (spec.inside_choice {j = j} {t = t} i at h) (spec.inside_choice k at2 g) =
        let twice : Some k ≡ Some i = sym at2 ∙ at in
        let same : k ≡ i = cc in
        one_list h (subst (λ x. EventsAt d x (role.Alternative j) from other t others) same g)
    one_inside (Times count i) (spec.inside_times h) (spec.inside_times g) = one_turns h g
    one_inside (Many i) (spec.inside_many h) (spec.inside_many g) = one_turns h g
    one_inside (Window unit count i) (spec.inside_window h) (spec.inside_window g) = one_list h g
    one_inside (Named label i) (spec.inside_named h) (spec.inside_named g) = one_list h g

    one_parts : {parts : List ℕ} {from to other : ℕ} {ts : Trees} {events others : List Event}
        → PartsEvents d parts from to ts events → PartsEvents d parts from other ts others → Same to other events others
    one_parts (spec.parts_end far are) (spec.parts_end far2 are2) = both_end far far2 are are2
    one_parts {other = other} (spec.parts_next {parts = parts} {ts = ts} middle first rest are h hs)
        (spec.parts_next middle2 first2 rest2 are2 g gs) =
        let one = one_list h g in
        let P : ℕ → Type 0 = λ n. PartsEvents d parts n other ts rest2 in
        both_next first rest first2 rest2 are are2 one.are (one_parts hs (subst P (sym one.to_is) gs))

    one_turns : {i turn from to other : ℕ} {ts : Trees} {events others : List Event}
        → TurnsEvents d i turn from to ts events → TurnsEvents d i turn from other ts others → Same to other events others
    one_turns (spec.turns_end far are) (spec.turns_end far2 are2) = both_end far far2 are are2
    one_turns {i = i} {turn = turn} {other = other} (spec.turns_next {ts = ts} middle first rest are h hs)
        (spec.turns_next middle2 first2 rest2 are2 g gs) =
        let one = one_list h g in
        let P : ℕ → Type 0 = λ n. TurnsEvents d i (spec.next_turn turn) n other ts rest2 in
        both_next first rest first2 rest2 are are2 one.are (one_turns hs (subst P (sym one.to_is) gs))

pub one_list_of_events : TreesHaveOneListOfEvents
one_list_of_events d i from to other role t events others h g = let s = one_list d h g in (s.to_is, s.are)
