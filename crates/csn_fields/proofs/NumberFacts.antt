-- The numbers of alternatives are gathered.
use Rattle.std.proofs.Common.{◌≡◌, ℕ, zero, suc, ◌+◌, ◌<◌, List, [], ◌∷◌, length, set, replicate, Option, Some, None}
use Rattle.std.proofs.Common.{refl, sym, ◌∙◌, subst, ap, arith, inl, inr}
use Rattle.std.specs.Prelude.{slice_get}
use Rattle.std.proofs.lemmas.Option.{slice_get_within, slice_get-get_or}
use Rattle.std.proofs.lemmas.List.{get_or-replicate, length-replicate}
use Rattle.std.proofs.lemmas.Bool.{cases_lt, cases_order}
use Rattle.csn_desc.specs.declared.node.Node.{Node}
use Rattle.csn_desc.specs.declared.node.Node.TheVariants.{Choice}
use Rattle.csn_desc.specs.Nodes.{DescV, parts_of}
use Rattle.csn_desc.specs.Formed.{IsDescription}
use Rattle.csn_desc.proofs.Parents.{one_parent}
use Rattle.csn_desc.proofs.Numbering.{span_inside, span_parts, part_before}
use Rattle.csn_fields.specs.Numbers.{Numbered, number_kept, number_given, IsAlternative, AreNumbers}

-- ---- one place of a list is written

slice_get-set_same : {X : Type 0} (xs : List X) (i : ℕ) (x : X) → i < length xs → slice_get (set xs i x) i ≡ Some x
slice_get-set_same [] i x small = absurd (omega (arith, small))
slice_get-set_same (y ∷ xs) zero x small = refl
slice_get-set_same (y ∷ xs) (suc i) x small = slice_get-set_same xs i x (omega (arith, small))

slice_get-set_other : {X : Type 0} (xs : List X) (i j : ℕ) (x : X) → ¬ (j ≡ i) → slice_get (set xs i x) j ≡ slice_get xs j
slice_get-set_other [] i j x other = refl
slice_get-set_other (y ∷ xs) zero zero x other = absurd (other refl)
slice_get-set_other (y ∷ xs) zero (suc j) x other = refl
slice_get-set_other (y ∷ xs) (suc i) zero x other = refl
slice_get-set_other (y ∷ xs) (suc i) (suc j) x other = slice_get-set_other xs i j x (λ e. other (ap suc e))

-- ---- the parts of one choice

pub number_none : (parts : List ℕ) (old : List (Option ℕ)) (i : ℕ) → Numbered parts 0 old old i
number_none parts old i = number_kept refl (λ k small get. absurd (omega (arith, small)))

number_else :
    (parts : List ℕ) (k part i : ℕ) (old before new : List (Option ℕ)) → slice_get parts k ≡ Some part → ¬ (i ≡ part)
    → slice_get new i ≡ slice_get before i → Numbered parts k old before i → Numbered parts (k + 1) old new i
number_else parts k part i old before new get other same (number_given m at is) = number_given m at (same ∙ is)
number_else parts k part i old before new get other same (number_kept kept none) = number_kept (same ∙ kept) by_place
  where
    by_place : (m : ℕ) → m < k + 1 → slice_get parts m ≡ Some i → ⊥
    by_place m small at = elim (cases_lt m k) [
      | inl low ↦ none m low at
      | inr high ↦
          let here : m ≡ k = omega (arith, small, high) in
          let twice : Some i ≡ Some part = sym at ∙ ap (λ x. slice_get parts x) here ∙ get in
          other (cc)
    ]

-- one part more has its number
pub number_next :
    (parts : List ℕ) (k part : ℕ) (old before : List (Option ℕ)) → slice_get parts k ≡ Some part → part < length before
    → (i : ℕ) → Numbered parts k old before i → Numbered parts (k + 1) old (set before part (Some k)) i
number_next parts k part old before get small i h = elim (cases_order i part) [
  | inl same ↦
      let P : ℕ → Type 0 = λ x. Numbered parts (k + 1) old (set before part (Some k)) x in
      subst P (sym same) (number_given k get (slice_get-set_same before part (Some k) small))
  | inr apart ↦
      let other : ¬ (i ≡ part) = λ e. elim apart [ inl low ↦ omega (arith, e, low) | inr high ↦ omega (arith, e, high) ] in
      number_else parts k part i old before (set before part (Some k)) get other (slice_get-set_other before part i (Some k) other) h
]

-- ---- the choices of a description

none_there : (n i k : ℕ) → slice_get (replicate n None) i ≡ Some (Some k) → ⊥
none_there n i k at =
    let small : i < n = subst (λ m. i < m) (length-replicate n None) (slice_get_within (replicate n None) i (Some k) at) in
    let nothing : Option ℕ = None in
    let there : slice_get (replicate n nothing) i ≡ Some None =
    slice_get-get_or (replicate n nothing) i None (slice_get_within (replicate n nothing) i (Some k) at) ∙ ap Some
    (get_or-replicate n i nothing None small) in
    let clash : Some None ≡ Some (Some k) = sym there ∙ at in
    cc

pub numbers_none : (d : DescV) (n : ℕ) → n ≡ length d.nodes → AreNumbers d 0 (replicate n None)
numbers_none d n same =
    record {
      all = length-replicate n None ∙ same;
      given = λ c k i parts small. absurd (omega (arith, small));
      only = λ i k at. absurd (none_there n i k at);
    }

-- a node that is no choice
pub numbers_same : (d : DescV) (c : ℕ) (n : Node) (numbers : List (Option ℕ)) → slice_get d.nodes c ≡ Some n →
    ((parts : List ℕ) → ¬ (n ≡ Choice parts))
    → AreNumbers d c numbers → AreNumbers d (c + 1) numbers
numbers_same d c n numbers at other are =
    record {
      all = are.all;
      given = λ e k i parts small there get. elim (cases_lt e c) [
        | inl low ↦ are.given e k i parts low there get
        | inr high ↦
            let here : e ≡ c = omega (arith, small, high) in
            let twice : Some n ≡ Some (Choice parts) = sym at ∙ ap (λ x. slice_get d.nodes x) (sym here) ∙ there in
            absurd (other parts (cc))
      ];
      only = are.only;
    }

pub parts_within : (d : DescV) (c k part : ℕ) (n : Node) → IsDescription d → slice_get d.nodes c ≡ Some n
    → slice_get (parts_of n) k ≡ Some part → part < length d.nodes
parts_within d c k part n is at get =
    let s = span_inside d.nodes c is.numbered (omega arith) (slice_get_within d.nodes c n at) in
    let below = part_before d.nodes k part (span_parts d.nodes at s.span) get in
    omega (arith, below, s.within)

pub numbers_next :
    (d : DescV) (c : ℕ) (parts : List ℕ) (old new : List (Option ℕ)) → IsDescription d → slice_get d.nodes c ≡ Some (Choice parts)
    → length new ≡ length old → ((i : ℕ) → Numbered parts (length parts) old new i) → AreNumbers d c old → AreNumbers d (c + 1) new
numbers_next d c parts old new is at long numbered are =
    record {
      all = long ∙ are.all;
      given = λ e k i others small there get. given_here e k i others small there get
          (numbered i);
      only = λ i k there. only_here i k there (numbered i);
    }
  where
    given_here : (e k i : ℕ) (others : List ℕ) → e < c + 1 → slice_get d.nodes e ≡ Some (Choice others) → slice_get others k ≡ Some i
        → Numbered parts (length parts) old new i → slice_get new i ≡ Some (Some k)
    given_here e k i others small there get (number_given m part is_m) =
        let one = one_parent d c e m k i (Choice parts) (Choice others) is at there part get in
        is_m ∙ ap (λ x. Some (Some x)) one.1
    given_here e k i others small there get (number_kept kept none) = elim (cases_lt e c) [
      | inl low ↦ kept ∙ are.given e k i others low there get
      | inr high ↦
          let here : e ≡ c = omega (arith, small, high) in
          let twice : Some (Choice parts) ≡ Some (Choice others) = sym at ∙ ap (λ x. slice_get d.nodes x) (sym here) ∙ there in
          let same : parts ≡ others = cc in
          let mine : slice_get parts k ≡ Some i = ap (λ l. slice_get l k) same ∙ get in
          absurd (none k (slice_get_within parts k i mine) mine)
    ]

    only_here : (i k : ℕ) → slice_get new i ≡ Some (Some k) → Numbered parts (length parts) old new i → IsAlternative d i k
    only_here i k there (number_kept kept none) = are.only i k (sym kept ∙ there)
    only_here i k there (number_given m part is_m) =
        let twice : Some (Some m) ≡ Some (Some k) = sym is_m ∙ there in
        let same : m ≡ k = cc in
        record { choice = c; parts = parts; there = at; part = ap (λ x. slice_get parts x) (sym same) ∙ part }
