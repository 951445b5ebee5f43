-- Facts that hold both ways, sets of octet positions and lengths, and what sets of parts tell.
use Rattle.std.proofs.Common.{◌≡◌, ℕ, zero, suc, ◌+◌, ◌-◌, ◌%◌, ◌<◌, ◌≤◌, Bool, true, false, ◌&&◌, ◌||◌}
use Rattle.std.proofs.Common.{◌⊎◌, ◌↔◌, nat_eq, not, List, [], ◌∷◌, length, refl, sym, ap, ◌∙◌, arith, inl, inr, Some}
use Rattle.std.specs.Prelude.{slice_get, IsTrue}
use Rattle.std.specs.Ordering.{nat_cmp}
use Rattle.std.specs.FinSet as set
use Rattle.std.proofs.Math.ListN.{drop}
use Rattle.std.proofs.Math.Seq.{drop-cons, drop-length}
use Rattle.std.proofs.lemmas.Option.{slice_get_within, get_or_from_slice_get}
use Rattle.std.proofs.lemmas.Bool.Decides.{eqb_tells}
use Rattle.csn_desc.specs.Nodes.{DescV}
use Rattle.csn_look.specs.declared.node_sets.NodeSets.{NodeSets}
use Rattle.csn_look.specs.declared.word.TheConstants.{MOST_WORD}
use Rattle.csn_look.specs.Told.{OctetsAre}
use Rattle.csn_look.specs.Sums.{Has}
use Rattle.csn_look.specs.NodeSets.{LengthsAre, Tell}
use Rattle.csn_look.specs.Nullable.{Nullable, AllNullable}
use Rattle.csn_look.specs.Ends.{InEnds, PartsEnd, LeadEnd}
use Rattle.csn_look.specs.Starts.{InStart, PartsStart}
use Rattle.csn_look.specs.Keys.{InKeys, PartsKeys}
use Rattle.csn_look.proofs.Basics.Octets.{has_insert, has_union, has_none}

pub true_is_not : false ≡ true → ⊥
true_is_not e = cc

-- ---- facts that hold both ways

pub both : {A B C : Type 0} → (A ↔ B) → (B ↔ C) → (A ↔ C)
both f g = ((λ h. g.0 (f.0 h)), (λ h. f.1 (g.1 h)))

pub back : {A B : Type 0} → (A ↔ B) → (B ↔ A)
back f = (f.1, f.0)

pub same_fact : {A : Type 0} → (A ↔ A)
same_fact = ((λ h. h), (λ h. h))

pub truth : {b : Bool} {P : Type 0} → b ≡ true → P → IsTrue b ↔ P
truth e h = ((λ t. h), (λ p. e))

-- what does not hold where a look says no
pub told_not : {b : Bool} {P : Type 0} → (IsTrue b ↔ P) → b ≡ false → ¬ P
told_not f denied p = let holds = f.1 p in cc

pub falsity : {b : Bool} {P : Type 0} → b ≡ false → (P → ⊥) → IsTrue b ↔ P
falsity e h = ((λ t. absurd (clash e t)), (λ p. absurd (h p)))
  where
    clash : {b : Bool} → b ≡ false → IsTrue b → ⊥
    clash e t = cc

pub either : {a b : Bool} {A B : Type 0} → (IsTrue a ↔ A) → (IsTrue b ↔ B) → IsTrue (a || b) ↔ (A ⊎ B)
either {a = true} f g = ((λ t. inl (f.0 refl)), (λ p. refl))
either {a = false} f g = (
  (λ t. inr (g.0 t)),
  (λ p. elim p [
    | inl a ↦ absurd (clash (f.1 a))
    | inr b ↦ g.1 b
  ]),
)
  where
    clash : IsTrue false → ⊥
    clash t = cc

pub together : {a b : Bool} {A B : Type 0} → (IsTrue a ↔ A) → (IsTrue b ↔ B) → IsTrue (a && b) ↔ (A × B)
together {a = true} f g = ((λ t. (f.0 refl, g.0 t)), (λ p. g.1 p.1))
together {a = false} f g = ((λ t. absurd (clash t)), (λ p. f.1 p.0))
  where
    clash : IsTrue false → ⊥
    clash t = cc

pub is_so : {a b : Bool} {P : Type 0} → b ≡ a → (IsTrue a ↔ P) → (IsTrue b ↔ P)
is_so e f = ((λ t. f.0 (sym e ∙ t)), (λ p. e ∙ f.1 p))

pub zero_test : (n : ℕ) → IsTrue (nat_eq n 0) ↔ (n ≡ 0)
zero_test n =
    elim (eqb_tells n 0) [
      | inl same ↦ ((λ h. same.1), (λ h. same.0))
      | inr apart ↦ ((λ h. absurd (true_is_not (sym apart.0 ∙ h))), (λ h. absurd (apart.1 h)))
    ]

pub some_test : (n : ℕ) → IsTrue (not (nat_eq n 0)) ↔ (0 < n)
some_test n =
    elim (eqb_tells n 0) [
      | inl same ↦ ((λ h. absurd (true_is_not (sym (ap not same.0) ∙ h))), (λ h. let none = same.1 in absurd (omega arith)))
      | inr apart ↦ ((λ h. let differ = apart.1 in omega arith), (λ h. ap not apart.0))
    ]

-- ---- sets of octet positions and lengths

pub no_octets : (s : set.FinSet nat_cmp) (P : ℕ → Type 0) → s ≡ set.empty → ((o : ℕ) → P o → ⊥) → OctetsAre s P
no_octets s P e none o small = ((λ h. absurd (has_none s o e h)), (λ p. absurd (none o p)))

pub all_octets : (s : set.FinSet nat_cmp) (P : ℕ → Type 0) → ((o : ℕ) → o ≤ 7 → Has s o) → ((o : ℕ) → P o) → OctetsAre s P
all_octets s P all h o small = ((λ t. h o), (λ p. all o small))

pub one_octet : (s : set.FinSet nat_cmp) (k : ℕ) → s ≡ set.insert set.empty k → OctetsAre s (λ o. o ≡ k)
one_octet s k e o small = (
  (λ h. elim ((has_insert set.empty k o).0 (ap (λ u. set.contains u o) (sym e) ∙ h)) [
    | inl same ↦ same
    | inr before ↦ absurd (has_none set.empty o refl before)
  ]),
  (λ p. ap (λ u. set.contains u o) e ∙ (has_insert set.empty k o).1 (inl p)),
)

pub no_lengths : (s : set.FinSet nat_cmp) (P : ℕ → ℕ → Type 0) → s ≡ set.empty → ((o p : ℕ) → P o p → ⊥) → LengthsAre s P
no_lengths s P e none o p small = ((λ h. absurd (has_none s h.length e h.has_length)), (λ h. absurd (none o p h)))

pub one_length : (s : set.FinSet nat_cmp) (k : ℕ) → k ≤ 7 → s ≡ set.insert set.empty k → LengthsAre s (λ o p. p ≡ (o + k) % 8)
one_length s k within e o p small =
    let only = one_octet s k e in (
      (λ h. h.is ∙ ap (λ r. (o + r) % 8) ((only h.length h.small).0 h.has_length)),
      (λ h. record { length = k; small = within; has_length = (only k within).1 refl; is = h }),
    )

pub all_lengths : (s : set.FinSet nat_cmp) → ((o : ℕ) → o ≤ 7 → Has s o) → LengthsAre s (λ o p. p < 8)
all_lengths s all o p small = (
  (λ h. let is = h.is in omega arith),
  (λ h. record {
    length = (p + 8 - o) % 8;
    small = omega arith;
    has_length = all ((p + 8 - o) % 8) (omega arith);
    is = omega arith;
  }),
)

-- a set, and what lies before another one where there may be no bits
pub behind_too : (own earlier u : set.FinSet nat_cmp) (nullable : Bool) (L : ℕ → Type 0)
    → nullable ≡ true → u ≡ set.union own earlier → OctetsAre earlier L
    → OctetsAre u (λ o. Has own o ⊎ (IsTrue nullable × L o))
behind_too own earlier u nullable L n e are o small = (
  (λ h. elim ((has_union own earlier o).0 (ap (λ v. set.contains v o) (sym e) ∙ h)) [
    | inl a ↦ inl a
    | inr b ↦ inr (n, (are o small).0 b)
  ]),
  (λ h. ap (λ v. set.contains v o) e ∙ (has_union own earlier o).1 (elim h [ inl a ↦ inl a | inr b ↦ inr ((are o small).1 b.1) ])),
)

-- one value more
pub value_more : (f : ℕ → ℕ) (k : ℕ) (s t : set.FinSet nat_cmp) → OctetsAre s (λ r. (v : ℕ) × (v < k) × (r ≡ f v))
    → t ≡ set.insert s (f k) → OctetsAre t (λ r. (v : ℕ) × (v < k + 1) × (r ≡ f v))
value_more f k s t are e o small = (
  (λ h. elim ((has_insert s (f k) o).0 (ap (λ u. set.contains u o) (sym e) ∙ h)) [
    | inl same ↦ (k, omega arith, same)
    | inr before ↦ let p = (are o small).0 before in let below = p.1 in (p.0, omega arith, p.2)
  ]),
  (λ (v, below, h). ap (λ u. set.contains u o) e ∙ (has_insert s (f k) o).1 (elim (eqb_tells v k) [
    | inl same ↦ inl (h ∙ ap f same.1)
    | inr apart ↦ let differ = apart.1 in inr ((are o small).1 (v, omega arith, h))
  ])),
)

pub no_value_yet : (f : ℕ → ℕ) (s : set.FinSet nat_cmp) → s ≡ set.empty → OctetsAre s (λ r. (v : ℕ) × (v < 0) × (r ≡ f v))
no_value_yet f s e = no_octets s (λ r. (v : ℕ) × (v < 0) × (r ≡ f v)) e (λ o (v, below, h). absurd (omega (arith, below)))

-- ---- the last parts of a list

pub last_none : (parts : List ℕ) (k : ℕ) → k ≡ length parts → drop k parts ≡ []
last_none parts k e = ap (λ n. drop n parts) e ∙ drop-length parts

pub last_all : (parts : List ℕ) (k : ℕ) → k ≤ 0 → drop k parts ≡ parts
last_all parts zero h = refl
last_all parts (suc k) h = absurd (omega arith)

pub last_more : (parts : List ℕ) (k p : ℕ) → 0 < k → slice_get parts (k - 1) ≡ Some p → drop (k - 1) parts ≡ p ∷ drop k parts
last_more parts k p some at =
    let inside = slice_get_within parts (k - 1) p at in
    let next : suc (k - 1) ≡ k = omega arith in
    drop-cons parts (k - 1) p inside
    ∙ ap (λ x. x ∷ drop (suc (k - 1)) parts) (get_or_from_slice_get parts (k - 1) p p at)
    ∙ ap (λ n. p ∷ drop n parts) next

-- ---- one fact for another

pub retell : {sets : NodeSets} {N N' : Type 0} {E E' S S' : ℕ → ℕ → Type 0} {K K' : Bool → Type 0}
    → Tell sets N E S K → (N ↔ N') → ((o p : ℕ) → o ≤ 7 → E o p ↔ E' o p) → ((o bit : ℕ) → S o bit ↔ S' o bit)
    → ((mark : Bool) → K mark ↔ K' mark) → Tell sets N' E' S' K'
retell t n e s k =
    record {
      nullable = both t.nullable n;
      whole_empty = both t.whole_empty (k true);
      cut_empty = both t.cut_empty (k false);
      lengths = λ o p small. both (t.lengths o p small) (e o p small);
      zero = λ o small. both (t.zero o small) (s o 0);
      one = λ o small. both (t.one o small) (s o 1);
    }

-- sets of no bits
pub record NoBits (sets : NodeSets) : Type 0 where
  pub nullable : sets.nullable ≡ true
  pub whole_empty : sets.whole_empty ≡ true
  pub cut_empty : sets.cut_empty ≡ false
  pub lengths : sets.lengths ≡ set.insert set.empty 0
  pub zero : sets.zero ≡ set.empty
  pub one : sets.one ≡ set.empty

-- sets of nothing
pub record Nothing (sets : NodeSets) : Type 0 where
  pub nullable : sets.nullable ≡ false
  pub whole_empty : sets.whole_empty ≡ false
  pub cut_empty : sets.cut_empty ≡ false
  pub lengths : sets.lengths ≡ set.empty
  pub zero : sets.zero ≡ set.empty
  pub one : sets.one ≡ set.empty

pub here_length : (o : ℕ) → o ≤ 7 → o ≡ (o + 0) % 8
here_length o small = omega arith

-- the length 0 leads nowhere else
pub two_lengths : (o a b : ℕ) → ((o + a) % 8 + b) % 8 ≡ (o + (a + b) % 8) % 8
two_lengths o a b = omega arith

pub some_word : 0 < MOST_WORD
some_word = omega arith

pub zero_length : (s : set.FinSet nat_cmp) → s ≡ set.insert set.empty 0 → LengthsAre s (λ o p. p ≡ o)
zero_length s e o p small =
    both (one_length s 0 (omega arith) e o p small)
    ((λ h. h ∙ sym (here_length o small)), (λ h. h ∙ here_length o small))

pub within : (parts : List ℕ) (j i k : ℕ) → slice_get parts j ≡ Some i → length parts ≤ k → j < k
within parts j i k at all = let inside = slice_get_within parts j i at in omega arith

-- some of the first k parts has the fact
abbrev pub AnyOf : List ℕ → ℕ → (ℕ → Type 0) → Type 0
AnyOf parts k P = (j : ℕ) × (i : ℕ) × (j < k) × (slice_get parts j ≡ Some i) × P i

module _ (d : DescV) where
  -- ---- sets of parts

  -- of parts one after another
  abbrev pub PartsSetsAre : List ℕ → NodeSets → Type 0
  PartsSetsAre parts sets = Tell sets (AllNullable d parts) (PartsEnd d parts) (PartsStart d parts) (λ mark. PartsKeys d MOST_WORD parts 0 [] mark)

  -- of a truncation of these parts
  abbrev pub LeadSetsAre : List ℕ → NodeSets → Type 0
  LeadSetsAre parts sets = Tell sets (Unit {0}) (LeadEnd d parts) (PartsStart d parts) (λ mark. mark ≡ false)

  -- of one of the first k parts
  abbrev pub ChoiceSetsAre : List ℕ → ℕ → NodeSets → Type 0
  ChoiceSetsAre parts k sets =
      Tell sets (AnyOf parts k (λ i. Nullable d i)) (λ o p. AnyOf parts k (λ i. InEnds d i o p)) (λ o bit. AnyOf parts k (λ i. InStart d i o bit))
      (λ mark. AnyOf parts k (λ i. InKeys d MOST_WORD i 0 [] mark))
