-- Fields that counts stand on: they have a width of a few bits, and with the values that are seen each count is a number.
use Rattle.std.proofs.Common.{◌≡◌, ℕ, zero, suc, ◌+◌, ◌^◌, ◌<◌, ◌≤◌, ◌==◌, ◌||◌, Bool, true, false, if◌then◌else◌}
use Rattle.std.proofs.Common.{eqb-true, List, [], ◌∷◌, length, refl, ◌∙◌, ap, subst, arith, Option, Some, None}
use Rattle.std.proofs.Common.{slice_get, Contains, ◌⊎◌, inl, inr}
use Rattle.std.specs.Prelude.{IsSome, IsSomeAnd, count_by, cond}
use Rattle.std.specs.List.{list_any, slice_index_or}
use Rattle.std.proofs.lemmas.List.Sums.{sum_by-cons}
use Rattle.std.proofs.Math.Nat.{pow-le-pow_right}
use Rattle.std.proofs.lemmas.Bool.{eq-eqb}
use Rattle.csn_bits.specs.Numbers.{number_of}
use Rattle.csn_desc.specs.declared.node.Count.{Count}
use Rattle.csn_desc.specs.declared.node.Count.TheVariants.{Fixed, Counted}
use Rattle.csn_desc.specs.declared.node.Node.{Node}
use Rattle.csn_desc.specs.declared.node.Node.TheVariants.{Lits, Spare, Pad, Null, Field, Rest, Seq, Choice, Times, Many, Trunc, Window, Named}
use Rattle.csn_desc.specs.Nodes.{DescV, head_of}
use Rattle.csn_desc.specs.Values.{Values, value_of, is_named, with_value}
use Rattle.csn_desc.specs.Formed.{counts_on, node_counts_on, is_counted, value_width, with_seen, IsCount, IsHead}
use Rattle.csn_desc.specs.Formed.{Formed, formed, FitWidths, HaveValues, IsDescription}
use Rattle.csn_desc.proofs.Placed.{node_placed}
use Rattle.csn_certify.specs.CountedValues.{fields_of, HasNumber}

-- ---- what is seen has values

pub contains_cases : (y : ℕ) (xs : List ℕ) (x : ℕ) → Contains (y ∷ xs) x → (y ≡ x) ⊎ Contains xs x
contains_cases y xs x h = at h.0 h.1 h.2
  where
    at : (k : ℕ) → k < length (y ∷ xs) → slice_index_or (y ∷ xs) k x ≡ x → (y ≡ x) ⊎ Contains xs x
    at zero less is = inl is
    at (suc k) less is = inr (k, omega arith, is)

pub fields_have_values : (v : Values) → HaveValues v (fields_of v)
fields_have_values [] field h = absurd (omega (arith, h.1))
fields_have_values (last ∷ v) field h = found (λ seen. fields_have_values v field seen) (last.0 == field) refl (contains_cases last.0 (fields_of v) field h)
  where
    found : (Contains (fields_of v) field → IsSome (value_of v field)) → (same : Bool)
        → (last.0 == field) ≡ same → (last.0 ≡ field) ⊎ Contains (fields_of v) field
        → IsSome (if same then Some (number_of last.1) else value_of v field)
    found earlier true e h = refl
    found earlier false e (inl same) = absurd (grind (arith, e, same))
    found earlier false e (inr h) = earlier h

-- ---- how many fields satisfy something

pub count_more : (p : ℕ → Bool) (x : ℕ) (xs : List ℕ) → count_by p (x ∷ xs) ≡ cond (p x) 1 0 + count_by p xs
count_more p x xs = sum_by-cons (λ k. cond (p k) 1 0) x xs

-- ---- a node that counts on a field makes it counted

any_at : (p : Node → Bool) (l : List Node) (i : ℕ) (n : Node) → slice_get l i ≡ Some n → p n ≡ true → list_any p l ≡ true
any_at p [] i n at holds = absurd (cc)
any_at p (a ∷ l) zero n at holds =
    let same : a ≡ n = cc in
    ap (λ b. b || list_any p l) (ap p same ∙ holds)
any_at p (a ∷ l) (suc i) n at holds = by (p a) (any_at p l i n at holds)
  where
    by : (b : Bool) → list_any p l ≡ true → (b || list_any p l) ≡ true
    by true later = refl
    by false later = later

-- and where it is counted there is such a node
pub record Counter (p : Node → Bool) (nodes : List Node) : Type 0 where
  pub at : ℕ
  pub node : Node
  pub look : slice_get nodes at ≡ Some node
  pub holds : p node ≡ true

pub counter : (p : Node → Bool) (nodes : List Node) → list_any p nodes ≡ true → Counter p nodes
counter p [] none = absurd (cc)
counter p (n ∷ nodes) some = by (p n) refl (λ h. counter p nodes h) some
  where
    by : (here : Bool) → p n ≡ here → (list_any p nodes ≡ true → Counter p nodes) → (here || list_any p nodes) ≡ true → Counter p (n ∷ nodes)
    by true e rest some = record { at = 0; node = n; look = refl; holds = e }
    by false e rest some = let later = rest some in record { at = suc later.at; node = later.node; look = later.look; holds = later.holds }

-- ---- it has a width of a few bits

abbrev pub FewBits : Option ℕ → Type 0
FewBits width = IsSomeAnd width (λ w. (1 ≤ w) × (w ≤ 16))

count_width : (nodes : List Node) (seen : List ℕ) (k : ℕ) (count : Count) → counts_on k count ≡ true → IsCount nodes seen count → FewBits (value_width nodes k)
count_width nodes seen k (Fixed n) counts is = absurd (cc)
count_width nodes seen k (Counted m field c) counts is =
    let same : field ≡ k = eqb-true field k counts in
    let P : ℕ → Type 0 = λ j. FewBits (value_width nodes j) in
    subst P same is.3

node_width : (nodes : List Node) (seen : List ℕ) (k : ℕ) (n : Node) → node_counts_on k n ≡ true → IsHead nodes seen (head_of n) → FewBits (value_width nodes k)
node_width nodes seen k (Field unit count) counts is = count_width nodes seen k count counts is.1
node_width nodes seen k (Times count part) counts is = count_width nodes seen k count counts is
node_width nodes seen k (Window unit count part) counts is = count_width nodes seen k count counts is.1
node_width nodes seen k (Lits run) counts is = absurd (cc)
node_width nodes seen k (Spare symbol) counts is = absurd (cc)
node_width nodes seen k Pad counts is = absurd (cc)
node_width nodes seen k Null counts is = absurd (cc)
node_width nodes seen k Rest counts is = absurd (cc)
node_width nodes seen k (Seq parts) counts is = absurd (cc)
node_width nodes seen k (Choice parts) counts is = absurd (cc)
node_width nodes seen k (Many part) counts is = absurd (cc)
node_width nodes seen k (Trunc parts) counts is = absurd (cc)
node_width nodes seen k (Named label part) counts is = absurd (cc)

-- a number of up to 16 bits
pub narrow : (value width : ℕ) → value < 2 ^ width → width ≤ 16 → value < 65536
narrow value width less few =
    let wide : 2 ^ width ≤ 2 ^ 16 = pow-le-pow_right {n = 2} (omega arith) few in
    let all : 2 ^ 16 ≡ 65536 = refl in
    omega (arith, less, wide, all)

module _ (d : DescV) where
  pub formed_head : {seen : List ℕ} {round i : ℕ} (n : Node) → slice_get d.nodes i ≡ Some n → Formed d.nodes seen round i → IsHead d.nodes seen (head_of n)
  formed_head {seen} n at (formed m here few head parts counted later) =
      let same : m ≡ n = cc in
      let P : Node → Type 0 = λ x. IsHead d.nodes seen (head_of x) in
      subst P same head

  pub few_bits : IsDescription d → (k : ℕ) → is_counted d.nodes k ≡ true → FewBits (value_width d.nodes k)
  few_bits is k counted =
      let c = counter (node_counts_on k) d.nodes counted in
      let placed = node_placed d is c.at c.node c.look in
      node_width d.nodes placed.seen k c.node c.holds (formed_head c.node c.look placed.is)

  -- what is seen behind a part
  pub fields_behind : (i : ℕ) (b : List ℕ) (v : Values) → fields_of (with_value d.nodes i b v) ≡ with_seen d.nodes true i (fields_of v)
  fields_behind i b v = by (is_named d.nodes i)
    where
      by : (labelled : Bool) → fields_of (if labelled then (i, b) ∷ v else v) ≡ (if labelled then i ∷ fields_of v else fields_of v)
      by true = refl
      by false = refl

  -- a count of a node that is formed is a number by the values that it sees
  pub has_number : {v : Values} (i : ℕ) (n : Node) (count : Count) → FitWidths d v → slice_get d.nodes i ≡ Some n
      → IsCount d.nodes (fields_of v) count → ((field : ℕ) → counts_on field count ≡ true → node_counts_on field n ≡ true) → HasNumber d v count
  has_number i n (Fixed k) widths at is on = is.1
  has_number {v = v} i n (Counted m field c) widths at is on =
      let there = value_at (value_of v field) refl (fields_have_values v field is.2) in
      let width = some_width (value_width d.nodes field) refl is.3 in (
        any_at (node_counts_on field) d.nodes i n at (on field (eq-eqb field field refl)),
        is.1,
        there.0,
        there.1,
        narrow there.0 width.0 (widths.fit field there.0 width.0 there.1 width.1) width.3,
      )
    where
      value_at : (found : Option ℕ) → value_of v field ≡ found → IsSome found → (number : ℕ) × (value_of v field ≡ Some number)
      value_at None e some = absurd (cc)
      value_at (Some number) e some = (number, e)

      some_width : (found : Option ℕ) → value_width d.nodes field ≡ found → IsSomeAnd found (λ width. (1 ≤ width) × (width ≤ 16))
          → (width : ℕ) × (value_width d.nodes field ≡ Some width) × (1 ≤ width) × (width ≤ 16)
      some_width None e some = absurd (some)
      some_width (Some width) e some = (width, e, some.0, some.1)
