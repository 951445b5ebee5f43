-- What each node of a well-formed description is, and what the values that it sees are.
use Rattle.std.proofs.Common.{◌≡◌, ℕ, ◌+◌, ◌*◌, ◌%◌, ◌<◌, ◌≤◌, List, [], ◌++◌, length, refl, ap, subst, arith}
use Rattle.std.proofs.Common.{length-append, inl, inr, Option, Some, None, option_map, slice_get, IsSomeAnd}
use Rattle.std.specs.Prelude.{⊤}
use Rattle.csn_desc.specs.declared.node.Count.{Count}
use Rattle.csn_desc.specs.declared.node.Count.TheVariants.{Fixed, Counted}
use Rattle.csn_desc.specs.declared.node.Node.{Node}
use Rattle.csn_desc.specs.declared.node.Node.TheVariants.{Lits, Spare, Pad, Null, Field, Rest, Seq, Choice, Times, Many, Trunc, Window, Named}
use Rattle.csn_desc.specs.TreeV.{TreeV}
use Rattle.csn_desc.specs.Nodes.{DescV, head_of, parts_of}
use Rattle.csn_desc.specs.Values.{Values, value_of, count_of, with_value}
use Rattle.csn_desc.specs.Means.{NMeans}
use Rattle.csn_desc.specs.Formed.{value_width, IsUnit, IsCount, IsHead, Formed, formed, IsDescription, FitWidths}
use Rattle.csn_desc.specs.Laws.{NodesAreWellFormed, NoValuesFit, ValuesStayFitting}
use Rattle.csn_look.specs.Known.{Known}
use Rattle.csn_look.specs.Ends.{MayCount, may_fixed, may_counted}

-- ---- nodes

-- a node of none of these kinds has no parts
pub has_no_parts : (n : Node) → ((parts : List ℕ) → ¬ (n ≡ Seq parts)) → ((parts : List ℕ) → ¬ (n ≡ Choice parts))
    → ((count : Count) (part : ℕ) → ¬ (n ≡ Times count part)) → ((part : ℕ) → ¬ (n ≡ Many part))
    → ((parts : List ℕ) → ¬ (n ≡ Trunc parts))
    → ((unit : ℕ) (count : Count) (part : ℕ) → ¬ (n ≡ Window unit count part))
    → ((label : List ℕ) (part : ℕ) → ¬ (n ≡ Named label part)) → parts_of n ≡ []
has_no_parts (Seq parts) no_seq no_choice no_times no_many no_trunc no_window no_name = absurd (no_seq parts refl)
has_no_parts (Choice parts) no_seq no_choice no_times no_many no_trunc no_window no_name = absurd (no_choice parts refl)
has_no_parts (Times count part) no_seq no_choice no_times no_many no_trunc no_window no_name = absurd (no_times count part refl)
has_no_parts (Many part) no_seq no_choice no_times no_many no_trunc no_window no_name = absurd (no_many part refl)
has_no_parts (Trunc parts) no_seq no_choice no_times no_many no_trunc no_window no_name = absurd (no_trunc parts refl)
has_no_parts (Window unit count part) no_seq no_choice no_times no_many no_trunc no_window no_name = absurd (no_window unit count part refl)
has_no_parts (Named label part) no_seq no_choice no_times no_many no_trunc no_window no_name = absurd (no_name label part refl)
has_no_parts _ no_seq no_choice no_times no_many no_trunc no_window no_name = refl

-- a count is at least 1, or stands on a labelled field of constant width
abbrev pub CountIs : List Node → Count → Type 0
CountIs nodes (Fixed n) = 0 < n
CountIs nodes (Counted m field c) = (width : ℕ) × (value_width nodes field ≡ Some width)

-- literals have a bit, units are positive, and counts are as above
abbrev pub NodeIs : List Node → Node → Type 0
NodeIs nodes (Lits run) = 0 < length run
NodeIs nodes (Field unit count) = (0 < unit) × CountIs nodes count
NodeIs nodes (Times count part) = CountIs nodes count
NodeIs nodes (Window unit count part) = (0 < unit) × CountIs nodes count
NodeIs nodes (Spare symbol) = ⊤
NodeIs nodes Pad = ⊤
NodeIs nodes Null = ⊤
NodeIs nodes Rest = ⊤
NodeIs nodes (Seq parts) = ⊤
NodeIs nodes (Choice parts) = ⊤
NodeIs nodes (Many part) = ⊤
NodeIs nodes (Trunc parts) = ⊤
NodeIs nodes (Named label part) = ⊤

-- what is taken of a description: each of its nodes is so, and values fit their widths where none is seen, and go on
-- to behind a part
pub record Shaped (d : DescV) : Type 0 where
  pub node : (i : ℕ) (n : Node) → slice_get d.nodes i ≡ Some n → NodeIs d.nodes n
  pub none_fit : FitWidths d []
  pub fit_on : (i o : ℕ) (v : Values) (b : List ℕ) (t : TreeV) → FitWidths d v → NMeans d i o v b t → FitWidths d (with_value d.nodes i b v)

pub kept : (d : DescV) → Shaped d → {i o : ℕ} {v : Values} {b : List ℕ} {t : TreeV}
    → FitWidths d v → NMeans d i o v b t → FitWidths d (with_value d.nodes i b v)
kept d shape {i} {o} {v} {b} {t} fits h = shape.fit_on i o v b t fits h

unit_is : (unit : ℕ) → IsUnit unit → 0 < unit
unit_is unit (inl one) = omega arith
unit_is unit (inr eight) = omega arith

width_is : (width : Option ℕ) → IsSomeAnd width (λ w. (1 ≤ w) × (w ≤ 16)) → (w : ℕ) × (width ≡ Some w)
width_is None some = elim some [ ]
width_is (Some w) some = (w, refl)

count_is : (nodes : List Node) (seen : List ℕ) (count : Count) → IsCount nodes seen count → CountIs nodes count
count_is nodes seen (Fixed n) is = omega (arith, is.0)
count_is nodes seen (Counted m field c) is = width_is (value_width nodes field) is.3

head_is : (nodes : List Node) (seen : List ℕ) (n : Node) → IsHead nodes seen (head_of n) → NodeIs nodes n
head_is nodes seen (Lits run) is = omega (arith, is)
head_is nodes seen (Field unit count) is = (unit_is unit is.0, count_is nodes seen count is.1)
head_is nodes seen (Times count part) is = count_is nodes seen count is
head_is nodes seen (Window unit count part) is = (unit_is unit is.0, count_is nodes seen count is.1)
head_is nodes seen (Spare symbol) is = tt
head_is nodes seen Pad is = tt
head_is nodes seen Null is = tt
head_is nodes seen Rest is = tt
head_is nodes seen (Seq parts) is = tt
head_is nodes seen (Choice parts) is = tt
head_is nodes seen (Many part) is = tt
head_is nodes seen (Trunc parts) is = tt
head_is nodes seen (Named label part) is = tt

formed_is : {nodes : List Node} {seen : List ℕ} {round i : ℕ} (n : Node) → slice_get nodes i ≡ Some n → Formed nodes seen round i → NodeIs nodes n
formed_is {nodes = nodes} {seen = seen} n at (formed m is few head have room others) =
    let same : m ≡ n = cc in
    let P : Node → Type 0 = λ k. NodeIs nodes k in
    subst P same (head_is nodes seen m head)

pub shaped : NodesAreWellFormed → NoValuesFit → ValuesStayFitting → (d : DescV) → IsDescription d → Shaped d
shaped formed_nodes none stay d is =
    record {
      node = λ i n at. let here = formed_nodes d i n is at in formed_is n at here.2;
      none_fit = (none d).1;
      fit_on = λ i o v b t fits h. stay d i o v b t fits h;
    }

-- the same of what is known by laws
pub shape_of : Known → (d : DescV) → IsDescription d → Shaped d
shape_of known = shaped known.formed known.no_values known.fitting

-- ---- values

module _ (d : DescV) where
  counted_may : {m field c n : ℕ} (v : Values) (value : Option ℕ) → value_of v field ≡ value → FitWidths d v → (w : ℕ)
      × (value_width d.nodes field ≡ Some w) → option_map (λ x. m * x + c) value ≡ Some n
      → MayCount d (Counted m field c) n
  counted_may {field = field} v None at widths is counts = absurd (cc)
  counted_may {field = field} v (Some x) at widths is counts =
      may_counted is.0 x is.1 (widths.fit field x is.0 at is.1) (cc)

  -- a count may be what it is
  pub may_count : (v : Values) (count : Count) {n : ℕ} → CountIs d.nodes count → FitWidths d v → count_of v count ≡ Some n → MayCount d count n
  may_count v (Fixed k) is widths counts = may_fixed (cc)
  may_count v (Counted m field c) is widths counts = counted_may v (value_of v field) refl widths is counts

-- ---- places

-- a place modulo 8, some bits on
pub octet-on : (o p k m : ℕ) → p ≡ o + k → k ≡ m → p % 8 ≡ (o % 8 + m) % 8
octet-on o p k m is same = omega arith

pub octet-same : (o p k : ℕ) → p ≡ o + k → k ≡ 0 → p % 8 ≡ o % 8
octet-same o p k is none = let same : p ≡ o = omega arith in ap (λ x. x % 8) same

-- where bits end that are split
pub place-split : (o : ℕ) (b1 b2 : List ℕ) {b : List ℕ} (p : ℕ) → p ≡ o + length b → b ≡ b1 ++ b2 → p ≡ o + length b1 + length b2
place-split o b1 b2 p is cut = let sum = ap length cut in omega (arith, sum, length-append b1 b2)
