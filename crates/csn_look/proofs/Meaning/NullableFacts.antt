-- A node at which no bits have a tree is nullable.
use Rattle.std.proofs.Common.{◌≡◌, ℕ, zero, suc, ◌+◌, ◌*◌, ◌<◌, List, [], ◌∷◌, length, refl, sym, ◌∙◌, ap, arith, mul-pos, Option, Some, None, option_map}
use Rattle.csn_desc.specs.declared.node.Count.{Count}
use Rattle.csn_desc.specs.declared.node.Count.TheVariants.{Fixed, Counted}
use Rattle.csn_desc.specs.declared.node.Node.{Node}
use Rattle.csn_desc.specs.declared.node.Node.TheVariants.{Field, Times, Window}
use Rattle.csn_desc.specs.TreeV.{TreeV, Trees}
use Rattle.csn_desc.specs.Nodes.{DescV}
use Rattle.csn_desc.specs.Values.{Values, value_of, count_of}
use Rattle.csn_desc.specs.Means.{NMeans, NodeMeans, PartsMean, means_at, means_lits, means_spare, means_pad}
use Rattle.csn_desc.specs.Means.{means_null, means_field, means_rest, means_seq, means_choice, means_times}
use Rattle.csn_desc.specs.Means.{means_many, means_cut, means_trunc, means_window, means_named, parts_end, parts_next}
use Rattle.csn_desc.specs.Means.{times_end, times_next}
use Rattle.csn_desc.proofs.Splits.{front_empty, rest_empty}
use Rattle.csn_look.specs.Nullable.{Nullable, NodeNullable, AllNullable, nullable_null, nullable_rest}
use Rattle.csn_look.specs.Nullable.{nullable_many, nullable_trunc, nullable_field, nullable_times, nullable_no_times}
use Rattle.csn_look.specs.Nullable.{nullable_window, nullable_seq, nullable_choice, nullable_named, all_end, all_next}
use Rattle.csn_look.proofs.Meaning.LeastSets.{nullable_at}
use Rattle.csn_look.proofs.Meaning.ShapeFacts.{CountIs, NodeIs, Shaped}

no_units : (unit n : ℕ) (b : List ℕ) → 0 < unit → length b ≡ unit * n → b ≡ [] → n ≡ 0
no_units unit zero b some wide none = refl
no_units unit (suc n) b some wide none =
    let size = ap length none in
    let product : 0 < unit * suc n = mul-pos some (omega arith) in
    absurd (omega arith)

-- a count that is 0 has nothing added
none_added : (m c : ℕ) (value : Option ℕ) → option_map (λ x. m * x + c) value ≡ Some 0 → c ≡ 0
none_added m c None counts = absurd (cc)
none_added m c (Some x) counts = let sum : m * x + c ≡ 0 = cc in omega arith

module _ (d : DescV) where
  no_field : (unit : ℕ) (count : Count) (v : Values) {n : ℕ} → CountIs d.nodes count → count_of v count ≡ Some n → n ≡ 0 → NodeNullable d (Field unit count)
  no_field unit (Fixed k) v is counts none = let same : k ≡ 0 = cc in absurd (omega arith)
  no_field unit (Counted m field c) v is counts none =
      nullable_field (none_added m c (value_of v field) (counts ∙ ap Some none))

  no_window : (unit : ℕ) (count : Count) (v : Values) {i n : ℕ} → CountIs d.nodes count → count_of v count ≡ Some n
      → n ≡ 0 → Nullable d i → NodeNullable d (Window unit count i)
  no_window unit (Fixed k) v is counts none h = let same : k ≡ 0 = cc in absurd (omega arith)
  no_window unit (Counted m field c) v is counts none h =
      nullable_window (none_added m c (value_of v field) (counts ∙ ap Some none)) h

  no_times : (count : Count) (v : Values) {i n : ℕ} → CountIs d.nodes count → count_of v count ≡ Some n → n ≡ 0 → NodeNullable d (Times count i)
  no_times (Fixed k) v is counts none = let same : k ≡ 0 = cc in absurd (omega arith)
  no_times (Counted m field c) v is counts none =
      nullable_no_times (none_added m c (value_of v field) (counts ∙ ap Some none))

module _ (d : DescV) (shaped : Shaped d) where
  mutual
    pub nullable : {i o : ℕ} {v : Values} {b : List ℕ} {t : TreeV} → NMeans d i o v b t → b ≡ [] → Nullable d i
    nullable {i = i} (means_at n at h) none = nullable_at n at (node_nullable (shaped.node i n at) h none)

    node_nullable : {n : Node} {o : ℕ} {v : Values} {b : List ℕ} {t : TreeV} → NodeIs d.nodes n → NodeMeans d n o v b t → b ≡ [] → NodeNullable d n
    node_nullable is (means_lits {run = []} h) none = absurd (omega (arith, is))
    node_nullable is (means_lits {run = s ∷ run} h) none = absurd (cc)
    node_nullable is (means_spare one h) none = let size = ap length none in absurd (omega arith)
    node_nullable is (means_pad some h) none = let size = ap length none in absurd (omega arith)
    node_nullable is (means_null h) none = nullable_null
    node_nullable {v = v} {b = b} is (means_field {unit = unit} {count = count} n counts wide h) none =
        no_field d unit count v is.1 counts (no_units unit n b is.0 wide none)
    node_nullable is (means_rest h) none = nullable_rest
    node_nullable is (means_seq h) none = nullable_seq (parts_nullable h none)
    node_nullable is (means_choice {j = j} at h) none = nullable_choice j at (nullable h none)
    node_nullable {v = v} is (means_times {count = count} n counts (times_end over h)) none = no_times d count v is counts over
    node_nullable is (means_times n counts (times_next m over b1 b2 cut h others)) none =
        nullable_times (nullable h (front_empty b1 b2 (sym cut ∙ none)))
    node_nullable is (means_many h) none = nullable_many
    node_nullable is (means_cut h) none = nullable_trunc
    node_nullable is (means_trunc h) none = nullable_trunc
    node_nullable {v = v} {b = b} is (means_window {unit = unit} {count = count} n counts wide h) none =
        no_window d unit count v is.1 counts (no_units unit n b is.0 wide none) (nullable h none)
    node_nullable is (means_named h) none = nullable_named (nullable h none)

    pub parts_nullable : {parts : List ℕ} {o : ℕ} {v : Values} {b : List ℕ} {ts : Trees} → PartsMean d parts o v b ts → b ≡ [] → AllNullable d parts
    parts_nullable (parts_end h) none = all_end
    parts_nullable (parts_next b1 b2 cut h others) none =
        all_next (nullable h (front_empty b1 b2 (sym cut ∙ none))) (parts_nullable others (rest_empty b1 b2 (sym cut ∙ none)))
