-- The case that the kinds of two nodes choose, and no other.
use Rattle.std.proofs.Common.{◌≡◌, ◌↔◌, ℕ, Bool, true, false, IsTrue, List, refl, sym, ap, subst, Some}
use Rattle.std.specs.Prelude.{slice_get}
use Rattle.csn_desc.specs.declared.node.Count.{Count}
use Rattle.csn_desc.specs.declared.node.Node.{Node}
use Rattle.csn_desc.specs.declared.node.Node.TheVariants.{Rest, Seq, Choice, Times, Many, Trunc, Window, Named}
use Rattle.csn_desc.specs.Nodes.{DescV}
use Rattle.csn_compat.specs.declared.pairs.Pair.{Pair}
use Rattle.csn_compat.specs.Pairs.{CountsAgree}
use Rattle.csn_compat.specs.Takes.{is_label, is_label_or_rest, is_label_or_choice, LeafTakes, takes_leaf, Takes}
use Rattle.csn_compat.specs.Takes.{NodeTakes, PartsTake, LeadTake, takes_at, takes_labelled, takes_by_labelled}
use Rattle.csn_compat.specs.Takes.{takes_by_rest, takes_choice, takes_by_choice, takes_seq, takes_times, takes_many}
use Rattle.csn_compat.specs.Takes.{takes_trunc, takes_window}

-- ---- what a node is not

pub no_label : (n : Node) → ((label : List ℕ) (part : ℕ) → n ≡ Named label part → ⊥) → is_label n ≡ false
no_label (Named l p) other = absurd (other l p refl)
no_label _ other = refl

pub no_label_or_rest : (n : Node) → ((label : List ℕ) (part : ℕ) → n ≡ Named label part → ⊥) → (n ≡ Rest → ⊥) → is_label_or_rest n ≡ false
no_label_or_rest (Named l p) other rest = absurd (other l p refl)
no_label_or_rest Rest other rest = absurd (rest refl)
no_label_or_rest _ other rest = refl

pub no_label_or_choice : (n : Node) → ((label : List ℕ) (part : ℕ) → n ≡ Named label part → ⊥)
    → ((parts : List ℕ) → n ≡ Choice parts → ⊥) → is_label_or_choice n ≡ false
no_label_or_choice (Named l p) other choice = absurd (other l p refl)
no_label_or_choice (Choice parts) other choice = absurd (choice parts refl)
no_label_or_choice _ other choice = refl

-- are both nodes of one kind with parts?
abbrev pub are_alike : Node → Node → Bool
are_alike (Seq parts) (Seq others) = true
are_alike (Trunc parts) (Trunc others) = true
are_alike (Many p) (Many q) = true
are_alike (Times count p) (Times taker q) = true
are_alike (Window unit count p) (Window other taker q) = true
are_alike _ _ = false

pub no_seq : {n : Node} {parts : List ℕ} (m : Node) → n ≡ Seq parts → ((others : List ℕ) → m ≡ Seq others → ⊥) → are_alike n m ≡ false
no_seq (Seq others) is other = absurd (other others refl)
no_seq m is other = ap (λ k. are_alike k m) is

pub no_trunc : {n : Node} {parts : List ℕ} (m : Node) → n ≡ Trunc parts → ((others : List ℕ) → m ≡ Trunc others → ⊥) → are_alike n m ≡ false
no_trunc (Trunc others) is other = absurd (other others refl)
no_trunc m is other = ap (λ k. are_alike k m) is

pub no_many : {n : Node} {p : ℕ} (m : Node) → n ≡ Many p → ((q : ℕ) → m ≡ Many q → ⊥) → are_alike n m ≡ false
no_many (Many q) is other = absurd (other q refl)
no_many m is other = ap (λ k. are_alike k m) is

pub no_times : {n : Node} {count : Count} {p : ℕ} (m : Node) → n ≡ Times count p → ((taker : Count) (q : ℕ) → m ≡ Times taker q → ⊥) → are_alike n m ≡ false
no_times (Times taker q) is other = absurd (other taker q refl)
no_times m is other = ap (λ k. are_alike k m) is

pub no_window : {n : Node} {unit p : ℕ} {count : Count} (m : Node)
    → n ≡ Window unit count p → ((units : ℕ) (taker : Count) (q : ℕ) → m ≡ Window units taker q → ⊥)
    → are_alike n m ≡ false
no_window (Window units taker q) is other = absurd (other units taker q refl)
no_window m is other = ap (λ k. are_alike k m) is

pub no_kind :
    (n m : Node) → ((parts : List ℕ) → n ≡ Seq parts → ⊥) → ((parts : List ℕ) → n ≡ Trunc parts → ⊥) → ((p : ℕ) → n ≡ Many p → ⊥)
    → ((count : Count) (p : ℕ) → n ≡ Times count p → ⊥) → ((unit : ℕ) (count : Count) (p : ℕ) → n ≡ Window unit count p → ⊥) → are_alike n m ≡ false
no_kind (Seq parts) m seq trunc many times window = absurd (seq parts refl)
no_kind (Trunc parts) m seq trunc many times window = absurd (trunc parts refl)
no_kind (Many p) m seq trunc many times window = absurd (many p refl)
no_kind (Times count p) m seq trunc many times window = absurd (times count p refl)
no_kind (Window unit count p) m seq trunc many times window = absurd (window unit count p refl)
no_kind _ m seq trunc many times window = refl

module _ (was now : DescV) where
  -- the two nodes decide
  pub nodes_take : {i j : ℕ} {pairs : List Pair} (n m : Node) → slice_get was.nodes i ≡ Some n
      → slice_get now.nodes j ≡ Some m → Takes was now i j pairs → NodeTakes was now i n j m pairs
  nodes_take {i} {j} {pairs} n m at_i at_j (takes_at x y at_x at_y h) =
      let old : x ≡ n = cc in
      let new : y ≡ m = cc in
      let P : Node → Type 0 = λ k. NodeTakes was now i k j y pairs in
      let Q : Node → Type 0 = λ k. NodeTakes was now i n j k pairs in
      subst Q new (subst P old h)

  pub decided : (i j : ℕ) (pairs : List Pair) (r : Bool) (n m : Node) → slice_get was.nodes i ≡ Some n
      → slice_get now.nodes j ≡ Some m → IsTrue r ↔ NodeTakes was now i n j m pairs
      → IsTrue r ↔ Takes was now i j pairs
  decided i j pairs r n m at_i at_j says = (λ e. takes_at n m at_i at_j (says.0 e), λ h. says.1 (nodes_take n m at_i at_j h))

  pub of_labelled : {i j part : ℕ} {label : List ℕ} {m : Node} {pairs : List Pair}
      → NodeTakes was now i (Named label part) j m pairs → Takes was now part j pairs
  of_labelled (takes_labelled h) = h
  of_labelled (takes_by_labelled not_label h) = absurd (cc)
  of_labelled (takes_by_rest not_label) = absurd (cc)
  of_labelled (takes_by_choice k q other at h) = absurd (cc)
  of_labelled (takes_leaf h) = absurd h

  -- no leaf is taken by a label or a choice
  no_leaf_by_label : (n : Node) (label : List ℕ) (part : ℕ) (pairs : List Pair) → LeafTakes pairs n (Named label part) → ⊥
  no_leaf_by_label (Named l p) label part pairs h = h
  no_leaf_by_label _ label part pairs h = h

  no_leaf_by_choice : (n : Node) (others : List ℕ) (pairs : List Pair) → LeafTakes pairs n (Choice others) → ⊥
  no_leaf_by_choice (Named l p) others pairs h = h
  no_leaf_by_choice _ others pairs h = h

  pub of_by_labelled : {i j part : ℕ} {label : List ℕ} {n : Node} {pairs : List Pair}
      → is_label n ≡ false → NodeTakes was now i n j (Named label part) pairs → Takes was now i part pairs
  of_by_labelled not_label (takes_labelled h) = absurd (cc)
  of_by_labelled not_label (takes_by_labelled other h) = h
  of_by_labelled not_label (takes_choice other each) = absurd (cc)
  of_by_labelled {part = part} {label = label} not_label (takes_leaf {n = n} {pairs = pairs} h) = absurd (no_leaf_by_label n label part pairs h)

  pub of_choice : {i j : ℕ} {parts : List ℕ} {m : Node} {pairs : List Pair}
      → is_label_or_rest m ≡ false → NodeTakes was now i (Choice parts) j m pairs → (k p : ℕ)
      → slice_get parts k ≡ Some p → Takes was now p j pairs
  of_choice other (takes_by_labelled not_label h) = absurd (cc)
  of_choice other (takes_by_rest not_label) = absurd (cc)
  of_choice other (takes_choice same each) = each
  of_choice other (takes_by_choice k q same at h) = absurd (cc)
  of_choice other (takes_leaf h) = absurd h

  abbrev pub SomeTakes : ℕ → List ℕ → List Pair → Type 0
  SomeTakes i others pairs = (k : ℕ) × (q : ℕ) × (slice_get others k ≡ Some q) × Takes was now i q pairs

  pub of_by_choice : {i j : ℕ} {others : List ℕ} {n : Node} {pairs : List Pair} → is_label_or_choice n ≡ false
      → NodeTakes was now i n j (Choice others) pairs → SomeTakes i others pairs
  of_by_choice other (takes_labelled h) = absurd (cc)
  of_by_choice other (takes_choice same each) = absurd (cc)
  of_by_choice other (takes_by_choice k q same at h) = (k, q, at, h)
  of_by_choice {others = others} other (takes_leaf {n = n} {pairs = pairs} h) = absurd (no_leaf_by_choice n others pairs h)

  pub of_seq : {i j : ℕ} {parts others : List ℕ} {pairs : List Pair}
      → NodeTakes was now i (Seq parts) j (Seq others) pairs → PartsTake was now parts others pairs
  of_seq (takes_seq h) = h
  of_seq (takes_leaf h) = absurd h

  pub of_trunc : {i j : ℕ} {parts others : List ℕ} {pairs : List Pair}
      → NodeTakes was now i (Trunc parts) j (Trunc others) pairs → LeadTake was now parts others pairs
  of_trunc (takes_trunc h) = h
  of_trunc (takes_leaf h) = absurd h

  pub of_many : {i j p q : ℕ} {pairs : List Pair} → NodeTakes was now i (Many p) j (Many q) pairs → Takes was now p q pairs
  of_many (takes_many h) = h
  of_many (takes_leaf h) = absurd h

  pub of_times : {i j p q : ℕ} {count taker : Count} {pairs : List Pair}
      → NodeTakes was now i (Times count p) j (Times taker q) pairs → CountsAgree pairs 1 count 1 taker
      × Takes was now p q pairs
  of_times (takes_times counts h) = (counts, h)
  of_times (takes_leaf h) = absurd h

  pub of_window : {i j p q unit other : ℕ} {count taker : Count} {pairs : List Pair}
      → NodeTakes was now i (Window unit count p) j (Window other taker q) pairs
      → CountsAgree pairs unit count other taker × Takes was now p q pairs
  of_window (takes_window counts h) = (counts, h)
  of_window (takes_leaf h) = absurd h

  -- equal nodes
  pub along_nodes : (i j : ℕ) (r : Bool) {n m x y : Node} {pairs : List Pair}
      → x ≡ n → y ≡ m → IsTrue r ↔ NodeTakes was now i n j m pairs → IsTrue r ↔ NodeTakes was now i x j y pairs
  along_nodes i j r {n} {m} {x} {y} {pairs} old new says =
      let P : Node → Type 0 = λ k. IsTrue r ↔ NodeTakes was now i k j m pairs in
      let Q : Node → Type 0 = λ k. IsTrue r ↔ NodeTakes was now i x j k pairs in
      subst Q (sym new) (subst P (sym old) says)

  -- where no kind with parts is on both sides, a leaf is taken or nothing is
  pub leaf_alone : {i j : ℕ} {n m : Node} {pairs : List Pair} → is_label_or_choice n ≡ false
      → is_label_or_rest m ≡ false → is_label_or_choice m ≡ false → are_alike n m ≡ false
      → NodeTakes was now i n j m pairs → LeafTakes pairs n m
  leaf_alone old new other apart (takes_labelled h) = absurd (cc)
  leaf_alone old new other apart (takes_by_labelled not_label h) = absurd (cc)
  leaf_alone old new other apart (takes_by_rest not_label) = absurd (cc)
  leaf_alone old new other apart (takes_choice same each) = absurd (cc)
  leaf_alone old new other apart (takes_by_choice k q same at h) = absurd (cc)
  leaf_alone old new other apart (takes_leaf h) = h
  leaf_alone old new other apart (takes_seq h) = absurd (cc)
  leaf_alone old new other apart (takes_times counts h) = absurd (cc)
  leaf_alone old new other apart (takes_many h) = absurd (cc)
  leaf_alone old new other apart (takes_trunc h) = absurd (cc)
  leaf_alone old new other apart (takes_window counts h) = absurd (cc)

  pub leaf_decided : (i j : ℕ) (r : Bool) {n m : Node} {pairs : List Pair} → is_label_or_choice n ≡ false
      → is_label_or_rest m ≡ false → is_label_or_choice m ≡ false → IsTrue r ↔ LeafTakes pairs n m
      → are_alike n m ≡ false → IsTrue r ↔ NodeTakes was now i n j m pairs
  leaf_decided i j r old new other says apart = (λ e. takes_leaf (says.0 e), λ h. says.1 (leaf_alone old new other apart h))
