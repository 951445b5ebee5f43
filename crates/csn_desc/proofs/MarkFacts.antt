-- Marks of counted fields, made node by node.
use Rattle.std.proofs.Common.{◌≡◌, ℕ, zero, suc, ◌+◌, ◌<◌, ◌≤◌, ◌⊎◌, Bool, true, false, ◌||◌, ◌==◌, List, ◌∷◌, length}
use Rattle.std.proofs.Common.{map, take, set, replicate, get_or, refl, sym, ◌∙◌, ap, arith, Option, Some, None}
use Rattle.std.proofs.Common.{length-set, get_or-set_same, get_or-set_other, eq-eqb, eqb-true, nat_lt, ltb-true}
use Rattle.std.proofs.Common.{ltb-false, inl, inr}
use Rattle.std.specs.List.{range_with_len}
use Rattle.std.proofs.lemmas.List.Folds.{list_any_more}
use Rattle.std.proofs.lemmas.List.FromFn.{length-map-range_with_len, get_or-map-range_with_len, fill_by_all}
use Rattle.csn_desc.specs.declared.node.Node.{Node}
use Rattle.csn_desc.specs.Formed.{is_counted, node_counts_on, counted_marks}
use Rattle.std.proofs.lemmas.List.{set_past, take_all}
use Rattle.csn_desc.specs.Marks.{stands_on, marked}

pub past_same : (xs : List Bool) (f : ℕ) → length xs ≤ f → xs ≡ set xs f true
past_same xs f h = sym (set_past xs f true h)

none_marked : (f : ℕ → Bool) → ((k : ℕ) → f k ≡ false) → (a n : ℕ) → replicate n false ≡ map f (range_with_len a n)
none_marked f h a zero = refl
none_marked f h a (suc n) =
    ap (λ l. false ∷ l) (none_marked f h (a + 1) n) ∙ ap (λ b. b ∷ map f (range_with_len (a + 1) n)) (sym (h a))

-- for each of n numbers, whether the count of one of the first i nodes stands on it
abbrev pub marks_of : List Node → ℕ → List Bool
marks_of nodes i = map (is_counted (take i nodes)) (range_with_len 0 (length nodes))

pub first_marks : (nodes : List Node) → replicate (length nodes) false ≡ marks_of nodes 0
first_marks nodes = none_marked (is_counted (take 0 nodes)) (λ k. refl) 0 (length nodes)

pub all_marks : (nodes : List Node) (i : ℕ) → length nodes ≤ i → marks_of nodes i ≡ counted_marks nodes
all_marks nodes i all = ap (λ ns. map (is_counted ns) (range_with_len 0 (length nodes))) (take_all i nodes all)

marked_by : (f k : ℕ) → f ≡ k ⊎ (f ≡ k → ⊥)
marked_by f k = by_test (f == k) refl
  where
    by_test : (b : Bool) → (f == k) ≡ b → f ≡ k ⊎ (f ≡ k → ⊥)
    by_test true e = inl (eqb-true f k e)
    by_test false e = inr (λ same. let yes : (f == k) ≡ true = eq-eqb f k same in cc)

-- a mark more
next_mark : (nodes : List Node) (i k : ℕ) (node : Node) (b : Bool) → i < length nodes → get_or nodes i node ≡ node
    → node_counts_on k node ≡ b → is_counted (take (i + 1) nodes) k ≡ (is_counted (take i nodes) k || b)
next_mark nodes i k node b within is e =
    list_any_more (node_counts_on k) nodes i node within ∙ ap (λ c. is_counted (take i nodes) k || c) (ap (node_counts_on k) is ∙ e)

or_false : (b : Bool) → (b || false) ≡ b
or_false true = refl
or_false false = refl

or_true : (b : Bool) → (b || true) ≡ true
or_true true = refl
or_true false = refl

module _ (nodes : List Node) (i : ℕ) (node : Node) (marks : List Bool) (within : i < length nodes)
    (is : get_or nodes i node ≡ node) (are : marks ≡ marks_of nodes i) where
  long : length marks ≡ length nodes
  long = ap (λ l. length l) are ∙ length-map-range_with_len (is_counted (take i nodes)) 0 (length nodes)

  mark_at : (k : ℕ) → k < length nodes → get_or marks k false ≡ is_counted (take i nodes) k
  mark_at k h = ap (λ l. get_or l k false) are ∙ get_or-map-range_with_len (is_counted (take i nodes)) 0 (length nodes) k k false h (omega arith)

  -- no mark changes
  same_marks : ((k : ℕ) → k < length nodes → node_counts_on k node ≡ false) → marks ≡ marks_of nodes (i + 1)
  same_marks none =
      fill_by_all (is_counted (take (i + 1) nodes)) marks (length nodes) false long
      (λ k h. mark_at k h ∙ sym (next_mark nodes i k node false within is (none k h) ∙ or_false (is_counted (take i nodes) k)))

  pub none_stood_on : ((field : ℕ) → node_counts_on field node ≡ stands_on field None) → marks ≡ marks_of nodes (i + 1)
  none_stood_on on = same_marks (λ k h. on k)

  other_mark : (f k : ℕ) → (f ≡ k → ⊥) → (f == k) ≡ false
  other_mark f k apart = by_test (f == k) refl
    where
      by_test : (b : Bool) → (f == k) ≡ b → (f == k) ≡ false
      by_test true e = absurd (apart (eqb-true f k e))
      by_test false e = e

  pub past_stood_on : (f : ℕ) → length marks ≤ f → ((field : ℕ) → node_counts_on field node ≡ stands_on field (Some f)) → marks ≡ marks_of nodes (i + 1)
  past_stood_on f past on = same_marks (λ k h. on k ∙ other_mark f k (λ same. omega (arith, long)))

  mark_set : (f k : ℕ) → k < length nodes → f < length marks
      → ((field : ℕ) → node_counts_on field node ≡ stands_on field (Some f)) → f ≡ k ⊎ (f ≡ k → ⊥)
      → get_or (set marks f true) k false ≡ is_counted (take (i + 1) nodes) k
  mark_set f k h there on (inl same) =
      let stood : node_counts_on k node ≡ true = on k ∙ eq-eqb f k same in
      ap (λ j. get_or (set marks f true) j false) (sym same) ∙ get_or-set_same marks f true false there
      ∙ sym (next_mark nodes i k node true within is stood ∙ or_true (is_counted (take i nodes) k))
  mark_set f k h there on (inr apart) =
      let other : node_counts_on k node ≡ false = on k ∙ other_mark f k apart in
      get_or-set_other marks f k true false (λ same. apart (sym same)) ∙ mark_at k h
      ∙ sym (next_mark nodes i k node false within is other ∙ or_false (is_counted (take i nodes) k))

  pub stood_on : (f : ℕ) → f < length marks → ((field : ℕ) → node_counts_on field node ≡ stands_on field (Some f)) → set marks f true ≡ marks_of nodes (i + 1)
  stood_on f there on =
      fill_by_all (is_counted (take (i + 1) nodes)) (set marks f true) (length nodes) false (length-set marks f true ∙ long)
      (λ k h. mark_set f k h there on (marked_by f k))

  by_length : (f : ℕ) (b : Bool)
      → nat_lt f (length marks) ≡ b → ((field : ℕ) → node_counts_on field node ≡ stands_on field (Some f))
      → set marks f true ≡ marks_of nodes (i + 1)
  by_length f true e on = stood_on f (ltb-true f (length marks) e) on
  by_length f false e on =
      let past : length marks ≤ f = ltb-false f (length marks) e in
      set_past marks f true past ∙ past_stood_on f past on

  pub next_marks : (r : Option ℕ) → ((field : ℕ) → node_counts_on field node ≡ stands_on field r) → marked r marks ≡ marks_of nodes (i + 1)
  next_marks None on = none_stood_on on
  next_marks (Some f) on = by_length f (nat_lt f (length marks)) refl on

-- the mark of a node, where all are made
pub mark_is : (nodes : List Node) (marks : List Bool) (i : ℕ) → marks ≡ counted_marks nodes → i < length nodes → get_or marks i false ≡ is_counted nodes i
mark_is nodes marks i are h = ap (λ l. get_or l i false) are ∙ get_or-map-range_with_len (is_counted nodes) 0 (length nodes) i i false h (omega arith)

pub marks_long : (nodes : List Node) (marks : List Bool) → marks ≡ counted_marks nodes → length marks ≡ length nodes
marks_long nodes marks are = ap (λ l. length l) are ∙ length-map-range_with_len (is_counted nodes) 0 (length nodes)
