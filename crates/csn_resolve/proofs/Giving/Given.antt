-- What is walked without a refusal, and is not empty of strings, gives nodes.
use Rattle.std.proofs.Common.{◌≡◌, ℕ, suc, ◌+◌, Bool, true, false, List, [], ◌∷◌, ◌++◌, length, ◌⊎◌, inl, inr, refl, sym, arith, codes, Some}
use Rattle.std.specs.Cmp.Lexicographic.{same_text}
use Rattle.std.proofs.lemmas.Bool.{or_cases}
use Rattle.csn_desc.specs.declared.reading.Reading.{Reading}
use Rattle.csn_desc.specs.declared.reading.Reading.TheVariants.{Received, Sent}
use Rattle.csn_desc.specs.declared.node.Node.TheVariants.{Times, Window}
use Rattle.csn_grammar.specs.declared.rules.Rule.{Rule}
use Rattle.csn_grammar.specs.ExprV.{ExprV, expr, name, choice, sends, ExprsV, item, BranchesV, branch}
use Rattle.csn_grammar.specs.RulesV.{RulesV}
use Rattle.csn_grammar.specs.Names.{same_name, is_built_in, built_in_names}
use Rattle.csn_grammar.specs.Forms.{window_of}
use Rattle.csn_grammar.specs.Environment.{label_of}
use Rattle.csn_grammar.specs.TailForm.{TailV, tail_of}
use Rattle.csn_grammar.specs.Void.{Void, SomeVoid, AllVoid, Kept, void_none, void_name, void_group, void_labelled}
use Rattle.csn_grammar.specs.Void.{void_window, void_seq, void_choice, void_received, void_sent, void_here}
use Rattle.csn_grammar.specs.Void.{void_later, all_end, all_next, all_error, kept_end, kept_next, kept_void}
use Rattle.csn_grammar.specs.Void.{kept_error}
use Rattle.csn_resolve.specs.Seen.{Frame, Seen, with_labelled, inner_of}
use Rattle.csn_resolve.specs.Gives.{Placed, placed, Gives, ItemsGive, EachGives, RuleGives, start_of, gives_lits}
use Rattle.csn_resolve.specs.Gives.{gives_null, gives_bit, gives_octet, gives_field, gives_rest, gives_spare_bit}
use Rattle.csn_resolve.specs.Gives.{gives_spare_low, gives_padding, gives_seq, gives_choice, gives_only, gives_times}
use Rattle.csn_resolve.specs.Gives.{gives_many, gives_cut, gives_window, gives_labelled, gives_name, gives_group}
use Rattle.csn_resolve.specs.Gives.{gives_received, gives_sent, items_end, items_next, each_end, each_next}
use Rattle.csn_resolve.specs.Gives.{rule_plain, rule_tail}
use Rattle.csn_resolve.specs.declared.why.Why.TheVariants.{Undefined, Recursive, IntersectionForm}
use Rattle.csn_resolve.specs.Steps.{Step, refused}
use Rattle.csn_resolve.specs.Walk.{Around, is_among, inside, in_turn, turn_begun, behind, node_at, entering, ItemLeft}
use Rattle.csn_resolve.specs.Walk.{Walk, ItemsWalk, BranchesWalk, RuleWalk, walk_lits, walk_null, walk_bit}
use Rattle.csn_resolve.specs.Walk.{walk_octet, walk_field, walk_rest, walk_built_in, walk_undefined, walk_recursive}
use Rattle.csn_resolve.specs.Walk.{walk_name, walk_group, walk_labelled, walk_seq, walk_choice, walk_times, walk_many}
use Rattle.csn_resolve.specs.Walk.{walk_cut, walk_window, walk_window_behind, walk_no_window, walk_sends}
use Rattle.csn_resolve.specs.Walk as walk
use Rattle.csn_resolve.specs.Resolved.{ResolveSteps, asked_unknown, asked_rule, NameGives, AreRefusals, twice_steps}
use Rattle.csn_resolve.proofs.Walking.Quiet.{Quiet, first_of, rest_of, quiet_from, SameFrame, SameSeen, same_with, count_given, not_refused}
use Rattle.csn_resolve.proofs.Basics.Windows.{left_window, right_window}
use Rattle.csn_resolve.proofs.Emptiness.VoidDecided.{void_decided}

module _ (rules : RulesV) (r : Reading) where
  abbrev Given : ExprV → ℕ → Seen ℕ → Type 0
  Given x at seen = (nodes : List Placed) × Gives rules r x at seen nodes

  -- x gives nodes wherever the labels are seen that are seen at a
  abbrev CanGive : Around → ExprV → Type 0
  CanGive a x = (at : ℕ) (seen : Seen ℕ) → SameSeen a.seen seen → Given x at seen

  abbrev EachCan : Around → List ExprV → Type 0
  EachCan a [] = Unit {0}
  EachCan a (x ∷ xs) = CanGive a x × EachCan a xs

  -- a spare part
  built_in_given :
      (s e : ℕ) (n : List ℕ) (at : ℕ) (seen : Seen ℕ)
      → is_built_in n ≡ true → ¬ Void rules r (expr s e (name n)) → Given (expr s e (name n)) at seen
  built_in_given s e n at seen built full =
      by_first (or_cases (same_name (codes "spare bit") n) (is_among n (codes "spare L" ∷ codes "spare padding" ∷ codes "no string" ∷ [])) built)
    where
      by_last : (same_name (codes "no string") n ≡ true) ⊎ (false ≡ true) → Given (expr s e (name n)) at seen
      by_last (inl p) = absurd (full (void_none (sym (same_text (codes "no string") n (sym p)))))
      by_last (inr p) = cc

      by_third :
          (same_name (codes "spare padding") n ≡ true) ⊎ (is_among n (codes "no string" ∷ []) ≡ true)
          → Given (expr s e (name n)) at seen
      by_third (inl p) = (_, gives_padding (sym (same_text (codes "spare padding") n (sym p))) refl)
      by_third (inr p) = by_last (or_cases (same_name (codes "no string") n) false p)

      by_second :
          (same_name (codes "spare L") n ≡ true) ⊎ (is_among n (codes "spare padding" ∷ codes "no string" ∷ []) ≡ true)
          → Given (expr s e (name n)) at seen
      by_second (inl p) = (_, gives_spare_low (sym (same_text (codes "spare L") n (sym p))) refl)
      by_second (inr p) =
          by_third (or_cases (same_name (codes "spare padding") n) (is_among n (codes "no string" ∷ [])) p)

      by_first :
          (same_name (codes "spare bit") n ≡ true)
          ⊎ (is_among n (codes "spare L" ∷ codes "spare padding" ∷ codes "no string" ∷ []) ≡ true)
          → Given (expr s e (name n)) at seen
      by_first (inl p) = (_, gives_spare_bit (sym (same_text (codes "spare bit") n (sym p))) refl)
      by_first (inr p) =
          by_second (or_cases (same_name (codes "spare L") n) (is_among n (codes "spare padding" ∷ codes "no string" ∷ [])) p)

  -- ---- choices

  each_given :
      (a : Around) (xs : List ExprV) (at : ℕ) (seen : Seen ℕ) → SameSeen a.seen seen → EachCan a xs
      → (parts : List ℕ) × (nodes : List Placed) × EachGives rules r xs at seen parts nodes
  each_given a [] at seen same can = (_, _, each_end refl refl)
  each_given a (x ∷ xs) at seen same can =
      let first = can.0 at seen same in
      let rest = each_given a xs (at + length first.0) seen same can.1 in
      (_, _, each_next first.0 rest.1 first.1 rest.2 refl refl)

  -- where none is kept, all are empty of strings
  all_void : {bs : BranchesV} {xs : List ExprV} → Kept rules r bs xs → xs ≡ [] → AllVoid rules r bs
  all_void kept_end p = all_end
  all_void (kept_next full kept) p = cc
  all_void (kept_void v kept) p = all_next v (all_void kept p)
  all_void (kept_error kept) p = all_error (all_void kept p)

  choice_given :
      (a : Around) (s e : ℕ) (bs : BranchesV) (xs : List ExprV) (at : ℕ) (seen : Seen ℕ)
      → SameSeen a.seen seen → ¬ Void rules r (expr s e (choice bs)) → Kept rules r bs xs → EachCan a xs
      → Given (expr s e (choice bs)) at seen
  choice_given a s e bs [] at seen same full kept can = absurd (full (void_choice (all_void kept refl)))
  choice_given a s e bs (x ∷ []) at seen same full kept can =
      let only = can.0 at seen same in (_, gives_only kept only.1)
  choice_given a s e bs (x ∷ y ∷ xs) at seen same full kept can =
      let inner = each_given a (x ∷ y ∷ xs) (suc at) seen same can in
      (_, gives_choice (x ∷ y ∷ xs) kept (omega arith) inner.2 refl)

  -- an alternative more
  kept_more :
      (a : Around) (error : Bool) (x : ExprV) (bs : BranchesV) → (¬ Void rules r x → CanGive a x)
      → (xs : List ExprV) × Kept rules r bs xs × EachCan a xs
      → (xs : List ExprV) × Kept rules r (branch error x bs) xs × EachCan a xs
  kept_more a true x bs can later = (later.0, kept_error later.1, later.2)
  kept_more a false x bs can later = by (void_decided rules r x)
    where
      by :
          Void rules r x ⊎ (¬ Void rules r x)
          → (xs : List ExprV) × Kept rules r (branch false x bs) xs × EachCan a xs
      by (inl v) = (later.0, kept_void v later.1, later.2)
      by (inr full) = (x ∷ later.0, kept_next full later.1, (can full, later.2))

  -- ---- the side of `=` that is taken

  side_given :
      (q : Reading) → r ≡ q → (a : Around) (s e : ℕ) (x y : ExprV) → ¬ Void rules r (expr s e (sends x y))
      → (¬ Void rules r x → CanGive a x) → (¬ Void rules r y → CanGive a y) → CanGive a (expr s e (sends x y))
  side_given Received is a s e x y full left right at seen same =
      let taken = left (λ v. full (void_received is v)) at seen same in (_, gives_received is taken.1)
  side_given Sent is a s e x y full left right at seen same =
      let taken = right (λ v. full (void_sent is v)) at seen same in (_, gives_sent is taken.1)

  tail_given :
      (rule : Rule) (tail : TailV) (at : ℕ) (seen : Seen ℕ) (parts turn_parts : List ℕ)
      (items turn : List Placed)
      → tail_of rule ≡ Some tail → ItemsGive rules r tail.items (suc at) [] seen parts items
      → ItemsGive rules r tail.items (suc at + length items + 3) [] seen turn_parts turn
      → (nodes : List Placed) × RuleGives rules r rule at seen nodes
  tail_given rule tail at seen parts turn_parts items turn is first second =
      (_, rule_tail tail (suc at + length items) (suc at + length items + 3 + length turn) parts turn_parts items turn is first refl second refl refl)

  -- no item of a sequence is empty of strings where the sequence is not, and no component is
  item_full :
      (full : Bool) (x : ExprV) (xs : ExprsV) (left : List Step) → ItemLeft rules r full x left → Quiet left
      → (full ≡ false → ¬ SomeVoid rules r (item x xs)) → ¬ Void rules r x
  item_full false x xs left l q none = λ v. none refl (void_here v)
  item_full true x xs left l q none = not_refused l q

  -- ---- all forms

  mutual
    given :
        {a : Around} {x : ExprV} {steps : List Step}
        → Walk rules r a x steps → Quiet steps → ¬ Void rules r x → CanGive a x
    given (walk_lits p) q full at seen same = (_, gives_lits refl)
    given (walk_null p) q full at seen same = (_, gives_null refl)
    given (walk_bit p) q full at seen same = (_, gives_bit refl)
    given (walk_octet p) q full at seen same = (_, gives_octet refl)
    given {a} (walk_field {s = s} {unit = unit} {counts = counts} is c p) q full at seen same =
        let count = count_given rules r seen same c (rest_of (node_at a s) counts p q) in
        (_, gives_field unit count.0 is count.1 refl)
    given (walk_rest is p) q full at seen same = (_, gives_rest is refl)
    given (walk_built_in {s = s} {e = e} {n = n} is p) q full at seen same = built_in_given s e n at seen is full
    given {a} (walk_undefined {s = s} not none p) q full at seen same = absurd (rest_of (entering a s) (refused Undefined s ∷ []) p q)
    given {a} (walk_recursive {s = s} rule is among p) q full at seen same = absurd (rest_of (entering a s) (refused Recursive s ∷ []) p q)
    given {a} (walk_name {s = s} {inner = inner} rule is new h p) q full at seen same =
        let nodes = rule_given h (rest_of (entering a s) inner p q) (λ v. full (void_name rule is v)) at seen same in
        (_, gives_name rule is nodes.1)
    given {a} (walk_group {s = s} {inner = inner} h p) q full at seen same =
        let nodes = given h (rest_of (entering a s) inner p q) (λ v. full (void_group v)) at seen same in
        (_, gives_group nodes.1)
    given {a} (walk_labelled {s = s} {inner = inner} h p) q full at seen same =
        let nodes = given h (rest_of (node_at a s) inner p q) (λ v. full (void_labelled v)) (suc at) seen same in
        (_, gives_labelled nodes.1 refl)
    given {a} (walk_seq {s = s} {inner = inner} h p) q full at seen same =
        let nodes = items_given h (rest_of (node_at a s) inner p q) (λ is v. full (void_seq v)) (suc at) [] seen tt same in
        (_, gives_seq nodes.2 refl)
    given {a} (walk_choice {s = s} {e = e} {bs = bs} {inner = inner} h p) q full at seen same =
        let kept = branches_given h (rest_of (node_at a s) inner p q) in
        choice_given a s e bs kept.0 at seen same full kept.1 kept.2
    given {a} (walk_times {s = s} {counts = counts} {inner = inner} {left = left} none c h l p) q full at seen same =
        let after = rest_of (node_at a s) (counts ++ (inner ++ left)) p q in
        let behind_counts = rest_of counts (inner ++ left) refl after in
        let count = count_given rules r seen same c (first_of counts (inner ++ left) refl after) in
        let nodes = given h (first_of inner left refl behind_counts) (not_refused l (rest_of inner left refl behind_counts)) (suc at) seen same in
        (placed (Times count.0 (suc at)) s ∷ nodes.0, gives_times count.0 none count.1 nodes.1 refl)
    given {a} (walk_many {s = s} {inner = inner} {left = left} not h l p) q full at seen same =
        let after = rest_of (node_at a s) (inner ++ left) p q in
        let nodes = given h (first_of inner left refl after) (not_refused l (rest_of inner left refl after)) (suc at) seen same in
        (_, gives_many not nodes.1 refl)
    given {a} (walk_cut {s = s} {inner = inner} h p) q full at seen same =
        let nodes = items_given h (rest_of (node_at a s) inner p q) (λ is. absurd (cc)) (suc at) [] seen tt same in
        (_, gives_cut nodes.2 refl)
    given {a} (walk_window {s = s} {x = x} {y = y} {counts = counts} {inner = inner} w is c h p) q full at seen same =
        let after = rest_of (node_at a s) (counts ++ inner) p q in
        let count = count_given rules r seen same c (first_of counts inner refl after) in
        let window : window_of x y ≡ Some (record { width = w; part = y }) = left_window x y w is in
        let nodes = given h (rest_of counts inner refl after) (λ v. full (void_window (record { width = w; part = y }) window v)) (suc at) seen same in
        (placed (Window w.unit count.0 (suc at)) s ∷ nodes.0, gives_window (record { width = w; part = y }) count.0 window count.1 nodes.1 refl)
    given {a} (walk_window_behind {s = s} {x = x} {y = y} {counts = counts} {inner = inner} w none is h c p) q full at seen same =
        let after = rest_of (node_at a s) (inner ++ counts) p q in
        let count = count_given rules r seen same c (rest_of inner counts refl after) in
        let window : window_of x y ≡ Some (record { width = w; part = x }) = right_window x y w none is in
        let nodes = given h (first_of inner counts refl after) (λ v. full (void_window (record { width = w; part = x }) window v)) (suc at) seen same in
        (placed (Window w.unit count.0 (suc at)) s ∷ nodes.0, gives_window (record { width = w; part = x }) count.0 window count.1 nodes.1 refl)
    given {a} (walk_no_window {s = s} {x = x} {left = left} {right = right} none none' h h' p) q full at seen same =
        absurd (rest_of (node_at a s) (refused IntersectionForm (start_of x) ∷ (left ++ right)) p q)
    given {a} (walk_sends {s = s} {e = e} {x = x} {y = y} {left = left} {right = right} h h' p) q full at seen same =
        side_given r refl a s e x y full
        (λ x_full. given h (first_of left right p q) x_full) (λ y_full. given h' (rest_of left right p q) y_full) at seen same

    items_given :
        {full : Bool} {a : Around} {frame : Frame ExprV} {xs : ExprsV} {steps : List Step}
        → ItemsWalk rules r full a frame xs steps → Quiet steps → (full ≡ false → ¬ SomeVoid rules r xs)
        → (at : ℕ) (other : Frame ℕ) (seen : Seen ℕ) → SameFrame frame other → SameSeen a.seen seen
        → (parts : List ℕ) × (nodes : List Placed) × ItemsGive rules r xs at other seen parts nodes
    items_given (walk.items_end p) q none at other seen alike same = (_, _, items_end refl refl)
    items_given {full} {frame = frame} (walk.items_next {x = x} {xs = xs} {first = first} {rest = rest} left h l more p) q none at other seen alike same =
        let after = rest_of first (left ++ rest) p q in
        let nodes = given h (first_of first (left ++ rest) p q)
        (item_full full x xs left l (first_of left rest refl after) none) at (other ∷ seen) (alike, same) in
        let later =
        items_given more (rest_of left rest refl after) (λ is v. none is (void_later v)) (at + length nodes.0)
        (with_labelled (label_of r x) at other) seen (same_with (label_of r x) (inner_of r x) at frame other alike) same in
        (_, _, items_next nodes.0 later.1 nodes.1 later.2 refl refl)

    branches_given :
        {a : Around} {bs : BranchesV} {steps : List Step} → BranchesWalk rules r a bs steps → Quiet steps
        → (xs : List ExprV) × Kept rules r bs xs × EachCan a xs
    branches_given (walk.branches_end p) q = ([], kept_end, tt)
    branches_given {a} (walk.branches_next {error = error} {x = x} {bs = bs} {first = first} {left = left} {rest = rest} h l more p) q =
        kept_more a error x bs (λ full. given h (first_of first (left ++ rest) p q) full)
        (branches_given more (rest_of left rest refl (rest_of first (left ++ rest) p q)))

    rule_given :
        {a : Around} {rule : Rule} {steps : List Step} → RuleWalk rules r a rule steps → Quiet steps
        → ¬ Void rules r rule.body → (at : ℕ) (seen : Seen ℕ) → SameSeen a.seen seen
        → (nodes : List Placed) × RuleGives rules r rule at seen nodes
    rule_given (walk.rule_plain is h) q full at seen same =
        let nodes = given h q full at seen same in (_, rule_plain is nodes.1)
    rule_given {a} {rule} (walk.rule_tail {items = items} {turn = turn} {left = left} tail is i t l p) q full at seen same =
        let stop = node_at (inside a) tail.end.stop.at in
        let begun = turn_begun (inside a) tail.end in
        let after = rest_of (node_at a (start_of rule.body)) (items ++ (begun ++ (turn ++ (left ++ stop)))) p q in
        let in_turns = rest_of begun (turn ++ (left ++ stop)) refl (rest_of items (begun ++ (turn ++ (left ++ stop))) refl after) in
        let items_full = not_refused l (first_of left stop refl (rest_of turn (left ++ stop) refl in_turns)) in
        let first = items_given i (first_of items (begun ++ (turn ++ (left ++ stop))) refl after) (λ is. items_full) (suc at) [] seen tt same in
        let second = items_given t (first_of turn (left ++ stop) refl in_turns) (λ is. items_full) (suc at + length first.1 + 3) [] seen tt same in
        tail_given rule tail at seen first.0 second.0 first.1 second.1 is first.2 second.2

  name_given :
      {n : List ℕ} {steps : List Step}
      → ResolveSteps rules n r steps → Quiet steps → (nodes : List Placed) × NameGives rules n r nodes
  name_given (asked_unknown none p) q = absurd (rest_of (twice_steps built_in_names rules) (refused Undefined 0 ∷ []) p q)
  name_given (asked_rule {walk = walk} {left = left} rule is h l p) q =
      let after = rest_of (twice_steps built_in_names rules) (walk ++ left) p q in
      let full = not_refused l (rest_of walk left refl after) in
      let nodes = rule_given h (first_of walk left refl after) full 0 [] tt in
      (nodes.0, record { rule = rule; found = is; gives = nodes.1 })

  pub nodes_given : {n : List ℕ} → AreRefusals rules n r [] → (nodes : List Placed) × NameGives rules n r nodes
  nodes_given h = name_given h.walked (quiet_from 0 h.steps (sym h.are))
