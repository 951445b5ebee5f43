-- Every expression has a walk.
use Rattle.std.proofs.Common.{◌≡◌, ℕ, zero, suc, ◌≤◌, Bool, true, false, List, [], ◌∷◌, ◌⊎◌, inl, inr, refl, ◌∙◌, ap, arith, Option, Some, None}
use Rattle.std.specs.Option.{option_map}
use Rattle.csn_desc.specs.declared.reading.Reading.{Reading}
use Rattle.csn_desc.specs.declared.reading.Reading.TheVariants.{Sent}
use Rattle.csn_grammar.specs.declared.exponent.Exponent.{Exponent}
use Rattle.csn_grammar.specs.declared.exponent.Exponent.TheVariants.{Any, Number, Linear}
use Rattle.csn_grammar.specs.declared.rules.Rule.{Rule}
use Rattle.csn_grammar.specs.ExprV.{ExprV, expr, FormV, lits, null, bit, octet, name, labelled, group, seq, choice}
use Rattle.csn_grammar.specs.ExprV.{power, cut, both, sends, ExprsV, no_item, item, BranchesV, no_branch, branch}
use Rattle.csn_grammar.specs.RulesV.{RulesV}
use Rattle.csn_grammar.specs.Names.{is_built_in, rule_of}
use Rattle.csn_grammar.specs.Forms.{unit_of, is_bit, WidthV, width_of}
use Rattle.csn_grammar.specs.Environment.{label_of}
use Rattle.csn_grammar.specs.TailForm.{TailV, tail_of}
use Rattle.csn_grammar.specs.Void.{Void, SomeVoid}
use Rattle.csn_resolve.specs.Seen.{Frame, Seen, seen_of, with_labelled, inner_of}
use Rattle.csn_resolve.specs.Why.{Refusal}
use Rattle.csn_resolve.specs.Gives.{start_of}
use Rattle.csn_resolve.specs.Steps.{Step}
use Rattle.csn_resolve.specs.Counts.{Narrow, CountSteps, count_number, count_unknown, count_wide, count_narrow}
use Rattle.csn_resolve.specs.Walk.{Around, inside, in_turn, putting_in, outermost, behind, is_among, PartLeft}
use Rattle.csn_resolve.specs.Walk.{ItemLeft, BranchLeft, TurnLeft, is_refused, is_accepted, left_plain, left_error}
use Rattle.csn_resolve.specs.Walk.{left_sendable, Walk, ItemsWalk, BranchesWalk, RuleWalk, walk_lits, walk_null}
use Rattle.csn_resolve.specs.Walk.{walk_bit, walk_octet, walk_field, walk_rest, walk_built_in, walk_undefined}
use Rattle.csn_resolve.specs.Walk.{walk_recursive, walk_name, walk_group, walk_labelled, walk_seq, walk_choice}
use Rattle.csn_resolve.specs.Walk.{walk_times, walk_many, walk_cut, walk_window, walk_window_behind, walk_no_window}
use Rattle.csn_resolve.specs.Walk.{walk_sends, items_end, items_next, branches_end, branches_next, rule_plain}
use Rattle.csn_resolve.specs.Walk.{rule_tail}
use Rattle.csn_resolve.specs.Resolved.{asked_unknown, asked_rule, AreRefusals}
use Rattle.csn_resolve.proofs.Emptiness.VoidDecided.{void_decided, some_void_decided}
use Rattle.csn_resolve.proofs.Emptiness.NarrowDecided.{narrow_decided}
use Rattle.csn_resolve.proofs.Naming.Fresh.{fresh, fewer}

-- the width of a field is counted
field_counts : (x : ExprV) (k : Exponent) (w : WidthV) → width_of (expr 0 0 (power x k)) ≡ Some w → w.count ≡ k
field_counts x Any w p = cc
field_counts x (Number n) w p = counted (unit_of x) p
  where
    counted : (o : Option ℕ) → option_map (λ unit. record { unit = unit; count = Number n }) o ≡ Some w → w.count ≡ Number n
    counted None q = cc
    counted (Some unit) q = cc
field_counts x (Linear m label c) w p = counted (unit_of x) p
  where
    counted : (o : Option ℕ) → option_map (λ unit. record { unit = unit; count = Linear m label c }) o ≡ Some w → w.count ≡ Linear m label c
    counted None q = cc
    counted (Some unit) q = cc

width_counts : (x : ExprV) (w : WidthV) → width_of x ≡ Some w → w.count ≡ Any → ⊥
width_counts (expr s e bit) w p q = cc
width_counts (expr s e octet) w p q = cc
width_counts (expr s e (power x Any)) w p q = cc
width_counts (expr s e (power x (Number n))) w p q = let same = field_counts x (Number n) w p in cc
width_counts (expr s e (power x (Linear m label c))) w p q = let same = field_counts x (Linear m label c) w p in cc
width_counts (expr s e f) w p q = cc

module _ (rules : RulesV) (r : Reading) where
  abbrev Walked : Around → ExprV → Type 0
  Walked a x = (steps : List Step) × Walk rules r a x steps

  abbrev RuleWalked : Around → Rule → Type 0
  RuleWalked a rule = (steps : List Step) × RuleWalk rules r a rule steps

  pub part_left : (x : ExprV) → (steps : List Step) × PartLeft rules r x steps
  part_left x = by (void_decided rules r x)
    where
      by : Void rules r x ⊎ (¬ Void rules r x) → (steps : List Step) × PartLeft rules r x steps
      by (inl v) = (_, is_refused v refl)
      by (inr full) = (_, is_accepted full refl)

  item_left : (full : Bool) (x : ExprV) → (steps : List Step) × ItemLeft rules r full x steps
  item_left false x = ([], refl)
  item_left true x = part_left x

  branch_left : (error : Bool) (x : ExprV) → (steps : List Step) × BranchLeft rules r error x steps
  branch_left false x = (_, left_plain refl)
  branch_left true x = by (void_decided rules Sent x)
    where
      by : Void rules Sent x ⊎ (¬ Void rules Sent x) → (steps : List Step) × BranchLeft rules r true x steps
      by (inl v) = (_, left_error v refl)
      by (inr full) = (_, left_sendable full refl)

  turn_left : (tail : TailV) → (steps : List Step) × TurnLeft rules r tail steps
  turn_left tail = by (some_void_decided rules r tail.items)
    where
      by :
          SomeVoid rules r tail.items ⊎ (¬ SomeVoid rules r tail.items)
          → (steps : List Step) × TurnLeft rules r tail steps
      by (inl v) = (_, is_refused v refl)
      by (inr full) = (_, is_accepted full refl)

  -- a number exponent has its steps
  counted :
      (seen : Seen ExprV) (place : ℕ) (k : Exponent)
      → (k ≡ Any → ⊥) → (steps : List Step) × CountSteps rules r seen place k steps
  counted seen place Any number = absurd (number refl)
  counted seen place (Number n) number = (_, count_number refl)
  counted seen place (Linear m label c) number = by_label (seen_of seen label) refl
    where
      by_item :
          (x : ExprV) → seen_of seen label ≡ Some x → Narrow rules r x ⊎ (¬ Narrow rules r x)
          → (steps : List Step) × CountSteps rules r seen place (Linear m label c) steps
      by_item x is (inl narrow) = (_, count_narrow x is narrow refl)
      by_item x is (inr wide) = (_, count_wide x is wide refl)

      by_label :
          (o : Option ExprV)
          → seen_of seen label ≡ o
          → (steps : List Step) × CountSteps rules r seen place (Linear m label c) steps
      by_label None is = (_, count_unknown is refl)
      by_label (Some x) is = by_item x is (narrow_decided rules r x)

  by_number :
      (a : Around) (s e : ℕ) (x : ExprV) (k : Exponent) (unit : Option ℕ) → (k ≡ Any → ⊥) → unit_of x ≡ unit
      → Walked (inside a) x → Walked a (expr s e (power x k))
  by_number a s e x k (Some unit) number is inner =
      let counts = counted a.seen s k number in (_, walk_field is counts.1 refl)
  by_number a s e x k None number is inner =
      let counts = counted a.seen s k number in let left = part_left x in (_, walk_times is counts.1 inner.1 left.1 refl)

  by_power :
      (a : Around) (s e : ℕ) (x : ExprV) (k : Exponent)
      → Walked (inside a) x → Walked a (expr s e (power x k))
  by_power a s e x Any inner = by_bit (is_bit x) refl
    where
      by_bit : (b : Bool) → is_bit x ≡ b → Walked a (expr s e (power x Any))
      by_bit true is = (_, walk_rest is refl)
      by_bit false is = let left = part_left x in (_, walk_many is inner.1 left.1 refl)
  by_power a s e x (Number n) inner = by_number a s e x (Number n) (unit_of x) (λ p. cc) refl inner
  by_power a s e x (Linear m label c) inner = by_number a s e x (Linear m label c) (unit_of x) (λ p. cc) refl inner

  by_sides :
      (a : Around) (s e : ℕ) (x y : ExprV) (w v : Option WidthV) → width_of x ≡ w → width_of y ≡ v
      → Walked (inside a) x → Walked (inside a) y → Walked a (expr s e (both x y))
  by_sides a s e x y (Some w) v p q left right =
      let counts = counted a.seen (start_of x) w.count (width_counts x w p) in
      (_, walk_window w p counts.1 right.1 refl)
  by_sides a s e x y None (Some v) p q left right =
      let counts = counted a.seen (start_of y) v.count (width_counts y v q) in
      (_, walk_window_behind v p q left.1 counts.1 refl)
  by_sides a s e x y None None p q left right = (_, walk_no_window p q left.1 right.1 refl)

  -- ---- where names are put in, and the rules of other names have walks

  module _ (names : List (List ℕ)) (enter : (a : Around) (n : List ℕ) (rule : Rule)
      → a.names ≡ names → rule_of rules n ≡ Some rule → is_among n names ≡ false → RuleWalked (putting_in n a) rule)
    where
      by_rule :
          (a : Around) (s e : ℕ) (n : List ℕ) (o : Option Rule) (among : Bool) → a.names ≡ names
          → is_built_in n ≡ false → rule_of rules n ≡ o → is_among n names ≡ among → Walked a (expr s e (name n))
      by_rule a s e n None among same not_built at is = (_, walk_undefined not_built at refl)
      by_rule a s e n (Some rule) true same not_built at is = (_, walk_recursive rule at (ap (is_among n) same ∙ is) refl)
      by_rule a s e n (Some rule) false same not_built at is =
          let inner = enter a n rule same at is in (_, walk_name rule at (ap (is_among n) same ∙ is) inner.1 refl)

      by_name :
          (a : Around) (s e : ℕ) (n : List ℕ) (built : Bool)
          → a.names ≡ names → is_built_in n ≡ built → Walked a (expr s e (name n))
      by_name a s e n true same is = (_, walk_built_in is refl)
      by_name a s e n false same is = by_rule a s e n (rule_of rules n) (is_among n names) same is refl refl

      mutual
        walked : (x : ExprV) (a : Around) → a.names ≡ names → Walked a x
        walked (expr s e f) a same = form_walked s e f a same

        form_walked : (s e : ℕ) (f : FormV) (a : Around) → a.names ≡ names → Walked a (expr s e f)
        form_walked s e (lits run) a same = (_, walk_lits refl)
        form_walked s e null a same = (_, walk_null refl)
        form_walked s e bit a same = (_, walk_bit refl)
        form_walked s e octet a same = (_, walk_octet refl)
        form_walked s e (name n) a same = by_name a s e n (is_built_in n) same refl
        form_walked s e (labelled label x) a same = let inner = walked x (inside a) same in (_, walk_labelled inner.1 refl)
        form_walked s e (group x) a same = let inner = walked x (inside a) same in (_, walk_group inner.1 refl)
        form_walked s e (seq xs) a same = let inner = items_walked false xs [] (inside a) same in (_, walk_seq inner.1 refl)
        form_walked s e (choice bs) a same = let inner = branches_walked bs (inside a) same in (_, walk_choice inner.1 refl)
        form_walked s e (power x k) a same = by_power a s e x k (walked x (inside a) same)
        form_walked s e (cut xs) a same = let inner = items_walked true xs [] (inside a) same in (_, walk_cut inner.1 refl)
        form_walked s e (both x y) a same =
            by_sides a s e x y (width_of x) (width_of y) refl refl (walked x (inside a) same) (walked y (inside a) same)
        form_walked s e (sends x y) a same =
            let left = walked x a same in let right = walked y a same in (_, walk_sends left.1 right.1 refl)

        items_walked :
            (full : Bool) (xs : ExprsV) (frame : Frame ExprV) (a : Around)
            → a.names ≡ names → (steps : List Step) × ItemsWalk rules r full a frame xs steps
        items_walked full no_item frame a same = (_, items_end refl)
        items_walked full (item x xs) frame a same =
            let first = walked x (behind frame a) same in let left = item_left full x in
            let rest = items_walked full xs (with_labelled (label_of r x) (inner_of r x) frame) a same in
            (_, items_next left.0 first.1 left.1 rest.1 refl)

        branches_walked :
            (bs : BranchesV) (a : Around)
            → a.names ≡ names → (steps : List Step) × BranchesWalk rules r a bs steps
        branches_walked no_branch a same = (_, branches_end refl)
        branches_walked (branch error x bs) a same =
            let first = walked x a same in let left = branch_left error x in
            let rest = branches_walked bs a same in
            (_, branches_next first.1 left.1 rest.1 refl)

      rule_walked : (rule : Rule) (a : Around) → a.names ≡ names → RuleWalked a rule
      rule_walked rule a same = by_tail (tail_of rule) refl
        where
          by_tail : (o : Option TailV) → tail_of rule ≡ o → RuleWalked a rule
          by_tail None is = let inner = walked rule.body a same in (_, rule_plain is inner.1)
          by_tail (Some tail) is =
              let items = items_walked false tail.items [] (inside a) same in
              let turn = items_walked false tail.items [] (in_turn (inside a)) same in
              let left = turn_left tail in
              (_, rule_tail tail is items.1 turn.1 left.1 refl)

  -- ---- with each name that is put in, fewer are left

  all_walked :
      (k : ℕ) (names : List (List ℕ))
      → fresh rules names ≤ k → (rule : Rule) (a : Around) → a.names ≡ names → RuleWalked a rule
  all_walked zero names few rule a same =
      rule_walked names (λ b n other is at new. absurd (omega (arith, few, fewer rules names n other at new))) rule a same
  all_walked (suc k) names few rule a same =
      rule_walked names
      (λ b n other is at new. all_walked k (n ∷ names) (omega (arith, few, fewer rules names n other at new)) other (putting_in n b) (ap (λ z. n ∷ z) is))
      rule a same

  pub rule_has_walk : (a : Around) (rule : Rule) → RuleWalked a rule
  rule_has_walk a rule = all_walked (fresh rules a.names) a.names (omega arith) rule a refl

  pub has_walk : (a : Around) (x : ExprV) → Walked a x
  has_walk a x =
      walked a.names (λ b n other is at new. rule_has_walk (putting_in n b) other) x a refl

  pub has_refusals : (n : List ℕ) → (refusals : List Refusal) × AreRefusals rules n r refusals
  has_refusals n = by_rule (rule_of rules n) refl
    where
      by_rule :
          (o : Option Rule)
          → rule_of rules n ≡ o → (refusals : List Refusal) × AreRefusals rules n r refusals
      by_rule None is = (_, record { steps = _; walked = asked_unknown is refl; are = refl })
      by_rule (Some rule) is =
          let walk = rule_has_walk (outermost n) rule in let left = part_left rule.body in
          (_, record { steps = _; walked = asked_rule rule is walk.1 left.1 refl; are = refl })
