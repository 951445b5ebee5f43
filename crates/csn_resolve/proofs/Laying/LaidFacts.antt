-- The nodes that a named rule gives are well formed, where it is not refused on the walk.
use Rattle.std.proofs.Common.{◌≡◌, ℕ, suc, ◌+◌, Bool, true, false, List, [], ◌∷◌, ◌++◌, length, length-append, inl, inr, refl, sym, ◌∙◌, ap, subst, arith}
use Rattle.std.proofs.lemmas.List.{length-map}
use Rattle.csn_desc.specs.declared.reading.Reading.{Reading}
use Rattle.csn_desc.specs.declared.symbol.Symbol.TheVariants.{Zero, Low}
use Rattle.csn_desc.specs.declared.node.Count.TheVariants.{Fixed}
use Rattle.csn_desc.specs.declared.node.Node.{Node}
use Rattle.csn_desc.specs.declared.node.Node.TheVariants.{Lits, Spare, Pad, Null, Field, Rest, Seq, Choice, Times, Many, Trunc, Window, Named}
use Rattle.csn_desc.specs.Laid.{Laid, PartsLaid, laid_end, laid_next, seen_behind}
use Rattle.csn_grammar.specs.declared.rules.Rule.{Rule}
use Rattle.csn_grammar.specs.ExprV.{ExprV, ExprsV, BranchesV, item_list}
use Rattle.csn_grammar.specs.RulesV.{RulesV}
use Rattle.csn_grammar.specs.Names.{is_built_in, built_in_names}
use Rattle.csn_grammar.specs.Forms.{WindowV}
use Rattle.csn_grammar.specs.TailForm.{TailV}
use Rattle.csn_grammar.specs.Void.{Kept, kept_end, kept_next, kept_void, kept_error}
use Rattle.csn_grammar.proofs.VoidFacts.{no_rule, same_window, same_rule}
use Rattle.csn_resolve.specs.declared.why.Why.TheVariants.{Undefined, Recursive, IntersectionForm}
use Rattle.csn_resolve.specs.Seen.{Frame, Seen}
use Rattle.csn_resolve.specs.Steps.{Step, begins, refused}
use Rattle.csn_resolve.specs.Walk.{Around, inside, putting_in, behind, outermost, in_turn, turn_begun, entering}
use Rattle.csn_resolve.specs.Walk.{node_at, Walk, ItemsWalk, BranchesWalk, RuleWalk, walk_lits, walk_null, walk_bit}
use Rattle.csn_resolve.specs.Walk.{walk_octet, walk_field, walk_rest, walk_built_in, walk_undefined, walk_recursive}
use Rattle.csn_resolve.specs.Walk.{walk_name, walk_group, walk_labelled, walk_seq, walk_choice, walk_times, walk_many}
use Rattle.csn_resolve.specs.Walk.{walk_cut, walk_window, walk_window_behind, walk_no_window, walk_sends}
use Rattle.csn_resolve.specs.Walk as walk
use Rattle.csn_resolve.specs.Gives.{Placed, placed, start_of, count_at, Gives, ItemsGive, EachGives, RuleGives}
use Rattle.csn_resolve.specs.Gives.{gives_lits, gives_null, gives_bit, gives_octet, gives_field, gives_rest}
use Rattle.csn_resolve.specs.Gives.{gives_spare_bit, gives_spare_low, gives_padding, gives_seq, gives_choice}
use Rattle.csn_resolve.specs.Gives.{gives_only, gives_times, gives_many, gives_cut, gives_window, gives_labelled}
use Rattle.csn_resolve.specs.Gives.{gives_name, gives_group, gives_received, gives_sent, items_end, items_next}
use Rattle.csn_resolve.specs.Gives.{each_end, each_next, rule_plain, rule_tail}
use Rattle.csn_resolve.specs.Resolved.{ResolveSteps, asked_unknown, asked_rule, NameGives, AreRefusals, nodes_of, twice_steps}
use Rattle.csn_grammar.specs.Shaped.{IsShaped, ItemsShaped, BranchesShaped, AreShaped}
use Rattle.csn_resolve.proofs.Giving.Once.{same_tail}
use Rattle.csn_resolve.proofs.Walking.Quiet.{Quiet, quiet_along, first_of, rest_of, quiet_from, tail_quiet}
use Rattle.csn_resolve.proofs.Laying.Holding.{Holds, holds_along, holds_from, holds_first, holds_rest, inner_holds, holds_behind}
use Rattle.csn_resolve.proofs.Naming.TailShaped.{tail_shaped, rule_shaped}
use Rattle.csn_resolve.proofs.Laying.ShownFacts.{still_shown, behind_shown, FrameShown, item_shown, count_shown}
use Rattle.csn_resolve.proofs.Laying.InsideFacts.{IsInside, braces_inside, name_inside, node_inside, turn_inside, more_inside}
use Rattle.csn_resolve.proofs.Basics.Windows.{only_is, unit_is, width_unit, left_window, right_window}
use Rattle.csn_resolve.proofs.Laying.LaidParts.{laid_to, parts_to, parts_along, parts_append, node_laid, none_inside, one_inside, tail_laid}
use Rattle.csn_resolve.proofs.Basics.Bools.{no_both}

module _ (all : List Node) (rules : RulesV) (r : Reading) where
  -- ---- how many parts

  items_count :
      {xs : ExprsV} {at : ℕ} {frame : Frame ℕ} {seen : Seen ℕ} {parts : List ℕ} {nodes : List Placed}
      → ItemsGive rules r xs at frame seen parts nodes → length parts ≡ length (item_list xs)
  items_count (items_end p q) = ap length p
  items_count (items_next first rest g others p q) = let later = items_count others in omega (arith, ap length p, later)

  each_count :
      {xs : List ExprV} {at : ℕ} {seen : Seen ℕ} {parts : List ℕ} {nodes : List Placed}
      → EachGives rules r xs at seen parts nodes → length parts ≡ length xs
  each_count (each_end p q) = ap length p
  each_count (each_next first rest g others p q) = let later = each_count others in omega (arith, ap length p, later)

  -- ---- all forms

  module _ (shaped : AreShaped rules) where
    mutual
      gives_laid :
          {a : Around} {x : ExprV} {steps : List Step} {at round : ℕ} {seen : Seen ℕ} {shown : List ℕ} {nodes : List Placed}
          → Walk rules r a x steps → Quiet steps → IsShaped x → Gives rules r x at seen nodes → Holds all at nodes
          → IsInside all rules r a seen shown round → Laid all shown round at (at + length nodes)
      gives_laid {at = at} (walk_lits {s = s} {run = run} p) q shape (gives_lits g) h within =
          let node = node_inside all rules r s (quiet_along p q) within in
          node_laid all (Lits run) at s _ [] g h node.0 shape refl (none_inside all at)
      gives_laid {at = at} (walk_null {s = s} p) q shape (gives_null g) h within =
          let node = node_inside all rules r s (quiet_along p q) within in
          node_laid all Null at s _ [] g h node.0 tt refl (none_inside all at)
      gives_laid {at = at} (walk_bit {s = s} p) q shape (gives_bit g) h within =
          let node = node_inside all rules r s (quiet_along p q) within in
          node_laid all (Field 1 (Fixed 1)) at s _ [] g h node.0 (inl refl, (omega arith, omega arith)) refl (none_inside all at)
      gives_laid {at = at} (walk_octet {s = s} p) q shape (gives_octet g) h within =
          let node = node_inside all rules r s (quiet_along p q) within in
          node_laid all (Field 8 (Fixed 1)) at s _ [] g h node.0 (inr refl, (omega arith, omega arith)) refl (none_inside all at)
      -- with an exponent
      gives_laid {a} {at = at} {seen = seen} {shown = shown} (walk_field {s = s} {x = x} {counts = counts} is c p)
          q shape (gives_field unit count at_unit at_count g) h within =
          let node = node_inside all rules r s (first_of (node_at a s) counts p q) within in
          let counted = count_shown all rules r shown seen within.sees c (rest_of (node_at a s) counts p q) at_count in
          node_laid all (Field unit count) at s _ [] g h node.0 (unit_is x unit at_unit, counted) refl (none_inside all at)
      gives_laid (walk_field is c p) q shape (gives_rest one g) h within = elim c [ ]
      gives_laid (walk_field is c p) q shape (gives_times count none at_count g given) h within = absurd (cc)
      gives_laid (walk_field is c p) q shape (gives_many other g given) h within = elim c [ ]
      gives_laid (walk_rest is p) q shape (gives_field unit count at_unit at_count g) h within = absurd (cc)
      gives_laid {at = at} (walk_rest {s = s} is p) q shape (gives_rest one g) h within =
          let node = node_inside all rules r s (quiet_along p q) within in
          node_laid all Rest at s _ [] g h node.0 tt refl (none_inside all at)
      gives_laid (walk_rest is p) q shape (gives_times count none at_count g given) h within = absurd (cc)
      gives_laid (walk_rest is p) q shape (gives_many other g given) h within = absurd (no_both is other)
      gives_laid (walk_times none c w l p) q shape (gives_field unit count at_unit at_count g) h within = absurd (cc)
      gives_laid (walk_times none c w l p) q shape (gives_rest one g) h within = elim c [ ]
      gives_laid {a} {at = at} {seen = seen} {shown = shown} (walk_times {s = s} {counts = counts} {inner = steps}
          {left = left} none c w l p) q shape (gives_times {inner = inner} count none' at_count g given) h within =
          let node = node_inside all rules r s (first_of (node_at a s) (counts ++ (steps ++ left)) p q) within in
          let after = rest_of (node_at a s) (counts ++ (steps ++ left)) p q in
          let counted = count_shown all rules r shown seen within.sees c (first_of counts (steps ++ left) refl after) at_count in
          let part = gives_laid w (first_of steps left refl (rest_of counts (steps ++ left) refl after)) shape g
          (inner_holds all (Times count (suc at)) at s _ inner given h) node.1 in
          node_laid all (Times count (suc at)) at s _ inner given h node.0 counted refl (one_inside all at inner part)
      gives_laid (walk_times none c w l p) q shape (gives_many other g given) h within = elim c [ ]
      gives_laid (walk_many other w l p) q shape (gives_field unit count at_unit at_count g) h within = absurd (cc)
      gives_laid (walk_many other w l p) q shape (gives_rest one g) h within = absurd (no_both one other)
      gives_laid (walk_many other w l p) q shape (gives_times count none at_count g given) h within = absurd (cc)
      gives_laid {a} {at = at} (walk_many {s = s} {inner = steps} {left = left} other w l p) q shape (gives_many {inner = inner} other' g given) h within =
          let node = node_inside all rules r s (first_of (node_at a s) (steps ++ left) p q) within in
          let part = gives_laid w (first_of steps left refl (rest_of (node_at a s) (steps ++ left) p q)) shape g
          (inner_holds all (Many (suc at)) at s _ inner given h) node.1 in
          node_laid all (Many (suc at)) at s _ inner given h node.0 tt refl (one_inside all at inner part)
      -- names
      gives_laid {at = at} (walk_built_in {s = s} is p) q shape (gives_spare_bit named g) h within =
          let node = node_inside all rules r s (quiet_along p q) within in
          node_laid all (Spare Zero) at s _ [] g h node.0 (inl refl) refl (none_inside all at)
      gives_laid {at = at} (walk_built_in {s = s} is p) q shape (gives_spare_low named g) h within =
          let node = node_inside all rules r s (quiet_along p q) within in
          node_laid all (Spare Low) at s _ [] g h node.0 (inr refl) refl (none_inside all at)
      gives_laid {at = at} (walk_built_in {s = s} is p) q shape (gives_padding named g) h within =
          let node = node_inside all rules r s (quiet_along p q) within in
          node_laid all Pad at s _ [] g h node.0 tt refl (none_inside all at)
      gives_laid (walk_built_in {n = n} is p) q shape (gives_name rule found g) h within = absurd (no_rule rules n rule is found)
      gives_laid {a} (walk_undefined {s = s} not none p) q shape g h within = absurd (rest_of (entering a s) (refused Undefined s ∷ []) p q)
      gives_laid {a} (walk_recursive {s = s} rule is among p) q shape g h within = absurd (rest_of (entering a s) (refused Recursive s ∷ []) p q)
      gives_laid (walk_name {n = n} rule is new w p) q shape (gives_spare_bit named g) h within = absurd (no_rule rules n rule (ap is_built_in named) is)
      gives_laid (walk_name {n = n} rule is new w p) q shape (gives_spare_low named g) h within = absurd (no_rule rules n rule (ap is_built_in named) is)
      gives_laid (walk_name {n = n} rule is new w p) q shape (gives_padding named g) h within = absurd (no_rule rules n rule (ap is_built_in named) is)
      gives_laid {a} {at = at} {seen = seen} {nodes = nodes} (walk_name {s = s} {n = n} {inner = steps}
          rule is new w p) q shape (gives_name other found g) h within =
          let P : Rule → Type 0 = λ z. RuleGives rules r z at seen nodes in
          rule_laid w (rest_of (entering a s) steps p q) (rule_shaped rules n rule shaped is) (subst P (same_rule rules n found is) g) h
          (name_inside all rules r n s (first_of (entering a s) steps p q) within)
      -- what stands round one part
      gives_laid {a} (walk_group {s = s} {inner = steps} w p) q shape (gives_group g) h within =
          gives_laid w (rest_of (entering a s) steps p q) shape g h (braces_inside all rules r s (first_of (entering a s) steps p q) within)
      gives_laid {a} {at = at} (walk_labelled {s = s} {label = label} {inner = steps} w p) q shape (gives_labelled {inner = inner} g given) h within =
          let node = node_inside all rules r s (first_of (node_at a s) steps p q) within in
          let part = gives_laid w (rest_of (node_at a s) steps p q) shape g (inner_holds all (Named label (suc at)) at s _ inner given h) node.1 in
          node_laid all (Named label (suc at)) at s _ inner given h node.0 tt refl (one_inside all at inner part)
      gives_laid {a} {at = at} {seen = seen} {shown = shown} (walk_window {s = s} {x = x} {y = y} {counts = counts}
          {inner = steps} w is c k p) q shape (gives_window {inner = inner} v count window at_count g given)
          h within =
          let same : v ≡ record { width = w; part = y } = same_window x y window (left_window x y w is) in
          let P : WindowV → Type 0 = λ z. Gives rules r z.part (suc at) seen inner in
          let node = node_inside all rules r s (first_of (node_at a s) (counts ++ steps) p q) within in
          let after = rest_of (node_at a s) (counts ++ steps) p q in
          let counted = count_shown all rules r shown seen within.sees c (first_of counts steps refl after)
          (ap (λ z. count_at seen z.width.count) (sym same) ∙ at_count) in
          let part = gives_laid k (rest_of counts steps refl after) shape.1 (subst P same g)
          (inner_holds all (Window v.width.unit count (suc at)) at s _ inner given h) node.1 in
          node_laid all (Window v.width.unit count (suc at)) at s _ inner given h node.0
          (width_unit x v.width is (ap (λ z. z.width) same), counted) refl (one_inside all at inner part)
      gives_laid {a} {at = at} {seen = seen} {shown = shown} (walk_window_behind {s = s} {x = x} {y = y}
          {counts = counts} {inner = steps} w none is k c p) q shape
          (gives_window {inner = inner} v count window at_count g given) h within =
          let same : v ≡ record { width = w; part = x } = same_window x y window (right_window x y w none is) in
          let after = rest_of (node_at a s) (steps ++ counts) p q in
          let P : WindowV → Type 0 = λ z. Gives rules r z.part (suc at) seen inner in
          let node = node_inside all rules r s (first_of (node_at a s) (steps ++ counts) p q) within in
          let counted = count_shown all rules r shown seen within.sees c (rest_of steps counts refl after)
          (ap (λ z. count_at seen z.width.count) (sym same) ∙ at_count) in
          let part = gives_laid k (first_of steps counts refl after) shape.0 (subst P same g)
          (inner_holds all (Window v.width.unit count (suc at)) at s _ inner given h) node.1 in
          node_laid all (Window v.width.unit count (suc at)) at s _ inner given h node.0
          (width_unit y v.width is (ap (λ z. z.width) same), counted) refl (one_inside all at inner part)
      gives_laid {a} (walk_no_window {s = s} {x = x} {left = left} {right = right} none none' w w' p) q shape g h within =
          absurd (rest_of (node_at a s) (refused IntersectionForm (start_of x) ∷ (left ++ right)) p q)
      gives_laid (walk_sends {left = left} {right = right} w w' p) q shape (gives_received is g) h within =
          gives_laid w (first_of left right p q) shape.0 g h within
      gives_laid (walk_sends {left = left} {right = right} w w' p) q shape (gives_sent is g) h within =
          gives_laid w' (rest_of left right p q) shape.1 g h within
      -- several parts
      gives_laid {a} {at = at} (walk_seq {s = s} {inner = steps} w p) q shape (gives_seq {inner = inner} {parts = parts} g given) h within =
          let node = node_inside all rules r s (first_of (node_at a s) steps p q) within in
          node_laid all (Seq parts) at s _ inner given h node.0 tt (omega (arith, items_count g, shape.0))
          (items_laid w (rest_of (node_at a s) steps p q) shape.1 g (inner_holds all (Seq parts) at s _ inner given h) tt node.1)
      gives_laid {a} {at = at} (walk_cut {s = s} {inner = steps} w p) q shape (gives_cut {inner = inner} {parts = parts} g given) h within =
          let node = node_inside all rules r s (first_of (node_at a s) steps p q) within in
          node_laid all (Trunc parts) at s _ inner given h node.0 tt (omega (arith, items_count g, shape.0))
          (items_laid w (rest_of (node_at a s) steps p q) shape.1 g (inner_holds all (Trunc parts) at s _ inner given h) tt node.1)
      gives_laid {a} {at = at} (walk_choice {s = s} {inner = steps} w p) q shape (gives_choice {inner = inner} {parts = parts} xs kept two g given) h within =
          let node = node_inside all rules r s (first_of (node_at a s) steps p q) within in
          node_laid all (Choice parts) at s _ inner given h node.0 tt (omega (arith, each_count g, two))
          (each_laid w (rest_of (node_at a s) steps p q) shape.1 kept g (inner_holds all (Choice parts) at s _ inner given h) node.1)
      gives_laid {a} (walk_choice {s = s} {inner = steps} w p) q shape (gives_only kept g) h within =
          let around = braces_inside all rules r s (first_of (entering a s) (begins s ∷ []) refl (first_of (node_at a s) steps p q)) within in
          only_laid w (rest_of (node_at a s) steps p q) shape.1 kept refl g h around

      items_laid :
          {full : Bool} {a : Around} {frame : Frame ExprV} {xs : ExprsV} {steps : List Step} {at round : ℕ} {other : Frame ℕ}
          {seen : Seen ℕ} {shown parts : List ℕ} {nodes : List Placed}
          → ItemsWalk rules r full a frame xs steps → Quiet steps → ItemsShaped xs
          → ItemsGive rules r xs at other seen parts nodes → Holds all at nodes
          → FrameShown all rules r shown frame other → IsInside all rules r a seen shown round
          → PartsLaid all true shown round parts at (at + length nodes)
      items_laid (walk.items_end p) q shape (items_end none end) h alike within =
          parts_along all (sym none) (laid_end (omega (arith, ap length end)))
      items_laid {frame = frame} {at = at} {other = other} {shown = shown} (walk.items_next {x = x} {first = steps}
          {rest = more} left w l others p) q shape (items_next first rest g later now given) h alike within =
          let here = holds_along all at given h in
          let first_here = holds_first all at first rest here in
          let one = gives_laid w (first_of steps (left ++ more) p q) shape.0 g first_here
          (record { few = within.few; within = within.within; sees = (alike, within.sees) }) in
          let behind_it = items_laid others (rest_of left more refl (rest_of steps (left ++ more) p q)) shape.1 later (holds_rest all at first rest here)
          (item_shown all rules r x at shown frame other g first_here alike) (more_inside all rules r (still_shown all at shown) within) in
          parts_along all (sym now) (laid_next (at + length first) refl one
          (parts_to all (omega (arith, ap length given, length-append first rest)) behind_it))

      each_laid :
          {a : Around} {bs : BranchesV} {steps : List Step} {xs : List ExprV} {at round : ℕ} {seen : Seen ℕ}
          {shown parts : List ℕ} {nodes : List Placed}
          → BranchesWalk rules r a bs steps → Quiet steps → BranchesShaped bs → Kept rules r bs xs
          → EachGives rules r xs at seen parts nodes → Holds all at nodes → IsInside all rules r a seen shown round
          → PartsLaid all false shown round parts at (at + length nodes)
      each_laid (walk.branches_end p) q shape kept_end (each_end none end) h within =
          parts_along all (sym none) (laid_end (omega (arith, ap length end)))
      each_laid {at = at} (walk.branches_next {first = steps} {left = left} {rest = more} w l others p) q shape
          (kept_next full kept) (each_next first rest g later now given) h within =
          let here = holds_along all at given h in
          let one = gives_laid w (first_of steps (left ++ more) p q) shape.0 g (holds_first all at first rest here) within in
          let behind_it = each_laid others (rest_of left more refl (rest_of steps (left ++ more) p q))
          shape.1 kept later (holds_rest all at first rest here) within in
          parts_along all (sym now) (laid_next (at + length first) refl one
          (parts_to all (omega (arith, ap length given, length-append first rest)) behind_it))
      each_laid (walk.branches_next {first = steps} {left = left} {rest = more} w l others p) q shape (kept_void void kept) g h within =
          each_laid others (rest_of left more refl (rest_of steps (left ++ more) p q)) shape.1 kept g h within
      each_laid (walk.branches_next {first = steps} {left = left} {rest = more} w l others p) q shape (kept_error kept) g h within =
          each_laid others (rest_of left more refl (rest_of steps (left ++ more) p q)) shape.1 kept g h within

      -- the only alternative that is kept
      only_laid :
          {a : Around} {bs : BranchesV} {steps : List Step} {xs : List ExprV} {x : ExprV} {at round : ℕ} {seen : Seen ℕ}
          {shown : List ℕ} {nodes : List Placed}
          → BranchesWalk rules r a bs steps → Quiet steps → BranchesShaped bs → Kept rules r bs xs → xs ≡ x ∷ []
          → Gives rules r x at seen nodes → Holds all at nodes → IsInside all rules r a seen shown round
          → Laid all shown round at (at + length nodes)
      only_laid (walk.branches_end p) q shape kept_end one g h within = absurd (cc)
      only_laid {at = at} {seen = seen} {nodes = nodes} (walk.branches_next {first = steps} {left = left}
          {rest = more} w l others p) q shape (kept_next full kept) one g h within =
          let P : ExprV → Type 0 = λ z. Gives rules r z at seen nodes in
          gives_laid w (first_of steps (left ++ more) p q) shape.0 (subst P (sym (only_is one)) g) h within
      only_laid (walk.branches_next {first = steps} {left = left} {rest = more} w l others p) q shape (kept_void void kept) one g h within =
          only_laid others (rest_of left more refl (rest_of steps (left ++ more) p q)) shape.1 kept one g h within
      only_laid (walk.branches_next {first = steps} {left = left} {rest = more} w l others p) q shape (kept_error kept) one g h within =
          only_laid others (rest_of left more refl (rest_of steps (left ++ more) p q)) shape.1 kept one g h within

      rule_laid :
          {a : Around} {rule : Rule} {steps : List Step} {at round : ℕ} {seen : Seen ℕ} {shown : List ℕ} {nodes : List Placed}
          → RuleWalk rules r a rule steps → Quiet steps → IsShaped rule.body → RuleGives rules r rule at seen nodes
          → Holds all at nodes → IsInside all rules r a seen shown round → Laid all shown round at (at + length nodes)
      rule_laid (walk.rule_plain is w) q shape (rule_plain is' g) h within = gives_laid w q shape g h within
      rule_laid (walk.rule_plain is w) q shape (rule_tail tail many stop parts turn_parts items turn is' i many_is t stop_is p) h within = absurd (cc)
      rule_laid (walk.rule_tail tail is i t l p) q shape (rule_plain is' g) h within = absurd (cc)
      rule_laid {a} {rule} {at = at} {seen = seen} {shown = shown} {nodes = nodes}
          (walk.rule_tail {items = steps} {turn = turns} {left = left} tail is i t l p) q shape
          (rule_tail tail' many stop parts turn_parts items turn is' i' many_is t' stop_is p') h within =
          let same : tail' ≡ tail = same_tail rule is' is in
          let P : TailV → Type 0 = λ z. ItemsGive rules r z.items (suc at) [] seen parts items in
          let Q : TailV → Type 0 = λ z. ItemsGive rules r z.items (many + 3) [] seen turn_parts turn in
          let begun = turn_begun (inside a) tail.end in
          let ends = node_at (inside a) tail.end.stop.at in
          let quiet = tail_quiet (node_at a (start_of rule.body)) steps begun turns left ends p q in
          let items_shape = tail_shaped rule tail shape is in
          let words = tail_shaped rule tail' shape is' in
          let last : List Placed = placed (Lits tail'.end.stop.run) tail'.end.stop.at ∷ [] in
          let repeated : List Placed =
          placed (Many (many + 1)) tail'.end.braces ∷ placed (Seq ((many + 2) ∷ turn_parts)) tail'.end.again.at
          ∷ placed (Lits tail'.end.again.run) tail'.end.again.at ∷ (turn ++ last) in
          let root : Node = Seq (parts ++ many ∷ stop ∷ []) in
          let here : Holds all (suc at) (items ++ repeated) = inner_holds all root at (start_of rule.body) nodes (items ++ repeated) p' h in
          let at_many : Holds all many repeated = holds_from all repeated (sym many_is) (holds_rest all (suc at) items repeated here) in
          let at_turn : Holds all (many + 3) (turn ++ last) = holds_from all (turn ++ last) (omega arith) at_many.1.1.1 in
          let at_stop : Holds all stop last = holds_from all last (sym stop_is) (holds_rest all (many + 3) turn last at_turn) in
          let node = node_inside all rules r (start_of rule.body) quiet.node_quiet within in
          let inner = turn_inside all rules r tail.end quiet.begun_quiet (more_inside all rules r (behind_shown all parts shown) node.1) in
          let first = items_laid i quiet.items_quiet items_shape.items (subst P same i') (holds_first all (suc at) items repeated here) tt node.1 in
          let second = items_laid t quiet.turn_quiet items_shape.items (subst Q same t') (holds_first all (many + 3) turn last at_turn) tt
          (more_inside all rules r (still_shown all (many + 2) (seen_behind all true parts shown)) inner.1) in
          node_laid all root at (start_of rule.body) nodes (items ++ repeated) p' h node.0 tt (omega (arith, length-append parts (many ∷ stop ∷ [])))
          (parts_append all (parts_to all (sym many_is) first)
          (tail_laid all many stop turn_parts tail'.end.again.run tail'.end.stop.run at_many.0 at_many.1.0 at_many.1.1.0 at_stop.0
          words.again words.stop (omega (arith, items_count t', words.some)) inner.0 (parts_to all (sym stop_is) second)
          (omega (arith, many_is, stop_is, length-append items repeated, length-append turn last))))

    name_laid :
        {n : List ℕ} {steps : List Step} {nodes : List Placed}
        → ResolveSteps rules n r steps → Quiet steps → NameGives rules n r nodes → Holds all 0 nodes
        → Laid all [] 0 0 (length nodes)
    name_laid (asked_unknown none p) q g h = absurd (rest_of (twice_steps built_in_names rules) (refused Undefined 0 ∷ []) p q)
    name_laid {n} {nodes = nodes} (asked_rule {walk = steps} {left = left} rule is w l p) q g h =
        let after = rest_of (twice_steps built_in_names rules) (steps ++ left) p q in
        let P : Rule → Type 0 = λ z. RuleGives rules r z 0 [] nodes in
        laid_to all (omega arith)
        (rule_laid w (first_of steps left refl after) (rule_shaped rules n rule shaped is) (subst P (same_rule rules n g.found is) g.gives) h
        (record { few = omega arith; within = omega arith; sees = tt }))

pub laid_nodes :
    (rules : RulesV) (r : Reading) (n : List ℕ) (nodes : List Placed)
    → AreShaped rules → AreRefusals rules n r [] → NameGives rules n r nodes
    → Laid (nodes_of nodes) [] 0 0 (length (nodes_of nodes))
laid_nodes rules r n nodes shaped h g =
    laid_to (nodes_of nodes) (sym (length-map nodes (λ p. p.node)))
    (name_laid (nodes_of nodes) rules r shaped h.walked (quiet_from 0 h.steps (sym h.are)) g (holds_behind [] nodes))
