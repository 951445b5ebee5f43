-- The trees of a rule, by the rules of a text, have labels that are labels and leaves that are bits.
use Rattle.std.proofs.Common.{◌≡◌, ℕ, zero, suc, ◌≤◌, List, ◌++◌, length, Option, Some, None, slice_get, refl, subst, ap, arith, length-append}
use Rattle.std.specs.Option.{option_map, option_or}
use Rattle.csn_bits.specs.Octets.{most_bits}
use Rattle.csn_desc.specs.declared.reading.Reading.{Reading}
use Rattle.csn_desc.specs.TreeParts.{HasTreeParts, AllHaveTreeParts}
use Rattle.csn_desc.specs.TreeV.{TreeV, Trees, none, more}
use Rattle.csn_grammar.specs.declared.rules.Rule.{Rule}
use Rattle.csn_grammar.specs.ExprV.{ExprV, expr, seq, ExprsV, no_item, item, BranchesV}
use Rattle.csn_grammar.specs.RulesV.{RulesV}
use Rattle.csn_grammar.specs.Names.{rule_of}
use Rattle.csn_grammar.specs.Environment.{Frame, Env}
use Rattle.csn_grammar.specs.Forms.{WidthV, WindowV, width_of, window_of}
use Rattle.csn_grammar.specs.TailForm.{EndV, TailV, end_of, last_item, front_items, tail_of_body}
use Rattle.csn_grammar.specs.Void.{Kept, kept_end, kept_next, kept_void, kept_error}
use Rattle.csn_grammar.specs.Labelled.{IsLabelled, ItemsLabelled, BranchesLabelled, AreLabelled}
use Rattle.csn_grammar.specs.Laws.{MeaningsAreBits}
use Rattle.csn_grammar.specs.Strings.{Strings}
use Rattle.csn_grammar.specs.Meaning.{Means, ItemsMean, TimesMean, ManyMean, LeadMean, RuleMeans, TailMeans}
use Rattle.csn_grammar.specs.Meaning.{with_turns, means_lits, means_null, means_bit, means_octet, means_field}
use Rattle.csn_grammar.specs.Meaning.{means_rest, means_spare_bit, means_spare_low, means_padding, means_seq}
use Rattle.csn_grammar.specs.Meaning.{means_choice, means_only, means_times, means_many, means_cut_all, means_cut}
use Rattle.csn_grammar.specs.Meaning.{means_window, means_labelled, means_name, means_group, means_received}
use Rattle.csn_grammar.specs.Meaning.{means_sent, items_end, items_next, times_end, times_next, many_end, many_next}
use Rattle.csn_grammar.specs.Meaning.{lead_last, lead_next, rule_plain, rule_tail, tail_stop, tail_again}
use Rattle.csn_grammar.proofs.VoidFacts.{rule_has}

-- ---- the labels of parts

-- the part of a window is one of the two sides
window_labelled : (x y : ExprV) (w : WindowV) → window_of x y ≡ Some w → IsLabelled x → IsLabelled y → IsLabelled w.part
window_labelled x y w is lx ly = by_left (width_of x) (width_of y) is
  where
    by_left :
        (left right : Option WidthV)
        → option_or (option_map (λ v. record { width = v; part = y }) left) (option_map (λ v. record { width = v; part = x }) right) ≡ Some w
        → IsLabelled w.part
    by_left (Some v) right e =
        let same : record { width = v; part = y } ≡ w = cc in let P : WindowV → Type 0 = λ z. IsLabelled z.part in subst P same ly
    by_left None (Some v) e =
        let same : record { width = v; part = x } ≡ w = cc in let P : WindowV → Type 0 = λ z. IsLabelled z.part in subst P same lx
    by_left None None e = absurd (cc)

front_labelled : (x : ExprV) (xs : ExprsV) → IsLabelled x → ItemsLabelled xs → ItemsLabelled (front_items x xs)
front_labelled x no_item l others = tt
front_labelled x (item y ys) l others = (l, front_labelled y ys others.0 others.1)

tail_labelled : (n : List ℕ) (x : ExprV) (tail : TailV) → IsLabelled x → tail_of_body n x ≡ Some tail → ItemsLabelled tail.items
tail_labelled n (expr s e (seq (item x (item y ys)))) tail l p = found (end_of n (last_item y ys)) p
  where
    found :
        (o : Option EndV) → option_map (λ end. record { items = front_items x (item y ys); end = end }) o ≡ Some tail
        → ItemsLabelled tail.items
    found None is = absurd (cc)
    found (Some end) is =
        let same : record { items = front_items x (item y ys); end = end } ≡ tail = cc in
        let P : TailV → Type 0 = λ z. ItemsLabelled z.items in
        subst P same (l.0, front_labelled y ys l.1.0 l.1.1)
tail_labelled n x tail l p = absurd (cc)

rule_labelled : (rules : RulesV) (n : List ℕ) (rule : Rule) → AreLabelled rules → rule_of rules n ≡ Some rule → IsLabelled rule.body
rule_labelled = rule_has (λ rule. IsLabelled rule.body) AreLabelled (λ first rest l. l)

-- ---- the parts of trees

with_turns_parts : (ts turns : Trees) → AllHaveTreeParts ts → AllHaveTreeParts turns → AllHaveTreeParts (with_turns ts turns)
with_turns_parts none turns h g = (g, (tt, tt))
with_turns_parts (more t ts) turns h g = (h.0, with_turns_parts ts turns h.1 g)

-- of two pieces each is no longer than both
front_few : {w : List ℕ} (b1 b2 : List ℕ) → w ≡ b1 ++ b2 → length w ≤ most_bits → length b1 ≤ most_bits
front_few b1 b2 cut few = omega (arith, few, ap length cut, length-append b1 b2)

back_few : {w : List ℕ} (b1 b2 : List ℕ) → w ≡ b1 ++ b2 → length w ≤ most_bits → length b2 ≤ most_bits
back_few b1 b2 cut few = omega (arith, few, ap length cut, length-append b1 b2)

module _ (rules : RulesV) (r : Reading) where
  kept_labelled :
      {bs : BranchesV} {xs : List ExprV} {x : ExprV} (j : ℕ)
      → Kept rules r bs xs → BranchesLabelled bs → slice_get xs j ≡ Some x → IsLabelled x
  kept_labelled j kept_end l at = absurd (cc)
  kept_labelled {x = x} zero (kept_next {x = first} not kept) l at = let same : first ≡ x = cc in subst IsLabelled same l.0
  kept_labelled (suc j) (kept_next not kept) l at = kept_labelled j kept l.1 at
  kept_labelled j (kept_void void kept) l at = kept_labelled j kept l.1 at
  kept_labelled j (kept_error kept) l at = kept_labelled j kept l.1 at

  module _ (labels : AreLabelled rules) (are_bits : MeaningsAreBits) where
    mutual
      tree_parts :
          {x : ExprV} {o : ℕ} {env : Env} {b : List ℕ} {t : TreeV}
          → Means rules r x o env b t → IsLabelled x → length b ≤ most_bits → HasTreeParts t
      tree_parts (means_lits h) l few = tt
      tree_parts (means_null h) l few = tt
      tree_parts (means_bit one h) l few = (h, few)
      tree_parts (means_octet eight h) l few = (h, few)
      tree_parts (means_field unit n is count wide h) l few = (h, few)
      tree_parts (means_rest is h) l few = (h, few)
      tree_parts {x = x} {o = o} {env = env} {b = b} (means_spare_bit is one h) l few = (are_bits rules r x o env b _ (means_spare_bit is one h), few)
      tree_parts {x = x} {o = o} {env = env} {b = b} (means_spare_low is one h) l few = (are_bits rules r x o env b _ (means_spare_low is one h), few)
      tree_parts {x = x} {o = o} {env = env} {b = b} (means_padding is some h) l few = (are_bits rules r x o env b _ (means_padding is some h), few)
      tree_parts (means_seq h) l few = items_parts h l few
      tree_parts (means_choice {j = j} xs kept two at h) l few = tree_parts h (kept_labelled j kept l at) few
      tree_parts (means_only kept h) l few = tree_parts h (kept_labelled 0 kept l refl) few
      tree_parts (means_times n is count h) l few = times_parts h l few
      tree_parts (means_many is h) l few = many_parts h l few
      tree_parts (means_cut_all h) l few = tt
      tree_parts (means_cut h) l few = lead_parts h l few
      tree_parts (means_window {x = x} {y = y} w n at count wide h) l few = tree_parts h (window_labelled x y w at l.0 l.1) few
      tree_parts (means_labelled h) l few = (l.0, tree_parts h l.1 few)
      tree_parts (means_name {n = n} rule at h) l few = rule_parts h (rule_labelled rules n rule labels at) few
      tree_parts (means_group h) l few = tree_parts h l few
      tree_parts (means_received is h) l few = tree_parts h l.0 few
      tree_parts (means_sent is h) l few = tree_parts h l.1 few

      items_parts :
          {xs : ExprsV} {o : ℕ} {frame : Frame} {env : Env} {b : List ℕ} {ts : Trees}
          → ItemsMean rules r xs o frame env b ts → ItemsLabelled xs → length b ≤ most_bits → AllHaveTreeParts ts
      items_parts (items_end h) l few = tt
      items_parts (items_next b1 b2 cut h others) l few =
          (tree_parts h l.0 (front_few b1 b2 cut few), items_parts others l.1 (back_few b1 b2 cut few))

      times_parts :
          {n o : ℕ} {x : ExprV} {env : Env} {b : List ℕ} {ts : Trees}
          → TimesMean rules r n x o env b ts → IsLabelled x → length b ≤ most_bits → AllHaveTreeParts ts
      times_parts (times_end over h) l few = tt
      times_parts (times_next m is b1 b2 cut h others) l few =
          (tree_parts h l (front_few b1 b2 cut few), times_parts others l (back_few b1 b2 cut few))

      many_parts :
          {x : ExprV} {o : ℕ} {env : Env} {b : List ℕ} {ts : Trees}
          → ManyMean rules r x o env b ts → IsLabelled x → length b ≤ most_bits → AllHaveTreeParts ts
      many_parts (many_end h) l few = tt
      many_parts (many_next b1 b2 cut some h others) l few =
          (tree_parts h l (front_few b1 b2 cut few), many_parts others l (back_few b1 b2 cut few))

      lead_parts :
          {xs : ExprsV} {o : ℕ} {frame : Frame} {env : Env} {b : List ℕ} {ts : Trees}
          → LeadMean rules r xs o frame env b ts → ItemsLabelled xs → length b ≤ most_bits → AllHaveTreeParts ts
      lead_parts (lead_last some h) l few = (tree_parts h l.0 few, tt)
      lead_parts (lead_next b1 b2 cut h others) l few =
          (tree_parts h l.0 (front_few b1 b2 cut few), lead_parts others l.1 (back_few b1 b2 cut few))

      rule_parts :
          {rule : Rule} {o : ℕ} {env : Env} {b : List ℕ} {t : TreeV}
          → RuleMeans rules r rule o env b t → IsLabelled rule.body → length b ≤ most_bits → HasTreeParts t
      rule_parts (rule_plain is h) l few = tree_parts h l few
      rule_parts {rule = rule} (rule_tail {ts = ts} {turns = turns} tail is h) l few =
          let all = tail_parts h (tail_labelled rule.name rule.body tail l is) few in
          with_turns_parts ts turns all.0 all.1

      tail_parts :
          {tail : TailV} {o : ℕ} {env : Env} {b : List ℕ} {ts turns : Trees}
          → TailMeans rules r tail o env b ts turns → ItemsLabelled tail.items → length b ≤ most_bits
          → AllHaveTreeParts ts × AllHaveTreeParts turns
      tail_parts (tail_stop b1 b2 cut items stop) l few = (items_parts items l (front_few b1 b2 cut few), tt)
      tail_parts (tail_again b1 b2 b3 cut items again next) l few =
          let rest = back_few b1 (b2 ++ b3) cut few in
          let later = tail_parts next l (back_few b2 b3 refl rest) in
          (items_parts items l (front_few b1 (b2 ++ b3) cut few), ((tt, later.0), later.1))

    pub string_parts : (n b : List ℕ) (t : TreeV) → Strings rules n r b t → length b ≤ most_bits → HasTreeParts t
    string_parts n b t string few = rule_parts string.2 (rule_labelled rules n string.0 labels string.1) few
