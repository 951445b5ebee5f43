-- What is empty of strings means no bits and follows none, and the alternatives of a choice are kept in one
-- way.
use Rattle.std.proofs.Common.{◌≡◌, ℕ, Bool, true, false, List, [], ◌∷◌, refl, sym, ◌∙◌, ap, subst, codes, Option, Some, None}
use Rattle.std.specs.Prelude.{slice_get, if◌then◌else◌}
use Rattle.std.specs.List.{find}
use Rattle.std.specs.Option.{option_or}
use Rattle.csn_desc.specs.declared.reading.Reading.{Reading}
use Rattle.csn_desc.specs.declared.reading.Reading.TheVariants.{Received, Sent}
use Rattle.csn_desc.specs.TreeV.{TreeV, Trees}
use Rattle.csn_grammar.specs.declared.rules.Rule.{Rule}
use Rattle.csn_grammar.specs.ExprV.{ExprV, expr, lits, name, group, seq, choice, both, sends, ExprsV, no_item, item, BranchesV, no_branch, branch}
use Rattle.csn_grammar.specs.RulesV.{RulesV}
use Rattle.csn_grammar.specs.Names.{same_name, is_built_in, rule_of}
use Rattle.csn_grammar.specs.Forms.{WindowV, window_of}
use Rattle.csn_grammar.specs.Environment.{Frame, Env}
use Rattle.csn_grammar.specs.TailForm.{WordV, EndV, TailV, word_of, again_of, end_with, end_of, last_item, front_items, tail_of_body}
use Rattle.csn_grammar.specs.Void.{Void, SomeVoid, AllVoid, Kept, void_none, void_name, void_group, void_labelled}
use Rattle.csn_grammar.specs.Void.{void_window, void_seq, void_choice, void_received, void_sent, void_here}
use Rattle.csn_grammar.specs.Void.{void_later, all_end, all_next, all_error, kept_end, kept_next, kept_void}
use Rattle.csn_grammar.specs.Void.{kept_error}
use Rattle.csn_grammar.specs.Meaning.{Means, ItemsMean, RuleMeans, TailMeans, means_lits, means_null, means_bit}
use Rattle.csn_grammar.specs.Meaning.{means_octet, means_field, means_rest, means_spare_bit, means_spare_low}
use Rattle.csn_grammar.specs.Meaning.{means_padding, means_seq, means_choice, means_only, means_times, means_many}
use Rattle.csn_grammar.specs.Meaning.{means_cut_all, means_cut, means_window, means_labelled, means_name, means_group}
use Rattle.csn_grammar.specs.Meaning.{means_received, means_sent, items_end, items_next, rule_plain, rule_tail}
use Rattle.csn_grammar.specs.Meaning.{tail_stop, tail_again}
use Rattle.csn_grammar.specs.Follow.{Follow, RuleFollows, TailFollows, follows_whole, follows_leaf, follows_seq}
use Rattle.csn_grammar.specs.Follow.{follows_choice, follows_times, follows_many, follows_cut, follows_window}
use Rattle.csn_grammar.specs.Follow.{follows_labelled, follows_name, follows_group, follows_received, follows_sent}
use Rattle.csn_grammar.specs.Follow.{follows_plain, follows_tail, tail_items, tail_stops, tail_goes_on, tail_turns}

-- a name that is built in means no rule
pub no_rule : (rules : RulesV) (n : List ℕ) (rule : Rule) → is_built_in n ≡ true
    → rule_of rules n ≡ Some rule → ⊥
no_rule rules n rule built at = let none : rule_of rules n ≡ None = rw built refl in cc

-- a window is one
pub same_window : (x y : ExprV) {w v : WindowV} → window_of x y ≡ Some w → window_of x y ≡ Some v → w ≡ v
same_window x y p q = cc

pub same_rule : (rules : RulesV) (n : List ℕ) {a b : Rule} → rule_of rules n ≡ Some a
    → rule_of rules n ≡ Some b → a ≡ b
same_rule rules n p q = cc

-- ---- the rule of a name is one of the rules

found_has :
    (P : Rule → Type 0) (Each : RulesV → Type 0) → ((first : Rule) (rest : RulesV) → Each (first ∷ rest) → P first × Each rest)
    → (rules : RulesV) (n : List ℕ) (rule : Rule) → Each rules → find (λ rule. same_name rule.name n) rules ≡ Some rule → P rule
found_has P Each split [] n rule h at = absurd (cc)
found_has P Each split (first ∷ rules) n rule h at =
    here (same_name first.name n) at (found_has P Each split rules n rule (split first rules h).1)
  where
    here :
        (b : Bool)
        → (if b then Some first else find (λ rule. same_name rule.name n) rules) ≡ Some rule
        → (find (λ rule. same_name rule.name n) rules ≡ Some rule → P rule) → P rule
    here true is later = let same : first ≡ rule = cc in subst P same (split first rules h).0
    here false is later = later is

-- what holds of each rule holds of the rule of a name
pub rule_has :
    (P : Rule → Type 0) (Each : RulesV → Type 0) → ((first : Rule) (rest : RulesV) → Each (first ∷ rest) → P first × Each rest)
    → (rules : RulesV) (n : List ℕ) (rule : Rule) → Each rules → rule_of rules n ≡ Some rule → P rule
rule_has P Each split rules n rule h at = by_name (is_built_in n) at
  where
    by_name : (b : Bool) → (if b then None else find (λ rule. same_name rule.name n) rules) ≡ Some rule → P rule
    by_name true is = absurd (cc)
    by_name false is = found_has P Each split rules n rule h is

module _ (rules : RulesV) (r : Reading) where
  along : {x y : ExprV} → x ≡ y → Void rules r x → Void rules r y
  along e v = let P : ExprV → Type 0 = λ z. Void rules r z in subst P e v

  -- ---- the alternatives that are kept

  pub kept_once : {bs : BranchesV} {xs ys : List ExprV} → Kept rules r bs xs → Kept rules r bs ys → xs ≡ ys
  kept_once kept_end kept_end = refl
  kept_once (kept_next {x = x} full k) (kept_next again l) = ap (λ zs. x ∷ zs) (kept_once k l)
  kept_once (kept_next full k) (kept_void void l) = absurd (full void)
  kept_once (kept_void void k) (kept_next full l) = absurd (full void)
  kept_once (kept_void void k) (kept_void again l) = kept_once k l
  kept_once (kept_error k) (kept_error l) = kept_once k l

  -- none is kept of a choice that is empty of strings
  pub none_kept : {bs : BranchesV} {xs : List ExprV} → Kept rules r bs xs → AllVoid rules r bs → xs ≡ []
  none_kept kept_end all_end = refl
  none_kept (kept_next full k) (all_next void others) = absurd (full void)
  none_kept (kept_void void k) (all_next again others) = none_kept k others
  none_kept (kept_error k) (all_error others) = none_kept k others

  kept_some : (j : ℕ) {bs : BranchesV} {x : ExprV} {xs : List ExprV} → Kept rules r bs xs
      → slice_get xs j ≡ Some x → Void rules r (expr 0 0 (choice bs)) → ⊥
  kept_some j {xs = xs} kept at (void_choice all) = let none : xs ≡ [] = none_kept kept all in cc

  -- ---- rules in tail form

  word_full : (x : ExprV) (w : WordV) → word_of x ≡ Some w → Void rules r x → ⊥
  word_full (expr s e (lits run)) w p v = elim v [ ]
  word_full (expr s e f) w p v = cc

  -- with no word that stops it, no alternative ends a rule
  no_stop : (s : ℕ) (again : Option WordV) (end : EndV) → end_with s again None ≡ Some end → ⊥
  no_stop s None end p = cc
  no_stop s (Some again) end p = cc

  -- one of two alternatives that end a rule is a word
  some_stop : (s : ℕ) (a b p q : Option WordV) (end : EndV)
      → option_or (end_with s a p) (end_with s b q) ≡ Some end → (p ≡ None) → (q ≡ None) → ⊥
  some_stop s None None p q end h none nil = cc
  some_stop s (Some a) None None q end h none nil = cc
  some_stop s (Some a) None (Some w) q end h none nil = cc
  some_stop s None (Some b) p None end h none nil = cc
  some_stop s None (Some b) p (Some w) end h none nil = cc
  some_stop s (Some a) (Some b) None None end h none nil = cc
  some_stop s (Some a) (Some b) (Some w) q end h none nil = cc
  some_stop s (Some a) (Some b) None (Some w) end h none nil = cc

  not_word : (x : ExprV) → Void rules r x → word_of x ≡ None
  not_word x v = found (word_of x) refl
    where
      found : (w : Option WordV) → word_of x ≡ w → word_of x ≡ None
      found None e = e
      found (Some w) e = absurd (word_full x w e v)

  end_full : (n : List ℕ) (z : ExprV) (end : EndV) → end_of n z ≡ Some end → Void rules r z → ⊥
  end_full n (expr s e (group (expr s' e' (choice (branch false x (branch false y no_branch)))))) end p
      (void_group (void_choice (all_next vx (all_next vy all_end)))) =
      some_stop s (again_of n y) (again_of n x) (word_of x) (word_of y) end p (not_word x vx) (not_word y vy)
  end_full n z end p v = cc

  front_void : (x : ExprV) (xs : ExprsV) → (Void rules r (last_item x xs) → ⊥)
      → SomeVoid rules r (item x xs) → SomeVoid rules r (front_items x xs)
  front_void x no_item full (void_here v) = absurd (full v)
  front_void x no_item full (void_later v) = elim v [ ]
  front_void x (item y ys) full (void_here v) = void_here v
  front_void x (item y ys) full (void_later v) = void_later (front_void y ys full v)

  tail_found : (n : List ℕ) (x y : ExprV) (ys : ExprsV) (tail : TailV)
      → tail_of_body n (expr 0 0 (seq (item x (item y ys)))) ≡ Some tail
      → SomeVoid rules r (item x (item y ys)) → SomeVoid rules r tail.items
  tail_found n x y ys tail p v = found (end_of n (last_item y ys)) refl p
    where
      found : (end : Option EndV) → end_of n (last_item y ys) ≡ end
          → tail_of_body n (expr 0 0 (seq (item x (item y ys)))) ≡ Some tail → SomeVoid rules r tail.items
      found None e q = cc
      found (Some end) e q =
          let items : front_items x (item y ys) ≡ tail.items = cc in
          let P : ExprsV → Type 0 = λ xs. SomeVoid rules r xs in
          subst P items (front_void x (item y ys) (end_full n (last_item y ys) end e) v)

  -- a rule in tail form is empty of strings where one of its items before the braces is
  pub tail_void : (n : List ℕ) (x : ExprV) (tail : TailV) → tail_of_body n x ≡ Some tail → Void rules r x
      → SomeVoid rules r tail.items
  tail_void n (expr s e (seq (item x (item y ys)))) tail p (void_seq v) = tail_found n x y ys tail p v
  tail_void n x tail p v = cc

  -- ---- names that are built in

  spare_full : {s e : ℕ} (n m : List ℕ) → n ≡ m → is_built_in m ≡ true → (m ≡ codes "no string" → ⊥)
      → Void rules r (expr s e (name n)) → ⊥
  spare_full n m is built other (void_none p) = other (sym is ∙ p)
  spare_full n m is built other (void_name rule at v) =
      no_rule rules m rule built (sym (ap (rule_of rules) is) ∙ at)

  pub spare_bit_full : {s e : ℕ} (n : List ℕ) → n ≡ codes "spare bit" → Void rules r (expr s e (name n)) → ⊥
  spare_bit_full n is v = spare_full n (codes "spare bit") is refl (λ p. cc) v

  pub spare_low_full : {s e : ℕ} (n : List ℕ) → n ≡ codes "spare L" → Void rules r (expr s e (name n)) → ⊥
  spare_low_full n is v = spare_full n (codes "spare L") is refl (λ p. cc) v

  pub padding_full : {s e : ℕ} (n : List ℕ) → n ≡ codes "spare padding" → Void rules r (expr s e (name n))
      → ⊥
  padding_full n is v = spare_full n (codes "spare padding") is refl (λ p. cc) v

  -- the name of a rule is not `<no string>`
  pub no_string_full : (n : List ℕ) (rule : Rule) → n ≡ codes "no string" → rule_of rules n ≡ Some rule → ⊥
  no_string_full n rule p at = no_rule rules (codes "no string") rule refl (sym (ap (rule_of rules) p) ∙ at)

  -- ---- the part that makes a form empty of strings

  -- of a window, the part whose width the other side says
  pub part_void : {s e : ℕ} {x y : ExprV} {w : WindowV} → window_of x y ≡ Some w → Void rules r (expr s e (both x y))
      → Void rules r w.part
  part_void {x = x} {y = y} at (void_window v is void) = along (ap (λ q. q.part) (same_window x y is at)) void

  -- of a name, what its rule says
  pub body_void : {s e : ℕ} {n : List ℕ} {rule : Rule} → rule_of rules n ≡ Some rule → Void rules r (expr s e (name n))
      → Void rules r rule.body
  body_void {n = n} {rule = rule} at (void_none p) = absurd (no_string_full n rule p at)
  body_void {n = n} at (void_name other is v) = along (ap (λ q. q.body) (same_rule rules n is at)) v

  -- of `x = y`, the side of the reading
  pub left_void : {s e : ℕ} {x y : ExprV} → r ≡ Received → Void rules r (expr s e (sends x y)) → Void rules r x
  left_void is (void_received q v) = v
  left_void is (void_sent q v) = absurd (cc)

  pub right_void : {s e : ℕ} {x y : ExprV} → r ≡ Sent → Void rules r (expr s e (sends x y)) → Void rules r y
  right_void is (void_received q v) = absurd (cc)
  right_void is (void_sent q v) = v

  -- ---- nothing meant

  mutual
    pub means_full : {x : ExprV} {o : ℕ} {env : Env} {b : List ℕ} {t : TreeV} → Means rules r x o env b t
        → Void rules r x → ⊥
    means_full (means_lits h) v = elim v [ ]
    means_full (means_null h) v = elim v [ ]
    means_full (means_bit one h) v = elim v [ ]
    means_full (means_octet eight h) v = elim v [ ]
    means_full (means_field unit n is count wide h) v = elim v [ ]
    means_full (means_rest is h) v = elim v [ ]
    means_full (means_spare_bit {n = n} is some h) v = spare_bit_full n is v
    means_full (means_spare_low {n = n} is some h) v = spare_low_full n is v
    means_full (means_padding {n = n} is some h) v = padding_full n is v
    means_full (means_seq h) (void_seq v) = items_full h v
    means_full (means_choice {j = j} xs kept two at h) (void_choice all) = kept_some j kept at (void_choice all)
    means_full (means_only kept h) (void_choice all) = kept_some 0 kept refl (void_choice all)
    means_full (means_times n is count h) v = elim v [ ]
    means_full (means_many is h) v = elim v [ ]
    means_full (means_cut_all h) v = elim v [ ]
    means_full (means_cut h) v = elim v [ ]
    means_full (means_window w n at count wide h) v = means_full h (part_void at v)
    means_full (means_labelled h) (void_labelled v) = means_full h v
    means_full (means_name rule at h) v = rule_full h (body_void at v)
    means_full (means_group h) (void_group v) = means_full h v
    means_full (means_received is h) v = means_full h (left_void is v)
    means_full (means_sent is h) v = means_full h (right_void is v)

    pub items_full : {xs : ExprsV} {o : ℕ} {frame : Frame} {env : Env} {b : List ℕ} {ts : Trees}
        → ItemsMean rules r xs o frame env b ts → SomeVoid rules r xs → ⊥
    items_full (items_end h) v = elim v [ ]
    items_full (items_next b1 b2 cut h others) (void_here v) = means_full h v
    items_full (items_next b1 b2 cut h others) (void_later v) = items_full others v

    pub rule_full : {rule : Rule} {o : ℕ} {env : Env} {b : List ℕ} {t : TreeV}
        → RuleMeans rules r rule o env b t → Void rules r rule.body → ⊥
    rule_full (rule_plain is h) v = means_full h v
    rule_full (rule_tail {rule = rule} tail is h) v = tail_full h (tail_void rule.name rule.body tail is v)

    pub tail_full : {tail : TailV} {o : ℕ} {env : Env} {b : List ℕ} {ts turns : Trees}
        → TailMeans rules r tail o env b ts turns → SomeVoid rules r tail.items → ⊥
    tail_full (tail_stop b1 b2 cut items stop) v = items_full items v
    tail_full (tail_again b1 b2 b3 cut items again next) v = items_full items v

  -- ---- nothing followed

  mutual
    pub follows_full : {x : ExprV} {o : ℕ} {env : Env} {b : List ℕ} → Follow rules r x o env b
        → Void rules r x → ⊥
    follows_full (follows_whole t h) v = means_full h v
    follows_full (follows_leaf whole rest leaf cut h) v = means_full h v
    follows_full (follows_received is h) v = follows_full h (left_void is v)
    follows_full (follows_sent is h) v = follows_full h (right_void is v)
    follows_full (follows_seq full h) (void_seq v) = full v
    follows_full (follows_choice xs j kept at h) (void_choice all) = kept_some j kept at (void_choice all)
    follows_full (follows_times n is count h) v = elim v [ ]
    follows_full (follows_many is h) v = elim v [ ]
    follows_full (follows_cut h) v = elim v [ ]
    follows_full (follows_window w n at count wide h) v = follows_full h (part_void at v)
    follows_full (follows_labelled h) (void_labelled v) = follows_full h v
    follows_full (follows_name rule at h) v = rule_follows_full h (body_void at v)
    follows_full (follows_group h) (void_group v) = follows_full h v

    pub rule_follows_full : {rule : Rule} {o : ℕ} {env : Env} {b : List ℕ}
        → RuleFollows rules r rule o env b → Void rules r rule.body → ⊥
    rule_follows_full (follows_plain is h) v = follows_full h v
    rule_follows_full (follows_tail {rule = rule} tail is h) v = tail_follows_full h (tail_void rule.name rule.body tail is v)

    tail_follows_full : {tail : TailV} {o : ℕ} {env : Env} {b : List ℕ} → TailFollows rules r tail o env b
        → SomeVoid rules r tail.items → ⊥
    tail_follows_full (tail_items full h) v = full v
    tail_follows_full (tail_stops b1 b2 cut items begins) v = items_full items v
    tail_follows_full (tail_goes_on b1 b2 cut items begins) v = items_full items v
    tail_follows_full (tail_turns b1 b2 b3 cut items again next) v = items_full items v
