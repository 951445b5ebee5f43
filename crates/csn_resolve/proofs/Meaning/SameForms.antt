-- An expression and a node that mean the same bits and follow the same bits, where what is inside does:
-- choices, windows, labels, names, braces and `=`.
use Rattle.std.proofs.Common.{◌≡◌, ◌↔◌, ℕ, zero, suc, ◌*◌, ◌≤◌, true, List, [], ◌∷◌, length, refl, sym, ◌∙◌, ap, subst, arith, Some}
use Rattle.std.specs.Prelude.{slice_get}
use Rattle.std.proofs.lemmas.Option.{slice_get_within}
use Rattle.csn_desc.specs.declared.reading.Reading.{Reading}
use Rattle.csn_desc.specs.declared.reading.Reading.TheVariants.{Received, Sent}
use Rattle.csn_desc.specs.declared.node.Count.{Count}
use Rattle.csn_desc.specs.declared.node.Node.TheVariants.{Choice, Window, Named}
use Rattle.csn_desc.specs.TreeV.{TreeV}
use Rattle.csn_desc.specs.Nodes.{DescV}
use Rattle.csn_desc.specs.Values.{Values}
use Rattle.csn_desc.specs.Values as values
use Rattle.csn_desc.specs.Means.{NMeans, NodeMeans}
use Rattle.csn_desc.specs.Means as node
use Rattle.csn_desc.specs.Follows.{NFollow, NodeFollows}
use Rattle.csn_desc.specs.Follows as after
use Rattle.csn_desc.proofs.Prefixes.{string_followed}
use Rattle.csn_grammar.specs.declared.rules.Rule.{Rule}
use Rattle.csn_grammar.specs.ExprV.{ExprV, expr, BranchesV, name, labelled, group, choice, both, sends}
use Rattle.csn_grammar.specs.RulesV.{RulesV}
use Rattle.csn_grammar.specs.Names.{is_built_in, rule_of}
use Rattle.csn_grammar.specs.Forms.{WindowV, window_of}
use Rattle.csn_grammar.specs.Environment.{Env, count_of}
use Rattle.csn_grammar.specs.Void.{Kept}
use Rattle.csn_grammar.specs.Meaning.{Means, RuleMeans, means_spare_bit, means_spare_low, means_padding, means_choice}
use Rattle.csn_grammar.specs.Meaning.{means_only, means_window, means_labelled, means_name, means_group}
use Rattle.csn_grammar.specs.Meaning.{means_received, means_sent}
use Rattle.csn_grammar.specs.Follow.{Follow, RuleFollows, follows_whole, follows_leaf, follows_choice, follows_window}
use Rattle.csn_grammar.specs.Follow.{follows_labelled, follows_name, follows_group, follows_received, follows_sent}
use Rattle.csn_grammar.proofs.VoidFacts.{no_rule, same_rule, same_window, kept_once}
use Rattle.csn_resolve.proofs.Meaning.SameLeaves.{Same, node_same, spare_built}
use Rattle.csn_resolve.proofs.Giving.Once.{not_two}
use Rattle.csn_resolve.proofs.Basics.Parts.{get_within}
use Rattle.csn_resolve.proofs.Basics.Options.{same_some}

module _ (rules : RulesV) (r : Reading) (d : DescV) where
  -- ---- choices

  -- alternatives and parts: each alternative and its part mean and follow the same
  pub data SameEach : List ExprV → List ℕ → Env → Values → Type 0 where
    each_end : {env : Env} {v : Values} → SameEach [] [] env v
    each_next :
        {x : ExprV} {xs : List ExprV} {i : ℕ} {parts : List ℕ} {env : Env} {v : Values}
        → Same rules r d x i env v → SameEach xs parts env v → SameEach (x ∷ xs) (i ∷ parts) env v

  -- the part of an alternative, and the alternative of a part
  part_there :
      {xs : List ExprV} {parts : List ℕ} {env : Env} {v : Values} {x : ExprV} (j : ℕ) → SameEach xs parts env v
      → slice_get xs j ≡ Some x → (i : ℕ) × (slice_get parts j ≡ Some i) × Same rules r d x i env v
  part_there j each_end at = cc
  part_there {env = env} {v = v} zero (each_next {i = i} here later) at =
      let P : ExprV → Type 0 = λ z. Same rules r d z i env v in (i, refl, subst P (cc) here)
  part_there (suc j) (each_next here later) at = part_there j later at

  same_long : {xs : List ExprV} {parts : List ℕ} {env : Env} {v : Values} → SameEach xs parts env v → length xs ≡ length parts
  same_long each_end = refl
  same_long (each_next here later) = ap suc (same_long later)

  part_here :
      {xs : List ExprV} {parts : List ℕ} {env : Env} {v : Values} {i : ℕ} (j : ℕ) → SameEach xs parts env v
      → slice_get parts j ≡ Some i → (x : ExprV) × (slice_get xs j ≡ Some x) × Same rules r d x i env v
  part_here {xs} {parts} {env} {v} {i} j same at =
      let found = get_within xs j (omega (arith, slice_get_within parts j i at, same_long same)) in
      let there = part_there j same found.1 in
      let P : ℕ → Type 0 = λ z. Same rules r d found.0 z env v in
      (found.0, found.1, subst P (same_some there.1 at) there.2)

  get_along : {xs ys : List ExprV} {x : ExprV} (j : ℕ) → xs ≡ ys → slice_get xs j ≡ Some x → slice_get ys j ≡ Some x
  get_along j p at = ap (λ l. slice_get l j) (sym p) ∙ at

  module _ {bs : BranchesV} {xs : List ExprV} {parts : List ℕ} {env : Env} {v : Values} (kept : Kept rules r bs xs)
      (two : 2 ≤ length xs) (same : SameEach xs parts env v) where
    choice_to :
        {s e o : ℕ} {b : List ℕ} {t : TreeV} → Means rules r (expr s e (choice bs)) o env b t → NodeMeans d (Choice parts) o v b t
    choice_to {b = b} (means_choice {j = j} {t = t} ys kept' two' at h) =
        let part = part_there j same (get_along j (kept_once rules r kept' kept) at) in
        node.means_choice part.1 ((part.2.means _ b t).0 h)
    choice_to (means_only kept' h) = absurd (not_two two (kept_once rules r kept kept'))

    choice_from :
        {s e o : ℕ} {b : List ℕ} {t : TreeV} → NodeMeans d (Choice parts) o v b t → Means rules r (expr s e (choice bs)) o env b t
    choice_from {b = b} (node.means_choice {j = j} {t = t} at h) =
        let part = part_here j same at in means_choice xs kept two part.1 ((part.2.means _ b t).1 h)

    choice_follows :
        {s e o : ℕ} {b : List ℕ} → Follow rules r (expr s e (choice bs)) o env b → NodeFollows d (Choice parts) o v b
    choice_follows (follows_whole t h) = after.follows_whole t (choice_to h)
    choice_follows (follows_leaf whole rest leaf cut h) = cc
    choice_follows {b = b} (follows_choice ys j kept' at f) =
        let part = part_there j same (get_along j (kept_once rules r kept' kept) at) in
        after.follows_choice j part.1 ((part.2.follows _ b).0 f)

    choice_followed :
        {s e o : ℕ} {b : List ℕ} → NodeFollows d (Choice parts) o v b → Follow rules r (expr s e (choice bs)) o env b
    choice_followed (after.follows_whole t h) = follows_whole t (choice_from h)
    choice_followed {b = b} (after.follows_choice j at f) =
        let part = part_here j same at in follows_choice xs j kept part.1 ((part.2.follows _ b).1 f)

    pub choice_same : {s e i : ℕ} → slice_get d.nodes i ≡ Some (Choice parts) → Same rules r d (expr s e (choice bs)) i env v
    choice_same at =
        node_same rules r d (Choice parts) at (λ o b t. (choice_to, choice_from)) (λ o b. (choice_follows, choice_followed))

  only_is : {x y : ExprV} {ys : List ExprV} (j : ℕ) → ys ≡ x ∷ [] → slice_get ys j ≡ Some y → y ≡ x
  only_is {x} {y} zero p at = let here : slice_get (x ∷ []) 0 ≡ Some y = get_along 0 p at in cc
  only_is {x} {y} (suc j) p at = let here : slice_get (x ∷ []) (suc j) ≡ Some y = get_along (suc j) p at in cc

  module _ {bs : BranchesV} {x : ExprV} {i : ℕ} {env : Env} {v : Values} (kept : Kept rules r bs (x ∷ [])) (same : Same rules r d x i env v) where
    only_means : {y : ExprV} {o : ℕ} {b : List ℕ} {t : TreeV} → y ≡ x → Means rules r y o env b t → NMeans d i o v b t
    only_means {o = o} {b = b} {t = t} p h = let P : ExprV → Type 0 = λ z. Means rules r z o env b t in (same.means o b t).0 (subst P p h)

    only_to : {s e o : ℕ} {b : List ℕ} {t : TreeV} → Means rules r (expr s e (choice bs)) o env b t → NMeans d i o v b t
    only_to (means_choice ys kept' two at h) = absurd (not_two two (kept_once rules r kept' kept))
    only_to (means_only {x = y} kept' h) = only_means (only_is 0 (kept_once rules r kept' kept) refl) h

    only_follows : {s e o : ℕ} {b : List ℕ} → Follow rules r (expr s e (choice bs)) o env b → NFollow d i o v b
    only_follows (follows_whole t h) = string_followed d (only_to h)
    only_follows (follows_leaf whole rest leaf cut h) = cc
    only_follows {o = o} {b = b} (follows_choice ys j kept' at f) =
        let P : ExprV → Type 0 = λ z. Follow rules r z o env b in
        (same.follows o b).0 (subst P (only_is j (kept_once rules r kept' kept) at) f)

    pub only_same : {s e : ℕ} → Same rules r d (expr s e (choice bs)) i env v
    only_same = record {
      means = λ o b t. (only_to, λ h. means_only kept ((same.means o b t).1 h));
      follows = λ o b. (only_follows, λ f. follows_choice (x ∷ []) 0 kept refl ((same.follows o b).1 f));
    }

  -- ---- windows

  module _ {x y : ExprV} {i : ℕ} {env : Env} {v : Values} (w : WindowV) (count : Count) (is : window_of x y ≡ Some w)
      (agree : count_of env w.width.count ≡ values.count_of v count) (same : Same rules r d w.part i env v) where
    window_to :
        {s e o : ℕ} {b : List ℕ} {t : TreeV}
        → Means rules r (expr s e (both x y)) o env b t → NodeMeans d (Window w.width.unit count i) o v b t
    window_to {o = o} {b = b} {t = t} (means_window u n is' number wide h) =
        let P : WindowV → Type 0 = λ z. (count_of env z.width.count ≡ Some n) × (length b ≡ z.width.unit * n) × Means rules r z.part o env b t in
        let here : P w = subst P (same_window x y is' is) (number, wide, h) in
        node.means_window n (sym agree ∙ here.0) here.1 ((same.means o b t).0 here.2)

    window_from :
        {s e o : ℕ} {b : List ℕ} {t : TreeV}
        → NodeMeans d (Window w.width.unit count i) o v b t → Means rules r (expr s e (both x y)) o env b t
    window_from {o = o} {b = b} {t = t} (node.means_window n number wide h) =
        means_window w n is (agree ∙ number) wide ((same.means o b t).1 h)

    window_follows :
        {s e o : ℕ} {b : List ℕ}
        → Follow rules r (expr s e (both x y)) o env b → NodeFollows d (Window w.width.unit count i) o v b
    window_follows (follows_whole t h) = after.follows_whole t (window_to h)
    window_follows (follows_leaf whole rest leaf cut h) = cc
    window_follows {o = o} {b = b} (follows_window u n is' number wide f) =
        let P : WindowV → Type 0 = λ z. (count_of env z.width.count ≡ Some n) × (length b ≤ z.width.unit * n) × Follow rules r z.part o env b in
        let here : P w = subst P (same_window x y is' is) (number, wide, f) in
        after.follows_window n (sym agree ∙ here.0) here.1 ((same.follows o b).0 here.2)

    window_followed :
        {s e o : ℕ} {b : List ℕ}
        → NodeFollows d (Window w.width.unit count i) o v b → Follow rules r (expr s e (both x y)) o env b
    window_followed (after.follows_whole t h) = follows_whole t (window_from h)
    window_followed {o = o} {b = b} (after.follows_window n number wide f) =
        follows_window w n is (agree ∙ number) wide ((same.follows o b).1 f)

    pub window_same : {s e j : ℕ} → slice_get d.nodes j ≡ Some (Window w.width.unit count i) → Same rules r d (expr s e (both x y)) j env v
    window_same at =
        node_same rules r d (Window w.width.unit count i) at (λ o b t. (window_to, window_from)) (λ o b. (window_follows, window_followed))

  -- ---- labels

  module _ {x : ExprV} {i : ℕ} {env : Env} {v : Values} (same : Same rules r d x i env v) where
    label_to :
        {s e o : ℕ} {label b : List ℕ} {t : TreeV}
        → Means rules r (expr s e (labelled label x)) o env b t → NodeMeans d (Named label i) o v b t
    label_to {o = o} {b = b} (means_labelled {t = t} h) = node.means_named ((same.means o b t).0 h)

    label_from :
        {s e o : ℕ} {label b : List ℕ} {t : TreeV}
        → NodeMeans d (Named label i) o v b t → Means rules r (expr s e (labelled label x)) o env b t
    label_from {o = o} {b = b} (node.means_named {t = t} h) = means_labelled ((same.means o b t).1 h)

    label_follows :
        {s e o : ℕ} {label b : List ℕ}
        → Follow rules r (expr s e (labelled label x)) o env b → NodeFollows d (Named label i) o v b
    label_follows (follows_whole t h) = after.follows_whole t (label_to h)
    label_follows (follows_leaf whole rest leaf cut h) = cc
    label_follows {o = o} {b = b} (follows_labelled f) = after.follows_named ((same.follows o b).0 f)

    label_followed :
        {s e o : ℕ} {label b : List ℕ}
        → NodeFollows d (Named label i) o v b → Follow rules r (expr s e (labelled label x)) o env b
    label_followed (after.follows_whole t h) = follows_whole t (label_from h)
    label_followed {o = o} {b = b} (after.follows_named f) = follows_labelled ((same.follows o b).1 f)

    pub label_same :
        {s e j : ℕ} {label : List ℕ} → slice_get d.nodes j ≡ Some (Named label i) → Same rules r d (expr s e (labelled label x)) j env v
    label_same {label = label} at =
        node_same rules r d (Named label i) at (λ o b t. (label_to, label_from)) (λ o b. (label_follows, label_followed))

    -- ---- what makes no node

    group_to : {s e o : ℕ} {b : List ℕ} {t : TreeV} → Means rules r (expr s e (group x)) o env b t → NMeans d i o v b t
    group_to {o = o} {b = b} {t = t} (means_group h) = (same.means o b t).0 h

    group_follows : {s e o : ℕ} {b : List ℕ} → Follow rules r (expr s e (group x)) o env b → NFollow d i o v b
    group_follows (follows_whole t h) = string_followed d (group_to h)
    group_follows (follows_leaf whole rest leaf cut h) = cc
    group_follows {o = o} {b = b} (follows_group f) = (same.follows o b).0 f

    pub group_same : {s e : ℕ} → Same rules r d (expr s e (group x)) i env v
    group_same = record {
      means = λ o b t. (group_to, λ h. means_group ((same.means o b t).1 h));
      follows = λ o b. (group_follows, λ f. follows_group ((same.follows o b).1 f));
    }

    received_to :
        {s e o : ℕ} {y : ExprV} {b : List ℕ} {t : TreeV} → r ≡ Received
        → Means rules r (expr s e (sends x y)) o env b t → NMeans d i o v b t
    received_to {o = o} {b = b} {t = t} is (means_received is' h) = (same.means o b t).0 h
    received_to is (means_sent is' h) = cc

    received_follows :
        {s e o : ℕ} {y : ExprV} {b : List ℕ} → r ≡ Received
        → Follow rules r (expr s e (sends x y)) o env b → NFollow d i o v b
    received_follows is (follows_whole t h) = string_followed d (received_to is h)
    received_follows is (follows_leaf whole rest leaf cut h) = cc
    received_follows {o = o} {b = b} is (follows_received is' f) = (same.follows o b).0 f
    received_follows is (follows_sent is' f) = cc

    pub received_same : {s e : ℕ} {y : ExprV} → r ≡ Received → Same rules r d (expr s e (sends x y)) i env v
    received_same is = record {
      means = λ o b t. (received_to is, λ h. means_received is ((same.means o b t).1 h));
      follows = λ o b. (received_follows is, λ f. follows_received is ((same.follows o b).1 f));
    }

    sent_to :
        {s e o : ℕ} {y : ExprV} {b : List ℕ} {t : TreeV} → r ≡ Sent
        → Means rules r (expr s e (sends y x)) o env b t → NMeans d i o v b t
    sent_to is (means_received is' h) = cc
    sent_to {o = o} {b = b} {t = t} is (means_sent is' h) = (same.means o b t).0 h

    sent_follows :
        {s e o : ℕ} {y : ExprV} {b : List ℕ} → r ≡ Sent
        → Follow rules r (expr s e (sends y x)) o env b → NFollow d i o v b
    sent_follows is (follows_whole t h) = string_followed d (sent_to is h)
    sent_follows is (follows_leaf whole rest leaf cut h) = cc
    sent_follows is (follows_received is' f) = cc
    sent_follows {o = o} {b = b} is (follows_sent is' f) = (same.follows o b).0 f

    pub sent_same : {s e : ℕ} {y : ExprV} → r ≡ Sent → Same rules r d (expr s e (sends y x)) i env v
    sent_same is = record {
      means = λ o b t. (sent_to is, λ h. means_sent is ((same.means o b t).1 h));
      follows = λ o b. (sent_follows is, λ f. follows_sent is ((same.follows o b).1 f));
    }

  -- ---- names

  -- a rule where its name stands, and the node i
  pub record SameRule (rule : Rule) (i : ℕ) (env : Env) (v : Values) : Type 0 where
    pub means : (o : ℕ) (b : List ℕ) (t : TreeV) → RuleMeans rules r rule o env b t ↔ NMeans d i o v b t
    pub follows : (o : ℕ) (b : List ℕ) → RuleFollows rules r rule o env b ↔ NFollow d i o v b

  module _ {i : ℕ} {env : Env} {v : Values} (n : List ℕ) (rule : Rule) (found : rule_of rules n ≡ Some rule) (same : SameRule rule i env v) where
    not_built : {A : Type 0} → is_built_in n ≡ true → A
    not_built built = absurd (no_rule rules n rule built found)

    name_to : {s e o : ℕ} {b : List ℕ} {t : TreeV} → Means rules r (expr s e (name n)) o env b t → NMeans d i o v b t
    name_to (means_spare_bit is one h) = not_built (ap is_built_in is)
    name_to (means_spare_low is one h) = not_built (ap is_built_in is)
    name_to (means_padding is some h) = not_built (ap is_built_in is)
    name_to {o = o} {b = b} {t = t} (means_name other at h) =
        let P : Rule → Type 0 = λ z. RuleMeans rules r z o env b t in (same.means o b t).0 (subst P (same_rule rules n at found) h)

    name_follows : {s e o : ℕ} {b : List ℕ} → Follow rules r (expr s e (name n)) o env b → NFollow d i o v b
    name_follows (follows_whole t h) = string_followed d (name_to h)
    name_follows (follows_leaf whole rest leaf cut h) = not_built (spare_built n leaf)
    name_follows {o = o} {b = b} (follows_name other at f) =
        let P : Rule → Type 0 = λ z. RuleFollows rules r z o env b in (same.follows o b).0 (subst P (same_rule rules n at found) f)

    pub name_same : {s e : ℕ} → Same rules r d (expr s e (name n)) i env v
    name_same = record {
      means = λ o b t. (name_to, λ h. means_name rule found ((same.means o b t).1 h));
      follows = λ o b. (name_follows, λ f. follows_name rule found ((same.follows o b).1 f));
    }
