-- The walk through an expression has one list of steps, and a named rule one list of refusals.
use Rattle.std.proofs.Common.{◌≡◌, ℕ, Bool, true, false, List, [], ◌∷◌, sym, ◌∙◌, ap, subst, arith, Option, Some, None}
use Rattle.csn_desc.specs.declared.reading.Reading.{Reading}
use Rattle.csn_desc.specs.Nodes.{DescV}
use Rattle.csn_grammar.specs.declared.exponent.Exponent.{Exponent}
use Rattle.csn_grammar.specs.declared.rules.Rule.{Rule}
use Rattle.csn_grammar.specs.ExprV.{ExprV, ExprsV, BranchesV}
use Rattle.csn_grammar.specs.RulesV.{RulesV}
use Rattle.csn_grammar.specs.Forms.{WidthV, width_of}
use Rattle.csn_grammar.specs.TailForm.{TailV}
use Rattle.csn_grammar.proofs.VoidFacts.{no_rule, same_rule}
use Rattle.csn_resolve.specs.Seen.{Frame, Seen, seen_of}
use Rattle.csn_resolve.specs.Steps.{Step}
use Rattle.csn_resolve.specs.declared.why.Why.{Why}
use Rattle.csn_resolve.specs.Why.{Refusal}
use Rattle.csn_desc.specs.Overfull.{IsFirstOverfull}
use Rattle.csn_resolve.specs.Resolved.{ResolveSteps, asked_unknown, asked_rule, nodes_of, AreRefusals, IsRefused, refused_on_walk, refused_at_last, IsResolved}
use Rattle.csn_resolve.specs.Counts.{Narrow, CountSteps, count_number, count_unknown, count_wide, count_narrow}
use Rattle.csn_resolve.specs.Gives.{Placed, start_of}
use Rattle.csn_resolve.specs.Walk.{Around, inside, in_turn, putting_in, outermost, PartLeft, ItemLeft, BranchLeft}
use Rattle.csn_resolve.specs.Walk.{TurnLeft, is_refused, is_accepted, left_plain, left_error, left_sendable, Walk}
use Rattle.csn_resolve.specs.Walk.{ItemsWalk, BranchesWalk, RuleWalk, walk_lits, walk_null, walk_bit, walk_octet}
use Rattle.csn_resolve.specs.Walk.{walk_field, walk_rest, walk_built_in, walk_undefined, walk_recursive, walk_name}
use Rattle.csn_resolve.specs.Walk.{walk_group, walk_labelled, walk_seq, walk_choice, walk_times, walk_many, walk_cut}
use Rattle.csn_resolve.specs.Walk.{walk_window, walk_window_behind, walk_no_window, walk_sends, items_end, items_next}
use Rattle.csn_resolve.specs.Walk.{branches_end, branches_next, rule_plain, rule_tail, Refuses}
use Rattle.csn_resolve.proofs.Giving.Once.{same_tail, name_once}
use Rattle.csn_resolve.proofs.Basics.Bools.{no_both}

no_none : {o : Option Rule} {rule : Rule} → o ≡ Some rule → o ≡ None → ⊥
no_none p q = cc

same_width : (x : ExprV) {w v : WidthV} → width_of x ≡ Some w → width_of x ≡ Some v → w ≡ v
same_width x p q = cc

no_width : (x : ExprV) {w : WidthV} → width_of x ≡ Some w → width_of x ≡ None → ⊥
no_width x p q = cc

same_seen :
    (seen : Seen ExprV) (label : List ℕ) {x y : ExprV}
    → seen_of seen label ≡ Some x → seen_of seen label ≡ Some y → x ≡ y
same_seen seen label p q = cc

no_first : {first : Refusal} {others : List Refusal} → first ∷ others ≡ [] → ⊥
no_first p = cc

same_head :
    {first second : Refusal} {others more : List Refusal}
    → first ∷ others ≡ second ∷ more → first ≡ second
same_head p = cc

same_first :
    {why other_why : Why} {place other_place : ℕ} {others more : List Refusal}
    → record { why = why; place = place } ∷ others ≡ record { why = other_why; place = other_place } ∷ more
    → (why ≡ other_why) × (place ≡ other_place)
same_first p = let same = same_head p in (ap (λ z. z.why) same, ap (λ z. z.place) same)

refuses_once : {P : Type 0} {why : Why} {place : ℕ} {steps others : List Step} → Refuses P why place steps → Refuses P why place others → steps ≡ others
refuses_once (is_refused h p) (is_refused g q) = cc
refuses_once (is_refused h p) (is_accepted none q) = absurd (none h)
refuses_once (is_accepted none p) (is_refused g q) = absurd (none g)
refuses_once (is_accepted none p) (is_accepted other q) = cc

module _ (rules : RulesV) (r : Reading) where
  count_once :
      {seen : Seen ExprV} {place : ℕ} {k : Exponent} {steps others : List Step}
      → CountSteps rules r seen place k steps → CountSteps rules r seen place k others → steps ≡ others
  count_once (count_number p) (count_number q) = cc
  count_once (count_unknown none p) (count_unknown none' q) = cc
  count_once (count_unknown none p) (count_wide y is wide q) = cc
  count_once (count_unknown none p) (count_narrow y is narrow q) = cc
  count_once (count_wide x is wide p) (count_unknown none q) = cc
  count_once (count_wide x is wide p) (count_wide y is' wide' q) = cc
  count_once {seen} (count_wide {label = label} x is wide p) (count_narrow y is' narrow q) =
      let P : ExprV → Type 0 = λ z. Narrow rules r z in
      absurd (wide (subst P (same_seen seen label is' is) narrow))
  count_once (count_narrow x is narrow p) (count_unknown none q) = cc
  count_once {seen} (count_narrow {label = label} x is narrow p) (count_wide y is' wide q) =
      let P : ExprV → Type 0 = λ z. Narrow rules r z in
      absurd (wide (subst P (same_seen seen label is is') narrow))
  count_once (count_narrow x is narrow p) (count_narrow y is' narrow' q) = cc

  item_left_once :
      (full : Bool) (x : ExprV) {steps others : List Step}
      → ItemLeft rules r full x steps → ItemLeft rules r full x others → steps ≡ others
  item_left_once false x p q = p ∙ sym q
  item_left_once true x left left' = refuses_once left left'

  branch_left_once :
      {error : Bool} {x : ExprV} {steps others : List Step}
      → BranchLeft rules r error x steps → BranchLeft rules r error x others → steps ≡ others
  branch_left_once (left_plain p) (left_plain q) = cc
  branch_left_once (left_error v p) (left_error v' q) = cc
  branch_left_once (left_error v p) (left_sendable full q) = absurd (full v)
  branch_left_once (left_sendable full p) (left_error v q) = absurd (full v)
  branch_left_once (left_sendable full p) (left_sendable full' q) = cc

  mutual
    pub walk_once :
        {a : Around} {x : ExprV} {steps others : List Step}
        → Walk rules r a x steps → Walk rules r a x others → steps ≡ others
    walk_once (walk_lits p) (walk_lits q) = p ∙ sym q
    walk_once (walk_null p) (walk_null q) = p ∙ sym q
    walk_once (walk_bit p) (walk_bit q) = p ∙ sym q
    walk_once (walk_octet p) (walk_octet q) = p ∙ sym q
    walk_once (walk_field unit c p) (walk_field unit' d q) = let counts = count_once c d in cc
    walk_once (walk_field unit c p) (walk_rest is q) = elim c [ ]
    walk_once (walk_field unit c p) (walk_times none d h left q) = cc
    walk_once (walk_field unit c p) (walk_many is h left q) = elim c [ ]
    walk_once (walk_rest is p) (walk_field unit d q) = elim d [ ]
    walk_once (walk_rest is p) (walk_rest is' q) = p ∙ sym q
    walk_once (walk_rest is p) (walk_times none d g left q) = elim d [ ]
    walk_once (walk_rest is p) (walk_many not g left q) = absurd (no_both is not)
    walk_once (walk_times none c h left p) (walk_field unit d q) = cc
    walk_once (walk_times none c h left p) (walk_rest is q) = elim c [ ]
    walk_once (walk_times none c h left p) (walk_times none' d g left' q) =
        let counts = count_once c d in let inner = walk_once h g in let lefts = refuses_once left left' in cc
    walk_once (walk_times none c h left p) (walk_many not g left' q) = elim c [ ]
    walk_once (walk_many not h left p) (walk_field unit d q) = elim d [ ]
    walk_once (walk_many not h left p) (walk_rest is q) = absurd (no_both is not)
    walk_once (walk_many not h left p) (walk_times none d g left' q) = elim d [ ]
    walk_once (walk_many not h left p) (walk_many not' g left' q) =
        let inner = walk_once h g in let lefts = refuses_once left left' in cc
    walk_once (walk_built_in is p) (walk_built_in is' q) = p ∙ sym q
    walk_once (walk_built_in is p) (walk_undefined not none q) = absurd (no_both is not)
    walk_once (walk_built_in {n = n} is p) (walk_recursive rule at among q) = absurd (no_rule rules n rule is at)
    walk_once (walk_built_in {n = n} is p) (walk_name rule at new g q) = absurd (no_rule rules n rule is at)
    walk_once (walk_undefined not none p) (walk_built_in is q) = absurd (no_both is not)
    walk_once (walk_undefined not none p) (walk_undefined not' none' q) = p ∙ sym q
    walk_once (walk_undefined not none p) (walk_recursive rule at among q) = absurd (no_none at none)
    walk_once (walk_undefined not none p) (walk_name rule at new g q) = absurd (no_none at none)
    walk_once (walk_recursive {n = n} rule at among p) (walk_built_in is q) = absurd (no_rule rules n rule is at)
    walk_once (walk_recursive rule at among p) (walk_undefined not none q) = absurd (no_none at none)
    walk_once (walk_recursive rule at among p) (walk_recursive rule' at' among' q) = p ∙ sym q
    walk_once (walk_recursive rule at among p) (walk_name rule' at' new g q) = absurd (no_both among new)
    walk_once (walk_name {n = n} rule at new h p) (walk_built_in is q) = absurd (no_rule rules n rule is at)
    walk_once (walk_name rule at new h p) (walk_undefined not none q) = absurd (no_none at none)
    walk_once (walk_name rule at new h p) (walk_recursive rule' at' among q) = absurd (no_both among new)
    walk_once {a} (walk_name {n = n} rule at new h p) (walk_name {inner = inner} rule' at' new' g q) =
        let Q : Rule → Type 0 = λ z. RuleWalk rules r (putting_in n a) z inner in
        let same = rule_walk_once h (subst Q (same_rule rules n at' at) g) in cc
    walk_once (walk_group h p) (walk_group g q) = let inner = walk_once h g in cc
    walk_once (walk_labelled h p) (walk_labelled g q) = let inner = walk_once h g in cc
    walk_once (walk_seq h p) (walk_seq g q) = let inner = items_walk_once h g in cc
    walk_once (walk_choice h p) (walk_choice g q) = let inner = branches_walk_once h g in cc
    walk_once (walk_cut h p) (walk_cut g q) = let inner = items_walk_once h g in cc
    walk_once {a} (walk_window {x = x} w is c h p) (walk_window {counts = counts} v is' d g q) =
        let Q : WidthV → Type 0 = λ z. CountSteps rules r a.seen (start_of x) z.count counts in
        let count = count_once c (subst Q (same_width x is' is) d) in let inner = walk_once h g in cc
    walk_once (walk_window {x = x} w is c h p) (walk_window_behind v none is' g d q) = absurd (no_width x is none)
    walk_once (walk_window {x = x} w is c h p) (walk_no_window none none' g g' q) = absurd (no_width x is none)
    walk_once (walk_window_behind {x = x} w none is h c p) (walk_window v is' d g q) = absurd (no_width x is' none)
    walk_once {a} (walk_window_behind {y = y} w none is h c p) (walk_window_behind {counts = counts} v none' is' g d q) =
        let Q : WidthV → Type 0 = λ z. CountSteps rules r a.seen (start_of y) z.count counts in
        let count = count_once c (subst Q (same_width y is' is) d) in let inner = walk_once h g in cc
    walk_once (walk_window_behind {y = y} w none is h c p) (walk_no_window none' none'' g g' q) = absurd (no_width y is none'')
    walk_once (walk_no_window {x = x} none none' h h' p) (walk_window v is d g q) = absurd (no_width x is none)
    walk_once (walk_no_window {y = y} none none' h h' p) (walk_window_behind v none'' is g d q) = absurd (no_width y is none')
    walk_once (walk_no_window none none' h h' p) (walk_no_window none'' none''' g g' q) =
        let left = walk_once h g in let right = walk_once h' g' in cc
    walk_once (walk_sends h h' p) (walk_sends g g' q) = let left = walk_once h g in let right = walk_once h' g' in cc

    items_walk_once :
        {full : Bool} {a : Around} {frame : Frame ExprV} {xs : ExprsV} {steps others : List Step}
        → ItemsWalk rules r full a frame xs steps → ItemsWalk rules r full a frame xs others → steps ≡ others
    items_walk_once (items_end p) (items_end q) = p ∙ sym q
    items_walk_once {full} (items_next {x = x} _ h left more p) (items_next _ g left' gmore q) =
        let first = walk_once h g in let lefts = item_left_once full x left left' in
        let rest = items_walk_once more gmore in cc

    branches_walk_once :
        {a : Around} {bs : BranchesV} {steps others : List Step}
        → BranchesWalk rules r a bs steps → BranchesWalk rules r a bs others → steps ≡ others
    branches_walk_once (branches_end p) (branches_end q) = p ∙ sym q
    branches_walk_once (branches_next h left more p) (branches_next g left' gmore q) =
        let first = walk_once h g in let lefts = branch_left_once left left' in
        let rest = branches_walk_once more gmore in cc

    pub rule_walk_once :
        {a : Around} {rule : Rule} {steps others : List Step}
        → RuleWalk rules r a rule steps → RuleWalk rules r a rule others → steps ≡ others
    rule_walk_once (rule_plain is h) (rule_plain is' g) = walk_once h g
    rule_walk_once (rule_plain is h) (rule_tail tail is' i t left p) = cc
    rule_walk_once (rule_tail tail is i t left p) (rule_plain is' g) = cc
    rule_walk_once {a} {rule} (rule_tail tail is i t left p) (rule_tail {items = items} {turn = turn} {left = lefts} tail' is' i' t' left' q) =
        let same : tail' ≡ tail = same_tail rule is' is in
        let Items : TailV → Type 0 = λ z. ItemsWalk rules r false (inside a) [] z.items items in
        let Turn : TailV → Type 0 = λ z. ItemsWalk rules r false (in_turn (inside a)) [] z.items turn in
        let Left : TailV → Type 0 = λ z. TurnLeft rules r z lefts in
        let first = items_walk_once i (subst Items same i') in
        let second = items_walk_once t (subst Turn same t') in
        let third = refuses_once left (subst Left same left') in
        cc

  steps_once :
      {n : List ℕ} {steps others : List Step}
      → ResolveSteps rules n r steps → ResolveSteps rules n r others → steps ≡ others
  steps_once (asked_unknown none p) (asked_unknown none' q) = p ∙ sym q
  steps_once (asked_unknown none p) (asked_rule rule is h left q) = absurd (no_none is none)
  steps_once (asked_rule rule is h left p) (asked_unknown none q) = absurd (no_none is none)
  steps_once {n} (asked_rule rule is h left p) (asked_rule {walk = walk} {left = lefts} rule' is' g left' q) =
      let same : rule' ≡ rule = same_rule rules n is' is in
      let Walks : Rule → Type 0 = λ z. RuleWalk rules r (outermost n) z walk in
      let Left : Rule → Type 0 = λ z. PartLeft rules r z.body lefts in
      let first = rule_walk_once h (subst Walks same g) in
      let second = refuses_once left (subst Left same left') in
      cc

  -- a description has one first field with 64 such fields before it
  first_once :
      {nodes others : List Placed} {i j : ℕ}
      → nodes ≡ others → IsFirstOverfull (nodes_of nodes) i → IsFirstOverfull (nodes_of others) j → i ≡ j
  first_once {nodes} {others} {i} {j} same h g =
      let Q : List Placed → Type 0 = λ z. IsFirstOverfull (nodes_of z) j in
      let along : IsFirstOverfull (nodes_of nodes) j = subst Q (sym same) g in
      omega (arith, h.first j along.overfull, along.first i h.overfull)

  pub refusals_once :
      {n : List ℕ} {refusals others : List Refusal}
      → AreRefusals rules n r refusals → AreRefusals rules n r others → refusals ≡ others
  refusals_once h g =
      let steps = steps_once h.walked g.walked in let p = h.are in let q = g.are in cc

  pub refused_once :
      {n : List ℕ} {why other_why : Why} {place other_place : ℕ}
      → IsRefused rules n r why place → IsRefused rules n r other_why other_place
      → (why ≡ other_why) × (place ≡ other_place)
  refused_once (refused_on_walk others h) (refused_on_walk gothers g) = same_first (refusals_once h g)
  refused_once (refused_on_walk others h) (refused_at_last nodes i field accepted given first at p q) =
      absurd (no_first (refusals_once h accepted))
  refused_once (refused_at_last nodes i field accepted given first at p q) (refused_on_walk others h) =
      absurd (no_first (refusals_once h accepted))
  refused_once (refused_at_last nodes i field accepted given first at p q)
      (refused_at_last others j field' accepted' given' first' at' p' q') =
      let same : nodes ≡ others = name_once rules r given given' in
      let one : i ≡ j = first_once same first first' in
      (cc, cc)

  pub not_both :
      {n : List ℕ} {why : Why} {place : ℕ} {d : DescV}
      → IsRefused rules n r why place → IsResolved rules n r d → ⊥
  not_both (refused_on_walk others h) g = no_first (refusals_once h g.accepted)
  not_both (refused_at_last nodes i field accepted given first at p q) g =
      let P : List Placed → Type 0 = λ z. IsFirstOverfull (nodes_of z) i in
      let moved = subst P (name_once rules r given g.given) first in
      g.not_overfull i moved.overfull
