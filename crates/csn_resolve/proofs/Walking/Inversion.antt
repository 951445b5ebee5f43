-- What the steps of a walk are, by what is walked through.
use Rattle.std.proofs.Common.{◌≡◌, ℕ, Bool, true, false, List, [], ◌∷◌, ◌++◌, append-nil, Result, Ok, Err, refl, sym, ◌∙◌, ap, subst, Option, Some, None}
use Rattle.std.specs.Prelude.{is_some}
use Rattle.csn_desc.specs.declared.reading.Reading.{Reading}
use Rattle.csn_desc.specs.declared.symbol.Symbol.{Symbol}
use Rattle.csn_grammar.specs.declared.exponent.Exponent.{Exponent}
use Rattle.csn_grammar.specs.declared.exponent.Exponent.TheVariants.{Any, Number, Linear}
use Rattle.csn_grammar.specs.declared.rules.Rule.{Rule}
use Rattle.csn_grammar.specs.ExprV.{ExprV, expr, lits, null, bit, octet, name, labelled, group, seq, choice, power}
use Rattle.csn_grammar.specs.ExprV.{cut, both, sends, ExprsV, no_item, item, BranchesV, no_branch, branch}
use Rattle.csn_grammar.specs.RulesV.{RulesV}
use Rattle.csn_grammar.specs.Names.{is_built_in, rule_of}
use Rattle.csn_grammar.specs.Forms.{WidthV, width_of}
use Rattle.csn_grammar.specs.Environment.{label_of}
use Rattle.csn_grammar.specs.TailForm.{TailV, tail_of}
use Rattle.csn_grammar.proofs.VoidFacts.{no_rule, same_rule}
use Rattle.csn_resolve.specs.declared.fault.ResolveFault.{ResolveFault}
use Rattle.csn_resolve.specs.declared.why.Why.TheVariants.{Undefined, Recursive, IntersectionForm}
use Rattle.csn_resolve.specs.Seen.{Frame, Seen, with_labelled, inner_of}
use Rattle.csn_resolve.specs.Gives.{start_of}
use Rattle.csn_resolve.specs.Steps.{Step, refused}
use Rattle.csn_resolve.specs.Counts.{CountSteps}
use Rattle.csn_resolve.specs.Walk.{Around, inside, putting_in, behind, in_turn, is_among, entering, node_at}
use Rattle.csn_resolve.specs.Walk.{turn_begun, PartLeft, ItemLeft, BranchLeft, TurnLeft, Walk, ItemsWalk}
use Rattle.csn_resolve.specs.Walk.{BranchesWalk, RuleWalk, walk_lits, walk_null, walk_bit, walk_octet, walk_field}
use Rattle.csn_resolve.specs.Walk.{walk_rest, walk_built_in, walk_undefined, walk_recursive, walk_name, walk_group}
use Rattle.csn_resolve.specs.Walk.{walk_labelled, walk_seq, walk_choice, walk_times, walk_many, walk_cut, walk_window}
use Rattle.csn_resolve.specs.Walk.{walk_window_behind, walk_no_window, walk_sends, items_end, items_next}
use Rattle.csn_resolve.specs.Walk.{branches_end, branches_next, rule_plain, rule_tail}
use Rattle.csn_resolve.specs.Going.{gone, way, Stops, NumberGoes, LeafGoes}
use Rattle.csn_resolve.proofs.Walking.GoingFacts.{stops-later, stops-same, stops-second, way-on, way-third}
use Rattle.csn_resolve.proofs.Giving.Once.{same_tail}
use Rattle.csn_resolve.proofs.Basics.Bools.{no_both}
use Rattle.csn_resolve.proofs.Basics.Options.{no_none}

stops-in-second :
    (begun after : ℕ) (first second steps : List Step) (fault : ResolveFault)
    → steps ≡ first ++ second → way begun first ≡ gone after → Stops (way after second) fault → Stops (way begun steps) fault
stops-in-second begun after first second steps fault is p h = stops-same fault (ap (way begun) is) (stops-later begun after first second fault p h)

-- the steps are these, and then those of what is inside
abbrev pub GoesIn : List Step → (List Step → Type 0) → List Step → Type 0
GoesIn front IsInner steps = (inner : List Step) × IsInner inner × (steps ≡ front ++ inner)

module _ (rules : RulesV) (r : Reading) where
  -- ---- an expression

  pub lits-steps : {a : Around} {s e : ℕ} {run : List Symbol} {steps : List Step} → Walk rules r a (expr s e (lits run)) steps → steps ≡ node_at a s
  lits-steps (walk_lits p) = p

  pub null-steps : {a : Around} {s e : ℕ} {steps : List Step} → Walk rules r a (expr s e null) steps → steps ≡ node_at a s
  null-steps (walk_null p) = p

  pub bit-steps : {a : Around} {s e : ℕ} {steps : List Step} → Walk rules r a (expr s e bit) steps → steps ≡ node_at a s
  bit-steps (walk_bit p) = p

  pub octet-steps : {a : Around} {s e : ℕ} {steps : List Step} → Walk rules r a (expr s e octet) steps → steps ≡ node_at a s
  octet-steps (walk_octet p) = p

  pub labelled-steps : {a : Around} {s e : ℕ} {label : List ℕ} {x : ExprV} {steps : List Step}
      → Walk rules r a (expr s e (labelled label x)) steps → GoesIn (node_at a s) (Walk rules r (inside a) x) steps
  labelled-steps (walk_labelled h p) = (_, h, p)

  pub group-steps : {a : Around} {s e : ℕ} {x : ExprV} {steps : List Step} → Walk rules r a (expr s e (group x)) steps
      → GoesIn (entering a s) (Walk rules r (inside a) x) steps
  group-steps (walk_group h p) = (_, h, p)

  pub seq-steps : {a : Around} {s e : ℕ} {xs : ExprsV} {steps : List Step} → Walk rules r a (expr s e (seq xs)) steps
      → GoesIn (node_at a s) (ItemsWalk rules r false (inside a) [] xs) steps
  seq-steps (walk_seq h p) = (_, h, p)

  pub choice-steps : {a : Around} {s e : ℕ} {bs : BranchesV} {steps : List Step}
      → Walk rules r a (expr s e (choice bs)) steps → GoesIn (node_at a s) (BranchesWalk rules r (inside a) bs) steps
  choice-steps (walk_choice h p) = (_, h, p)

  pub cut-steps : {a : Around} {s e : ℕ} {xs : ExprsV} {steps : List Step} → Walk rules r a (expr s e (cut xs)) steps
      → GoesIn (node_at a s) (ItemsWalk rules r true (inside a) [] xs) steps
  cut-steps (walk_cut h p) = (_, h, p)

  pub sends-steps :
      {a : Around} {s e : ℕ} {x y : ExprV} {steps : List Step} → Walk rules r a (expr s e (sends x y)) steps
      → (left : List Step) × (right : List Step) × Walk rules r a x left × Walk rules r a y right × (steps ≡ left ++ right)
  sends-steps (walk_sends h g p) = (_, _, h, g, p)

  -- ---- names

  pub built-in-steps :
      {a : Around} {s e : ℕ} (n : List ℕ) {steps : List Step} → is_built_in n ≡ true → Walk rules r a (expr s e (name n)) steps
      → steps ≡ node_at a s
  built-in-steps n is (walk_built_in is' p) = p
  built-in-steps n is (walk_undefined not none p) = absurd (no_both is not)
  built-in-steps n is (walk_recursive rule at among p) = absurd (no_rule rules n rule is at)
  built-in-steps n is (walk_name rule at new h p) = absurd (no_rule rules n rule is at)

  pub name-steps :
      {a : Around} {s e : ℕ} (n : List ℕ) {steps : List Step} → is_built_in n ≡ false → Walk rules r a (expr s e (name n)) steps
      → (rest : List Step) × (steps ≡ entering a s ++ rest)
  name-steps n not (walk_built_in is p) = absurd (no_both is not)
  name-steps n not (walk_undefined not' none p) = (_, p)
  name-steps n not (walk_recursive rule at among p) = (_, p)
  name-steps n not (walk_name rule at new h p) = (_, p)

  pub undefined-steps :
      {a : Around} {s e : ℕ} (n : List ℕ) {steps : List Step} → is_built_in n ≡ false → rule_of rules n ≡ None
      → Walk rules r a (expr s e (name n)) steps → steps ≡ entering a s ++ refused Undefined s ∷ []
  undefined-steps n not none (walk_built_in is p) = absurd (no_both is not)
  undefined-steps n not none (walk_undefined not' none' p) = p
  undefined-steps n not none (walk_recursive rule at among p) = absurd (no_none at none)
  undefined-steps n not none (walk_name rule at new h p) = absurd (no_none at none)

  pub recursive-steps :
      {a : Around} {s e : ℕ} (n : List ℕ) (rule : Rule) {steps : List Step} → is_built_in n ≡ false → rule_of rules n ≡ Some rule
      → is_among n a.names ≡ true → Walk rules r a (expr s e (name n)) steps → steps ≡ entering a s ++ refused Recursive s ∷ []
  recursive-steps n rule not at among (walk_built_in is p) = absurd (no_both is not)
  recursive-steps n rule not at among (walk_undefined not' none p) = absurd (no_none at none)
  recursive-steps n rule not at among (walk_recursive other at' among' p) = p
  recursive-steps n rule not at among (walk_name other at' new h p) = absurd (no_both among new)

  pub rule-steps :
      {a : Around} {s e : ℕ} (n : List ℕ) (rule : Rule) {steps : List Step} → is_built_in n ≡ false → rule_of rules n ≡ Some rule
      → is_among n a.names ≡ false → Walk rules r a (expr s e (name n)) steps
      → (inner : List Step) × RuleWalk rules r (putting_in n a) rule inner × (steps ≡ entering a s ++ inner)
  rule-steps n rule not at new (walk_built_in is p) = absurd (no_both is not)
  rule-steps n rule not at new (walk_undefined not' none p) = absurd (no_none at none)
  rule-steps n rule not at new (walk_recursive other at' among p) = absurd (no_both among new)
  rule-steps {a} n rule not at new (walk_name {inner = inner} other at' new' h p) =
      let Q : Rule → Type 0 = λ z. RuleWalk rules r (putting_in n a) z inner in
      (inner, subst Q (same_rule rules n at' at) h, p)

  -- ---- a part with an exponent

  pub power-steps :
      {a : Around} {s e : ℕ} {x : ExprV} {k : Exponent} {steps : List Step} → Walk rules r a (expr s e (power x k)) steps
      → (rest : List Step) × (steps ≡ node_at a s ++ rest)
  power-steps (walk_field unit c p) = (_, p)
  power-steps (walk_rest is p) = ([], p ∙ sym (append-nil _))
  power-steps (walk_times none c h left p) = (_, p)
  power-steps (walk_many not h left p) = (_, p)

  -- ---- windows

  pub both-steps :
      {a : Around} {s e : ℕ} {x y : ExprV} {steps : List Step} → Walk rules r a (expr s e (both x y)) steps
      → (rest : List Step) × (steps ≡ node_at a s ++ rest)
  both-steps (walk_window w is c h p) = (_, p)
  both-steps (walk_window_behind w none is h c p) = (_, p)
  both-steps (walk_no_window none none' h g p) = (_, p)

  pub window-steps :
      {a : Around} {s e : ℕ} {x y : ExprV} (w : WidthV) {steps : List Step} → width_of x ≡ Some w → Walk rules r a (expr s e (both x y)) steps
      → (counts : List Step) × (inner : List Step) × CountSteps rules r a.seen (start_of x) w.count counts
      × Walk rules r (inside a) y inner × (steps ≡ node_at a s ++ (counts ++ inner))
  window-steps {a} {x = x} w at (walk_window {counts = counts} v is c h p) =
      let same : v ≡ w = cc in
      let Q : WidthV → Type 0 = λ z. CountSteps rules r a.seen (start_of x) z.count counts in
      (counts, _, subst Q same c, h, p)
  window-steps w at (walk_window_behind v none is h c p) = absurd (no_none at none)
  window-steps w at (walk_no_window none none' h g p) = absurd (no_none at none)

  pub window-behind-steps :
      {a : Around} {s e : ℕ} {x y : ExprV} (w : WidthV) {steps : List Step} → width_of x ≡ None → width_of y ≡ Some w
      → Walk rules r a (expr s e (both x y)) steps
      → (inner : List Step) × (counts : List Step) × Walk rules r (inside a) x inner
      × CountSteps rules r a.seen (start_of y) w.count counts × (steps ≡ node_at a s ++ (inner ++ counts))
  window-behind-steps w none at (walk_window v is c h p) = absurd (no_none is none)
  window-behind-steps {a} {y = y} w none at (walk_window_behind {counts = counts} v none' is h c p) =
      let same : v ≡ w = cc in
      let Q : WidthV → Type 0 = λ z. CountSteps rules r a.seen (start_of y) z.count counts in
      (_, counts, h, subst Q same c, p)
  window-behind-steps w none at (walk_no_window none' none'' h g p) = absurd (no_none at none'')

  pub no-window-steps :
      {a : Around} {s e : ℕ} {x y : ExprV} {steps : List Step} → width_of x ≡ None → width_of y ≡ None
      → Walk rules r a (expr s e (both x y)) steps
      → (rest : List Step) × (steps ≡ node_at a s ++ refused IntersectionForm (start_of x) ∷ rest)
  no-window-steps none none' (walk_window w is c h p) = absurd (no_none is none)
  no-window-steps none none' (walk_window_behind w none'' is h c p) = absurd (no_none is none')
  no-window-steps none none' (walk_no_window p q h g steps) = (_, steps)

  -- ---- items, alternatives, rules

  pub items-end-steps : {full : Bool} {a : Around} {frame : Frame ExprV} {steps : List Step} → ItemsWalk rules r full a frame no_item steps → steps ≡ []
  items-end-steps (items_end p) = p

  pub items-next-steps :
      {full : Bool} {a : Around} {frame : Frame ExprV} {x : ExprV} {xs : ExprsV} {steps : List Step} → ItemsWalk rules r full a frame (item x xs) steps
      → (first : List Step) × (left : List Step) × (rest : List Step) × Walk rules r (behind frame a) x first × ItemLeft rules r full x left
      × ItemsWalk rules r full a (with_labelled (label_of r x) (inner_of r x) frame) xs rest × (steps ≡ first ++ (left ++ rest))
  items-next-steps (items_next left h none more p) = (_, left, _, h, none, more, p)

  pub branches-end-steps : {a : Around} {steps : List Step} → BranchesWalk rules r a no_branch steps → steps ≡ []
  branches-end-steps (branches_end p) = p

  pub branches-next-steps :
      {a : Around} {error : Bool} {x : ExprV} {bs : BranchesV} {steps : List Step} → BranchesWalk rules r a (branch error x bs) steps
      → (first : List Step) × (left : List Step) × (rest : List Step) × Walk rules r a x first × BranchLeft rules r error x left
      × BranchesWalk rules r a bs rest × (steps ≡ first ++ (left ++ rest))
  branches-next-steps (branches_next h left more p) = (_, _, _, h, left, more, p)

  pub plain-steps : {a : Around} {rule : Rule} {steps : List Step} → tail_of rule ≡ None → RuleWalk rules r a rule steps → Walk rules r a rule.body steps
  plain-steps none (rule_plain is h) = h
  plain-steps none (rule_tail tail is i t left p) = absurd (no_none is none)

  -- the steps through a rule in tail form, from its node at `place` on, where `inner` stands inside it
  abbrev pub TailSteps : Around → ℕ → Around → TailV → List Step → Type 0
  TailSteps a place inner tail steps =
      (items : List Step) × (turn : List Step) × (left : List Step) × ItemsWalk rules r false inner [] tail.items items
      × ItemsWalk rules r false (in_turn inner) [] tail.items turn × TurnLeft rules r tail left
      × (steps ≡ node_at a place ++ (items ++ (turn_begun inner tail.end ++ (turn ++ (left ++ node_at inner tail.end.stop.at)))))

  pub tail-steps :
      {a : Around} {rule : Rule} (tail : TailV) {steps : List Step} → tail_of rule ≡ Some tail → RuleWalk rules r a rule steps
      → TailSteps a (start_of rule.body) (inside a) tail steps
  tail-steps tail at (rule_plain none h) = absurd (no_none at none)
  tail-steps {a} {rule} tail at (rule_tail {items = items} {turn = turn} {left = lefts} other is i t left p) =
      let same : other ≡ tail = same_tail rule is at in
      let Items : TailV → Type 0 = λ z. ItemsWalk rules r false (inside a) [] z.items items in
      let Turn : TailV → Type 0 = λ z. ItemsWalk rules r false (in_turn (inside a)) [] z.items turn in
      let Left : TailV → Type 0 = λ z. TurnLeft rules r z lefts in
      (items, turn, lefts, subst Items same i, subst Turn same t, subst Left same left, cc)

  -- ---- the same, in what is round

  pub as-form : {a : Around} {x y : ExprV} {steps : List Step} → x ≡ y → Walk rules r a x steps → Walk rules r a y steps
  as-form {a} {steps = steps} p h = let Q : ExprV → Type 0 = λ z. Walk rules r a z steps in subst Q p h

  pub walk-in : {a b : Around} {x : ExprV} {steps : List Step} → b ≡ a → Walk rules r a x steps → Walk rules r b x steps
  walk-in {x = x} {steps = steps} p h = let Q : Around → Type 0 = λ z. Walk rules r z x steps in subst Q (sym p) h

  pub branches-in :
      {a b : Around} {bs : BranchesV} {steps : List Step} → b ≡ a → BranchesWalk rules r a bs steps → BranchesWalk rules r b bs steps
  branches-in {bs = bs} {steps = steps} p h = let Q : Around → Type 0 = λ z. BranchesWalk rules r z bs steps in subst Q (sym p) h

  pub items-like :
      {full : Bool} {a b : Around} {frame other : Frame ExprV} {xs ys : ExprsV} {steps : List Step} → b ≡ a → other ≡ frame → xs ≡ ys
      → ItemsWalk rules r full a frame xs steps → ItemsWalk rules r full b other ys steps
  items-like p q e h = rw (p, q, ← e) h

  pub branches-as :
      {a : Around} {bs cs : BranchesV} {steps : List Step} → bs ≡ cs → BranchesWalk rules r a bs steps → BranchesWalk rules r a cs steps
  branches-as {a} {steps = steps} p h = let Q : BranchesV → Type 0 = λ z. BranchesWalk rules r a z steps in subst Q p h

  pub count-at :
      {seen : Seen ExprV} {place other : ℕ} {k : Exponent} {steps : List Step} → place ≡ other
      → CountSteps rules r seen place k steps → CountSteps rules r seen other k steps
  count-at {seen} {k = k} {steps = steps} p h = let Q : ℕ → Type 0 = λ z. CountSteps rules r seen z k steps in subst Q p h

  pub tail-steps-at :
      {a : Around} {rule : Rule} (tail : TailV) (inner : Around) (place : ℕ) {steps : List Step} → tail_of rule ≡ Some tail
      → start_of rule.body ≡ place → inner ≡ inside a → RuleWalk rules r a rule steps → TailSteps a place inner tail steps
  tail-steps-at {a} tail inner place {steps} at start is h =
      let P : ℕ → Type 0 = λ z. TailSteps a z (inside a) tail steps in
      let Q : Around → Type 0 = λ z. TailSteps a place z tail steps in
      subst Q (sym is) (subst P start (tail-steps tail at h))

  -- ---- a part with an exponent, where the exponent was checked

  -- an exponent that counts asks no more than its number does
  pub number-leaf :
      (seen : Seen ExprV) (place : ℕ) (x : ExprV) (k : Exponent) (answer : Result Bool ResolveFault) → (k ≡ Any → ⊥)
      → NumberGoes rules r seen place x k answer → LeafGoes rules r seen place x k answer
  number-leaf seen place x Any answer other h = absurd (other refl)
  number-leaf seen place x (Number n) answer other h = h
  number-leaf seen place x (Linear m label c) answer other h = h

  same-answer : {b c : Bool} → ◌≡◌ {A = Result Bool ResolveFault} (Ok b) (Ok c) → b ≡ c
  same-answer p = cc

  no-answer : {b : Bool} {fault : ResolveFault} → ◌≡◌ {A = Result Bool ResolveFault} (Err fault) (Ok b) → ⊥
  no-answer p = cc

  pub power-stop :
      {a : Around} {s e : ℕ} {x : ExprV} (k : Exponent) {steps : List Step} (begun after : ℕ) (fault : ResolveFault)
      → LeafGoes rules r a.seen s x k (Err fault) → way begun (node_at a s) ≡ gone after → Walk rules r a (expr s e (power x k)) steps
      → Stops (way begun steps) fault
  power-stop Any begun after fault leaf p h = absurd (no-answer leaf)
  power-stop {a} {s} (Number n) {steps} begun after fault leaf p (walk_field {counts = counts} unit c is) =
      stops-in-second begun after (node_at a s) counts steps fault is p (leaf counts c after)
  power-stop {a} {s} (Number n) {steps} begun after fault leaf p (walk_times {counts = counts} none c h left is) =
      stops-second begun after (node_at a s) counts _ steps fault is p (leaf counts c after)
  power-stop {a} {s} (Linear m label d) {steps} begun after fault leaf p (walk_field {counts = counts} unit c is) =
      stops-in-second begun after (node_at a s) counts steps fault is p (leaf counts c after)
  power-stop {a} {s} (Linear m label d) {steps} begun after fault leaf p (walk_times {counts = counts} none c h left is) =
      stops-second begun after (node_at a s) counts _ steps fault is p (leaf counts c after)

  is-some : {A : Type 0} {o : Option A} {x : A} → o ≡ Some x → is_some o ≡ true
  is-some p = cc

  is-none : {A : Type 0} {o : Option A} → o ≡ None → is_some o ≡ false
  is-none p = cc

  pub power-leaf :
      {a : Around} {s e : ℕ} {x : ExprV} (k : Exponent) {steps : List Step} (begun after : ℕ)
      → LeafGoes rules r a.seen s x k (Ok true) → way begun (node_at a s) ≡ gone after → Walk rules r a (expr s e (power x k)) steps
      → way begun steps ≡ gone after
  power-leaf Any begun after leaf p (walk_field unit c is) = elim c [ ]
  power-leaf Any begun after leaf p (walk_rest one is) = ap (way begun) is ∙ p
  power-leaf Any begun after leaf p (walk_times none c h left is) = elim c [ ]
  power-leaf Any begun after leaf p (walk_many not h left is) = absurd (no_both (sym (same-answer leaf)) not)
  power-leaf {a} {s} (Number n) begun after leaf p (walk_field {counts = counts} unit c is) =
      ap (way begun) is ∙ (way-on begun after (node_at a s) counts p ∙ (leaf counts c).1 after)
  power-leaf (Number n) begun after leaf p (walk_times none c h left is) = absurd (no_both (sym (leaf _ c).0) (is-none none))
  power-leaf {a} {s} (Linear m label d) begun after leaf p (walk_field {counts = counts} unit c is) =
      ap (way begun) is ∙ (way-on begun after (node_at a s) counts p ∙ (leaf counts c).1 after)
  power-leaf (Linear m label d) begun after leaf p (walk_times none c h left is) = absurd (no_both (sym (leaf _ c).0) (is-none none))

  pub power-part :
      {a : Around} {s e : ℕ} {x : ExprV} (k : Exponent) {steps : List Step} (begun after : ℕ)
      → LeafGoes rules r a.seen s x k (Ok false) → way begun (node_at a s) ≡ gone after → Walk rules r a (expr s e (power x k)) steps
      → (inner : List Step) × (left : List Step) × Walk rules r (inside a) x inner × PartLeft rules r x left
      × (way begun steps ≡ way after (inner ++ left))
  power-part Any begun after leaf p (walk_field unit c is) = elim c [ ]
  power-part Any begun after leaf p (walk_rest one is) = absurd (no_both one (sym (same-answer leaf)))
  power-part Any begun after leaf p (walk_times none c h left is) = elim c [ ]
  power-part {a} {s} Any begun after leaf p (walk_many {inner = inner} {left = lefts} not h left is) =
      (inner, lefts, h, left, ap (way begun) is ∙ way-on begun after (node_at a s) (inner ++ lefts) p)
  power-part (Number n) begun after leaf p (walk_field unit c is) = absurd (no_both (is-some unit) (sym (leaf _ c).0))
  power-part {a} {s} (Number n) begun after leaf p (walk_times {counts = counts} {inner = inner} {left = lefts} none c h left is) =
      (inner, lefts, h, left, way-third begun after after (node_at a s) counts (inner ++ lefts) _ is p ((leaf counts c).1 after))
  power-part (Linear m label d) begun after leaf p (walk_field unit c is) = absurd (no_both (is-some unit) (sym (leaf _ c).0))
  power-part {a} {s} (Linear m label d) begun after leaf p (walk_times {counts = counts} {inner = inner} {left = lefts} none c h left is) =
      (inner, lefts, h, left, way-third begun after after (node_at a s) counts (inner ++ lefts) _ is p ((leaf counts c).1 after))
