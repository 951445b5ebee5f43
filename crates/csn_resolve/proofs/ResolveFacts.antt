-- What a named rule that is not refused gives, and what is refused last.
use Rattle.std.proofs.Common.{◌≡◌, ℕ, List, [], ◌∷◌, ◌++◌, length, refl, sym, ◌∙◌, subst, arith, slice_get, Some, Result, Ok, Err}
use Rattle.std.specs.Prelude.{IfOk, OnOk}
use Rattle.csn_desc.specs.declared.reading.Reading.{Reading}
use Rattle.csn_desc.specs.Nodes.{DescV}
use Rattle.csn_desc.specs.Overfull.{IsOverfull, IsFirstOverfull}
use Rattle.csn_desc.specs.Laid.{Laid}
use Rattle.csn_grammar.specs.declared.rules.Rule.{Rule}
use Rattle.csn_grammar.specs.RulesV.{RulesV}
use Rattle.csn_grammar.specs.Names.{built_in_names, rule_of}
use Rattle.csn_grammar.proofs.VoidFacts.{same_rule}
use Rattle.csn_resolve.specs.declared.fault.ResolveFault.{ResolveFault}
use Rattle.csn_resolve.specs.declared.fault.ResolveFault.TheVariants.{Refused, NoMemory}
use Rattle.csn_resolve.specs.declared.why.Why.{Why}
use Rattle.csn_resolve.specs.declared.why.Why.TheVariants.{Undefined, TooManyVals}
use Rattle.csn_grammar.specs.Shaped.{AreShaped}
use Rattle.csn_resolve.specs.Seen.{Seen}
use Rattle.csn_resolve.specs.Gives.{Placed, RuleGives}
use Rattle.csn_resolve.specs.Going.{IsFirst}
use Rattle.csn_resolve.specs.Made.{RuleQuiet, RuleGivesFew, AddsRule, IsOverfullAt}
use Rattle.csn_resolve.specs.Steps.{Step, refused, Quiet}
use Rattle.csn_resolve.specs.Walk.{outermost, RuleWalk}
use Rattle.csn_resolve.specs.Resolved.{ResolveSteps, asked_unknown, asked_rule, twice_steps, NameGives, nodes_of}
use Rattle.csn_resolve.specs.Resolved.{AreRefusals, IsRefused, refused_on_walk, refused_at_last, IsResolved}
use Rattle.csn_resolve.proofs.Giving.Given.{nodes_given}
use Rattle.csn_resolve.proofs.Laying.LaidFacts.{laid_nodes}
use Rattle.csn_resolve.proofs.Giving.FewNodes.{few_nodes}
use Rattle.csn_resolve.proofs.Walking.Quiet.{quiet_from, first_of, rest_of}

-- ---- what is refused last

-- what is refused where a field is crowded
pub crowded_at :
    {A : Type 0} (nodes : List Placed) (number here : ℕ) {why : Why} {place : ℕ} {fault : ResolveFault} → IsFirstOverfull (nodes_of nodes) number
    → (field : Placed) → slice_get nodes number ≡ Some field → here ≡ field.place → fault ≡ Refused TooManyVals here
    → ◌≡◌ {A = Result A ResolveFault} (Err fault) (Err (Refused why place)) → IsOverfullAt nodes why place
crowded_at {A} nodes number here {why} {place} {fault} first field at is fault_is p =
    let same : fault ≡ Refused why place = same_fault p in
    let both : Refused why place ≡ Refused TooManyVals here = sym same ∙ fault_is in
    record { crowded = same_why both; number = number; field = field; first = first; here = at; at = same_place both ∙ is }
  where
    same_fault : ◌≡◌ {A = Result A ResolveFault} (Err fault) (Err (Refused why place)) → fault ≡ Refused why place
    same_fault p = cc

    same_why : Refused why place ≡ Refused TooManyVals here → why ≡ TooManyVals
    same_why p = cc

    same_place : Refused why place ≡ Refused TooManyVals here → place ≡ here
    same_place p = cc

no_refusal : {A : Type 0} {why : Why} {place : ℕ} → ◌≡◌ {A = Result A ResolveFault} (Err NoMemory) (Err (Refused why place)) → ⊥
no_refusal p = cc

module _ (rules : RulesV) (r : Reading) (n : List ℕ) where
  quiet_rule :
      {rule : Rule} {steps : List Step} → rule_of rules n ≡ Some rule → ResolveSteps rules n r steps → Quiet steps → RuleQuiet rules r 0 rule
  quiet_rule at (asked_unknown none p) q = absurd (rest_of (twice_steps built_in_names rules) (refused Undefined 0 ∷ []) p q)
  quiet_rule at (asked_rule {walk = walk} {left = left} other is h l p) q =
      let after = rest_of (twice_steps built_in_names rules) (walk ++ left) p q in
      let Same : Rule → Type 0 = λ z. RuleWalk rules r (outermost n) z walk in
      record {
        around = outermost n;
        steps = walk;
        walk = subst Same (same_rule rules n is at) h;
        quiet = first_of walk left refl after;
        below = omega arith;
        shallow = omega arith;
      }

  pub rule_quiet : {rule : Rule} → rule_of rules n ≡ Some rule → AreRefusals rules n r [] → RuleQuiet rules r 0 rule
  rule_quiet at h = quiet_rule at h.walked (quiet_from 0 h.steps (sym h.are))

  abbrev pub Gave : Rule → Type 0
  Gave rule = (nodes : List Placed) × NameGives rules n r nodes × RuleGives rules r rule 0 [] nodes

  -- the nodes of a rule that is not refused
  pub rule_gives : {rule : Rule} → rule_of rules n ≡ Some rule → AreRefusals rules n r [] → Gave rule
  rule_gives at h =
      let there = nodes_given rules r h in
      let P : Rule → Type 0 = λ z. RuleGives rules r z 0 [] there.0 in
      (there.0, there.1, subst P (same_rule rules n there.1.found at) there.1.gives)

  pub rule_few : {rule : Rule} → rule_of rules n ≡ Some rule → AreRefusals rules n r [] → RuleGivesFew rules r rule 0 []
  rule_few at h =
      let there = rule_gives at h in
      (there.0, there.2, omega (arith, few_nodes rules r n there.0 h there.1))

  -- the nodes that were made are those that the name gives
  pub made_gives : {rule : Rule} {made : List Placed} → rule_of rules n ≡ Some rule → AreRefusals rules n r []
      → AddsRule rules r rule [] [] made → NameGives rules n r made
  made_gives {made = made} at h adds =
      let there = rule_gives at h in
      let same : made ≡ there.0 = adds there.0 there.2 in
      let P : List Placed → Type 0 = λ z. NameGives rules n r z in subst P (sym same) there.1

  -- where nothing is seen, and nothing was made before
  pub adds_first :
      {rule : Rule} {shown : Seen ℕ} {before made : List Placed}
      → shown ≡ [] → before ≡ [] → AddsRule rules r rule shown before made → AddsRule rules r rule [] [] made
  adds_first {rule} {shown} {before} {made} p q h =
      let P : Seen ℕ → Type 0 = λ z. AddsRule rules r rule z before made in
      let Q : List Placed → Type 0 = λ z. AddsRule rules r rule [] z made in subst Q q (subst P p h)

  pub made_laid :
      {rule : Rule} {made : List Placed} → AreShaped rules → rule_of rules n ≡ Some rule → AreRefusals rules n r [] → AddsRule rules r rule [] [] made
      → Laid (nodes_of made) [] 0 0 (length (nodes_of made))
  made_laid {made = made} shaped at h adds = laid_nodes rules r n made shaped h (made_gives at h adds)

  pub is_resolved :
      {rule : Rule} {made : List Placed} {d : DescV} → rule_of rules n ≡ Some rule → AreRefusals rules n r [] → AddsRule rules r rule [] [] made
      → ((i : ℕ) → ¬ IsOverfull (nodes_of made) i) → d ≡ record { reading = r; nodes = nodes_of made } → IsResolved rules n r d
  is_resolved {made = made} at h adds fits is =
      record { accepted = h; nodes = made; given = made_gives at h adds; not_overfull = fits; is = is }

  pub crowded_refused :
      {rule : Rule} {made : List Placed} {why : Why} {place : ℕ} → rule_of rules n ≡ Some rule → AreRefusals rules n r [] → AddsRule rules r rule [] [] made
      → IsOverfullAt made why place → IsRefused rules n r why place
  crowded_refused {made = made} at h adds full =
      refused_at_last made full.number full.field h (made_gives at h adds) full.first full.here full.crowded full.at

  -- a fault that is the first refusal
  pub first_refused : {A : Type 0} {fault : ResolveFault} {why : Why} {place : ℕ} → IsFirst rules n r fault
      → ◌≡◌ {A = Result A ResolveFault} (Err fault) (Err (Refused why place)) → IsRefused rules n r why place
  first_refused {fault = Refused other here} {why} {place} h p =
      let why_same : other ≡ why = cc in
      let place_same : here ≡ place = cc in
      let P : Why → Type 0 = λ z. IsRefused rules n r z here in
      let Q : ℕ → Type 0 = λ z. IsRefused rules n r why z in
      subst Q place_same (subst P why_same (refused_on_walk h.0 h.1))
  first_refused {fault = NoMemory} h p = absurd (no_refusal p)

  pub if_resolved :
      {rule : Rule} {made : List Placed} {E : Type 0} (result : Result DescV E)
      → rule_of rules n ≡ Some rule → AreRefusals rules n r [] → AddsRule rules r rule [] [] made
      → IfOk result (λ d. d ≡ record { reading = r; nodes = nodes_of made }) → OnOk result ((i : ℕ) → ¬ IsOverfull (nodes_of made) i)
      → IfOk result (λ d. IsResolved rules n r d)
  if_resolved (Ok d) at h adds is fits = is_resolved at h adds fits is
  if_resolved (Err e) at h adds is fits = is
