-- Words of the private functions that make nodes: what they ask of an expression, and what they add to the
-- nodes that are made. No public clause cites them.
use Rattle.std.specs.Prelude.{◌≡◌, ℕ, ◌+◌, ◌≤◌, false, ⊤, List, [], ◌∷◌, ◌++◌, length, slice_get, Option, Some, None}
use Rattle.csn_desc.specs.declared.reading.Reading.{Reading}
use Rattle.csn_desc.specs.declared.node.Count.{Count}
use Rattle.csn_desc.specs.declared.node.Node.{Node}
use Rattle.csn_desc.specs.declared.node.Node.TheVariants.{Lits, Seq, Many}
use Rattle.csn_desc.specs.Overfull.{IsFirstOverfull}
use Rattle.csn_grammar.specs.declared.exponent.Exponent.{Exponent}
use Rattle.csn_grammar.specs.declared.rules.Rule.{Rule}
use Rattle.csn_grammar.specs.ExprV.{ExprV, BranchV, exprs_of, branches_of}
use Rattle.csn_grammar.specs.RulesV.{RulesV}
use Rattle.csn_grammar.specs.Environment.{label_of}
use Rattle.csn_grammar.specs.TailForm.{TailV, tail_of}
use Rattle.csn_grammar.specs.Void.{Void, Kept}
use Rattle.csn_resolve.specs.declared.why.Why.{Why}
use Rattle.csn_resolve.specs.declared.why.Why.TheVariants.{TooManyVals}
use Rattle.csn_resolve.specs.declared.shown.Shown.{Shown, fold-Shown}
use Rattle.csn_resolve.specs.declared.shown.Shown.TheOpen.{Shown-F}
use Rattle.csn_resolve.specs.Seen.{Frame, Seen, with_labelled}
use Rattle.csn_resolve.specs.Gives.{Placed, placed, count_at, start_of, Gives, ItemsGive, EachGives, RuleGives}
use Rattle.csn_resolve.specs.Steps.{Step, Quiet}
use Rattle.csn_resolve.specs.Counts.{is_too_large}
use Rattle.csn_resolve.specs.Walk.{Around, Walk, RuleWalk}
use Rattle.csn_resolve.specs.Resolved.{nodes_of}

-- ---- what contracts see of the values that are passed on

-- nodes, each with its place
abbrev pub paired : List Node → List ℕ → List Placed
paired (n ∷ nodes) (p ∷ places) = placed n p ∷ paired nodes places
paired _ _ = []

-- a frame behind the items that have nodes, each with its node
abbrev pub frame_before : Reading → Frame ℕ → List ExprV → List ℕ → Frame ℕ
frame_before r frame (x ∷ xs) (node ∷ nodes) = frame_before r (with_labelled (label_of r x) node frame) xs nodes
frame_before r frame _ _ = frame

abbrev pub shown_step : Reading → Shown-F (Seen ℕ) → Seen ℕ
shown_step r Shown-F.Nothing = []
shown_step r (Shown-F.Behind items nodes outer) = frame_before r [] items.now nodes.now ∷ outer.now

-- the labelled items that are seen, each with its node
abbrev pub shown_view : Reading → Shown → Seen ℕ
shown_view r = fold-Shown (Seen ℕ) (shown_step r)

-- ---- what is asked

-- the exponent is a count, and its numbers are not too large
pub record IsCounted (seen : Seen ℕ) (k : Exponent) : Type 0 where
  pub count : Count
  pub is : count_at seen k ≡ Some count
  pub small : is_too_large k ≡ false

-- the one of a list that has one
abbrev pub only : List ExprV → Option ExprV
only (x ∷ []) = Some x
only _ = None

-- the field that is refused last, and the place of it
pub record IsOverfullAt (nodes : List Placed) (why : Why) (place : ℕ) : Type 0 where
  pub crowded : why ≡ TooManyVals
  pub number : ℕ
  pub field : Placed
  pub first : IsFirstOverfull (nodes_of nodes) number
  pub here : slice_get nodes number ≡ Some field
  pub at : place ≡ field.place

-- a walk meets no refusal where `names` names or more are put in round it
pub record IsQuiet (names : ℕ) (Walks : Around → List Step → Type 0) : Type 0 where
  pub around : Around
  pub steps : List Step
  pub walk : Walks around steps
  pub quiet : Quiet steps
  pub below : names ≤ around.depth
  pub shallow : around.depth ≤ 64

-- nodes are given of which G holds, and there is room for them behind the first `at`
abbrev pub Few : ℕ → (List Placed → Type 0) → Type 0
Few at G = (nodes : List Placed) × G nodes × (at + length nodes ≤ 16384)

-- the nodes that are given were added to those before
abbrev pub AddsGiven : (List Placed → Type 0) → List Placed → List Placed → Type 0
AddsGiven G before after = (nodes : List Placed) → G nodes → after ≡ before ++ nodes

-- and the numbers of parts to those before
abbrev pub AddsParts : (List ℕ → List Placed → Type 0) → List ℕ → List ℕ → List Placed → List Placed → Type 0
AddsParts G parts_before parts_after before after =
    (parts : List ℕ) (nodes : List Placed)
    → G parts nodes → (parts_after ≡ parts_before ++ parts) × (after ≡ before ++ nodes)

module _ (rules : RulesV) (r : Reading) where
  abbrev pub QuietAt : ℕ → ExprV → Type 0
  QuietAt names x = IsQuiet names (λ a steps. Walk rules r a x steps)

  abbrev pub AllQuiet : ℕ → List ExprV → Type 0
  AllQuiet names [] = ⊤
  AllQuiet names (x ∷ xs) = QuietAt names x × AllQuiet names xs

  abbrev pub BranchesQuiet : ℕ → List BranchV → Type 0
  BranchesQuiet names [] = ⊤
  BranchesQuiet names (b ∷ bs) = QuietAt names b.body × BranchesQuiet names bs

  -- the same of what a rule says
  abbrev pub RuleQuiet : ℕ → Rule → Type 0
  RuleQuiet names rule = IsQuiet names (λ a steps. RuleWalk rules r a rule steps)

  -- an alternative is kept
  pub record IsKept (b : BranchV) : Type 0 where
    pub plain : b.error ≡ false
    pub full : ¬ Void rules r b.body

  -- what is repeated of a rule in tail form gives these nodes, of which the first has the number `many`
  pub record TurnGives (tail : TailV) (many : ℕ) (seen : Seen ℕ) (nodes : List Placed) : Type 0 where
    pub parts : List ℕ
    pub turn : List Placed
    pub given : ItemsGive rules r tail.items (many + 3) [] seen parts turn
    pub are : nodes ≡ placed (Many (many + 1)) tail.end.braces
        ∷ placed (Seq ((many + 2) ∷ parts)) tail.end.again.at
        ∷ placed (Lits tail.end.again.run) tail.end.again.at
        ∷ turn

  -- ---- nodes are given, and there is room for them

  abbrev pub GivesFew : ExprV → ℕ → Seen ℕ → Type 0
  GivesFew x at seen = Few at (Gives rules r x at seen)

  abbrev pub ItemsGiveFew : List ExprV → ℕ → Seen ℕ → Type 0
  ItemsGiveFew xs at seen = (parts : List ℕ) × Few at (ItemsGive rules r (exprs_of xs) at [] seen parts)

  abbrev pub KeptGiveFew : List BranchV → ℕ → Seen ℕ → Type 0
  KeptGiveFew bs at seen =
      (xs : List ExprV) × Kept rules r (branches_of bs) xs × (parts : List ℕ) × Few at (EachGives rules r xs at seen parts)

  abbrev pub RuleGivesFew : Rule → ℕ → Seen ℕ → Type 0
  RuleGivesFew rule at seen = Few at (RuleGives rules r rule at seen)

  -- of a rule in this tail form, whose items begin at this place
  abbrev pub TailGivesFew : ℕ → TailV → ℕ → Seen ℕ → Type 0
  TailGivesFew place tail at seen =
      (rule : Rule) × (tail_of rule ≡ Some tail) × (start_of rule.body ≡ place) × RuleGivesFew rule at seen

  abbrev pub TurnGivesFew : TailV → ℕ → Seen ℕ → Type 0
  TurnGivesFew tail many seen = Few many (TurnGives tail many seen)

  -- ---- nodes are added

  abbrev pub Adds : ExprV → Seen ℕ → List Placed → List Placed → Type 0
  Adds x seen before after = AddsGiven (Gives rules r x (length before) seen) before after

  abbrev pub AddsItems : List ExprV → Seen ℕ → List ℕ → List ℕ → List Placed → List Placed → Type 0
  AddsItems xs seen parts_before parts_after before after =
      AddsParts (ItemsGive rules r (exprs_of xs) (length before) [] seen) parts_before parts_after before after

  abbrev pub AddsKept : List BranchV → Seen ℕ → List ℕ → List ℕ → List Placed → List Placed → Type 0
  AddsKept bs seen parts_before parts_after before after =
      (xs : List ExprV) → Kept rules r (branches_of bs) xs
      → AddsParts (EachGives rules r xs (length before) seen) parts_before parts_after before after

  abbrev pub AddsRule : Rule → Seen ℕ → List Placed → List Placed → Type 0
  AddsRule rule seen before after = AddsGiven (RuleGives rules r rule (length before) seen) before after

  abbrev pub AddsTail : ℕ → TailV → Seen ℕ → List Placed → List Placed → Type 0
  AddsTail place tail seen before after =
      (rule : Rule) → tail_of rule ≡ Some tail → start_of rule.body ≡ place → AddsRule rule seen before after

  abbrev pub AddsTurn : TailV → Seen ℕ → List Placed → List Placed → Type 0
  AddsTurn tail seen before after = AddsGiven (TurnGives tail (length before) seen) before after
