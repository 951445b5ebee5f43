-- Laws over the definitions.
use Rattle.std.specs.Prelude.{◌≡◌, ℕ, ◌⊎◌, ◌↔◌, List, [], length, Some}
use Rattle.csn_desc.specs.declared.reading.Reading.{Reading}
use Rattle.csn_desc.specs.TreeV.{TreeV}
use Rattle.csn_desc.specs.Nodes.{DescV}
use Rattle.csn_desc.specs.Means.{NMeans}
use Rattle.csn_desc.specs.Follows.{NFollow}
use Rattle.csn_desc.specs.Follows as desc
use Rattle.csn_desc.specs.Formed.{Spans, IsDescription}
use Rattle.csn_grammar.specs.declared.rules.Rule.{Rule}
use Rattle.csn_grammar.specs.ExprV.{ExprV}
use Rattle.csn_grammar.specs.RulesV.{RulesV}
use Rattle.csn_grammar.specs.Names.{rule_of}
use Rattle.csn_grammar.specs.Void.{Void}
use Rattle.csn_grammar.specs.Meaning.{RuleMeans}
use Rattle.csn_grammar.specs.Follow.{RuleFollows}
use Rattle.csn_grammar.specs.Strings.{Strings, Followed}
use Rattle.csn_grammar.specs.Strings as grammar
use Rattle.csn_resolve.specs.declared.why.Why.{Why}
use Rattle.csn_resolve.specs.Why.{Refusal}
use Rattle.csn_resolve.specs.Seen.{Seen}
use Rattle.csn_grammar.specs.Shaped.{AreShaped}
use Rattle.csn_resolve.specs.Gives.{Placed, Gives}
use Rattle.csn_resolve.specs.Steps.{Step}
use Rattle.csn_resolve.specs.Counts.{Narrow}
use Rattle.csn_resolve.specs.Walk.{Around, Walk}
use Rattle.csn_resolve.specs.Resolved.{NameGives, nodes_of, AreRefusals, IsRefused, IsResolved}

-- an expression gives one list of nodes
abbrev pub NodesAreGivenOnce : Type 0
NodesAreGivenOnce =
    (rules : RulesV) (r : Reading) (x : ExprV) (at : ℕ) (seen : Seen ℕ) (nodes others : List Placed)
    → Gives rules r x at seen nodes → Gives rules r x at seen others → nodes ≡ others

-- what is empty of strings gives no nodes
abbrev pub VoidGivesNothing : Type 0
VoidGivesNothing =
    (rules : RulesV) (r : Reading) (x : ExprV) (at : ℕ) (seen : Seen ℕ) (nodes : List Placed)
    → Void rules r x → ¬ Gives rules r x at seen nodes

-- the walk through an expression has one list of steps
abbrev pub StepsAreWalkedOnce : Type 0
StepsAreWalkedOnce =
    (rules : RulesV) (r : Reading) (a : Around) (x : ExprV) (steps others : List Step)
    → Walk rules r a x steps → Walk rules r a x others → steps ≡ others

-- a named rule has one description
abbrev pub ResolvedOnce : Type 0
ResolvedOnce =
    (rules : RulesV) (r : Reading) (n : List ℕ) (d other : DescV)
    → IsResolved rules n r d → IsResolved rules n r other → d ≡ other

-- the refusals of a named rule are one list
abbrev pub RefusalsAreOneList : Type 0
RefusalsAreOneList =
    (rules : RulesV) (r : Reading) (n : List ℕ) (refusals others : List Refusal)
    → AreRefusals rules n r refusals → AreRefusals rules n r others → refusals ≡ others

-- a named rule is refused for one reason, at one place
abbrev pub RefusedOnce : Type 0
RefusedOnce =
    (rules : RulesV) (r : Reading) (n : List ℕ) (why other_why : Why) (place other_place : ℕ)
    → IsRefused rules n r why place → IsRefused rules n r other_why other_place
    → (why ≡ other_why) × (place ≡ other_place)

-- a named rule that is refused has no description
abbrev pub RefusedOrResolved : Type 0
RefusedOrResolved =
    (rules : RulesV) (r : Reading) (n : List ℕ) (why : Why) (place : ℕ) (d : DescV)
    → IsRefused rules n r why place → ¬ IsResolved rules n r d

-- an expression is empty of strings or is not
abbrev pub EmptinessIsDecided : Type 0
EmptinessIsDecided = (rules : RulesV) (r : Reading) (x : ExprV) → Void rules r x ⊎ (¬ Void rules r x)

-- an expression is a field of constant width, of 1 to 16 bits, or is not
abbrev pub WidthsAreDecided : Type 0
WidthsAreDecided = (rules : RulesV) (r : Reading) (x : ExprV) → Narrow rules r x ⊎ (¬ Narrow rules r x)

-- every expression has a walk
abbrev pub WalksEnd : Type 0
WalksEnd =
    (rules : RulesV) (r : Reading) (a : Around) (x : ExprV) → (steps : List Step) × Walk rules r a x steps

-- every name has a list of refusals, which may be empty
abbrev pub RefusalsEnd : Type 0
RefusalsEnd =
    (rules : RulesV) (r : Reading) (n : List ℕ) → (refusals : List Refusal) × AreRefusals rules n r refusals

-- where nothing is refused on the walk, the named rule gives nodes
abbrev pub NodesAreGiven : Type 0
NodesAreGiven =
    (rules : RulesV) (r : Reading) (n : List ℕ)
    → AreRefusals rules n r [] → (nodes : List Placed) × NameGives rules n r nodes

-- the nodes of a named rule are numbered through from the root
abbrev pub NodesAreNumbered : Type 0
NodesAreNumbered =
    (rules : RulesV) (r : Reading) (n : List ℕ) (nodes : List Placed)
    → NameGives rules n r nodes → Spans (nodes_of nodes) 0 (length nodes)

-- by rules that are shaped, every name is refused or has a description
abbrev pub NamesAreAnswered : Type 0
NamesAreAnswered =
    (rules : RulesV) (r : Reading) (n : List ℕ) → AreShaped rules
    → ((why : Why) × (place : ℕ) × IsRefused rules n r why place) ⊎ ((d : DescV) × IsResolved rules n r d)

-- what a named rule has is a description
abbrev pub ResolvedAreDescriptions : Type 0
ResolvedAreDescriptions =
    (rules : RulesV) (r : Reading) (n : List ℕ) (d : DescV) → AreShaped rules → IsResolved rules n r d
    → IsDescription d

-- where nothing is refused, the empty bits are followed
abbrev pub EmptyBitsAreFollowed : Type 0
EmptyBitsAreFollowed =
    (rules : RulesV) (r : Reading) (n : List ℕ) → AreShaped rules
    → ((why : Why) (place : ℕ) → ¬ IsRefused rules n r why place) → Followed rules n r []

-- what a named rule means is what its description means, where the rules are shaped as those of a text. (By a
-- word without symbols before its own name a rule could go round without a bit, and have a tree for it; a turn
-- of the repetition that it gives has a bit at least.)
abbrev pub MeaningsAreKept : Type 0
MeaningsAreKept =
    (rules : RulesV) (r : Reading) (n : List ℕ) (d : DescV) → AreShaped rules → IsResolved rules n r d
    → (rule : Rule) → rule_of rules n ≡ Some rule → (o : ℕ) (b : List ℕ) (t : TreeV)
    → RuleMeans rules r rule o [] b t ↔ NMeans d 0 o [] b t

-- what a named rule follows is what its description follows
abbrev pub FollowedAreKept : Type 0
FollowedAreKept =
    (rules : RulesV) (r : Reading) (n : List ℕ) (d : DescV) → AreShaped rules → IsResolved rules n r d
    → (rule : Rule) → rule_of rules n ≡ Some rule → (o : ℕ) (b : List ℕ)
    → RuleFollows rules r rule o [] b ↔ NFollow d 0 o [] b

-- the bits of a block have a tree by a name where they have it by its description
abbrev pub StringsAreKept : Type 0
StringsAreKept =
    (rules : RulesV) (r : Reading) (n : List ℕ) (d : DescV) → AreShaped rules → IsResolved rules n r d
    → (b : List ℕ) (t : TreeV) → Strings rules n r b t ↔ NMeans d 0 0 [] b t

-- the bits of a block can be followed by a name where they can be by its description
abbrev pub BlocksAreFollowedAlike : Type 0
BlocksAreFollowedAlike =
    (rules : RulesV) (r : Reading) (n : List ℕ) (d : DescV) → AreShaped rules → IsResolved rules n r d
    → (b : List ℕ) → Followed rules n r b ↔ NFollow d 0 0 [] b

-- the place of a block by a name is that by its description
abbrev pub PlacesAreKept : Type 0
PlacesAreKept =
    (rules : RulesV) (r : Reading) (n : List ℕ) (d : DescV) → AreShaped rules → IsResolved rules n r d
    → (b : List ℕ) (place : ℕ) → grammar.IsPlace rules n r b place ↔ desc.IsPlace d b place
