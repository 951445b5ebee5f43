-- Laws over the definitions.
use Rattle.std.specs.Prelude.{◌≡◌, ℕ, ◌⊎◌, List, [], ◌++◌, Some}
use Rattle.csn_bits.specs.Octets.{IsBits}
use Rattle.csn_desc.specs.declared.reading.Reading.{Reading}
use Rattle.csn_desc.specs.TreeV.{TreeV}
use Rattle.csn_grammar.specs.declared.rules.Rule.{Rule}
use Rattle.csn_grammar.specs.ExprV.{ExprV, BranchesV}
use Rattle.csn_grammar.specs.RulesV.{RulesV}
use Rattle.csn_grammar.specs.Names.{rule_of}
use Rattle.csn_grammar.specs.Environment.{Env}
use Rattle.csn_grammar.specs.Void.{Void, Kept}
use Rattle.csn_grammar.specs.Meaning.{Means}
use Rattle.csn_grammar.specs.Follow.{Follow}
use Rattle.csn_grammar.specs.Strings.{Strings, Followed, IsPlace}
use Rattle.csn_grammar.specs.Formed.{Formed, RuleFormed, HaveValues}
use Rattle.csn_grammar.specs.Shaped.{AreShaped}
use Rattle.csn_grammar.specs.Labelled.{AreLabelled}
use Rattle.csn_grammar.specs.Place.{HasRules, IsSyntaxPlace, Decided}

-- no text has two lists of rules
abbrev pub TextsHaveOneListOfRules : Type 0
TextsHaveOneListOfRules =
    (text : List ℕ) (rules others : RulesV) → HasRules text rules → HasRules text others → rules ≡ others

-- each text has rules, or a place where it is wrong
abbrev pub TextsAreDecided : Type 0
TextsAreDecided = (text : List ℕ) → Decided text

-- a text with rules has no such place
abbrev pub RulesHaveNoFault : Type 0
RulesHaveNoFault = (text : List ℕ) (rules : RulesV) (place : ℕ) → HasRules text rules → ¬ IsSyntaxPlace text place

-- and no text has two
abbrev pub TextsHaveOnePlace : Type 0
TextsHaveOnePlace =
    (text : List ℕ) (place other : ℕ) → IsSyntaxPlace text place → IsSyntaxPlace text other → place ≡ other

-- the rules of a text have no empty word, sequence, choice or truncation
abbrev pub RulesOfTextsAreShaped : Type 0
RulesOfTextsAreShaped = (text : List ℕ) (rules : RulesV) → HasRules text rules → AreShaped rules

-- the labels of a text are words with one space between
abbrev pub LabelsOfTextsAreLabels : Type 0
LabelsOfTextsAreLabels = (text : List ℕ) (rules : RulesV) → HasRules text rules → AreLabelled rules

abbrev pub PrefixesAreFollowed : Type 0
PrefixesAreFollowed =
    (rules : RulesV) (r : Reading) (x : ExprV) (o : ℕ) (env : Env) (b c : List ℕ)
    → Follow rules r x o env (b ++ c) → Follow rules r x o env b

abbrev pub BlockPrefixesAreFollowed : Type 0
BlockPrefixesAreFollowed =
    (rules : RulesV) (r : Reading) (n b c : List ℕ) → Followed rules n r (b ++ c) → Followed rules n r b

abbrev pub MeaningsAreFollowed : Type 0
MeaningsAreFollowed =
    (rules : RulesV) (r : Reading) (x : ExprV) (o : ℕ) (env : Env) (b : List ℕ) (t : TreeV)
    → Means rules r x o env b t → Follow rules r x o env b

abbrev pub StringsAreFollowed : Type 0
StringsAreFollowed =
    (rules : RulesV) (r : Reading) (n b : List ℕ) (t : TreeV) → Strings rules n r b t → Followed rules n r b

abbrev pub MeaningsAreBits : Type 0
MeaningsAreBits =
    (rules : RulesV) (r : Reading) (x : ExprV) (o : ℕ) (env : Env) (b : List ℕ) (t : TreeV)
    → Means rules r x o env b t → IsBits b

abbrev pub FollowedAreBits : Type 0
FollowedAreBits =
    (rules : RulesV) (r : Reading) (x : ExprV) (o : ℕ) (env : Env) (b : List ℕ)
    → Follow rules r x o env b → IsBits b

abbrev pub VoidMeansNothing : Type 0
VoidMeansNothing =
    (rules : RulesV) (r : Reading) (x : ExprV) (o : ℕ) (env : Env) (b : List ℕ) (t : TreeV)
    → Void rules r x → ¬ Means rules r x o env b t

abbrev pub VoidFollowsNothing : Type 0
VoidFollowsNothing =
    (rules : RulesV) (r : Reading) (x : ExprV) (o : ℕ) (env : Env) (b : List ℕ)
    → Void rules r x → ¬ Follow rules r x o env b

abbrev pub AlternativesAreKeptOnce : Type 0
AlternativesAreKeptOnce =
    (rules : RulesV) (r : Reading) (bs : BranchesV) (xs ys : List ExprV)
    → Kept rules r bs xs → Kept rules r bs ys → xs ≡ ys

abbrev pub EmptyBitsAreFollowed : Type 0
EmptyBitsAreFollowed =
    (rules : RulesV) (r : Reading) (seen : List (List ℕ)) (x : ExprV) (o : ℕ) (env : Env)
    → Formed rules r seen x → HaveValues env seen → Follow rules r x o env []

abbrev pub EmptyBlocksAreFollowed : Type 0
EmptyBlocksAreFollowed =
    (rules : RulesV) (r : Reading) (n : List ℕ) (rule : Rule)
    → rule_of rules n ≡ Some rule → RuleFormed rules r [] rule → Followed rules n r []

-- a block has a place by a name that follows the empty block, where it is decided what the name follows
abbrev pub BlocksHaveAPlace : Type 0
BlocksHaveAPlace =
    (rules : RulesV) (r : Reading) (n b : List ℕ) → Followed rules n r []
    → ((front : List ℕ) → Followed rules n r front ⊎ (¬ Followed rules n r front))
    → (place : ℕ) × IsPlace rules n r b place

abbrev pub BlocksHaveOnePlace : Type 0
BlocksHaveOnePlace =
    (rules : RulesV) (r : Reading) (n b : List ℕ) (place other : ℕ)
    → IsPlace rules n r b place → IsPlace rules n r b other → place ≡ other
