-- Why rules are refused. Which rules are, beside those that 3GPP TS 24.007 Annex B gives no meaning, and by
-- which numbers, is this project's own choice.
use Rattle.std.specs.Prelude.{ℕ}
use Rattle.csn_resolve.specs.declared.why.Why.{Why}
use Rattle.csn_resolve.specs.declared.why.Why.TheVariants.{Undefined, DefinedTwice, Recursive, ValUnknown, ValWidth}
use Rattle.csn_resolve.specs.declared.why.Why.TheVariants.{ZeroCount, CountTooLarge, IntersectionForm}
use Rattle.csn_resolve.specs.declared.why.Why.TheVariants.{ErrorBranchForm, NoString, TooManyNodes, TooDeep}
use Rattle.csn_resolve.specs.declared.why.Why.TheVariants.{TooManyVals}

-- the number by which a reason is told
abbrev pub number_of : Why → ℕ
-- names
number_of Undefined = 1
number_of DefinedTwice = 2
number_of Recursive = 3
-- counts
number_of ValUnknown = 4
number_of ValWidth = 5
number_of ZeroCount = 6
number_of CountTooLarge = 7
-- forms
number_of IntersectionForm = 8
number_of ErrorBranchForm = 9
number_of NoString = 10
-- limits
number_of TooManyNodes = 11
number_of TooDeep = 12
number_of TooManyVals = 13

-- a refusal: why, and at which byte of the text
pub record Refusal : Type 0 where
  pub why : Why
  pub place : ℕ
