-- The statuses that calls answer, and the numbers that they tell. (This project's own choice.)
use Rattle.std.specs.Prelude.{◌≡◌, ℕ, [], ◌∷◌, take, Result, Ok, Err}
use Rattle.csn_bits.specs.declared.fault.NoMemory.{NoMemory}
use Rattle.csn_resolve.specs.Why.{number_of}
use Rattle.csn_certify.specs.declared.conflict.Conflict.{Conflict}
use Rattle.csn_fields.specs.declared.refusal.Ended.{Ended}
use Rattle.csn_fields.specs.declared.refusal.Ended.TheVariants.{Whole, Refused}
use Rattle.csn_judge.specs.declared.verdict.Judged.{Judged}
use Rattle.csn_judge.specs.declared.verdict.Judged.TheVariants as judged
use Rattle.csn_judge.specs.declared.verdict.Verdict.{Verdict}
use Rattle.csn_judge.specs.declared.verdict.Verdict.TheVariants as verdict
use Rattle.csn_movetext.specs.declared.fault.BlockFault.{BlockFault}
use Rattle.csn_movetext.specs.declared.fault.BlockFault.TheVariants as block
use Rattle.csn_encode.specs.declared.misfit.MisfitWhy.{MisfitWhy}
use Rattle.csn_encode.specs.declared.misfit.MisfitWhy.TheVariants.{WrongKind, WrongLabel, WrongCount, WrongWidth}
use Rattle.csn_encode.specs.declared.misfit.MisfitWhy.TheVariants.{WrongSpare, NoSuchAlternative, WindowLength}
use Rattle.csn_encode.specs.declared.misfit.MisfitWhy.TheVariants.{TooManyBits}
use Rattle.csn_plan.specs.Compiled.{numbers_of}
use Rattle.csn_rule.specs.declared.rule.Told.{Told}
use Rattle.csn_rule.specs.declared.fault.NoRule.{NoRule}
use Rattle.csn_rule.specs.declared.fault.NoRule.TheVariants as no_rule
use Rattle.csn_rule.specs.declared.fault.NoBlock.{NoBlock}
use Rattle.csn_rule.specs.declared.fault.NoBlock.TheVariants as no_block
use Rattle.csn_c.specs.declared.status.Why.{Why}
use Rattle.csn_c.specs.declared.status.TheConstants.{OK, NO_MEMORY, SYNTAX, DESCRIPTION, CONFLICT, TOO_LONG, REFUSED}
use Rattle.csn_c.specs.declared.status.TheConstants.{NO_BLOCK, NO_TEXT, NO_JSON, NO_TREE}

-- the kind and the node of a conflict, which are the first numbers of its line
abbrev pub TellsConflict : Conflict → Why → Type 0
TellsConflict conflict why = take 2 (numbers_of conflict) ≡ why.number ∷ why.place ∷ []

-- a text that has no rule
abbrev pub IsNoRuleStatus : NoRule → ℕ → Why → Why → Type 0
IsNoRuleStatus no_rule.TooLong status old new = (status ≡ TOO_LONG) × (new ≡ old)
IsNoRuleStatus (no_rule.Syntax place) status old new = (status ≡ SYNTAX) × (new.place ≡ place)
IsNoRuleStatus (no_rule.Description why place) status old new =
    (status ≡ DESCRIPTION) × (new.number ≡ number_of why) × (new.place ≡ place)
IsNoRuleStatus (no_rule.Conflict conflict) status old new = (status ≡ CONFLICT) × TellsConflict conflict new
IsNoRuleStatus no_rule.NoMemory status old new = (status ≡ NO_MEMORY) × (new ≡ old)

-- a block that was judged
abbrev pub IsJudgedStatus : Judged → ℕ → ℕ → ℕ → Type 0
IsJudgedStatus judged.Ok status old new = (status ≡ OK) × (new ≡ old)
IsJudgedStatus (judged.Refused place) status old new = (status ≡ REFUSED) × (new ≡ place)

-- bits of a block so far
abbrev pub IsVerdictStatus : Verdict → ℕ → ℕ → ℕ → Type 0
IsVerdictStatus verdict.Going status old new = (status ≡ OK) × (new ≡ old)
IsVerdictStatus (verdict.Refused place) status old new = (status ≡ REFUSED) × (new ≡ place)

-- a block that was shown
abbrev pub IsShownStatus : Result ℕ BlockFault → ℕ → ℕ → ℕ → Type 0
IsShownStatus (Ok count) status old new = (status ≡ OK) × (new ≡ count)
IsShownStatus (Err (block.Refused place)) status old new = (status ≡ REFUSED) × (new ≡ place)
IsShownStatus (Err block.NoMemory) status old new = (status ≡ NO_MEMORY) × (new ≡ old)

-- a block that has ended so
abbrev pub IsEndedStatus : Ended → ℕ → ℕ → ℕ → Type 0
IsEndedStatus Whole status old new = (status ≡ OK) × (new ≡ old)
IsEndedStatus (Refused refusal) status old new = (status ≡ REFUSED) × (new ≡ refusal.place)

-- a block whose events were told
abbrev pub IsToldStatus : Result Told NoMemory → (status before count old new : ℕ) → Type 0
IsToldStatus (Ok told) status before count old new = (count ≡ told.count) × IsEndedStatus told.ended status old new
IsToldStatus (Err why) status before count old new = (status ≡ NO_MEMORY) × (count ≡ before) × (new ≡ old)

-- the number of the reason for which a tree does not fit
abbrev pub number_of_misfit : MisfitWhy → ℕ
number_of_misfit WrongKind = 1
number_of_misfit WrongLabel = 2
number_of_misfit (WrongCount wanted found) = 3
number_of_misfit (WrongWidth wanted found) = 4
number_of_misfit WrongSpare = 5
number_of_misfit NoSuchAlternative = 6
number_of_misfit (WindowLength wanted found) = 7
number_of_misfit TooManyBits = 8

-- bytes of which the block was written
abbrev pub IsWrittenStatus : Result ℕ NoBlock → ℕ → ℕ → ℕ → Type 0
IsWrittenStatus (Ok count) status old new = (status ≡ OK) × (new ≡ count)
IsWrittenStatus (Err (no_block.NotText place)) status old new = (status ≡ NO_TEXT) × (new ≡ place)
IsWrittenStatus (Err no_block.NotJson) status old new = (status ≡ NO_JSON) × (new ≡ old)
IsWrittenStatus (Err no_block.NotTree) status old new = (status ≡ NO_TREE) × (new ≡ old)
IsWrittenStatus (Err (no_block.Misfit misfit)) status old new = (status ≡ NO_BLOCK) × (new ≡ number_of_misfit misfit.why)
IsWrittenStatus (Err no_block.NoMemory) status old new = (status ≡ NO_MEMORY) × (new ≡ old)
