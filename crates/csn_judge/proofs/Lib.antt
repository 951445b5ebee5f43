-- Lemmas of csn_judge.
pub mod Numbers
pub mod SourceFacts
pub mod ToldFacts
pub mod StepFacts
pub mod Leaves
pub mod Entering
pub mod Parts
mod PartsRead
pub mod Alternatives
pub mod Paying
pub mod PayingBits
pub mod Wholes
pub mod Standing
pub mod LookAhead
pub mod Turning
pub mod Rooms
pub mod TurningSame
pub mod TurningFree
pub mod TurningTruncs
pub mod Decided
pub mod TurningChoices
pub mod TurningEntry
pub mod SpellingFacts
pub mod LeafStacks
pub mod LeafReads
pub mod TurningLeaves
pub mod WholeParts
pub mod TurningCounted
pub mod CountedParents
pub mod TurningNamed
pub mod Truncs
pub mod Stacks
pub mod Closing
pub mod Refusing
pub mod Lasts
pub mod Choosing
pub mod Verdicts
pub mod TurningParts
pub mod TurningOn
mod Popping
mod PayingEntry
mod PayingWaits
mod Clashes
pub mod GoingOn
pub mod PayingParts
pub mod JudgingFacts
pub mod NewJudges
pub mod FollowingFacts
mod Pieces
