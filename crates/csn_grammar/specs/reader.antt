-- The reader's steps: what each private part of `src/reader/` and `src/read.rt` makes of one token or
-- word. They follow that code and are read only with its proofs. No public contract rests on them, nor
-- does a definition outside this folder: what rules a text has is `Grammar`, and where it has none is
-- `Place`.
pub mod Gives
pub mod GivesForm
pub mod Spellings
pub mod Building
pub mod ExponentSteps
pub mod BodySteps
pub mod RuleSteps
