pub mod Pieces
pub mod Tails
pub mod OneKind
pub mod Longest
pub mod Gaps
pub mod OneReading
pub mod NextStands
