pub mod Reaching
pub mod Pieces
pub mod Containing
pub mod Clear
pub mod FollowFacts
pub mod Decisions
pub mod OneTree
pub mod Held
