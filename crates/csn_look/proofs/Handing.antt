-- What each node hands down to its parts: where they are reached, and what may follow them.
pub mod HandDown
pub mod ReachedParts
pub mod FollowedParts
