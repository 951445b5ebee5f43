pub mod Given
pub mod WalkFacts
pub mod Found
