pub mod Patterns
pub mod Behind
pub mod Near
pub mod Digits
pub mod Rows
pub mod Claimed
pub mod Laws
