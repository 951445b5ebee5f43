pub mod Alike
pub mod Answers
pub mod Facts
pub mod Kinds
pub mod Paths
pub mod Spots
pub mod Told
