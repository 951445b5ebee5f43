pub mod Entries
pub mod Samples
pub mod Text
