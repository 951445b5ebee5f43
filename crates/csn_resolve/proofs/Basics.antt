-- What is used of tests, options, lists and windows everywhere.
pub mod Bools
pub mod Options
pub mod Parts
pub mod Windows
