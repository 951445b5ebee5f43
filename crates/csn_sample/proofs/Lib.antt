pub mod Changes
pub mod Draws
pub mod Marked
pub mod Trees
pub mod TreesInside
pub mod WaysUnset
pub mod Work
