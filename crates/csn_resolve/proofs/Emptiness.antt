-- Which expressions are empty of strings, and which are fields of constant width: both are decided, and found rule by rule.
pub mod Levels
pub mod VoidDecided
pub mod NarrowDecided
pub mod MarkFacts
pub mod LeastFacts
pub mod Full
