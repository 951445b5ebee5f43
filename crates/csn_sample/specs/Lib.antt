pub mod Covering
pub mod Generator
pub mod Nearly
pub mod Samples
pub mod Spans
pub mod Tries
pub mod Ways
