pub mod Dropped
pub mod Told
pub mod Planned
