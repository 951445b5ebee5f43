pub mod Captures
pub mod Heads
pub mod Puts
mod Rounds
mod Watching
