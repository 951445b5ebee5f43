pub mod Answered
mod Likened
mod Placed
mod Spotted
mod Told
mod Ways
