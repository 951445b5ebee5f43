pub mod Nullable
pub mod Ends
pub mod Starts
pub mod Keys
pub mod Reached
pub mod Least
pub mod Counts
