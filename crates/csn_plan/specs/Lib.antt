pub mod Compiled
pub mod Ended
pub mod TextPlans
