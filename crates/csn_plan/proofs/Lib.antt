pub mod EntryPlans
pub mod Reasons
pub mod Texts
