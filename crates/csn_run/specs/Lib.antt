pub mod Job
pub mod Known
pub mod Laws
pub mod Outside
pub mod Planned
pub mod Ran
pub mod Result
pub mod Told
