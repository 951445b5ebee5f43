pub mod Header
pub mod Joining
pub mod Kept
pub mod Examples
pub mod Laws
