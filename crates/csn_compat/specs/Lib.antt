pub mod Pairs
pub mod Takes
pub mod Places
pub mod Laws
pub mod Examples
