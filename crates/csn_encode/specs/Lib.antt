pub mod Misfits
pub mod Writing
pub mod Encoding
pub mod Laws
pub mod Examples
pub mod Following
