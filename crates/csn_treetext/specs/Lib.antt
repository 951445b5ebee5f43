pub mod Text
pub mod Fits
pub mod Place
pub mod Laws
pub mod Examples
pub mod reader
