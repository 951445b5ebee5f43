pub mod Octets
pub mod Numbers
pub mod Packed
pub mod Line
pub mod Feed
pub mod Fault
pub mod Laws
