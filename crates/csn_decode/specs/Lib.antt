pub mod Built
pub mod Decoding
