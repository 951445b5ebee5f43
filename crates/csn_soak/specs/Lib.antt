pub mod Generator
pub mod Soaking
pub mod Template
