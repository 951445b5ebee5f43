pub mod Basics
pub mod Meaning
pub mod Sets
pub mod Handing
pub mod Tables
