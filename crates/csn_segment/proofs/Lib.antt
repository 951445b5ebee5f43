pub mod Lasts
pub mod Bodies
pub mod Own
pub mod Short
