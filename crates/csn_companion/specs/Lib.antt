pub mod Outside
pub mod Words
