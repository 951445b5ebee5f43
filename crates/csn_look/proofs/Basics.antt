-- Numbers below others, octets, their positions and marks, places in lists, and words.
pub mod Below
pub mod OctetMarks
pub mod Octets
pub mod Puts
pub mod Places
pub mod Words
pub mod Spanned
