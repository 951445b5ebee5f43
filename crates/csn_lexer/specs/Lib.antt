pub mod Word
pub mod Spelling
pub mod Symbol
pub mod Gap
pub mod Tokens
pub mod Cursor
pub mod Answer
