pub mod ReadWords
pub mod RuleRows
pub mod Words
