-- The nodes that an expression gives: they are one list, and there are some where nothing is refused; and how the code makes them.
pub mod Once
pub mod Given
pub mod FewNodes
pub mod KeptFacts
pub mod AddFacts
pub mod BuildFacts
pub mod MadeFacts
