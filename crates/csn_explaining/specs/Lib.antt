pub mod LeafLine
pub mod Misfits
pub mod Texts
pub mod Wanted
pub mod Ways
