pub mod JsonTree
pub mod JsonText
pub mod Forms
pub mod Reading
pub mod Pieces
pub mod Laws
pub mod Examples
