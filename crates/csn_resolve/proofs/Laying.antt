-- The nodes that are given are numbered through and well formed, and which field is counted with too many others.
pub mod Holding
pub mod Numbered
pub mod NodeFacts
pub mod ShownFacts
pub mod InsideFacts
pub mod LaidParts
pub mod LaidFacts
pub mod Crowding
