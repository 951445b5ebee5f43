-- The sets of a node, as the code makes them from those of its parts, kind by kind.
pub mod Telling
pub mod LeavesTell
pub mod PartsTell
pub mod RepetitionsTell
pub mod UnitsTell
pub mod LabelsTell
pub mod LookFacts
pub mod LookKeyFacts
