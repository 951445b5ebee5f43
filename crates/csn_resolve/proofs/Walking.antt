-- The walk that looks for refusals: it has one list of steps, and how the code goes over them.
pub mod Walked
pub mod Total
pub mod Inversion
pub mod GoingFacts
pub mod WalkFacts
pub mod WalkForms
pub mod DepthFacts
pub mod LeftFacts
pub mod FirstFacts
pub mod Quiet
pub mod QuietFacts
