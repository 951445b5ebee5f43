-- A named rule means what its nodes mean.
pub mod Agreement
pub mod SameLeaves
pub mod SameParts
pub mod SameForms
pub mod TurnFacts
pub mod SameTails
pub mod MeaningFacts
