-- Rules by their names, rules in tail form, and the labelled items that a part sees.
pub mod NumberFacts
pub mod Fresh
pub mod TailFacts
pub mod TailShaped
pub mod ViewFacts
pub mod LabelledFacts
