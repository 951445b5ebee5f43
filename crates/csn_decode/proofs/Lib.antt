-- Lemmas of csn_decode.
pub mod BuiltFacts
pub mod Grown
pub mod DecodingFacts
