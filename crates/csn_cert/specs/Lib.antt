pub mod PatternV
pub mod PatternText
pub mod CertificateV
pub mod CertificateText
pub mod Growing
pub mod Reading
pub mod Laws
