pub mod Cuts
pub mod Eights
pub mod Joins
pub mod Values
pub mod RunLaws
pub mod Canonical
pub mod CanonicalSigned
