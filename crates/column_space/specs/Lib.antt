pub mod Substitution
pub mod Slots
