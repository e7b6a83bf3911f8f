pub mod Ways
pub mod Theorems
