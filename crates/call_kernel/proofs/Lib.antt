pub mod Ways
pub mod Tested
pub mod Theorems
