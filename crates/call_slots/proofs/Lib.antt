pub mod Lengths
pub mod Values
pub mod Ways
pub mod Theorems
