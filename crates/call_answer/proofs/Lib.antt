pub mod Lengths
pub mod Ways
pub mod Theorems
pub mod Sums
pub mod Odds
