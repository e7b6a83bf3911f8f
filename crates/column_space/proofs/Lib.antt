pub mod Substitutions
pub mod Solutions
pub mod Theorems
