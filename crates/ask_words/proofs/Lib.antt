pub mod Lines
pub mod Details
pub mod Solved
pub mod Told
pub mod Theorems
