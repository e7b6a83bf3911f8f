pub mod Details
pub mod Lines
pub mod Answered
pub mod Following
pub mod Asked
pub mod Theorems
