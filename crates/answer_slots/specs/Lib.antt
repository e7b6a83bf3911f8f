pub mod Solving
pub mod Needs
