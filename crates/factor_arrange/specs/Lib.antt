pub mod Waiting
pub mod Needs
