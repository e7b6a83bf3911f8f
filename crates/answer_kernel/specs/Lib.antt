pub mod Filling
pub mod Needs
