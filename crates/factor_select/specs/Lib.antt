pub mod Search
pub mod Needs
