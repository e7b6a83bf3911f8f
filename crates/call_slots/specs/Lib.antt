pub mod Calls
pub mod Meaning
pub mod Needs
pub mod Solution
