pub mod Storing
pub mod Remaining
