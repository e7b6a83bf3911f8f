pub mod Owned
pub mod Meaning
