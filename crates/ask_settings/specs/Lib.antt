pub mod Settings
pub mod Held
pub mod Needs
pub mod Meaning
