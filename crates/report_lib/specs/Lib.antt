pub mod Reporting
pub mod Held
pub mod Meaning
pub mod Needs
