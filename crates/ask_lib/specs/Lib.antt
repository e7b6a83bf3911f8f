pub mod Asking
pub mod Held
pub mod Meaning
pub mod Needs
