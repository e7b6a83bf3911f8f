pub mod Solving
pub mod Held
pub mod Meaning
pub mod Needs
