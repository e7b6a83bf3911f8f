pub mod Answering
pub mod Held
pub mod Needs
