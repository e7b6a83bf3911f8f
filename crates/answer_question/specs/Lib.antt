pub mod Reducing
pub mod Answering
pub mod Needs
