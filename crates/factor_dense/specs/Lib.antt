pub mod Block
pub mod Taking
pub mod Storing
pub mod Turn
pub mod Needs
