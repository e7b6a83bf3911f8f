pub mod Labels
pub mod Lines
pub mod Report
pub mod Needs
pub mod Answer
pub mod Digits
pub mod Printed
pub mod Settings
