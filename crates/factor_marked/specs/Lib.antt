pub mod Marking
pub mod Pivots
pub mod Needs
