pub mod Grouping
pub mod Repeats
pub mod Needs
