pub mod Touched
pub mod Marking
pub mod Searching
pub mod Settling
