pub mod Copies
pub mod Spreading
