pub mod Owned
pub mod Ways
pub mod Answers
pub mod Sums
