pub mod Ending
pub mod Stepping
pub mod Counting
pub mod Room
pub mod Example
pub mod Shown
pub mod Bytes
