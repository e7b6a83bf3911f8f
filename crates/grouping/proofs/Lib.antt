pub mod Every
pub mod Groups
pub mod Stable
pub mod Parts
pub mod Counts
pub mod Spreads
pub mod Walks
