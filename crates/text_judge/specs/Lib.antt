pub mod Line
pub mod Spaces
pub mod Starts
pub mod Judge
pub mod Sight
