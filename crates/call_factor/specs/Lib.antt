pub mod Lengths
pub mod Calls
pub mod Accepted
