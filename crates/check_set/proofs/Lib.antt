pub mod Faults
pub mod Lengths
