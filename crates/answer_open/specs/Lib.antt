pub mod Counting
pub mod Opening
pub mod Witness
pub mod Needs
