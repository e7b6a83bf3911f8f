pub mod Ranked
pub mod Written
