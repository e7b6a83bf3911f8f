pub mod Written
pub mod Call
pub mod Accepted
