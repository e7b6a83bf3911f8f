pub mod Table
pub mod Faults
pub mod Outcome
pub mod Refusals
