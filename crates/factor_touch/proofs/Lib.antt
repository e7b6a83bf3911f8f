pub mod Marking
pub mod SettleSteps
