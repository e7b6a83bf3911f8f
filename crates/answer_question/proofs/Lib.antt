pub mod ReduceLoop
pub mod AnswerLaws
pub mod Joined
pub mod Passed
