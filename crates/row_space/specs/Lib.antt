pub mod Substitution
pub mod Solve
pub mod Question
pub mod Solving
pub mod Needs
pub mod Kernel
