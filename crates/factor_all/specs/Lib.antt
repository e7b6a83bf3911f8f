pub mod Factored
pub mod Factorization
pub mod Needs
pub mod OwnSet
