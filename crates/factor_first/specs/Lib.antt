pub mod Dense
pub mod Needs
