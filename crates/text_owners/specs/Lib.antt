pub mod Ending
pub mod Owners
pub mod Call
pub mod Stating
pub mod Needs
pub mod Cut
