pub mod Rising
pub mod Stored
pub mod Call
pub mod Stating
pub mod Held
pub mod Collect
pub mod Needs
