pub mod State
pub mod Keeping
pub mod Turning
pub mod Passing
pub mod Needs
pub mod Others
