pub mod Rising
pub mod Completing
pub mod Choosing
pub mod Selecting
