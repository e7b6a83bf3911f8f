pub mod Values
pub mod Ending
pub mod Cut
pub mod Verb
pub mod Settings
