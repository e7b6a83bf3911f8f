pub mod InPlace
pub mod Gathering
pub mod Needs
