pub mod Sized
pub mod Named
