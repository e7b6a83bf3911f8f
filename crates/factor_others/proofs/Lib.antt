pub mod Places
pub mod OtherPass
