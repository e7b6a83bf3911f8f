pub mod Moduli
pub mod FirstLines
