pub mod Column
pub mod FirstLine
pub mod Lines
pub mod Checking
pub mod Beginning
pub mod Theorems
