pub mod LentLists
pub mod Ready
pub mod Theorems
