pub mod Tested
pub mod Outcomes
pub mod Numbers
pub mod Theorems
pub mod Checked
