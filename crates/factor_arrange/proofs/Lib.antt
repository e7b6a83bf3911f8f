pub mod Waits
pub mod Cells
pub mod Counting
pub mod Releasing
pub mod Listing
