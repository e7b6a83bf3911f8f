pub mod Marks
pub mod RowTests
