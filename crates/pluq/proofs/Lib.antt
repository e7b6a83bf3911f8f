pub mod Orders
pub mod Shapes
pub mod Judged
