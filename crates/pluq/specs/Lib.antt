pub mod Order
pub mod Shape
pub mod Judge
