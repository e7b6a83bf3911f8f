pub mod Orders
pub mod WorkingRow
pub mod PassOne
pub mod PassTwo
