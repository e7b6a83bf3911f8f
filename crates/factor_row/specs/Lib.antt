pub mod Storage
pub mod Gathering
pub mod Entries
pub mod PivotRow
pub mod Taking
pub mod Needs
