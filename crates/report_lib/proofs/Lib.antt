pub mod Printing
pub mod Reporting
pub mod Totals
pub mod Theorems
