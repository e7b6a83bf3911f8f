pub mod Demand1
pub mod Demand2
pub mod Demand3
pub mod Owners
pub mod Sums
pub mod Slots
pub mod Freedom
pub mod Texts
