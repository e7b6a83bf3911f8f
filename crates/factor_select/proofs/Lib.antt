pub mod Trails
pub mod Fitting
pub mod Reaching
pub mod Surviving
pub mod Cells
pub mod Taking
