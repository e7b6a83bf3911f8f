pub mod Kept
pub mod Cutting
pub mod CutOff
pub mod Ends
pub mod Printing
pub mod TextLines
