pub mod Residues
pub mod Marked
pub mod Multiples
pub mod MarkedPivots
pub mod MarkedRows
pub mod SettledRows
