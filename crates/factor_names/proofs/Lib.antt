pub mod RowEntries
pub mod LocalLists
