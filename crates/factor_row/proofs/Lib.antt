pub mod Storage
pub mod LoadedRows
pub mod GatheredRows
pub mod PivotRows
pub mod TakenRows
pub mod PairRows
