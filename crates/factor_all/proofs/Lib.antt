pub mod FromPairs
pub mod StructuralStart
pub mod OwnSet
