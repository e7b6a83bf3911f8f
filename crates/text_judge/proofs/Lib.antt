pub mod Cutting
pub mod StartLaws
pub mod Verdicts
pub mod Sights
