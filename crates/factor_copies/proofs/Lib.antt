pub mod CopyLaws
pub mod TakeLaws
pub mod SpreadLaws
pub mod HoldLaws
