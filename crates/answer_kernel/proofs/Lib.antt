pub mod MarkLoop
pub mod SettingLaws
pub mod BlockLaws
pub mod SettingsLoop
pub mod BasisLaws
