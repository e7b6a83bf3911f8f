pub mod Stages
pub mod Results
pub mod Lists
pub mod Staged
pub mod Meaning
pub mod Needs
