pub mod Ends
pub mod Lines
pub mod Follows
pub mod Answers
pub mod Cutting
pub mod FromEnd
pub mod Footing
pub mod Theorems
