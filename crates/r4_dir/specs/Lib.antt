pub mod Finding
pub mod Coming
pub mod Found
pub mod Entries
pub mod Changes
