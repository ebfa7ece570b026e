pub mod Blocks
pub mod Borders
pub mod Raised
pub mod Turned
