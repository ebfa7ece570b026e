pub mod Filled
pub mod NewBlocks
pub mod Raised
pub mod Turned
