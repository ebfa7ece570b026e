pub mod Picks
pub mod Stop
pub mod File
