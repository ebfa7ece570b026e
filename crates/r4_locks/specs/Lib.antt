pub mod Modes
pub mod Locks
pub mod Kept
