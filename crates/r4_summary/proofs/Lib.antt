pub mod Blind
pub mod KeptEdits
pub mod Parts
pub mod Steps
pub mod Sums
pub mod Places
