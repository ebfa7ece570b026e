pub mod Marks
pub mod OneItem
pub mod Labels
pub mod Writing
pub mod Ordering
pub mod Idling
pub mod Sparing
