pub mod Orders
pub mod Spaces
pub mod Counted
pub mod Bounded
pub mod OneChange
