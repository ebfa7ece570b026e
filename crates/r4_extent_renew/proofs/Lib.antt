pub mod BlockUnits
pub mod Overwritten
pub mod Picked
pub mod Staying
