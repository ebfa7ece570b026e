pub mod Finds
pub mod Below
pub mod EntryParts
pub mod Moves
mod Halves
