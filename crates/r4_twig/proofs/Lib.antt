pub mod Places
pub mod Faults
pub mod Cuts
pub mod Joins
pub mod Edits
pub mod Merges
