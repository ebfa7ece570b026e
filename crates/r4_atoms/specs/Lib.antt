pub mod Names
pub mod Forest
pub mod Owned
pub mod Scripts
pub mod Atoms
