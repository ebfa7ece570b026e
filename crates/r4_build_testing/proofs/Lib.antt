pub mod Lawful
mod Room
pub mod TwoCells
