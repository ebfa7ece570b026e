pub mod Lawful
pub mod Steps
mod Spelled
