pub mod Coming
pub mod Flat
