pub mod Changing
pub mod Picking
pub mod Stopping
