pub mod Turns
pub mod Replacing
pub mod Pools
pub mod Captured
pub mod Staying
pub mod Swept
