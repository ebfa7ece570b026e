pub mod Beginning
pub mod Quiet
pub mod Below
pub mod Moved
pub mod Steps
pub mod Staying
