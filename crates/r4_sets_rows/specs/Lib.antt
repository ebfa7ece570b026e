pub mod Small
pub mod Worked
pub mod Needed
pub mod OneFile
