pub mod Numbers
pub mod Over
pub mod Repacked
pub mod Climbing
pub mod Twigs
pub mod Shifting
pub mod Parting
