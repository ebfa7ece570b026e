pub mod Images
pub mod Moments
pub mod Recorded
pub mod Lent
pub mod Mixing
pub mod Crashing
pub mod Texts
