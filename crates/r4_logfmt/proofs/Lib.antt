pub mod Fields
pub mod Laws
pub mod Pairs
pub mod Writes
pub mod Again
