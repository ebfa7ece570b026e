pub mod Items
pub mod Packing
pub mod Over
pub mod Squeezing
