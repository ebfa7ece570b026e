pub mod Closed
pub mod Named
