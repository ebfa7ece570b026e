pub mod Faults
pub mod Held
pub mod Known
pub mod Objects
pub mod Reach
pub mod Table
