pub mod Own
pub mod Made
pub mod Told
