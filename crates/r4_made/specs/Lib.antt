pub mod Making
pub mod Gathering
pub mod Losing
pub mod Growing
pub mod Putting
