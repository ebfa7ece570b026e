pub mod Conditions
pub mod Counted
pub mod OwnNames
pub mod Premises
pub mod Refused
pub mod Widths
pub mod Written
