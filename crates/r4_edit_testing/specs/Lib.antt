pub mod Trials
pub mod Remaking
