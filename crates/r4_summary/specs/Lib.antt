pub mod Kept
pub mod Totals
