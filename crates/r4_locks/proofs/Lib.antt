pub mod Counts
pub mod HoldLaws
pub mod CallLaws
pub mod ConflictLaws
mod Alone
