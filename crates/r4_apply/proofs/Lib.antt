mod Doable
mod Answered
-- what crates above name by way of this one
pub use Rattle.r4_right.proofs.r4_kept
pub use Rattle.r4_back.proofs.r4_open
