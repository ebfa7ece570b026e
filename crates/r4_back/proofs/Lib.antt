mod Back
mod NextRoom
-- what crates above name by way of this one
pub use Rattle.r4_next.proofs.r4_history
pub use Rattle.r4_next.proofs.r4_open
