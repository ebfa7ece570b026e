mod Refused
mod Starting
mod Answering
-- what crates above name by way of this one
pub use Rattle.r4_take.proofs.r4_kept
pub use Rattle.r4_take.proofs.r4_open
pub use Rattle.r4_take.proofs as r4_take
pub use Rattle.r4_take.proofs.r4_taking
