mod OfKind
mod Read
mod Found
mod InTurn
-- what crates above name by way of this one
pub use Rattle.r4_history.proofs as r4_history
pub use Rattle.r4_served.proofs.r4_kept
pub use Rattle.r4_served.proofs.r4_open
pub use Rattle.r4_served.proofs.r4_taking
