mod Taken
mod Gathered
mod Clear
mod Roomy
mod Refusing
mod Judged
mod Sealings
-- what crates above name by way of this one
pub use Rattle.r4_core.proofs as r4_core
pub use Rattle.r4_core.proofs.r4_history
pub use Rattle.r4_core.proofs.r4_kept
pub use Rattle.r4_core.proofs.r4_open
pub use Rattle.r4_core.proofs.r4_ready
pub use Rattle.r4_core.proofs.r4_suited
pub use Rattle.r4_core.proofs.r4_taking
pub use Rattle.r4_core.proofs.r4_trace
