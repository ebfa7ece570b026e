pub mod Places
pub mod AtomSteps
pub mod CommitSteps
pub mod Told
pub mod RunSteps
pub mod Drawing
pub mod DrawnSteps
pub mod ServingSteps
pub mod Fusing
pub mod Ordered
pub mod WaitingSteps
pub mod TaskSteps
pub mod Worked
pub mod WorkedTask
-- what crates above name by way of this one
pub use Rattle.r4_turns.proofs.r4_cell
pub use Rattle.r4_trace.proofs as r4_trace
pub use Rattle.r4_turns.proofs.r4_twig
