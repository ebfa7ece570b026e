mod AtStart
mod Answered
mod Ended
mod Replied
mod RefusedOut
mod Begun
mod Pushed
mod GivingBack
mod HandedOut
mod Holding
mod Writing
mod Parting
mod Heading
mod Joined
pub mod FusingAll
mod Footing
mod Emptied
mod SealedEmpty
mod SealedCells
mod Sparing
mod Advanced
mod Stepped
mod MayDo
mod DoneBy
mod Roomier
-- what crates above name by way of this one
pub use Rattle.r4_flushing.proofs as r4_flushing
pub use Rattle.r4_others.proofs.r4_history
pub use Rattle.r4_ready.proofs.r4_kept
pub use Rattle.r4_start.proofs.r4_open
pub use Rattle.r4_ready.proofs as r4_ready
pub use Rattle.r4_ready.proofs.r4_suited
pub use Rattle.r4_ready.proofs.r4_taking
pub use Rattle.r4_trace.proofs as r4_trace
pub use Rattle.r4_wander.proofs as r4_wander
