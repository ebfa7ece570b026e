pub mod SoundItems
pub mod Following
pub mod EntryPieces
pub mod ItemPieces
pub mod Lying
pub mod Rising
pub mod CutPieces
pub mod Merged
pub mod Opened
pub mod Bodied
pub mod Weighed
pub mod LeafItems
pub mod Filled
pub mod TailFilled
pub mod EntryWritten
pub mod EntryFilled
pub mod LeftOver
pub mod Packed
pub mod Standing
mod Bounded
mod Counted
mod Halved
pub mod Measured
-- what crates above name by way of this one
pub use Rattle.r4_node40.proofs as r4_node40
