pub mod Following
pub mod SoundItems
pub mod UnitPieces
pub mod Lying
pub mod Standing
pub mod Opened
pub mod Bodied
pub mod Filled
pub mod Joined
pub mod Spelled
pub mod Growing
pub mod Putting
pub mod Packed
pub mod Counted
pub mod ItemPieces
-- what crates above name by way of this one
pub use Rattle.r4_twig.proofs as r4_twig
pub use Rattle.r4_node40.proofs as r4_node40
