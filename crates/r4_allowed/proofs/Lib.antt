mod Entries
mod Pointing
pub mod Allowed
mod Searching
mod Coming
pub mod Raised
mod Suffices
-- what crates above name by way of this one
pub use Rattle.r4_extent_put.proofs.r4_extent_change
pub use Rattle.r4_extent_put.proofs.r4_extent_turned
pub use Rattle.r4_extent_put.proofs.r4_extent_shrink
pub use Rattle.r4_extent_put.proofs.r4_extent_growth
pub use Rattle.r4_extent_put.proofs as r4_extent_put
