pub mod Inserted
pub mod Found
pub mod Placing
pub mod Noting
pub mod Hanging
pub mod Reading
pub mod Putting
pub mod AskedOn
pub mod LookingOn
pub mod Staying
-- what crates above name by way of this one
pub use Rattle.r4_gather.proofs as r4_gather
pub use Rattle.r4_patch.proofs as r4_patch
pub use Rattle.r4_search.proofs as r4_search
pub use Rattle.r4_sight.proofs as r4_sight
