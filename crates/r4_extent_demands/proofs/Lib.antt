pub mod Runs
pub mod Gains
pub mod Rooms
pub mod Firsts
pub mod Low
pub mod RunBytes
pub mod Cuts
pub mod Changes
pub mod Puts
pub mod Meets
pub mod PutsInto
pub mod Ahead
pub mod Bounded
pub mod OfCommands
pub mod Nothing
-- what crates above name by way of this one
pub use Rattle.r4_bodies.proofs as r4_bodies
pub use Rattle.r4_bodies.proofs.r4_leaf_demands
pub use Rattle.r4_bodies.proofs.r4_leaf_edits
pub use Rattle.r4_graft.proofs.r4_branch
pub use Rattle.r4_bodies.proofs.r4_marking
pub use Rattle.r4_graft.proofs as r4_graft
pub use Rattle.r4_bodies.proofs.r4_leaf
pub use Rattle.r4_bodies.proofs.r4_patch
pub use Rattle.r4_bodies.proofs.r4_path
