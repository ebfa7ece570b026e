pub mod Regrafted
pub mod Renewed
pub mod Standing
-- what crates above name by way of this one
pub use Rattle.r4_extent_edit.proofs as r4_extent_edit
pub use Rattle.r4_measure.proofs as r4_measure
pub use Rattle.r4_measure.proofs.r4_patch
pub use Rattle.r4_measure.proofs.r4_path
pub use Rattle.r4_measure.proofs.r4_work
pub use Rattle.r4_measure.proofs.r4_edit
