pub mod Order
pub mod Working
pub mod Remaking
-- what crates above name by way of this one
pub use Rattle.r4_edit.specs as r4_edit
pub use Rattle.r4_edit.specs.r4_cell
pub use Rattle.r4_edit.specs.r4_patch
pub use Rattle.r4_edit.specs.r4_leaf
pub use Rattle.r4_edit.specs.r4_branch
pub use Rattle.r4_edit.specs.r4_graft
pub use Rattle.r4_edit.specs.r4_path
