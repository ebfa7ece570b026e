pub mod Splices
pub mod Places
-- what crates above name by way of this one
pub use Rattle.r4_branch.specs as r4_branch
pub use Rattle.r4_branch.specs.r4_node40
