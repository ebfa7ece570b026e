-- what crates above name by way of this one
pub use Rattle.r4_apply.proofs.r4_kept
