-- what crates above name by way of this one
pub use Rattle.r4_apply.specs.r4_take
