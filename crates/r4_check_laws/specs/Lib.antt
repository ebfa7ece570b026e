-- what crates above name by way of this one
pub use Rattle.r4_check.specs as r4_check
pub use Rattle.r4_check.specs.r4_list
pub use Rattle.r4_check.specs.r4_open
pub use Rattle.r4_check.specs.r4_search
