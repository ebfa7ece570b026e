pub mod Tables
pub mod Told
pub mod Drawn
pub mod Held
pub mod Serving
pub mod Worked
-- what crates above name by way of this one
pub use Rattle.r4_atoms.specs as r4_atoms
pub use Rattle.r4_turns.specs.r4_cell
pub use Rattle.r4_locks.specs as r4_locks
pub use Rattle.r4_turns.specs.r4_script
pub use Rattle.r4_trace.specs as r4_trace
pub use Rattle.r4_turns.specs as r4_turns
