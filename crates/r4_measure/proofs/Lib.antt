pub mod Parent
pub mod Climb
pub mod Few
pub mod Kept
pub mod Suffices
pub mod OldCells
pub mod Placed
pub mod Grafted
pub mod Turn
pub mod TwigTurn
pub mod Loop
pub mod Asked
pub mod AskedTwigs
pub mod Begin
pub mod FreshReach
-- what crates above name by way of this one
pub use Rattle.r4_reach.proofs.r4_branch
pub use Rattle.r4_work.proofs.r4_edit
pub use Rattle.r4_reach.proofs.r4_leaf
pub use Rattle.r4_reach.proofs.r4_patch
pub use Rattle.r4_reach.proofs.r4_path
pub use Rattle.r4_reach.proofs as r4_reach
pub use Rattle.r4_work.proofs as r4_work
