pub mod Numbers
pub mod RunPieces
pub mod EachTurn
pub mod FilledHoles
pub mod GrownTwigs
pub mod UncutTwigs
pub mod PackedTwigs
pub mod GrowingTurns
pub mod UnitsOfRuns
pub mod UnitsFilled
pub mod TurnEffect
pub mod TurnSets
pub mod OneTurn
pub mod Changing
pub mod AllTurns
pub mod GrowingReady
-- what crates above name by way of this one
pub use Rattle.r4_twig_turns.proofs as r4_twig_turns
pub use Rattle.r4_extent_blocks.proofs.r4_node40
pub use Rattle.r4_extent_demands.proofs.r4_patch
pub use Rattle.r4_extent_demands.proofs.r4_branch
pub use Rattle.r4_extent_demands.proofs.r4_graft
pub use Rattle.r4_extent_demands.proofs.r4_leaf
pub use Rattle.r4_extent_demands.proofs.r4_path
pub use Rattle.r4_extent_demands.proofs.r4_leaf_edits
pub use Rattle.r4_twig_turns.proofs.r4_edit
pub use Rattle.r4_twig_turns.proofs.r4_work
pub use Rattle.r4_twig_turns.proofs.r4_measure
pub use Rattle.r4_twig_turns.proofs.r4_twig_work
pub use Rattle.r4_extent_demands.proofs as r4_extent_demands
pub use Rattle.r4_twig_turns.proofs.r4_extent_edit
pub use Rattle.r4_extent_blocks.proofs as r4_extent_blocks
