use Rattle.std.proofs.Common.{◌≡◌, ℕ, ◌+◌, ◌^◌, ◌<◌}
use Rattle.std.specs.Prelude.{slice_get, Some}
use Rattle.r4_extent_edit_tests.proofs.NewBlocks.{block_unit}
use Rattle.r4_twig.specs.View.{view_units}
use Rattle.r4_extent_edit_tests.proofs.blocks.count_new_blocks.Given as goal

abbrev pub invariant-loop-i : goal.invariant-loop-i
invariant-loop-i l = (k : ℕ) → k < l.i → slice_get (view_units l.extent) k ≡ Some (block_unit (2 ^ 63 + 2000 + k))
