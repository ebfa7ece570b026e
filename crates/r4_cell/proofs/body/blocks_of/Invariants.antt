use Rattle.std.proofs.Common.{◌≡◌, ◌*◌, ◌^◌, ◌≤◌, take}
use Rattle.r4_base.specs.Extents.{blocks_in}
use Rattle.r4_twig.specs.View.{view_units}
use Rattle.r4_cell.proofs.body.blocks_of.Given as goal

abbrev pub invariant-loop-i : goal.invariant-loop-i
invariant-loop-i l = record {
  sum : l.blocks ≡ blocks_in (take l.i (view_units l.extent));
  small : l.blocks ≤ l.i * 2 ^ 64;
}
