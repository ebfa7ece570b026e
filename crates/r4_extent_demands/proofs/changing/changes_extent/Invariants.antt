use Rattle.std.proofs.Common.{◌≡◌, take}
use Rattle.std.specs.List.{list_any}
use Rattle.std.specs.Prelude.{drop}
use Rattle.r4_base.specs.Extents.{blocks_in, units_of}
use Rattle.r4_graft.specs.r4_branch.Pieces.{unit_pieces}
use Rattle.r4_content.specs.Held.{edits_of}
use Rattle.r4_extent_demands.specs.Changing.{is_changed}
use Rattle.r4_extent_demands.proofs.changing.changes_extent.Given as goal

abbrev pub invariant-loop-i : goal.invariant-loop-i
invariant-loop-i l = record {
  at : l.blocks ≡ blocks_in (take l.i (units_of l.units));
  rest : list_any (is_changed l.body (edits_of l.edits)) (unit_pieces l.key l.blocks (drop l.i (units_of l.units)))
      ≡ list_any (is_changed l.body (edits_of l.edits)) (unit_pieces l.key 0 (units_of l.units));
}
