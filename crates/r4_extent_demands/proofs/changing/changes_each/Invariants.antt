use Rattle.std.proofs.Common.{◌≡◌}
use Rattle.std.specs.List.{list_any}
use Rattle.std.specs.Prelude.{drop}
use Rattle.r4_base.specs.Node.{items_of}
use Rattle.r4_graft.specs.r4_branch.Pieces.{pieces_in}
use Rattle.r4_content.specs.Held.{edits_of}
use Rattle.r4_extent_demands.specs.Changing.{is_changed}
use Rattle.r4_extent_demands.proofs.changing.changes_each.Given as goal

abbrev pub invariant-loop-i : goal.invariant-loop-i
invariant-loop-i l = list_any (is_changed l.body (edits_of l.edits)) (pieces_in (drop l.i (items_of l.twig.block)))
    ≡ list_any (is_changed l.body (edits_of l.edits)) (pieces_in (items_of l.twig.block))
