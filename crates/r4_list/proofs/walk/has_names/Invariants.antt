use Rattle.std.proofs.Common.{◌≡◌, length, ◌+◌, ◌-◌, ◌≤◌}
use Rattle.std.specs.List.{list_all}
use Rattle.r4_content.specs.Walk.{names_in}
use Rattle.r4_list.specs.OverWalks.{pieces_from}
use Rattle.r4_list.proofs.OverPieces.{is_legal}
use Rattle.r4_list.proofs.walk.has_names.Given as goal

abbrev pub invariant-loop-from : goal.invariant-loop-from
invariant-loop-from l = (l.from ≤ length l.path + 1) × (list_all is_legal (names_in l.path) ≡ list_all is_legal (pieces_from l.path l.from))

abbrev pub decreases-loop-from : goal.decreases-loop-from
decreases-loop-from l = length l.path + 1 - l.from
