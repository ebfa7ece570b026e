use Rattle.std.proofs.Common.{◌≡◌, ◌≤◌}
use Rattle.std.specs.Prelude.{take}
use Rattle.r4_extent_change.specs.r4_extent_build.Numbering.{coming_count}
use Rattle.r4_extent_growth.proofs.twigs.coming_count.Given as goal

abbrev pub invariant-loop-piece : goal.invariant-loop-piece
invariant-loop-piece l = record {
  count : l.count ≡ coming_count l.old (take l.piece-index l.new);
  few : l.count ≤ l.piece-index;
}
