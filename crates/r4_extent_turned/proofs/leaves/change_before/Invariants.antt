use Rattle.std.proofs.Common.{◌≡◌, drop, map}
use Rattle.std.specs.Arc.{arc_value}
use Rattle.std.specs.List.{list_all}
use Rattle.std.specs.Prelude.{Contains}
use Rattle.r4_content.specs.Held.{edits_of}
use Rattle.r4_extent_shrink.specs.r4_extent_growth.r4_measure.r4_cell.Seen.{CellSeen}
use Rattle.r4_extent_shrink.specs.r4_extent_growth.r4_measure.r4_path.Sharing.{IsSound}
use Rattle.r4_extent_turned.specs.Suiting.{changes_before}
use Rattle.r4_extent_turned.proofs.leaves.change_before.Given as goal

abbrev pub invariant-loop-cell : goal.invariant-loop-cell
invariant-loop-cell l = record {
  exact : list_all (changes_before l.fn.body (edits_of l.fn.edits)) (map (λ c. arc_value c) l.fn.cells)
      ≡ list_all (changes_before l.fn.body (edits_of l.fn.edits)) (map (λ c. arc_value c) (drop l.cell-index l.fn.cells));
  known : ((x : CellSeen) → Contains (map (λ c. arc_value c) (drop l.cell-index l.fn.cells)) x → x.level ≡ 1 → IsSound x)
      → (x : CellSeen) → Contains (map (λ c. arc_value c) l.fn.cells) x → x.level ≡ 1 → IsSound x;
}
