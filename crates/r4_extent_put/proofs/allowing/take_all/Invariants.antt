use Rattle.std.proofs.Common.{◌≡◌, drop, map}
use Rattle.std.specs.Arc.{arc_value}
use Rattle.std.specs.List.{list_all}
use Rattle.std.specs.Option.{option_copied}
use Rattle.std.specs.Prelude.{Contains}
use Rattle.r4_content.specs.Held.{edits_of}
use Rattle.r4_extent_turned.specs.r4_extent_growth.r4_measure.r4_cell.Seen.{CellSeen}
use Rattle.r4_extent_put.specs.Taking.{IsKnown, takes_values}
use Rattle.r4_extent_put.specs.Whole.{putting_among}
use Rattle.r4_extent_put.proofs.allowing.take_all.Given as goal

abbrev pub invariant-loop-cell : goal.invariant-loop-cell
invariant-loop-cell l = record {
  exact : list_all (takes_values (option_copied l.fn.body) (edits_of l.fn.edits)) (putting_among (option_copied l.fn.body) (edits_of l.fn.edits) (map (λ c. arc_value c) l.fn.cells))
      ≡ list_all (takes_values (option_copied l.fn.body) (edits_of l.fn.edits)) (putting_among (option_copied l.fn.body) (edits_of l.fn.edits) (map (λ c. arc_value c) (drop l.cell-index l.fn.cells)));
  known : ((x : CellSeen) → Contains (map (λ c. arc_value c) (drop l.cell-index l.fn.cells)) x → IsKnown (option_copied l.fn.body) (edits_of l.fn.edits) x)
      → (x : CellSeen) → Contains (map (λ c. arc_value c) l.fn.cells) x → IsKnown (option_copied l.fn.body) (edits_of l.fn.edits) x;
}
