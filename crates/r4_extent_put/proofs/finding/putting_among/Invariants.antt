use Rattle.std.proofs.Common.{◌≡◌, map, take}
use Rattle.std.specs.Arc.{arc_value}
use Rattle.std.specs.Option.{option_copied}
use Rattle.r4_content.specs.Held.{edits_of}
use Rattle.r4_extent_put.specs.Whole.{putting_among}
use Rattle.r4_extent_put.proofs.finding.putting_among.Given as goal

abbrev pub invariant-loop-cell : goal.invariant-loop-cell
invariant-loop-cell l = map (λ c. arc_value c) l.twigs.items
    ≡ putting_among (option_copied l.fn.body) (edits_of l.fn.edits) (map (λ c. arc_value c) (take l.cell-index l.fn.cells))
