use Rattle.std.proofs.Common.{◌≡◌, ◌++◌, map, take}
use Rattle.std.specs.Arc.{arc_value}
use Rattle.r4_patch.specs.Following.{without}
use Rattle.r4_patch.proofs.following.share_without.Given as goal

abbrev pub invariant-loop-cell : goal.invariant-loop-cell
invariant-loop-cell l =
    map (λ cell. arc_value cell) l.items.items
    ≡ map (λ cell. arc_value cell) l.initial.items.items ++ without l.ids (map (λ cell. arc_value cell) (take l.cell-index l.cells))
