use Rattle.std.proofs.Common.{◌≡◌, ◌++◌}
use Rattle.std.specs.Vec.Iter.{into_iter_items}
use Rattle.r4_row_edit.proofs.moving.move_all.Given as goal

abbrev pub invariant-loop-item : goal.invariant-loop-item
invariant-loop-item l = l.to.items ++ into_iter_items l.item-iterator
    ≡ l.initial.to.items ++ into_iter_items l.initial.item-iterator
