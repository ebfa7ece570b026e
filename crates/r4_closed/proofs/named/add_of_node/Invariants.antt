use Rattle.std.proofs.Common.{◌≡◌, ◌++◌, ◌^◌, take}
use Rattle.std.specs.Prelude.{All, flat_map}
use Rattle.r4_base.specs.Cell.{item_names}
use Rattle.r4_node40.specs.View.{view_items}
use Rattle.r4_closed.specs.Named.{ItemStands, new_ids}
use Rattle.r4_closed.proofs.named.add_of_node.Given as goal

abbrev pub invariant-loop-i : goal.invariant-loop-i
invariant-loop-i l = record {
  stand : All (ItemStands (2 ^ 63)) (take l.i (view_items l.node));
  named : l.named.items ≡ l.initial.named.items
      ++ flat_map (λ it. new_ids (item_names 0 0 it)) (take l.i (view_items l.node));
}
