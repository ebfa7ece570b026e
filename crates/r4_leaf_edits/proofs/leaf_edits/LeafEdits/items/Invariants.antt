use Rattle.std.proofs.Common.{◌≡◌, map, take}
use Rattle.r4_reach.specs.r4_leaf.Remade.{item_of}
use Rattle.r4_leaf_edits.specs.Made.{made_item}
use Rattle.r4_leaf_edits.proofs.leaf_edits.LeafEdits.items.Given as goal

abbrev pub invariant-loop-item : goal.invariant-loop-item
invariant-loop-item l = map item_of l.items.items ≡ map made_item (take l.item-index l.self.items.items)
