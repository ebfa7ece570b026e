-- What a view of a node shows.
use Rattle.std.specs.Prelude.{ℕ, List}
use Rattle.std.specs.Borrow.{Bor}
use Rattle.r4_base.specs.Node.{Item, items_of}
use Rattle.r4_node40.specs.declared.view.NodeView.{NodeView}
use Rattle.r4_node40.specs.declared.view.ItemView.{ItemView}

-- the block that it reads
abbrev pub view_block : NodeView → Bor (List ℕ)
view_block v = v.block

abbrev pub view_items : NodeView → List Item
view_items v = items_of v.block.now

abbrev pub item_shown : ItemView → Item
item_shown i = record { key = i.key; plugin = i.plugin; body = i.body.now }
