use Rattle.std.proofs.Common.{◌∙◌, ◌-◌, ap, sym, subst, arith, length}
use Rattle.r4_base.specs.Bytes.{number_bytes}
use Rattle.r4_base.specs.Node.{items_of}
use Rattle.r4_base.proofs.Numbers.{length-number_bytes}
use Rattle.std.specs.Arc.{arc_value}
use Rattle.r4_leaf.specs.r4_node40.Edits.{GoesBetween}
use Rattle.r4_leaf.specs.r4_node40.Loan.{bytes_of}
use Rattle.r4_leaf.specs.r4_node40.View.{item_shown}
use Rattle.r4_path.specs.Nodes.{IsAppended, pointer_item}
use Rattle.r4_path.specs.Rows.{row_items, row_level}
use Rattle.r4_path.proofs.Pointers.{pointed}
use Rattle.r4_path.proofs.Putting.{put_above, put_counted, put_next, put_plugin, put_room}
use Rattle.r4_path.proofs.row.Row.put.Goals as goal

pub append-requires-clause-counted : goal.append-requires-clause-counted
append-requires-clause-counted c = put_counted (row_items c.args.self.now) c.args.from c.args.i
    (item_shown c.in-Stays.item) c.requires.order c.in-Stays.ensures (row_level c.args.self.now)
    (bytes_of c.args.node.now) c.requires.row.rise c.requires.row.fit c.requires.node

pub append-requires-clause-plugin : goal.append-requires-clause-plugin
append-requires-clause-plugin c = put_plugin (row_items c.args.self.now) c.args.from c.args.i
    (item_shown c.in-Stays.item) c.requires.order c.in-Stays.ensures (row_level c.args.self.now)
    (bytes_of c.args.node.now) c.requires.row.rise c.requires.row.fit c.requires.node

pub append-requires-clause-above : goal.append-requires-clause-above
append-requires-clause-above c = put_above (row_items c.args.self.now) c.args.from c.args.i
    (item_shown c.in-Stays.item) c.requires.order c.in-Stays.ensures (row_level c.args.self.now)
    (bytes_of c.args.node.now) c.requires.row.rise c.requires.row.fit c.requires.node

pub append-requires-clause-some : goal.append-requires-clause-some
append-requires-clause-some c = (c.requires.row.bodies c.args.i (item_shown c.in-Stays.item) c.in-Stays.ensures).0

pub append-requires-clause-room : goal.append-requires-clause-room
append-requires-clause-room c = put_room (row_items c.args.self.now) c.args.from c.args.i
    (item_shown c.in-Stays.item) c.requires.order c.in-Stays.ensures (row_level c.args.self.now)
    (bytes_of c.args.node.now) c.requires.row.rise c.requires.row.fit c.requires.node c.requires.room

pub append-requires-in-Comes-clause-counted : goal.append-requires-in-Comes-clause-counted
append-requires-in-Comes-clause-counted c = put_counted (row_items c.args.self.now) c.args.from c.args.i
    (pointer_item (arc_value c.in-Comes.cell.now)) c.requires.order c.in-Comes.ensures (row_level c.args.self.now)
    (bytes_of c.args.node.now) c.requires.row.rise c.requires.row.fit c.requires.node

pub append-requires-in-Comes-clause-plugin : goal.append-requires-in-Comes-clause-plugin
append-requires-in-Comes-clause-plugin c = put_plugin (row_items c.args.self.now) c.args.from c.args.i
    (pointer_item (arc_value c.in-Comes.cell.now)) c.requires.order c.in-Comes.ensures (row_level c.args.self.now)
    (bytes_of c.args.node.now) c.requires.row.rise c.requires.row.fit c.requires.node

pub append-requires-in-Comes-clause-above : goal.append-requires-in-Comes-clause-above
append-requires-in-Comes-clause-above c =
    subst (λ k. GoesBetween (items_of (bytes_of c.args.node.now)) (c.args.i - c.args.from) k)
    (sym (c.lo.ensures ∙ ap (λ x. x.lo) c.deref.ensures))
    (put_above (row_items c.args.self.now) c.args.from c.args.i
    (pointer_item (arc_value c.in-Comes.cell.now)) c.requires.order c.in-Comes.ensures (row_level c.args.self.now)
    (bytes_of c.args.node.now) c.requires.row.rise c.requires.row.fit c.requires.node)

pub append-requires-in-Comes-clause-room : goal.append-requires-in-Comes-clause-room
append-requires-in-Comes-clause-room c =
    let fits = put_room (row_items c.args.self.now) c.args.from c.args.i
    (pointer_item (arc_value c.in-Comes.cell.now)) c.requires.order c.in-Comes.ensures (row_level c.args.self.now)
    (bytes_of c.args.node.now) c.requires.row.rise c.requires.row.fit c.requires.node c.requires.room in
    let long = length-number_bytes 8 (arc_value c.in-Comes.cell.now).id in
    let body = ap length c.pointer_body.ensures in
    let same = length-number_bytes 8 c.id.result.0 in
    omega (arith, fits, long, body, same)

pub returns-in-Stays-clause-node : goal.returns-in-Stays-clause-node
returns-in-Stays-clause-node c = put_next (row_items c.args.self.now) c.args.from c.args.i
    (item_shown c.in-Stays.item) c.requires.order c.in-Stays.ensures (row_level c.args.self.now)
    (bytes_of c.args.node.now) c.requires.row.rise c.requires.row.fit c.requires.node
    (bytes_of c.append.new.node) c.append.ensures.appended

pub returns-in-Comes-clause-node : goal.returns-in-Comes-clause-node
returns-in-Comes-clause-node c =
    let it = pointed (arc_value c.in-Comes.cell.now) c.lo.result c.pointer_body.result
    (c.lo.ensures ∙ ap (λ x. x.lo) c.deref.ensures)
    (c.pointer_body.ensures ∙ ap (number_bytes 8) (c.id.ensures ∙ ap (λ x. x.id) c.deref-in-Comes.ensures)) in
    put_next (row_items c.args.self.now) c.args.from c.args.i
    (pointer_item (arc_value c.in-Comes.cell.now)) c.requires.order c.in-Comes.ensures (row_level c.args.self.now)
    (bytes_of c.args.node.now) c.requires.row.rise c.requires.row.fit c.requires.node (bytes_of c.append-in-Comes.new.node)
    (subst (λ x. IsAppended (bytes_of c.args.node.now) x
    (bytes_of c.append-in-Comes.new.node)) it c.append-in-Comes.ensures.appended)

pub returns-in-Stays-clause-mkfs_id : goal.returns-in-Stays-clause-mkfs_id
returns-in-Stays-clause-mkfs_id c = c.append.ensures.appended.mkfs_id

pub returns-in-Comes-clause-mkfs_id : goal.returns-in-Comes-clause-mkfs_id
returns-in-Comes-clause-mkfs_id c = c.append-in-Comes.ensures.appended.mkfs_id
