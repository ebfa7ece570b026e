use Rattle.std.proofs.Common.{arith}
use Rattle.std.specs.Arc.{arc_value}
use Rattle.r4_leaf.specs.r4_node40.View.{view_items}
use Rattle.r4_path.specs.Rows.{row_more}
use Rattle.r4_path.proofs.CellNodes.{long_map}
use Rattle.r4_path.proofs.RowPlaces.{row_length}
use Rattle.r4_path.proofs.row.Row.len.Goals as goal

pub overflow_add-result : goal.overflow_add-result
overflow_add-result c = let few = c.requires.few in let m = long_map arc_value c.args.self.now.more.now in
    let n = c.len.ensures in omega (arith, few, m, n)

pub returns : goal.returns
returns c =
    let whole = row_length (view_items c.args.self.now.node) c.args.self.now.at (row_more c.args.self.now) c.requires.within in
    let m = long_map arc_value c.args.self.now.more.now in
    let n = c.len.ensures in
    omega (arith, whole, m, n)
