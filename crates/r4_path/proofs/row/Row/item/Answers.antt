use Rattle.std.proofs.Common.{◌∙◌, ◌-◌, ap, refl, arith, length}
use Rattle.std.specs.Prelude.{option_map, slice_get}
use Rattle.std.specs.Arc.{arc_value}
use Rattle.std.proofs.lemmas.Option.{slice_get-map, slice_get_read}
use Rattle.r4_leaf.specs.r4_node40.View.{view_items}
use Rattle.r4_path.specs.Nodes.{pointer_item}
use Rattle.r4_path.specs.Rows.{row_more}
use Rattle.r4_path.proofs.CellNodes.{long_map}
use Rattle.r4_path.proofs.RowPlaces.{row_comes, row_high}
use Rattle.r4_path.proofs.row.Row.item.Goals as goal

pub returns-in-Some : goal.returns-in-Some
returns-in-Some c =
    let self = c.args.self.now in
    let past = c.if-i-self.false in
    let lt = c.in-Some.ensures.lookup.3.0 in
    let m = long_map arc_value self.more.now in
    row_comes (view_items self.node) self.at (row_more self) c.requires.row.within c.args.i (omega (arith, past))
    (omega (arith, lt, m))
    ∙ ap (option_map pointer_item) (slice_get-map arc_value self.more.now (c.args.i - self.at - 1)
    ∙ ap (option_map arc_value)
    (slice_get_read self.more.now (length self.more.now)
    (c.args.i - self.at - 1) c.in-Some.cell.now refl lt c.in-Some.ensures.lookup.1))

pub returns-in-None : goal.returns-in-None
returns-in-None c =
    let self = c.args.self.now in
    let past = c.if-i-self.false in
    let end = c.in-None.ensures.lookup.3 in
    let m = long_map arc_value self.more.now in
    row_high (view_items self.node) self.at (row_more self) c.requires.row.within c.args.i (omega (arith, past, end, m))
    ∙ (ap (λ k. slice_get (view_items self.node) (c.args.i - k)) m ∙ c.item-in-None.ensures.shown)
