use Rattle.std.proofs.Common.{◌≡◌, ◌++◌, [], ◌∷◌, sym, ap, ◌∙◌}
use Rattle.std.specs.Arc.{arc_value}
use Rattle.std.specs.Ordering.{nat_cmp}
use Rattle.std.specs.BTreeMap.{get}
use Rattle.r4_place.specs.r4_cell.Seen.{CellSeen}
use Rattle.r4_commit.proofs.CellPlaces.{placed_more, placed_none}
use Rattle.r4_commit.proofs.places.place_cells.Goals as goal
use Rattle.r4_commit.proofs.places.place_cells.Goals.{in-Some+in_ok-cell+in_ok-push, in_default}

pub loop-cell-preserved : goal.loop-cell-preserved
loop-cell-preserved c = elim c.match-place_of.branch [
  | in-Some+in_ok-cell+in_ok-push w ↦
      let copied : arc_value w.in_ok-cell.cell ≡ c.deref.result.now = w.in_ok-cell.ensures ∙ sym c.deref.ensures in
      let items : w.push.new.self.items ≡ c.loop-cell.made.items ++ record { at = w.in-Some.at.0; cell = c.deref.result.now } ∷ [] =
      w.in_ok-push.ensures.items ∙ ap (λ (x : CellSeen). c.loop-cell.made.items ++ record { at = w.in-Some.at.0; cell = x } ∷ []) copied in
      ap (λ v. v.items) w.made-is ∙ placed_more (get nat_cmp c.args.places.now) (λ cell. arc_value cell) c.args.cells.now c.loop-cell.cell-index c.cell-item.result c.deref.result.now c.loop-cell-test.true c.cell-item.is c.deref.ensures
      c.loop-cell.made.items w.push.new.self.items w.in-Some.at (sym c.place_of.ensures ∙ w.in-Some.is) c.loop-cell.invariant items
  | in_default w ↦ ap (λ v. v.items) w.made-is ∙ placed_none (get nat_cmp c.args.places.now) (λ cell. arc_value cell) c.args.cells.now c.loop-cell.cell-index c.cell-item.result c.deref.result.now c.loop-cell-test.true c.cell-item.is c.deref.ensures
      c.loop-cell.made.items (sym c.place_of.ensures ∙ w.in_default.is) c.loop-cell.invariant
]
