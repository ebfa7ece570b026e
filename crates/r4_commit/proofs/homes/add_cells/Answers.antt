use Rattle.std.proofs.Common.{◌≡◌, ℕ, ◌++◌, [], ◌∷◌, map, take, sym, ap, ◌∙◌, List, append_assoc}
use Rattle.std.specs.Arc.{arc_value}
use Rattle.r4_place.specs.declared.Cell.{Cell}
use Rattle.std.specs.Ordering.{nat_cmp}
use Rattle.std.specs.BTreeMap.{get}
use Rattle.std.proofs.lemmas.List.{map-append}
use Rattle.r4_place.specs.r4_cell.Seen.{CellSeen}
use Rattle.r4_wander.specs.Torn.{Write}
use Rattle.r4_commit.specs.Places.{overwritten}
use Rattle.r4_commit.proofs.CellPlaces.{kept_more, kept_none, none_is, some_is}
use Rattle.r4_commit.proofs.homes.add_cells.Goals as goal
use Rattle.r4_commit.proofs.homes.add_cells.Goals.{then-is_none+in_ok-try_clone+in_ok-push, else-is_none}

abbrev written : CellSeen → Write
written x = (x.id, x.block)

pub loop-cell-preserved : goal.loop-cell-preserved
loop-cell-preserved c =
    let before : List CellSeen = overwritten (get nat_cmp c.args.places.now) (map (λ cell. arc_value cell) (take c.loop-cell.cell-index c.args.cells.now)) in
    elim c.if-is_none.branch [
      | then-is_none+in_ok-try_clone+in_ok-push w ↦
          let cell : CellSeen = c.deref.result.now in
          let name : w.id.result.0 ≡ cell.id = w.id.ensures ∙ ap (λ (x : CellSeen). x.id) (w.deref-then-is_none.ensures ∙ sym c.deref.ensures) in
          let content : List ℕ = (arc_value {X = Cell} w.in_ok-try_clone.field-0).block in
          let same : content ≡ cell.block = ap (λ (x : CellSeen). x.block) (w.in_ok-try_clone.ensures ∙ sym c.deref.ensures) in
          let none = none_is c.place_of.result c.is_none.result c.is_none.ensures w.if-is_none.true in
          let more = kept_more (get nat_cmp c.args.places.now) (λ cell. arc_value cell) c.args.cells.now c.loop-cell.cell-index c.cell-item.result cell c.loop-cell-test.true c.cell-item.is c.deref.ensures (sym c.place_of.ensures ∙ none) in
          ap (λ v. v.items) w.homes-is ∙ w.in_ok-push.ensures.items ∙ ap (λ (l : List Write). l ++ (w.id.result.0, content) ∷ []) c.loop-cell.invariant
          ∙ ap (λ (k : ℕ). (c.args.homes.now.items ++ map written before) ++ (k, content) ∷ []) name ∙ ap (λ (x : List ℕ). (c.args.homes.now.items ++ map written before) ++ (cell.id, x) ∷ []) same
          ∙ append_assoc c.args.homes.now.items (map written before) (written cell ∷ []) ∙ ap (λ (l : List Write). c.args.homes.now.items ++ l) (sym (map-append written before (cell ∷ [])))
          ∙ ap (λ (l : List CellSeen). c.args.homes.now.items ++ map written l) (sym more)
      | else-is_none w ↦
          let some = some_is c.place_of.result w.if-is_none.ensures in
          ap (λ v. v.items) w.homes-is ∙ c.loop-cell.invariant ∙ ap (λ (l : List CellSeen). c.args.homes.now.items ++ map (λ (x : CellSeen). (x.id, x.block)) l)
          (sym (kept_none (get nat_cmp c.args.places.now) (λ cell. arc_value cell) c.args.cells.now c.loop-cell.cell-index c.cell-item.result c.deref.result.now c.loop-cell-test.true c.cell-item.is c.deref.ensures some.0 (sym c.place_of.ensures ∙ some.1)))
    ]
