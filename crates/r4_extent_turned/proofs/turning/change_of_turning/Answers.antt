use Rattle.std.proofs.Common.{◌≡◌, ◌+◌, ◌++◌, List, map, sym, ap, subst, ◌∙◌}
use Rattle.std.specs.Arc.{arc_value}
use Rattle.std.specs.Prelude.{◌≤◌, Contains, length}
use Rattle.r4_content.specs.Edited.{Edits}
use Rattle.r4_content.specs.Held.{edits_of}
use Rattle.r4_extent_shrink.specs.r4_extent_growth.r4_build.Building.{AreNumbered}
use Rattle.r4_extent_shrink.specs.r4_extent_growth.r4_measure.r4_cell.Patch.{IsChange}
use Rattle.r4_extent_shrink.specs.r4_extent_growth.r4_measure.r4_cell.Seen.{CellSeen}
use Rattle.r4_extent_shrink.specs.r4_extent_growth.r4_measure.r4_cell.declared.change.Change.{Change}
use Rattle.r4_extent_shrink.specs.r4_extent_growth.r4_measure.r4_patch.Effect.{HasEffect}
use Rattle.r4_extent_shrink.specs.r4_extent_growth.r4_measure.r4_patch.Following.{without}
use Rattle.r4_extent_shrink.specs.r4_extent_growth.r4_measure.r4_patch.Joining.{ids_of, patch_of_change}
use Rattle.r4_extent_shrink.specs.r4_extent_growth.r4_measure.r4_patch.Part.{MeetsPart}
use Rattle.r4_extent_shrink.proofs.r4_extent_growth.r4_extent_change.NoBytes.{suit_leaves}
use Rattle.r4_extent_turn.specs.Turning.{leaves_of}
use Rattle.r4_extent_turn.specs.TurningIn.{turn_of}
use Rattle.r4_extent_turned.specs.Whole.{most_turned, turned_keys, turned_values}
use Rattle.r4_extent_turned.proofs.TurnSteps.{TurnedOnce, effect_is, few_turned, left_numbers, may_make, of_cells, takes_more}
use Rattle.r4_extent_turned.proofs.TurnWhole.{can_out}
use Rattle.r4_extent_turned.proofs.turning.change_of_turning.Goals as goal

pub turn_out-requires-clause-can : goal.turn_out-requires-clause-can
turn_out-requires-clause-can c =
    let (u, (t, (r, can))) = c.requires.can in
    (t, (r, can_out c.args.body.now (edits_of c.args.edits.now) u t r c.args.fresh.now (map (λ y. arc_value y) c.args.cells.now) (turn_of c.args.turning.now) can c.in_ok-set.set c.in_ok-set.ensures.start))

pub make_each-requires-clause-can : goal.make_each-requires-clause-can
make_each-requires-clause-can c =
    let (u, (t, (r, can))) = c.requires.can in
    let b = c.args.body.now in
    let e = edits_of c.args.edits.now in
    let f = c.args.fresh.now in
    let cells : List CellSeen = map (λ y. arc_value y) c.args.cells.now in
    let twig = arc_value c.args.turning.now.twig in
    let leaves : List CellSeen = map (λ y. arc_value y) c.args.turning.now.leaves.items in
    let kept : List CellSeen = map (λ y. arc_value y) c.in_ok-kept.kept.items in
    let after : List CellSeen = map (λ y. arc_value y) c.as_slice-3.result.now in
    let left = c.turn_out.new.fresh in
    let w0 = c.in_ok-set.set in
    let w1 = c.turn_out.new.set in
    let after_is : after ≡ without (ids_of leaves) cells ++ kept
    = ap (map (λ y. arc_value y)) c.as_slice-3.ensures.value ∙ (c.in_ok-after.ensures
    ∙ (λ i. without (ids_of (map (λ y. arc_value y) (c.as_slice.ensures.value i))) cells ++ map (λ y. arc_value y) (c.as_slice-2.ensures.value i))) in
    let once : TurnedOnce b e f cells twig leaves w0 w1 kept after left = record { start = c.in_ok-set.ensures.start; none = c.in_ok-set.ensures.effect; out = c.in_ok-kept.ensures; after_is = after_is } in
    (t, (r, may_make b e f cells twig leaves w0 w1 kept after left once u t r can (edits_of c.in_ok-beside.beside) c.in_ok-beside.ensures))

pub make_each-requires-clause-suits : goal.make_each-requires-clause-suits
make_each-requires-clause-suits c =
    rw (c.in_ok-beside.ensures) (suit_leaves _ (edits_of c.args.edits.now) c.requires.suits.suit)

pub make_each-requires-clause-numbers : goal.make_each-requires-clause-numbers
make_each-requires-clause-numbers c =
    let (u, (t, (r, can))) = c.requires.can in
    let b = c.args.body.now in
    let e = edits_of c.args.edits.now in
    let f = c.args.fresh.now in
    let cells : List CellSeen = map (λ y. arc_value y) c.args.cells.now in
    let twig = arc_value c.args.turning.now.twig in
    let leaves : List CellSeen = map (λ y. arc_value y) c.args.turning.now.leaves.items in
    let kept : List CellSeen = map (λ y. arc_value y) c.in_ok-kept.kept.items in
    let after : List CellSeen = map (λ y. arc_value y) c.as_slice-3.result.now in
    let left = c.turn_out.new.fresh in
    let w0 = c.in_ok-set.set in
    let w1 = c.turn_out.new.set in
    let after_is : after ≡ without (ids_of leaves) cells ++ kept
    = ap (map (λ y. arc_value y)) c.as_slice-3.ensures.value ∙ (c.in_ok-after.ensures
    ∙ (λ i. without (ids_of (map (λ y. arc_value y) (c.as_slice.ensures.value i))) cells ++ map (λ y. arc_value y) (c.as_slice-2.ensures.value i))) in
    let once : TurnedOnce b e f cells twig leaves w0 w1 kept after left = record { start = c.in_ok-set.ensures.start; none = c.in_ok-set.ensures.effect; out = c.in_ok-kept.ensures; after_is = after_is } in
    left_numbers b e f cells twig leaves w0 w1 kept after left once u t r can

pub returns-clause-change : goal.returns-clause-change
returns-clause-change c =
    let (u, (t, (r, can))) = c.requires.can in
    let b = c.args.body.now in
    let e = edits_of c.args.edits.now in
    let f = c.args.fresh.now in
    let cells : List CellSeen = map (λ y. arc_value y) c.args.cells.now in
    let twig = arc_value c.args.turning.now.twig in
    let leaves : List CellSeen = map (λ y. arc_value y) c.args.turning.now.leaves.items in
    let kept : List CellSeen = map (λ y. arc_value y) c.in_ok-kept.kept.items in
    let after : List CellSeen = map (λ y. arc_value y) c.as_slice-3.result.now in
    let left = c.turn_out.new.fresh in
    let w0 = c.in_ok-set.set in
    let w1 = c.turn_out.new.set in
    let after_is : after ≡ without (ids_of leaves) cells ++ kept
    = ap (map (λ y. arc_value y)) c.as_slice-3.ensures.value ∙ (c.in_ok-after.ensures
    ∙ (λ i. without (ids_of (map (λ y. arc_value y) (c.as_slice.ensures.value i))) cells ++ map (λ y. arc_value y) (c.as_slice-2.ensures.value i))) in
    let once : TurnedOnce b e f cells twig leaves w0 w1 kept after left = record { start = c.in_ok-set.ensures.start; none = c.in_ok-set.ensures.effect; out = c.in_ok-kept.ensures; after_is = after_is } in
    let x : Edits = edits_of c.in_ok-beside.beside in
    let same = c.in_ok-beside.ensures in
    let made = c.in_ok-make_each.ensures.made t r (may_make b e f cells twig leaves w0 w1 kept after left once u t r can x same) in
    subst (λ (d : Change). IsChange d.old d.new d.root) (sym c.into_change.ensures) made.working.change

pub returns-clause-meets : goal.returns-clause-meets
returns-clause-meets c = λ u t r can.
    let b = c.args.body.now in
    let e = edits_of c.args.edits.now in
    let f = c.args.fresh.now in
    let cells : List CellSeen = map (λ y. arc_value y) c.args.cells.now in
    let twig = arc_value c.args.turning.now.twig in
    let leaves : List CellSeen = map (λ y. arc_value y) c.args.turning.now.leaves.items in
    let kept : List CellSeen = map (λ y. arc_value y) c.in_ok-kept.kept.items in
    let after : List CellSeen = map (λ y. arc_value y) c.as_slice-3.result.now in
    let left = c.turn_out.new.fresh in
    let w0 = c.in_ok-set.set in
    let w1 = c.turn_out.new.set in
    let after_is : after ≡ without (ids_of leaves) cells ++ kept
    = ap (map (λ y. arc_value y)) c.as_slice-3.ensures.value ∙ (c.in_ok-after.ensures
    ∙ (λ i. without (ids_of (map (λ y. arc_value y) (c.as_slice.ensures.value i))) cells ++ map (λ y. arc_value y) (c.as_slice-2.ensures.value i))) in
    let once : TurnedOnce b e f cells twig leaves w0 w1 kept after left = record { start = c.in_ok-set.ensures.start; none = c.in_ok-set.ensures.effect; out = c.in_ok-kept.ensures; after_is = after_is } in
    let x : Edits = edits_of c.in_ok-beside.beside in
    let same = c.in_ok-beside.ensures in
    let made = c.in_ok-make_each.ensures.made t r (may_make b e f cells twig leaves w0 w1 kept after left once u t r can x same) in
    subst (λ (d : Change). MeetsPart (patch_of_change d) t r) (sym c.into_change.ensures) made.working.meets

pub returns-clause-few : goal.returns-clause-few
returns-clause-few c = λ u t r can.
    let b = c.args.body.now in
    let e = edits_of c.args.edits.now in
    let f = c.args.fresh.now in
    let cells : List CellSeen = map (λ y. arc_value y) c.args.cells.now in
    let twig = arc_value c.args.turning.now.twig in
    let leaves : List CellSeen = map (λ y. arc_value y) c.args.turning.now.leaves.items in
    let kept : List CellSeen = map (λ y. arc_value y) c.in_ok-kept.kept.items in
    let after : List CellSeen = map (λ y. arc_value y) c.as_slice-3.result.now in
    let left = c.turn_out.new.fresh in
    let w0 = c.in_ok-set.set in
    let w1 = c.turn_out.new.set in
    let after_is : after ≡ without (ids_of leaves) cells ++ kept
    = ap (map (λ y. arc_value y)) c.as_slice-3.ensures.value ∙ (c.in_ok-after.ensures
    ∙ (λ i. without (ids_of (map (λ y. arc_value y) (c.as_slice.ensures.value i))) cells ++ map (λ y. arc_value y) (c.as_slice-2.ensures.value i))) in
    let once : TurnedOnce b e f cells twig leaves w0 w1 kept after left = record { start = c.in_ok-set.ensures.start; none = c.in_ok-set.ensures.effect; out = c.in_ok-kept.ensures; after_is = after_is } in
    let x : Edits = edits_of c.in_ok-beside.beside in
    let same = c.in_ok-beside.ensures in
    let made = c.in_ok-make_each.ensures.made t r (may_make b e f cells twig leaves w0 w1 kept after left once u t r can x same) in
    subst (λ (d : Change). length d.new + length (leaves_of (turn_of c.args.turning.now)) ≤ most_turned b e u r cells (turn_of c.args.turning.now)) (sym c.into_change.ensures)
    (few_turned b e f cells twig leaves w0 w1 kept after left once u t r can x same c.make_each.new.fresh c.make_each.new.set made)

pub returns-clause-effect : goal.returns-clause-effect
returns-clause-effect c =
    let (u, (t, (r, can))) = c.requires.can in
    let b = c.args.body.now in
    let e = edits_of c.args.edits.now in
    let f = c.args.fresh.now in
    let cells : List CellSeen = map (λ y. arc_value y) c.args.cells.now in
    let twig = arc_value c.args.turning.now.twig in
    let leaves : List CellSeen = map (λ y. arc_value y) c.args.turning.now.leaves.items in
    let kept : List CellSeen = map (λ y. arc_value y) c.in_ok-kept.kept.items in
    let after : List CellSeen = map (λ y. arc_value y) c.as_slice-3.result.now in
    let left = c.turn_out.new.fresh in
    let w0 = c.in_ok-set.set in
    let w1 = c.turn_out.new.set in
    let after_is : after ≡ without (ids_of leaves) cells ++ kept
    = ap (map (λ y. arc_value y)) c.as_slice-3.ensures.value ∙ (c.in_ok-after.ensures
    ∙ (λ i. without (ids_of (map (λ y. arc_value y) (c.as_slice.ensures.value i))) cells ++ map (λ y. arc_value y) (c.as_slice-2.ensures.value i))) in
    let once : TurnedOnce b e f cells twig leaves w0 w1 kept after left = record { start = c.in_ok-set.ensures.start; none = c.in_ok-set.ensures.effect; out = c.in_ok-kept.ensures; after_is = after_is } in
    let x : Edits = edits_of c.in_ok-beside.beside in
    let same = c.in_ok-beside.ensures in
    let made = c.in_ok-make_each.ensures.made t r (may_make b e f cells twig leaves w0 w1 kept after left once u t r can x same) in
    subst (λ (d : Change). HasEffect (patch_of_change d) (turned_keys b e) (turned_values b e (turn_of c.args.turning.now))) (sym c.into_change.ensures)
    (effect_is b e f cells twig leaves w0 w1 kept after left once u t r can x same c.make_each.new.fresh c.make_each.new.set made)

pub returns-clause-old : goal.returns-clause-old
returns-clause-old c =
    let (u, (t, (r, can))) = c.requires.can in
    let b = c.args.body.now in
    let e = edits_of c.args.edits.now in
    let f = c.args.fresh.now in
    let cells : List CellSeen = map (λ y. arc_value y) c.args.cells.now in
    let twig = arc_value c.args.turning.now.twig in
    let leaves : List CellSeen = map (λ y. arc_value y) c.args.turning.now.leaves.items in
    let kept : List CellSeen = map (λ y. arc_value y) c.in_ok-kept.kept.items in
    let after : List CellSeen = map (λ y. arc_value y) c.as_slice-3.result.now in
    let left = c.turn_out.new.fresh in
    let w0 = c.in_ok-set.set in
    let w1 = c.turn_out.new.set in
    let after_is : after ≡ without (ids_of leaves) cells ++ kept
    = ap (map (λ y. arc_value y)) c.as_slice-3.ensures.value ∙ (c.in_ok-after.ensures
    ∙ (λ i. without (ids_of (map (λ y. arc_value y) (c.as_slice.ensures.value i))) cells ++ map (λ y. arc_value y) (c.as_slice-2.ensures.value i))) in
    let once : TurnedOnce b e f cells twig leaves w0 w1 kept after left = record { start = c.in_ok-set.ensures.start; none = c.in_ok-set.ensures.effect; out = c.in_ok-kept.ensures; after_is = after_is } in
    let x : Edits = edits_of c.in_ok-beside.beside in
    let same = c.in_ok-beside.ensures in
    let made = c.in_ok-make_each.ensures.made t r (may_make b e f cells twig leaves w0 w1 kept after left once u t r can x same) in
    λ z at. (of_cells b e f cells twig leaves w0 w1 kept after left once u t r can x same c.make_each.new.fresh c.make_each.new.set made).old z (subst (λ (d : Change). Contains d.old z) c.into_change.ensures at)

pub returns-clause-new : goal.returns-clause-new
returns-clause-new c =
    let (u, (t, (r, can))) = c.requires.can in
    let b = c.args.body.now in
    let e = edits_of c.args.edits.now in
    let f = c.args.fresh.now in
    let cells : List CellSeen = map (λ y. arc_value y) c.args.cells.now in
    let twig = arc_value c.args.turning.now.twig in
    let leaves : List CellSeen = map (λ y. arc_value y) c.args.turning.now.leaves.items in
    let kept : List CellSeen = map (λ y. arc_value y) c.in_ok-kept.kept.items in
    let after : List CellSeen = map (λ y. arc_value y) c.as_slice-3.result.now in
    let left = c.turn_out.new.fresh in
    let w0 = c.in_ok-set.set in
    let w1 = c.turn_out.new.set in
    let after_is : after ≡ without (ids_of leaves) cells ++ kept
    = ap (map (λ y. arc_value y)) c.as_slice-3.ensures.value ∙ (c.in_ok-after.ensures
    ∙ (λ i. without (ids_of (map (λ y. arc_value y) (c.as_slice.ensures.value i))) cells ++ map (λ y. arc_value y) (c.as_slice-2.ensures.value i))) in
    let once : TurnedOnce b e f cells twig leaves w0 w1 kept after left = record { start = c.in_ok-set.ensures.start; none = c.in_ok-set.ensures.effect; out = c.in_ok-kept.ensures; after_is = after_is } in
    let x : Edits = edits_of c.in_ok-beside.beside in
    let same = c.in_ok-beside.ensures in
    let made = c.in_ok-make_each.ensures.made t r (may_make b e f cells twig leaves w0 w1 kept after left once u t r can x same) in
    subst (AreNumbered f c.make_each.new.fresh) (sym c.into_change.ensures)
    (of_cells b e f cells twig leaves w0 w1 kept after left once u t r can x same c.make_each.new.fresh c.make_each.new.set made).new

pub returns-clause-numbers : goal.returns-clause-numbers
returns-clause-numbers c =
    takes_more c.args.body.now (edits_of c.args.edits.now) (turn_of c.args.turning.now) c.args.fresh.now c.turn_out.new.fresh c.make_each.new.fresh c.in_ok-set.set c.turn_out.new.set (map (λ y. arc_value y) c.in_ok-kept.kept.items)
    c.in_ok-kept.ensures c.in_ok-make_each.ensures.numbers
