use Rattle.std.proofs.Common.{◌≡◌, ◌++◌, List, map, sym, ap, subst, ◌∙◌}
use Rattle.std.specs.Arc.{arc_value}
use Rattle.std.specs.Prelude.{◌≤◌, Contains, length}
use Rattle.r4_build.specs.Building.{AreNumbered}
use Rattle.r4_content.specs.Edited.{Edits}
use Rattle.r4_content.specs.Held.{edits_of}
use Rattle.r4_build.specs.r4_measure.r4_cell.Patch.{IsChange}
use Rattle.r4_build.specs.r4_measure.r4_cell.Seen.{CellSeen}
use Rattle.r4_build.specs.r4_measure.r4_cell.declared.change.Change.{Change}
use Rattle.r4_build.specs.r4_measure.r4_patch.Effect.{HasEffect}
use Rattle.r4_build.specs.r4_measure.r4_patch.Joining.{patch_of_change}
use Rattle.r4_build.specs.r4_measure.r4_patch.Part.{MeetsPart}
use Rattle.r4_extent_change.specs.Beside.{turning_among}
use Rattle.r4_extent_change.specs.Changing.{grown_keys, grown_values, most_grown}
use Rattle.r4_extent_change.proofs.NoBytes.{suit_leaves}
use Rattle.r4_extent_change.proofs.Steps.{Begun, Turned, effect_is, few_grown, left_numbers, may_make, may_turn, of_cells, takes_more}
use Rattle.r4_extent_change.proofs.Whole.{blocks_stand}
use Rattle.r4_extent_change.proofs.growing.change_of_growing.Goals as goal

pub overwrite_among-requires : goal.overwrite_among-requires
overwrite_among-requires c =
    let b = c.args.body.now in
    let e = edits_of c.args.edits.now in
    let f = c.args.fresh.now in
    let cells : List CellSeen = map (λ x. arc_value x) c.args.cells.now in
    let (u, (t, (r, can))) = c.requires.can in
    record { can = (t, (r, (f, blocks_stand b e u t r f cells can c.in_ok-set.set c.in_ok-set.ensures.start))) }

pub regraft_each-requires-clause-can : goal.regraft_each-requires-clause-can
regraft_each-requires-clause-can c =
    let b = c.args.body.now in
    let e = edits_of c.args.edits.now in
    let f = c.args.fresh.now in
    let cells : List CellSeen = map (λ x. arc_value x) c.args.cells.now in
    let (u, (t, (r, can))) = c.requires.can in
    let begun : Begun e cells c.in_ok-set.set c.overwrite_among.new.set = record {
      start = c.in_ok-set.ensures.start;
      none = c.in_ok-set.ensures.effect;
      changes = c.in_ok-overwrite_among.ensures.changes;
      renewed = c.in_ok-overwrite_among.ensures.renewed;
      stand = c.in_ok-overwrite_among.ensures.stand;
      measured = c.in_ok-overwrite_among.ensures.measured;
    } in
    let those : List CellSeen = map (λ x. arc_value x) c.as_slice.result.now in
    let twigs : those ≡ turning_among b e cells = ap (map (λ x. arc_value x)) c.as_slice.ensures.value ∙ (c.in_ok-pick_each.ensures ∙ ap (λ xs. map (λ x. arc_value x) xs ++ turning_among b e cells) c.new-twigs.ensures.items) in
    (t, (r, may_turn b e f cells c.in_ok-set.set c.overwrite_among.new.set begun u t r can those twigs))

pub make_each-requires-clause-can : goal.make_each-requires-clause-can
make_each-requires-clause-can c =
    let b = c.args.body.now in
    let e = edits_of c.args.edits.now in
    let f = c.args.fresh.now in
    let cells : List CellSeen = map (λ x. arc_value x) c.args.cells.now in
    let (u, (t, (r, can))) = c.requires.can in
    let begun : Begun e cells c.in_ok-set.set c.overwrite_among.new.set = record {
      start = c.in_ok-set.ensures.start;
      none = c.in_ok-set.ensures.effect;
      changes = c.in_ok-overwrite_among.ensures.changes;
      renewed = c.in_ok-overwrite_among.ensures.renewed;
      stand = c.in_ok-overwrite_among.ensures.stand;
      measured = c.in_ok-overwrite_among.ensures.measured;
    } in
    let those : List CellSeen = map (λ x. arc_value x) c.as_slice.result.now in
    let twigs : those ≡ turning_among b e cells = ap (map (λ x. arc_value x)) c.as_slice.ensures.value ∙ (c.in_ok-pick_each.ensures ∙ ap (λ xs. map (λ x. arc_value x) xs ++ turning_among b e cells) c.new-twigs.ensures.items) in
    let w1 = c.overwrite_among.new.set in
    let w2 = c.regraft_each.new.set in
    let left = c.regraft_each.new.fresh in
    let then : Turned b e f cells w1 w2 those left = record { twigs = twigs; turned = c.in_ok-regraft_each.ensures.turned; left_is = c.in_ok-regraft_each.ensures.left } in
    (t, (r, may_make b e f cells c.in_ok-set.set w1 begun u t r can those w2 left then (edits_of c.in_ok-beside.beside) c.in_ok-beside.ensures))

pub make_each-requires-clause-suits : goal.make_each-requires-clause-suits
make_each-requires-clause-suits c =
    rw (c.in_ok-beside.ensures) (suit_leaves _ (edits_of c.args.edits.now) c.requires.suits.suit)

pub make_each-requires-clause-numbers : goal.make_each-requires-clause-numbers
make_each-requires-clause-numbers c =
    let b = c.args.body.now in
    let e = edits_of c.args.edits.now in
    let f = c.args.fresh.now in
    let cells : List CellSeen = map (λ x. arc_value x) c.args.cells.now in
    let (u, (t, (r, can))) = c.requires.can in
    let begun : Begun e cells c.in_ok-set.set c.overwrite_among.new.set = record {
      start = c.in_ok-set.ensures.start;
      none = c.in_ok-set.ensures.effect;
      changes = c.in_ok-overwrite_among.ensures.changes;
      renewed = c.in_ok-overwrite_among.ensures.renewed;
      stand = c.in_ok-overwrite_among.ensures.stand;
      measured = c.in_ok-overwrite_among.ensures.measured;
    } in
    let those : List CellSeen = map (λ x. arc_value x) c.as_slice.result.now in
    let twigs : those ≡ turning_among b e cells = ap (map (λ x. arc_value x)) c.as_slice.ensures.value ∙ (c.in_ok-pick_each.ensures ∙ ap (λ xs. map (λ x. arc_value x) xs ++ turning_among b e cells) c.new-twigs.ensures.items) in
    let w1 = c.overwrite_among.new.set in
    let w2 = c.regraft_each.new.set in
    let left = c.regraft_each.new.fresh in
    let then : Turned b e f cells w1 w2 those left = record { twigs = twigs; turned = c.in_ok-regraft_each.ensures.turned; left_is = c.in_ok-regraft_each.ensures.left } in
    left_numbers b e f cells c.in_ok-set.set w1 begun u t r can those w2 left then

pub returns-clause-change : goal.returns-clause-change
returns-clause-change c =
    let b = c.args.body.now in
    let e = edits_of c.args.edits.now in
    let f = c.args.fresh.now in
    let cells : List CellSeen = map (λ x. arc_value x) c.args.cells.now in
    let (u, (t, (r, can))) = c.requires.can in
    let begun : Begun e cells c.in_ok-set.set c.overwrite_among.new.set = record {
      start = c.in_ok-set.ensures.start;
      none = c.in_ok-set.ensures.effect;
      changes = c.in_ok-overwrite_among.ensures.changes;
      renewed = c.in_ok-overwrite_among.ensures.renewed;
      stand = c.in_ok-overwrite_among.ensures.stand;
      measured = c.in_ok-overwrite_among.ensures.measured;
    } in
    let those : List CellSeen = map (λ x. arc_value x) c.as_slice.result.now in
    let twigs : those ≡ turning_among b e cells = ap (map (λ x. arc_value x)) c.as_slice.ensures.value ∙ (c.in_ok-pick_each.ensures ∙ ap (λ xs. map (λ x. arc_value x) xs ++ turning_among b e cells) c.new-twigs.ensures.items) in
    let w1 = c.overwrite_among.new.set in
    let w2 = c.regraft_each.new.set in
    let left = c.regraft_each.new.fresh in
    let then : Turned b e f cells w1 w2 those left = record { twigs = twigs; turned = c.in_ok-regraft_each.ensures.turned; left_is = c.in_ok-regraft_each.ensures.left } in
    let x : Edits = edits_of c.in_ok-beside.beside in
    let same = c.in_ok-beside.ensures in
    let made = c.in_ok-make_each.ensures.made t r (may_make b e f cells c.in_ok-set.set w1 begun u t r can those w2 left then x same) in
    subst (λ (d : Change). IsChange d.old d.new d.root) (sym c.into_change.ensures) made.working.change

pub returns-clause-meets : goal.returns-clause-meets
returns-clause-meets c = λ u t r can.
    let b = c.args.body.now in
    let e = edits_of c.args.edits.now in
    let f = c.args.fresh.now in
    let cells : List CellSeen = map (λ x. arc_value x) c.args.cells.now in
    let begun : Begun e cells c.in_ok-set.set c.overwrite_among.new.set = record {
      start = c.in_ok-set.ensures.start;
      none = c.in_ok-set.ensures.effect;
      changes = c.in_ok-overwrite_among.ensures.changes;
      renewed = c.in_ok-overwrite_among.ensures.renewed;
      stand = c.in_ok-overwrite_among.ensures.stand;
      measured = c.in_ok-overwrite_among.ensures.measured;
    } in
    let those : List CellSeen = map (λ x. arc_value x) c.as_slice.result.now in
    let twigs : those ≡ turning_among b e cells = ap (map (λ x. arc_value x)) c.as_slice.ensures.value ∙ (c.in_ok-pick_each.ensures ∙ ap (λ xs. map (λ x. arc_value x) xs ++ turning_among b e cells) c.new-twigs.ensures.items) in
    let w1 = c.overwrite_among.new.set in
    let w2 = c.regraft_each.new.set in
    let left = c.regraft_each.new.fresh in
    let then : Turned b e f cells w1 w2 those left = record { twigs = twigs; turned = c.in_ok-regraft_each.ensures.turned; left_is = c.in_ok-regraft_each.ensures.left } in
    let x : Edits = edits_of c.in_ok-beside.beside in
    let same = c.in_ok-beside.ensures in
    let made = c.in_ok-make_each.ensures.made t r (may_make b e f cells c.in_ok-set.set w1 begun u t r can those w2 left then x same) in
    subst (λ (d : Change). MeetsPart (patch_of_change d) t r) (sym c.into_change.ensures) made.working.meets

pub returns-clause-few : goal.returns-clause-few
returns-clause-few c = λ u t r can.
    let b = c.args.body.now in
    let e = edits_of c.args.edits.now in
    let f = c.args.fresh.now in
    let cells : List CellSeen = map (λ x. arc_value x) c.args.cells.now in
    let begun : Begun e cells c.in_ok-set.set c.overwrite_among.new.set = record {
      start = c.in_ok-set.ensures.start;
      none = c.in_ok-set.ensures.effect;
      changes = c.in_ok-overwrite_among.ensures.changes;
      renewed = c.in_ok-overwrite_among.ensures.renewed;
      stand = c.in_ok-overwrite_among.ensures.stand;
      measured = c.in_ok-overwrite_among.ensures.measured;
    } in
    let those : List CellSeen = map (λ x. arc_value x) c.as_slice.result.now in
    let twigs : those ≡ turning_among b e cells = ap (map (λ x. arc_value x)) c.as_slice.ensures.value ∙ (c.in_ok-pick_each.ensures ∙ ap (λ xs. map (λ x. arc_value x) xs ++ turning_among b e cells) c.new-twigs.ensures.items) in
    let w1 = c.overwrite_among.new.set in
    let w2 = c.regraft_each.new.set in
    let left = c.regraft_each.new.fresh in
    let then : Turned b e f cells w1 w2 those left = record { twigs = twigs; turned = c.in_ok-regraft_each.ensures.turned; left_is = c.in_ok-regraft_each.ensures.left } in
    let x : Edits = edits_of c.in_ok-beside.beside in
    let same = c.in_ok-beside.ensures in
    let made = c.in_ok-make_each.ensures.made t r (may_make b e f cells c.in_ok-set.set w1 begun u t r can those w2 left then x same) in
    subst (λ (d : Change). length d.new ≤ most_grown b e u r cells) (sym c.into_change.ensures)
    (few_grown b e f cells c.in_ok-set.set w1 begun u t r can those w2 left then x same c.make_each.new.fresh c.make_each.new.set made)

pub returns-clause-effect : goal.returns-clause-effect
returns-clause-effect c =
    let b = c.args.body.now in
    let e = edits_of c.args.edits.now in
    let f = c.args.fresh.now in
    let cells : List CellSeen = map (λ x. arc_value x) c.args.cells.now in
    let (u, (t, (r, can))) = c.requires.can in
    let begun : Begun e cells c.in_ok-set.set c.overwrite_among.new.set = record {
      start = c.in_ok-set.ensures.start;
      none = c.in_ok-set.ensures.effect;
      changes = c.in_ok-overwrite_among.ensures.changes;
      renewed = c.in_ok-overwrite_among.ensures.renewed;
      stand = c.in_ok-overwrite_among.ensures.stand;
      measured = c.in_ok-overwrite_among.ensures.measured;
    } in
    let those : List CellSeen = map (λ x. arc_value x) c.as_slice.result.now in
    let twigs : those ≡ turning_among b e cells = ap (map (λ x. arc_value x)) c.as_slice.ensures.value ∙ (c.in_ok-pick_each.ensures ∙ ap (λ xs. map (λ x. arc_value x) xs ++ turning_among b e cells) c.new-twigs.ensures.items) in
    let w1 = c.overwrite_among.new.set in
    let w2 = c.regraft_each.new.set in
    let left = c.regraft_each.new.fresh in
    let then : Turned b e f cells w1 w2 those left = record { twigs = twigs; turned = c.in_ok-regraft_each.ensures.turned; left_is = c.in_ok-regraft_each.ensures.left } in
    let x : Edits = edits_of c.in_ok-beside.beside in
    let same = c.in_ok-beside.ensures in
    let made = c.in_ok-make_each.ensures.made t r (may_make b e f cells c.in_ok-set.set w1 begun u t r can those w2 left then x same) in
    λ at keys. subst (λ (d : Change). HasEffect (patch_of_change d) (grown_keys b e cells at) (grown_values e)) (sym c.into_change.ensures)
    (effect_is b e f cells c.in_ok-set.set w1 begun u t r can those w2 left then x same c.make_each.new.fresh c.make_each.new.set made at keys)

pub returns-clause-old : goal.returns-clause-old
returns-clause-old c =
    let b = c.args.body.now in
    let e = edits_of c.args.edits.now in
    let f = c.args.fresh.now in
    let cells : List CellSeen = map (λ x. arc_value x) c.args.cells.now in
    let (u, (t, (r, can))) = c.requires.can in
    let begun : Begun e cells c.in_ok-set.set c.overwrite_among.new.set = record {
      start = c.in_ok-set.ensures.start;
      none = c.in_ok-set.ensures.effect;
      changes = c.in_ok-overwrite_among.ensures.changes;
      renewed = c.in_ok-overwrite_among.ensures.renewed;
      stand = c.in_ok-overwrite_among.ensures.stand;
      measured = c.in_ok-overwrite_among.ensures.measured;
    } in
    let those : List CellSeen = map (λ x. arc_value x) c.as_slice.result.now in
    let twigs : those ≡ turning_among b e cells = ap (map (λ x. arc_value x)) c.as_slice.ensures.value ∙ (c.in_ok-pick_each.ensures ∙ ap (λ xs. map (λ x. arc_value x) xs ++ turning_among b e cells) c.new-twigs.ensures.items) in
    let w1 = c.overwrite_among.new.set in
    let w2 = c.regraft_each.new.set in
    let left = c.regraft_each.new.fresh in
    let then : Turned b e f cells w1 w2 those left = record { twigs = twigs; turned = c.in_ok-regraft_each.ensures.turned; left_is = c.in_ok-regraft_each.ensures.left } in
    let x : Edits = edits_of c.in_ok-beside.beside in
    let same = c.in_ok-beside.ensures in
    let made = c.in_ok-make_each.ensures.made t r (may_make b e f cells c.in_ok-set.set w1 begun u t r can those w2 left then x same) in
    λ z at. (of_cells b e f cells c.in_ok-set.set w1 begun u t r can those w2 left then x same c.make_each.new.fresh c.make_each.new.set made).old z (subst (λ (d : Change). Contains d.old z) c.into_change.ensures at)

pub returns-clause-new : goal.returns-clause-new
returns-clause-new c =
    let b = c.args.body.now in
    let e = edits_of c.args.edits.now in
    let f = c.args.fresh.now in
    let cells : List CellSeen = map (λ x. arc_value x) c.args.cells.now in
    let (u, (t, (r, can))) = c.requires.can in
    let begun : Begun e cells c.in_ok-set.set c.overwrite_among.new.set = record {
      start = c.in_ok-set.ensures.start;
      none = c.in_ok-set.ensures.effect;
      changes = c.in_ok-overwrite_among.ensures.changes;
      renewed = c.in_ok-overwrite_among.ensures.renewed;
      stand = c.in_ok-overwrite_among.ensures.stand;
      measured = c.in_ok-overwrite_among.ensures.measured;
    } in
    let those : List CellSeen = map (λ x. arc_value x) c.as_slice.result.now in
    let twigs : those ≡ turning_among b e cells = ap (map (λ x. arc_value x)) c.as_slice.ensures.value ∙ (c.in_ok-pick_each.ensures ∙ ap (λ xs. map (λ x. arc_value x) xs ++ turning_among b e cells) c.new-twigs.ensures.items) in
    let w1 = c.overwrite_among.new.set in
    let w2 = c.regraft_each.new.set in
    let left = c.regraft_each.new.fresh in
    let then : Turned b e f cells w1 w2 those left = record { twigs = twigs; turned = c.in_ok-regraft_each.ensures.turned; left_is = c.in_ok-regraft_each.ensures.left } in
    let x : Edits = edits_of c.in_ok-beside.beside in
    let same = c.in_ok-beside.ensures in
    let made = c.in_ok-make_each.ensures.made t r (may_make b e f cells c.in_ok-set.set w1 begun u t r can those w2 left then x same) in
    subst (AreNumbered f c.make_each.new.fresh) (sym c.into_change.ensures)
    (of_cells b e f cells c.in_ok-set.set w1 begun u t r can those w2 left then x same c.make_each.new.fresh c.make_each.new.set made).new

pub returns-clause-numbers : goal.returns-clause-numbers
returns-clause-numbers c =
    takes_more c.args.body.now (edits_of c.args.edits.now) c.args.fresh.now (map (λ x. arc_value x) c.as_slice.result.now) c.regraft_each.new.fresh c.make_each.new.fresh c.in_ok-regraft_each.ensures.left c.in_ok-make_each.ensures.numbers
