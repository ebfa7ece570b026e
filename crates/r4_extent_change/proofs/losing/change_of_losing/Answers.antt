use Rattle.std.proofs.Common.{◌≡◌, List, map, sym, ap, subst, ◌∙◌}
use Rattle.std.specs.Arc.{arc_value}
use Rattle.std.specs.Prelude.{◌≤◌, Contains, length}
use Rattle.r4_build.specs.Building.{AreNumbered}
use Rattle.r4_content.specs.Edited.{Edits}
use Rattle.r4_content.specs.Held.{edits_of}
use Rattle.r4_extent_loss.specs.Losing.{Loss}
use Rattle.r4_extent_loss.specs.LosingEach.{loss_of}
use Rattle.r4_build.specs.r4_measure.r4_cell.Patch.{IsChange}
use Rattle.r4_build.specs.r4_measure.r4_cell.Seen.{CellSeen}
use Rattle.r4_build.specs.r4_measure.r4_cell.declared.change.Change.{Change}
use Rattle.r4_build.specs.r4_measure.r4_patch.Effect.{HasEffect}
use Rattle.r4_build.specs.r4_measure.r4_patch.Joining.{patch_of_change}
use Rattle.r4_build.specs.r4_measure.r4_patch.Part.{MeetsPart}
use Rattle.r4_extent_change.specs.Among.{losses_among}
use Rattle.r4_extent_change.specs.Losing.{lost_keys, lost_values, most_lost}
use Rattle.r4_extent_change.proofs.LostSteps.{Lost, effect_is, few_lost, left_numbers, may_make, may_regraft, of_cells}
use Rattle.r4_extent_change.proofs.LostWhole.{takes_more}
use Rattle.r4_extent_change.proofs.NoBytes.{suit_leaves}
use Rattle.r4_extent_change.proofs.losing.change_of_losing.Goals as goal

pub regraft_without-requires-clause-can : goal.regraft_without-requires-clause-can
regraft_without-requires-clause-can c =
    let b = c.args.body.now in
    let e = edits_of c.args.edits.now in
    let f = c.args.fresh.now in
    let cells : List CellSeen = map (λ x. arc_value x) c.args.cells.now in
    let (u, (t, (r, can))) = c.requires.can in
    let those : List Loss = map (λ x. loss_of x) c.as_slice.result.now in
    let losses : those ≡ losses_among b cells = ap (map (λ x. loss_of x)) c.as_slice.ensures.value ∙ c.in_ok-losing.ensures in
    (t, (r, may_regraft b e f cells c.in_ok-set.set c.in_ok-set.ensures.start u t r can those losses))

pub make_each-requires-clause-can : goal.make_each-requires-clause-can
make_each-requires-clause-can c =
    let b = c.args.body.now in
    let e = edits_of c.args.edits.now in
    let f = c.args.fresh.now in
    let cells : List CellSeen = map (λ x. arc_value x) c.args.cells.now in
    let (u, (t, (r, can))) = c.requires.can in
    let those : List Loss = map (λ x. loss_of x) c.as_slice.result.now in
    let losses : those ≡ losses_among b cells = ap (map (λ x. loss_of x)) c.as_slice.ensures.value ∙ c.in_ok-losing.ensures in
    let left = c.regraft_without.new.fresh in
    let w0 = c.in_ok-set.set in
    let w1 = c.regraft_without.new.set in
    let lost : Lost b e f cells w0 w1 those left = record { start = c.in_ok-set.ensures.start; none = c.in_ok-set.ensures.effect; losses = losses; turned = c.in_ok-regraft_without.ensures.turned; left_is = c.in_ok-regraft_without.ensures.left } in
    (t, (r, may_make b e f cells w0 w1 those left lost u t r can (edits_of c.in_ok-beside.beside) c.in_ok-beside.ensures))

pub make_each-requires-clause-suits : goal.make_each-requires-clause-suits
make_each-requires-clause-suits c =
    rw (c.in_ok-beside.ensures) (suit_leaves _ (edits_of c.args.edits.now) c.requires.suits.suit)

pub make_each-requires-clause-numbers : goal.make_each-requires-clause-numbers
make_each-requires-clause-numbers c =
    let b = c.args.body.now in
    let e = edits_of c.args.edits.now in
    let f = c.args.fresh.now in
    let cells : List CellSeen = map (λ x. arc_value x) c.args.cells.now in
    let (u, (t, (r, can))) = c.requires.can in
    let those : List Loss = map (λ x. loss_of x) c.as_slice.result.now in
    let losses : those ≡ losses_among b cells = ap (map (λ x. loss_of x)) c.as_slice.ensures.value ∙ c.in_ok-losing.ensures in
    let left = c.regraft_without.new.fresh in
    let w0 = c.in_ok-set.set in
    let w1 = c.regraft_without.new.set in
    let lost : Lost b e f cells w0 w1 those left = record { start = c.in_ok-set.ensures.start; none = c.in_ok-set.ensures.effect; losses = losses; turned = c.in_ok-regraft_without.ensures.turned; left_is = c.in_ok-regraft_without.ensures.left } in
    left_numbers b e f cells w0 w1 those left lost u t r can

pub returns-clause-change : goal.returns-clause-change
returns-clause-change c =
    let b = c.args.body.now in
    let e = edits_of c.args.edits.now in
    let f = c.args.fresh.now in
    let cells : List CellSeen = map (λ x. arc_value x) c.args.cells.now in
    let (u, (t, (r, can))) = c.requires.can in
    let those : List Loss = map (λ x. loss_of x) c.as_slice.result.now in
    let losses : those ≡ losses_among b cells = ap (map (λ x. loss_of x)) c.as_slice.ensures.value ∙ c.in_ok-losing.ensures in
    let left = c.regraft_without.new.fresh in
    let w0 = c.in_ok-set.set in
    let w1 = c.regraft_without.new.set in
    let lost : Lost b e f cells w0 w1 those left = record { start = c.in_ok-set.ensures.start; none = c.in_ok-set.ensures.effect; losses = losses; turned = c.in_ok-regraft_without.ensures.turned; left_is = c.in_ok-regraft_without.ensures.left } in
    let x : Edits = edits_of c.in_ok-beside.beside in
    let same = c.in_ok-beside.ensures in
    let made = c.in_ok-make_each.ensures.made t r (may_make b e f cells w0 w1 those left lost u t r can x same) in
    subst (λ (d : Change). IsChange d.old d.new d.root) (sym c.into_change.ensures) made.working.change

pub returns-clause-meets : goal.returns-clause-meets
returns-clause-meets c = λ u t r can.
    let b = c.args.body.now in
    let e = edits_of c.args.edits.now in
    let f = c.args.fresh.now in
    let cells : List CellSeen = map (λ x. arc_value x) c.args.cells.now in
    let those : List Loss = map (λ x. loss_of x) c.as_slice.result.now in
    let losses : those ≡ losses_among b cells = ap (map (λ x. loss_of x)) c.as_slice.ensures.value ∙ c.in_ok-losing.ensures in
    let left = c.regraft_without.new.fresh in
    let w0 = c.in_ok-set.set in
    let w1 = c.regraft_without.new.set in
    let lost : Lost b e f cells w0 w1 those left = record { start = c.in_ok-set.ensures.start; none = c.in_ok-set.ensures.effect; losses = losses; turned = c.in_ok-regraft_without.ensures.turned; left_is = c.in_ok-regraft_without.ensures.left } in
    let x : Edits = edits_of c.in_ok-beside.beside in
    let same = c.in_ok-beside.ensures in
    let made = c.in_ok-make_each.ensures.made t r (may_make b e f cells w0 w1 those left lost u t r can x same) in
    subst (λ (d : Change). MeetsPart (patch_of_change d) t r) (sym c.into_change.ensures) made.working.meets

pub returns-clause-few : goal.returns-clause-few
returns-clause-few c = λ u t r can.
    let b = c.args.body.now in
    let e = edits_of c.args.edits.now in
    let f = c.args.fresh.now in
    let cells : List CellSeen = map (λ x. arc_value x) c.args.cells.now in
    let those : List Loss = map (λ x. loss_of x) c.as_slice.result.now in
    let losses : those ≡ losses_among b cells = ap (map (λ x. loss_of x)) c.as_slice.ensures.value ∙ c.in_ok-losing.ensures in
    let left = c.regraft_without.new.fresh in
    let w0 = c.in_ok-set.set in
    let w1 = c.regraft_without.new.set in
    let lost : Lost b e f cells w0 w1 those left = record { start = c.in_ok-set.ensures.start; none = c.in_ok-set.ensures.effect; losses = losses; turned = c.in_ok-regraft_without.ensures.turned; left_is = c.in_ok-regraft_without.ensures.left } in
    let x : Edits = edits_of c.in_ok-beside.beside in
    let same = c.in_ok-beside.ensures in
    let made = c.in_ok-make_each.ensures.made t r (may_make b e f cells w0 w1 those left lost u t r can x same) in
    subst (λ (d : Change). length d.new ≤ most_lost b u r cells) (sym c.into_change.ensures)
    (few_lost b e f cells w0 w1 those left lost u t r can x same c.make_each.new.fresh c.make_each.new.set made)

pub returns-clause-effect : goal.returns-clause-effect
returns-clause-effect c =
    let b = c.args.body.now in
    let e = edits_of c.args.edits.now in
    let f = c.args.fresh.now in
    let cells : List CellSeen = map (λ x. arc_value x) c.args.cells.now in
    let (u, (t, (r, can))) = c.requires.can in
    let those : List Loss = map (λ x. loss_of x) c.as_slice.result.now in
    let losses : those ≡ losses_among b cells = ap (map (λ x. loss_of x)) c.as_slice.ensures.value ∙ c.in_ok-losing.ensures in
    let left = c.regraft_without.new.fresh in
    let w0 = c.in_ok-set.set in
    let w1 = c.regraft_without.new.set in
    let lost : Lost b e f cells w0 w1 those left = record { start = c.in_ok-set.ensures.start; none = c.in_ok-set.ensures.effect; losses = losses; turned = c.in_ok-regraft_without.ensures.turned; left_is = c.in_ok-regraft_without.ensures.left } in
    let x : Edits = edits_of c.in_ok-beside.beside in
    let same = c.in_ok-beside.ensures in
    let made = c.in_ok-make_each.ensures.made t r (may_make b e f cells w0 w1 those left lost u t r can x same) in
    subst (λ (d : Change). HasEffect (patch_of_change d) (lost_keys b e cells) (lost_values e)) (sym c.into_change.ensures)
    (effect_is b e f cells w0 w1 those left lost u t r can x same c.make_each.new.fresh c.make_each.new.set made)

pub returns-clause-old : goal.returns-clause-old
returns-clause-old c =
    let b = c.args.body.now in
    let e = edits_of c.args.edits.now in
    let f = c.args.fresh.now in
    let cells : List CellSeen = map (λ x. arc_value x) c.args.cells.now in
    let (u, (t, (r, can))) = c.requires.can in
    let those : List Loss = map (λ x. loss_of x) c.as_slice.result.now in
    let losses : those ≡ losses_among b cells = ap (map (λ x. loss_of x)) c.as_slice.ensures.value ∙ c.in_ok-losing.ensures in
    let left = c.regraft_without.new.fresh in
    let w0 = c.in_ok-set.set in
    let w1 = c.regraft_without.new.set in
    let lost : Lost b e f cells w0 w1 those left = record { start = c.in_ok-set.ensures.start; none = c.in_ok-set.ensures.effect; losses = losses; turned = c.in_ok-regraft_without.ensures.turned; left_is = c.in_ok-regraft_without.ensures.left } in
    let x : Edits = edits_of c.in_ok-beside.beside in
    let same = c.in_ok-beside.ensures in
    let made = c.in_ok-make_each.ensures.made t r (may_make b e f cells w0 w1 those left lost u t r can x same) in
    λ z at. (of_cells b e f cells w0 w1 those left lost u t r can x same c.make_each.new.fresh c.make_each.new.set made).old z (subst (λ (d : Change). Contains d.old z) c.into_change.ensures at)

pub returns-clause-new : goal.returns-clause-new
returns-clause-new c =
    let b = c.args.body.now in
    let e = edits_of c.args.edits.now in
    let f = c.args.fresh.now in
    let cells : List CellSeen = map (λ x. arc_value x) c.args.cells.now in
    let (u, (t, (r, can))) = c.requires.can in
    let those : List Loss = map (λ x. loss_of x) c.as_slice.result.now in
    let losses : those ≡ losses_among b cells = ap (map (λ x. loss_of x)) c.as_slice.ensures.value ∙ c.in_ok-losing.ensures in
    let left = c.regraft_without.new.fresh in
    let w0 = c.in_ok-set.set in
    let w1 = c.regraft_without.new.set in
    let lost : Lost b e f cells w0 w1 those left = record { start = c.in_ok-set.ensures.start; none = c.in_ok-set.ensures.effect; losses = losses; turned = c.in_ok-regraft_without.ensures.turned; left_is = c.in_ok-regraft_without.ensures.left } in
    let x : Edits = edits_of c.in_ok-beside.beside in
    let same = c.in_ok-beside.ensures in
    let made = c.in_ok-make_each.ensures.made t r (may_make b e f cells w0 w1 those left lost u t r can x same) in
    subst (AreNumbered f c.make_each.new.fresh) (sym c.into_change.ensures)
    (of_cells b e f cells w0 w1 those left lost u t r can x same c.make_each.new.fresh c.make_each.new.set made).new

pub returns-clause-numbers : goal.returns-clause-numbers
returns-clause-numbers c =
    takes_more c.args.body.now (edits_of c.args.edits.now) c.args.fresh.now (map (λ x. loss_of x) c.as_slice.result.now) c.regraft_without.new.fresh c.make_each.new.fresh c.in_ok-regraft_without.ensures.left c.in_ok-make_each.ensures.numbers
