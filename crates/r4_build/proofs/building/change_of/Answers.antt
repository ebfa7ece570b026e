use Rattle.std.proofs.Common.{◌≤◌, arith, length, map, subst, sym}
use Rattle.std.specs.Arc.{arc_value}
use Rattle.std.specs.Prelude.{Contains}
use Rattle.r4_measure.specs.r4_cell.Patch.{IsChange}
use Rattle.r4_measure.specs.r4_cell.declared.change.Change.{Change}
use Rattle.r4_content.specs.Edited.{changed, is_in}
use Rattle.r4_content.specs.Held.{edits_of}
use Rattle.r4_measure.specs.r4_patch.Effect.{HasEffect}
use Rattle.r4_measure.specs.r4_patch.Joining.{patch_of_change}
use Rattle.r4_measure.specs.r4_patch.Part.{MeetsPart}
use Rattle.r4_build.specs.Building.{AreNumbered, most_new, set_by}
use Rattle.r4_build.proofs.Made.{few_new, start_of, whole_effect}
use Rattle.r4_build.proofs.Turns.{can_make, few_made}
use Rattle.r4_build.proofs.building.change_of.Goals as goal

pub make_each-requires-clause-can : goal.make_each-requires-clause-can
make_each-requires-clause-can c =
    let (b, (reads, (t, (r, can)))) = c.requires.can in
    (t, (r, can_make b (edits_of c.args.edits.now) reads t r c.args.fresh.now (map (λ x. arc_value x) c.args.cells.now) can c.in_ok-set.set c.in_ok-set.ensures.start))

pub returns-clause-change : goal.returns-clause-change
returns-clause-change c =
    let (b, (reads, (t, (r, can)))) = c.requires.can in
    let made = c.in_ok-make_each.ensures.made t r (can_make b (edits_of c.args.edits.now) reads t r c.args.fresh.now (map (λ x. arc_value x) c.args.cells.now) can c.in_ok-set.set c.in_ok-set.ensures.start) in
    subst (λ (d : Change). IsChange d.old d.new d.root) (sym c.into_change.ensures) made.working.change

pub returns-clause-meets : goal.returns-clause-meets
returns-clause-meets c = λ b reads t r can.
    let made = c.in_ok-make_each.ensures.made t r (can_make b (edits_of c.args.edits.now) reads t r c.args.fresh.now (map (λ x. arc_value x) c.args.cells.now) can c.in_ok-set.set c.in_ok-set.ensures.start) in
    subst (λ (d : Change). MeetsPart (patch_of_change d) t r) (sym c.into_change.ensures) made.working.meets

pub returns-clause-few : goal.returns-clause-few
returns-clause-few c = λ b reads t r can.
    let e = edits_of c.args.edits.now in
    let cells = map (λ x. arc_value x) c.args.cells.now in
    let made = c.in_ok-make_each.ensures.made t r (can_make b e reads t r c.args.fresh.now cells can c.in_ok-set.set c.in_ok-set.ensures.start) in
    let most = most_new b e reads t r cells in
    subst (λ (d : Change). length d.new ≤ most) (sym c.into_change.ensures)
    (few_new most t r c.make_each.new.fresh c.make_each.new.set made.working (made.few most (few_made b e reads t r c.args.fresh.now cells can c.in_ok-set.set c.in_ok-set.ensures.start)))

pub returns-clause-effect : goal.returns-clause-effect
returns-clause-effect c =
    let (b, (reads, (t, (r, can)))) = c.requires.can in
    let e = edits_of c.args.edits.now in
    let cells = map (λ x. arc_value x) c.args.cells.now in
    let made = c.in_ok-make_each.ensures.made t r (can_make b e reads t r c.args.fresh.now cells can c.in_ok-set.set c.in_ok-set.ensures.start) in
    subst (λ (d : Change). HasEffect (patch_of_change d) (is_in (changed e)) (set_by e)) (sym c.into_change.ensures)
    (whole_effect t r e cells c.args.fresh.now c.make_each.new.fresh c.in_ok-set.set c.make_each.new.set can.lie c.in_ok-set.ensures.effect made)

pub returns-clause-old : goal.returns-clause-old
returns-clause-old c = λ x at.
    let (b, (reads, (t, (r, can)))) = c.requires.can in
    let cells = map (λ x. arc_value x) c.args.cells.now in
    let made = c.in_ok-make_each.ensures.made t r (can_make b (edits_of c.args.edits.now) reads t r c.args.fresh.now cells can c.in_ok-set.set c.in_ok-set.ensures.start) in
    (made.stays cells c.args.fresh.now.next (omega arith) (start_of cells c.in_ok-set.set c.args.fresh.now c.in_ok-set.ensures.start)).old x (subst (λ (d : Change). Contains d.old x) c.into_change.ensures at)

pub returns-clause-new : goal.returns-clause-new
returns-clause-new c =
    let (b, (reads, (t, (r, can)))) = c.requires.can in
    let cells = map (λ x. arc_value x) c.args.cells.now in
    let made = c.in_ok-make_each.ensures.made t r (can_make b (edits_of c.args.edits.now) reads t r c.args.fresh.now cells can c.in_ok-set.set c.in_ok-set.ensures.start) in
    subst (AreNumbered c.args.fresh.now c.make_each.new.fresh) (sym c.into_change.ensures)
    (made.stays cells c.args.fresh.now.next (omega arith) (start_of cells c.in_ok-set.set c.args.fresh.now c.in_ok-set.ensures.start)).new
