use Rattle.std.proofs.Common.{◌≡◌, List, map, sym, ap, subst, ◌∙◌}
use Rattle.std.specs.Arc.{arc_value}
use Rattle.std.specs.Option.{option_copied}
use Rattle.std.specs.Prelude.{◌≤◌, Contains, length}
use Rattle.r4_content.specs.Held.{edits_of}
use Rattle.r4_extent_turned.specs.r4_extent_growth.r4_build.Building.{AreNumbered, set_by}
use Rattle.r4_extent_turned.specs.r4_extent_growth.r4_measure.r4_cell.Patch.{IsChange, root_of_pair}
use Rattle.r4_extent_turned.specs.r4_extent_growth.r4_measure.r4_cell.Seen.{CellSeen}
use Rattle.r4_extent_turned.specs.r4_extent_growth.r4_measure.r4_cell.declared.change.Change.{Change}
use Rattle.r4_extent_turned.specs.r4_extent_growth.r4_measure.r4_patch.Effect.{HasEffect}
use Rattle.r4_extent_turned.specs.r4_extent_growth.r4_measure.r4_patch.Joining.{patch_of_change}
use Rattle.r4_extent_turned.specs.r4_extent_growth.r4_measure.r4_patch.Part.{MeetsPart}
use Rattle.r4_extent_put.specs.Putting.{most_put}
use Rattle.r4_extent_put.specs.Whole.{put_keys, putting_among}
use Rattle.r4_extent_put.proofs.PutSteps.{Put, effect_is, few_put, left_numbers, left_working, may_each, of_cells, suits, takes_more}
use Rattle.r4_extent_put.proofs.putting.change_of_putting.Goals as goal

pub put_among_each-requires-clause-can : goal.put_among_each-requires-clause-can
put_among_each-requires-clause-can c =
    let b = option_copied c.args.body in
    let e = edits_of c.args.edits.now in
    let f = c.args.fresh.now in
    let cells : List CellSeen = map (λ x. arc_value x) c.args.cells.now in
    let r = root_of_pair c.args.root.now in
    let (u, (t, can)) = c.requires.can in
    let those : List CellSeen = map (λ x. arc_value x) c.as_slice.result.now in
    let twigs : those ≡ putting_among b e cells = ap (map (λ x. arc_value x)) c.as_slice.ensures.value ∙ c.in_ok-twigs.ensures in
    (t, (r, may_each b e f cells c.in_ok-set.set c.in_ok-set.ensures.start u t r can those twigs))

pub edit_each-requires-clause-working : goal.edit_each-requires-clause-working
edit_each-requires-clause-working c =
    let b = option_copied c.args.body in
    let e = edits_of c.args.edits.now in
    let f = c.args.fresh.now in
    let cells : List CellSeen = map (λ x. arc_value x) c.args.cells.now in
    let r = root_of_pair c.args.root.now in
    let (u, (t, can)) = c.requires.can in
    let those : List CellSeen = map (λ x. arc_value x) c.as_slice.result.now in
    let twigs : those ≡ putting_among b e cells = ap (map (λ x. arc_value x)) c.as_slice.ensures.value ∙ c.in_ok-twigs.ensures in
    let left = c.put_among_each.new.fresh in
    let w0 = c.in_ok-set.set in
    let w1 = c.put_among_each.new.set in
    let news : List CellSeen = map (λ x. arc_value x) c.in_ok-put_among_each.field-0.items in
    let done : Put b e f cells w0 w1 those left news = record { start = c.in_ok-set.ensures.start; none = c.in_ok-set.ensures.effect; twigs = twigs; put = c.in_ok-put_among_each.ensures } in
    (t, left_working b e f cells w0 w1 those left news done u t r can)

pub edit_each-requires-clause-suits : goal.edit_each-requires-clause-suits
edit_each-requires-clause-suits c =
    let b = option_copied c.args.body in
    let e = edits_of c.args.edits.now in
    let f = c.args.fresh.now in
    let cells : List CellSeen = map (λ x. arc_value x) c.args.cells.now in
    let r = root_of_pair c.args.root.now in
    let (u, (t, can)) = c.requires.can in
    suits b e can.in_leaves c.requires.suits.suit

pub edit_each-requires-clause-numbers : goal.edit_each-requires-clause-numbers
edit_each-requires-clause-numbers c =
    let b = option_copied c.args.body in
    let e = edits_of c.args.edits.now in
    let f = c.args.fresh.now in
    let cells : List CellSeen = map (λ x. arc_value x) c.args.cells.now in
    let r = root_of_pair c.args.root.now in
    let (u, (t, can)) = c.requires.can in
    let those : List CellSeen = map (λ x. arc_value x) c.as_slice.result.now in
    let twigs : those ≡ putting_among b e cells = ap (map (λ x. arc_value x)) c.as_slice.ensures.value ∙ c.in_ok-twigs.ensures in
    let left = c.put_among_each.new.fresh in
    let w0 = c.in_ok-set.set in
    let w1 = c.put_among_each.new.set in
    let news : List CellSeen = map (λ x. arc_value x) c.in_ok-put_among_each.field-0.items in
    let done : Put b e f cells w0 w1 those left news = record { start = c.in_ok-set.ensures.start; none = c.in_ok-set.ensures.effect; twigs = twigs; put = c.in_ok-put_among_each.ensures } in
    left_numbers b e f cells w0 w1 those left news done u t r can

pub returns-clause-change : goal.returns-clause-change
returns-clause-change c =
    let b = option_copied c.args.body in
    let e = edits_of c.args.edits.now in
    let f = c.args.fresh.now in
    let cells : List CellSeen = map (λ x. arc_value x) c.args.cells.now in
    let r = root_of_pair c.args.root.now in
    let (u, (t, can)) = c.requires.can in
    let those : List CellSeen = map (λ x. arc_value x) c.as_slice.result.now in
    let twigs : those ≡ putting_among b e cells = ap (map (λ x. arc_value x)) c.as_slice.ensures.value ∙ c.in_ok-twigs.ensures in
    let left = c.put_among_each.new.fresh in
    let w0 = c.in_ok-set.set in
    let w1 = c.put_among_each.new.set in
    let news : List CellSeen = map (λ x. arc_value x) c.in_ok-put_among_each.field-0.items in
    let done : Put b e f cells w0 w1 those left news = record { start = c.in_ok-set.ensures.start; none = c.in_ok-set.ensures.effect; twigs = twigs; put = c.in_ok-put_among_each.ensures } in
    let made = c.in_ok-edit_each.ensures.made t (left_working b e f cells w0 w1 those left news done u t r can) in
    subst (λ (d : Change). IsChange d.old d.new d.root) (sym c.into_change.ensures) made.working.change

pub returns-clause-meets : goal.returns-clause-meets
returns-clause-meets c = λ u t can.
    let r = root_of_pair c.args.root.now in
    let b = option_copied c.args.body in
    let e = edits_of c.args.edits.now in
    let f = c.args.fresh.now in
    let cells : List CellSeen = map (λ x. arc_value x) c.args.cells.now in
    let those : List CellSeen = map (λ x. arc_value x) c.as_slice.result.now in
    let twigs : those ≡ putting_among b e cells = ap (map (λ x. arc_value x)) c.as_slice.ensures.value ∙ c.in_ok-twigs.ensures in
    let left = c.put_among_each.new.fresh in
    let w0 = c.in_ok-set.set in
    let w1 = c.put_among_each.new.set in
    let news : List CellSeen = map (λ x. arc_value x) c.in_ok-put_among_each.field-0.items in
    let done : Put b e f cells w0 w1 those left news = record { start = c.in_ok-set.ensures.start; none = c.in_ok-set.ensures.effect; twigs = twigs; put = c.in_ok-put_among_each.ensures } in
    let made = c.in_ok-edit_each.ensures.made t (left_working b e f cells w0 w1 those left news done u t r can) in
    subst (λ (d : Change). MeetsPart (patch_of_change d) t r) (sym c.into_change.ensures) made.working.meets

pub returns-clause-few : goal.returns-clause-few
returns-clause-few c = λ u t can has.
    let r = root_of_pair c.args.root.now in
    let b = option_copied c.args.body in
    let e = edits_of c.args.edits.now in
    let f = c.args.fresh.now in
    let cells : List CellSeen = map (λ x. arc_value x) c.args.cells.now in
    let those : List CellSeen = map (λ x. arc_value x) c.as_slice.result.now in
    let twigs : those ≡ putting_among b e cells = ap (map (λ x. arc_value x)) c.as_slice.ensures.value ∙ c.in_ok-twigs.ensures in
    let left = c.put_among_each.new.fresh in
    let w0 = c.in_ok-set.set in
    let w1 = c.put_among_each.new.set in
    let news : List CellSeen = map (λ x. arc_value x) c.in_ok-put_among_each.field-0.items in
    let done : Put b e f cells w0 w1 those left news = record { start = c.in_ok-set.ensures.start; none = c.in_ok-set.ensures.effect; twigs = twigs; put = c.in_ok-put_among_each.ensures } in
    let made = c.in_ok-edit_each.ensures.made t (left_working b e f cells w0 w1 those left news done u t r can) in
    subst (λ (d : Change). length d.new ≤ most_put b e u r cells) (sym c.into_change.ensures)
    (few_put b e f cells w0 w1 those left news done u t r can c.edit_each.new.fresh c.edit_each.new.set made has)

pub returns-clause-effect : goal.returns-clause-effect
returns-clause-effect c =
    let b = option_copied c.args.body in
    let e = edits_of c.args.edits.now in
    let f = c.args.fresh.now in
    let cells : List CellSeen = map (λ x. arc_value x) c.args.cells.now in
    let r = root_of_pair c.args.root.now in
    let (u, (t, can)) = c.requires.can in
    let those : List CellSeen = map (λ x. arc_value x) c.as_slice.result.now in
    let twigs : those ≡ putting_among b e cells = ap (map (λ x. arc_value x)) c.as_slice.ensures.value ∙ c.in_ok-twigs.ensures in
    let left = c.put_among_each.new.fresh in
    let w0 = c.in_ok-set.set in
    let w1 = c.put_among_each.new.set in
    let news : List CellSeen = map (λ x. arc_value x) c.in_ok-put_among_each.field-0.items in
    let done : Put b e f cells w0 w1 those left news = record { start = c.in_ok-set.ensures.start; none = c.in_ok-set.ensures.effect; twigs = twigs; put = c.in_ok-put_among_each.ensures } in
    let made = c.in_ok-edit_each.ensures.made t (left_working b e f cells w0 w1 those left news done u t r can) in
    subst (λ (d : Change). HasEffect (patch_of_change d) (put_keys b e cells) (set_by e)) (sym c.into_change.ensures)
    (effect_is b e f cells w0 w1 those left news done u t r can c.edit_each.new.fresh c.edit_each.new.set made)

pub returns-clause-old : goal.returns-clause-old
returns-clause-old c =
    let b = option_copied c.args.body in
    let e = edits_of c.args.edits.now in
    let f = c.args.fresh.now in
    let cells : List CellSeen = map (λ x. arc_value x) c.args.cells.now in
    let r = root_of_pair c.args.root.now in
    let (u, (t, can)) = c.requires.can in
    let those : List CellSeen = map (λ x. arc_value x) c.as_slice.result.now in
    let twigs : those ≡ putting_among b e cells = ap (map (λ x. arc_value x)) c.as_slice.ensures.value ∙ c.in_ok-twigs.ensures in
    let left = c.put_among_each.new.fresh in
    let w0 = c.in_ok-set.set in
    let w1 = c.put_among_each.new.set in
    let news : List CellSeen = map (λ x. arc_value x) c.in_ok-put_among_each.field-0.items in
    let done : Put b e f cells w0 w1 those left news = record { start = c.in_ok-set.ensures.start; none = c.in_ok-set.ensures.effect; twigs = twigs; put = c.in_ok-put_among_each.ensures } in
    let made = c.in_ok-edit_each.ensures.made t (left_working b e f cells w0 w1 those left news done u t r can) in
    λ z at. (of_cells b e f cells w0 w1 those left news done u t r can c.edit_each.new.fresh c.edit_each.new.set made).old z (subst (λ (d : Change). Contains d.old z) c.into_change.ensures at)

pub returns-clause-new : goal.returns-clause-new
returns-clause-new c =
    let b = option_copied c.args.body in
    let e = edits_of c.args.edits.now in
    let f = c.args.fresh.now in
    let cells : List CellSeen = map (λ x. arc_value x) c.args.cells.now in
    let r = root_of_pair c.args.root.now in
    let (u, (t, can)) = c.requires.can in
    let those : List CellSeen = map (λ x. arc_value x) c.as_slice.result.now in
    let twigs : those ≡ putting_among b e cells = ap (map (λ x. arc_value x)) c.as_slice.ensures.value ∙ c.in_ok-twigs.ensures in
    let left = c.put_among_each.new.fresh in
    let w0 = c.in_ok-set.set in
    let w1 = c.put_among_each.new.set in
    let news : List CellSeen = map (λ x. arc_value x) c.in_ok-put_among_each.field-0.items in
    let done : Put b e f cells w0 w1 those left news = record { start = c.in_ok-set.ensures.start; none = c.in_ok-set.ensures.effect; twigs = twigs; put = c.in_ok-put_among_each.ensures } in
    let made = c.in_ok-edit_each.ensures.made t (left_working b e f cells w0 w1 those left news done u t r can) in
    subst (AreNumbered f c.edit_each.new.fresh) (sym c.into_change.ensures)
    (of_cells b e f cells w0 w1 those left news done u t r can c.edit_each.new.fresh c.edit_each.new.set made).new

pub returns-clause-numbers : goal.returns-clause-numbers
returns-clause-numbers c =
    let b = option_copied c.args.body in
    let e = edits_of c.args.edits.now in
    let f = c.args.fresh.now in
    let cells : List CellSeen = map (λ x. arc_value x) c.args.cells.now in
    let r = root_of_pair c.args.root.now in
    let (u, (t, can)) = c.requires.can in
    let those : List CellSeen = map (λ x. arc_value x) c.as_slice.result.now in
    let twigs : those ≡ putting_among b e cells = ap (map (λ x. arc_value x)) c.as_slice.ensures.value ∙ c.in_ok-twigs.ensures in
    let left = c.put_among_each.new.fresh in
    let w0 = c.in_ok-set.set in
    let w1 = c.put_among_each.new.set in
    let news : List CellSeen = map (λ x. arc_value x) c.in_ok-put_among_each.field-0.items in
    let done : Put b e f cells w0 w1 those left news = record { start = c.in_ok-set.ensures.start; none = c.in_ok-set.ensures.effect; twigs = twigs; put = c.in_ok-put_among_each.ensures } in
    takes_more b e f cells w0 w1 those left news done u t r can c.edit_each.new.fresh c.in_ok-edit_each.ensures.numbers
