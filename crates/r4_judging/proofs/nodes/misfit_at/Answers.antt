use Rattle.std.proofs.Common.{◌≡◌, ◌+◌, ◌≤◌, List, map, drop, ap, sym, subst, ◌∙◌, rules, arith}
use Rattle.std.specs.Prelude.{Some, slice_get}
use Rattle.std.specs.Arc.{arc_value}
use Rattle.std.proofs.lemmas.Option.{same_Some}
use Rattle.r4_base.specs.Cell.{next_key}
use Rattle.r4_base.specs.Key.{rank, top}
use Rattle.r4_base.specs.Node.{Item, items_of}
use Rattle.r4_base.specs.Tree.{Name}
use Rattle.r4_base.specs.declared.key.Key.{Key}
use Rattle.r4_base.proofs.Keys.{is_key}
use Rattle.r4_cell.proofs.Faults.{body_short}
use Rattle.r4_marking.specs.Marks.{names_at}
use Rattle.r4_node40.specs.View.{item_shown}
use Rattle.r4_sight.proofs.r4_units.ExtentUnits.{extent_names}
use Rattle.r4_sight.proofs.r4_units.Leaves.{body_of, extent_good}
use Rattle.r4_sight.proofs.Bodies.{up_to_top}
use Rattle.r4_sight.proofs.Stretching.{ends_below, offsets_in}
use Rattle.r4_judging.specs.Judging.{IsJudged}
use Rattle.r4_judging.proofs.Empty.{names_nothing}
use Rattle.r4_judging.proofs.nodes.misfit_at.Goals as goal

pub misfit_of_extent-requires-clause-few : goal.misfit_of_extent-requires-clause-few
misfit_of_extent-requires-clause-few c =
    let is = subst (λ (items : List Item). slice_get items c.args.place ≡ Some (item_shown c.item-item.result))
    c.requires.items c.item-item.ensures.shown in
    let short = body_short c.args.cell.now.block c.args.place _ is in
    let whole = c.requires.whole in
    omega (arith, short, whole)

pub misfit_of_extent-requires-clause-good : goal.misfit_of_extent-requires-clause-good
misfit_of_extent-requires-clause-good c =
    let cell = c.args.cell.now in
    let is = subst (λ (items : List Item). slice_get items c.args.place ≡ Some (item_shown c.item-item.result))
    c.requires.items c.item-item.ensures.shown in
    let two = c.requires.branch in
    extent_good (item_shown c.item-item.result) c.if-item-eq-EXTENT.true
    (body_of cell c.args.place _ (omega (arith, two)) c.requires.stands is)

pub misfit_of_extent-requires-clause-fits : goal.misfit_of_extent-requires-clause-fits
misfit_of_extent-requires-clause-fits c =
    let is = subst (λ (items : List Item). slice_get items c.args.place ≡ Some (item_shown c.item-item.result))
    c.requires.items c.item-item.ensures.shown in
    offsets_in c.args.cell.now c.requires.whole c.requires.branch c.requires.stands c.args.place
    (item_shown c.item-item.result) is c.if-item-eq-EXTENT.true

pub misfit_of_extent-requires-clause-below : goal.misfit_of_extent-requires-clause-below
misfit_of_extent-requires-clause-below c =
    let cell = c.args.cell.now in
    let is = subst (λ (items : List Item). slice_get items c.args.place ≡ Some (item_shown c.item-item.result))
    c.requires.items c.item-item.ensures.shown in
    let end = ends_below cell c.requires.whole c.requires.branch c.requires.stands c.args.place
    (item_shown c.item-item.result) is c.if-item-eq-EXTENT.true in
    let up : rank cell.hi ≤ top = subst (λ (k : Key). rank k ≤ top) c.requires.hi
    (up_to_top c.args.hi
    (is_key c.args.hi (search rules) (search rules) (search rules) (search rules) (search rules))) in
    omega (arith, end, up)

pub returns-then-item-eq-EXTENT : goal.returns-then-item-eq-EXTENT
returns-then-item-eq-EXTENT c it at =
    let cell = c.args.cell.now in
    let cells = map (λ x. arc_value x) c.args.cells.now in
    let is = subst (λ (items : List Item). slice_get items c.args.place ≡ Some (item_shown c.item-item.result))
    c.requires.items c.item-item.ensures.shown in
    let same : item_shown c.item-item.result ≡ it = same_Some (item_shown c.item-item.result) it (sym is ∙ at) in
    let names = extent_names cell.level (next_key (rank cell.hi) (drop (c.args.place + 1) (items_of cell.block)))
    (item_shown c.item-item.result) c.if-item-eq-EXTENT.true in
    subst (λ (x : Item). IsJudged (names_at cell c.args.place x) cells c.misfit_of_extent.result) same
    (subst (λ (ns : List Name). IsJudged ns cells c.misfit_of_extent.result) (sym names) c.misfit_of_extent.ensures)

pub returns-in_err-child_at : goal.returns-in_err-child_at
returns-in_err-child_at c it at =
    let cell = c.args.cell.now in
    let cells = map (λ x. arc_value x) c.args.cells.now in
    let is = subst (λ (items : List Item). slice_get items c.args.place ≡ Some (item_shown c.item-item.result))
    c.requires.items c.item-item.ensures.shown in
    let same : item_shown c.item-item.result ≡ it = same_Some (item_shown c.item-item.result) it (sym is ∙ at) in
    let next = next_key (rank cell.hi) (drop (c.args.place + 1) (items_of cell.block)) in
    subst (IsJudged (names_at cell c.args.place it) cells) (sym c.from_residual.ensures)
    (λ d f m. names_nothing cell.level next it c.requires.branch
    (λ five. c.if-item-eq-EXTENT.false (ap (λ (x : Item). x.plugin) same ∙ five))
    (λ n h. c.in_err-child_at.ensures.none it at n h) m.name m.named)

pub returns : goal.returns
returns c it at =
    let cells = map (λ x. arc_value x) c.args.cells.now in
    subst (λ (ns : List Name). IsJudged ns cells c.misfit.result) (sym (c.in_ok-child_at.ensures.child.names it at))
    c.misfit.ensures
