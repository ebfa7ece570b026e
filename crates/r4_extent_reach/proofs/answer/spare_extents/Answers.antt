use Rattle.std.proofs.Common.{◌≡◌, false, true, map, refl, sym, subst, ◌∙◌}
use Rattle.std.specs.Prelude.{Contains}
use Rattle.std.specs.Arc.{arc_value}
use Rattle.r4_base.specs.Tree.{Span}
use Rattle.r4_extent_commands.specs.r4_cell.Seen.{CellSeen, node_of}
use Rattle.r4_content.specs.Held.{interval_of}
use Rattle.r4_extent_reaching.specs.r4_touching.r4_reach.Needs.{is_met}
use Rattle.r4_extent_reach.proofs.UpTo.{all_of, member, one_more}
use Rattle.r4_extent_reach.proofs.answer.spare_extents.Goals as goal

pub loop-cell-preserved : goal.loop-cell-preserved
loop-cell-preserved c = λ x s among has.
    one_more (λ y. arc_value y)
    (λ (y : CellSeen). (z : Span) → Contains (node_of y).spans z → is_met (map interval_of c.args.changes.now) z.lo z.hi ≡ false)
    c.args.cells.now c.loop-cell.cell-index _ c.loop-cell-test.true
    (λ y among_first z spans. c.loop-cell.invariant y z among_first spans)
    (subst (λ a. (z : Span) → Contains (node_of (arc_value a)).spans z
    → is_met (map interval_of c.args.changes.now) z.lo z.hi ≡ false) c.cell-item.is
    (subst (λ (y : CellSeen). (z : Span) → Contains (node_of y).spans z
    → is_met (map interval_of c.args.changes.now) z.lo z.hi ≡ false) c.deref.ensures
    (c.spares_extents.ensures.0 c.if-not-spares_extents.false))) x among s has

-- the cell at hand has such an extent
pub returns-then-not-spares_extents : goal.returns-then-not-spares_extents
returns-then-not-spares_extents c = (
  (λ no. absurd (let f : false ≡ true = no in cc)),
  (λ spared. absurd (let on = c.spares_extents.ensures.1 (λ z has. spared c.deref.result.now z
      (subst (λ (y : CellSeen). Contains (map (λ a. arc_value a) c.args.cells.now) y) (sym c.deref.ensures)
      (subst (λ a. Contains (map (λ x. arc_value x) c.args.cells.now) (arc_value a)) (sym c.cell-item.is)
      (member (λ a. arc_value a) c.args.cells.now c.loop-cell.cell-index _ c.loop-cell-test.true))) has) in
      let f : true ≡ false = sym on ∙ c.if-not-spares_extents.true in cc)),
)

pub returns : goal.returns
returns c = (
  (λ yes x s among has. all_of (λ y. arc_value y)
      (λ (y : CellSeen). (z : Span) → Contains (node_of y).spans z → is_met (map interval_of c.args.changes.now) z.lo z.hi ≡ false)
      c.args.cells.now c.loop-cell.cell-index c.loop-cell-test.false
      (λ y among_first z spans. c.loop-cell.invariant y z among_first spans) x among s has),
  (λ spared. refl),
)
