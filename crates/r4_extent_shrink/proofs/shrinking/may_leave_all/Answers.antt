use Rattle.std.proofs.Common.{◌≡◌, inl, inr, ◌+◌, ◌∷◌, [], Bool, List, drop, map, sym, ap, subst, ◌∙◌}
use Rattle.std.specs.Prelude.{◌&&◌, Contains}
use Rattle.std.proofs.lemmas.List.Elements.{filter-append}
use Rattle.std.proofs.lemmas.List.Folds.{list_all-append}
use Rattle.std.specs.Arc.{arc_value}
use Rattle.std.specs.List.{list_all}
use Rattle.r4_extent_growth.proofs.r4_measure.r4_patch.Members.{cases}
use Rattle.r4_extent_growth.specs.r4_measure.r4_cell.Seen.{CellSeen}
use Rattle.r4_extent_growth.specs.r4_extent_change.Among.{is_losing, losing_twigs}
use Rattle.r4_extent_growth.proofs.AllTurn.{rest_is}
use Rattle.r4_extent_shrink.specs.Going.{IsKnown, may_leave}
use Rattle.r4_extent_shrink.proofs.shrinking.may_leave_all.Goals as goal

pub loop-cell-preserved : goal.loop-cell-preserved
loop-cell-preserved c =
    let b = c.args.body.now in
    let cells : List CellSeen = map (λ x. arc_value x) c.args.cells.now in
    let P = may_leave b cells in
    let i = c.loop-cell.cell-index in
    let first = c.deref.result.now in
    let rest : List CellSeen = map (λ x. arc_value x) (drop (i + 1) c.args.cells.now) in
    let is : map (λ x. arc_value x) (drop i c.args.cells.now) ≡ first ∷ rest
    = rest_is (λ x. arc_value x) c.args.cells.now i _ c.loop-cell-test.true first (c.deref.ensures ∙ ap (λ x. arc_value x) c.cell-item.is) in
    let here = sym c.in_ok-cell_may_leave.ensures.exact ∙ c.if-not-branch.false in
    let parted : list_all P (losing_twigs b (first ∷ rest)) ≡ (list_all P (losing_twigs b (first ∷ [])) && list_all P (losing_twigs b rest))
    = ap (list_all P) (filter-append (is_losing b) (first ∷ []) rest) ∙ list_all-append P (losing_twigs b (first ∷ [])) (losing_twigs b rest) in
    record {
      exact = c.loop-cell.invariant.exact ∙ (ap (λ xs. list_all P (losing_twigs b xs)) is ∙ (parted ∙ ap (λ (v : Bool). v && list_all P (losing_twigs b rest)) here));
      known = λ others. c.loop-cell.invariant.known
          (subst (λ (xs : List CellSeen). (x : CellSeen) → Contains xs x → IsKnown b x) (sym is)
          (λ x at. elim (cases first x rest at) [
            | inl same ↦ subst (IsKnown b) (sym same) c.in_ok-cell_may_leave.ensures.known
            | inr more ↦ others x more
          ]));
    }
