use Rattle.std.proofs.Common.{◌≡◌, inl, inr, ◌+◌, ◌∷◌, Bool, List, drop, map, sym, ap, subst, ◌∙◌}
use Rattle.std.specs.Prelude.{◌&&◌, Contains}
use Rattle.std.specs.Arc.{arc_value}
use Rattle.std.specs.List.{list_all}
use Rattle.r4_content.specs.Held.{edits_of}
use Rattle.r4_extent_shrink.proofs.r4_extent_growth.AllTurn.{rest_is}
use Rattle.r4_extent_shrink.proofs.r4_extent_growth.r4_measure.r4_patch.Members.{cases}
use Rattle.r4_extent_shrink.specs.r4_extent_growth.r4_measure.r4_cell.Seen.{CellSeen}
use Rattle.r4_extent_shrink.specs.r4_extent_growth.r4_measure.r4_path.Sharing.{IsSound}
use Rattle.r4_extent_turned.specs.Suiting.{changes_before}
use Rattle.r4_extent_turned.proofs.leaves.change_before.Goals as goal

pub loop-cell-preserved : goal.loop-cell-preserved
loop-cell-preserved c =
    let P = changes_before c.args.body.now (edits_of c.args.edits.now) in
    let i = c.loop-cell.cell-index in
    let first = c.deref.result.now in
    let rest : List CellSeen = map (λ x. arc_value x) (drop (i + 1) c.args.cells.now) in
    let is : map (λ x. arc_value x) (drop i c.args.cells.now) ≡ first ∷ rest
    = rest_is (λ x. arc_value x) c.args.cells.now i _ c.loop-cell-test.true first (c.deref.ensures ∙ ap (λ x. arc_value x) c.cell-item.is) in
    let here = sym c.changes_before.ensures.exact ∙ c.if-not-changes_before.false in
    record {
      exact = c.loop-cell.invariant.exact ∙ (ap (list_all P) is ∙ ap (λ (v : Bool). v && list_all P rest) here);
      known = λ others. c.loop-cell.invariant.known
          (subst (λ (xs : List CellSeen). (x : CellSeen) → Contains xs x → x.level ≡ 1 → IsSound x) (sym is)
          (λ x at. elim (cases first x rest at) [
            | inl same ↦ subst (λ (y : CellSeen). y.level ≡ 1 → IsSound y) (sym same) c.changes_before.ensures.known
            | inr more ↦ others x more
          ]));
    }
