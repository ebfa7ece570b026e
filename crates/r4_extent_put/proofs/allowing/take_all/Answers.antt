use Rattle.std.proofs.Common.{◌≡◌, inl, inr, ◌+◌, ◌∷◌, [], Bool, List, drop, map, sym, ap, subst, ◌∙◌}
use Rattle.std.specs.Prelude.{◌&&◌, Contains}
use Rattle.std.proofs.lemmas.List.Elements.{filter-append}
use Rattle.std.proofs.lemmas.List.Folds.{list_all-append}
use Rattle.std.specs.Arc.{arc_value}
use Rattle.std.specs.List.{list_all}
use Rattle.std.specs.Option.{option_copied}
use Rattle.r4_content.specs.Held.{edits_of}
use Rattle.r4_extent_turned.proofs.r4_extent_growth.AllTurn.{rest_is}
use Rattle.r4_extent_turned.proofs.r4_extent_growth.r4_measure.r4_patch.Members.{cases}
use Rattle.r4_extent_turned.specs.r4_extent_growth.r4_measure.r4_cell.Seen.{CellSeen}
use Rattle.r4_extent_put.specs.Taking.{IsKnown, takes_values}
use Rattle.r4_extent_put.specs.Whole.{is_putting, putting_among}
use Rattle.r4_extent_put.proofs.allowing.take_all.Goals as goal

pub loop-cell-preserved : goal.loop-cell-preserved
loop-cell-preserved c =
    let b = option_copied c.args.body in
    let e = edits_of c.args.edits.now in
    let P = takes_values b e in
    let i = c.loop-cell.cell-index in
    let first = arc_value c.cell-item.result in
    let rest : List CellSeen = map (λ x. arc_value x) (drop (i + 1) c.args.cells.now) in
    let is : map (λ x. arc_value x) (drop i c.args.cells.now) ≡ first ∷ rest
    = rest_is (λ x. arc_value x) c.args.cells.now i _ c.loop-cell-test.true first (ap (λ x. arc_value x) c.cell-item.is) in
    let here = sym c.in_ok-cell_takes.ensures.exact ∙ c.if-not-branch.false in
    let parted : list_all P (putting_among b e (first ∷ rest)) ≡ (list_all P (putting_among b e (first ∷ [])) && list_all P (putting_among b e rest))
    = ap (list_all P) (filter-append (is_putting b e) (first ∷ []) rest) ∙ list_all-append P (putting_among b e (first ∷ [])) (putting_among b e rest) in
    record {
      exact = c.loop-cell.invariant.exact ∙ (ap (λ xs. list_all P (putting_among b e xs)) is ∙ (parted ∙ ap (λ (v : Bool). v && list_all P (putting_among b e rest)) here));
      known = λ others. c.loop-cell.invariant.known
          (subst (λ (xs : List CellSeen). (x : CellSeen) → Contains xs x → IsKnown b e x) (sym is)
          (λ x at. elim (cases first x rest at) [
            | inl same ↦ subst (IsKnown b e) (sym same) c.in_ok-cell_takes.ensures.known
            | inr more ↦ others x more
          ]));
    }
