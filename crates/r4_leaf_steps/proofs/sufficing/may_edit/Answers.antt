use Rattle.std.proofs.Common.{◌≡◌, ◌-◌, ◌^◌, ◌<◌, ◌∙◌, ◌∷◌, List, ap, map, sym, subst}
use Rattle.std.specs.Prelude.{min}
use Rattle.std.specs.Arc.{arc_value}
use Rattle.r4_base.specs.Key.{rank}
use Rattle.r4_base.specs.declared.key.Key.{Key}
use Rattle.r4_build.specs.r4_leaf.Units.{leaf_bytes}
use Rattle.r4_build.specs.r4_leaf_edits.Made.{AreOfLeaf}
use Rattle.r4_build.specs.r4_measure.r4_cell.Patch.{root_of_pair}
use Rattle.r4_build.specs.r4_measure.r4_cell.Seen.{CellSeen, node_of}
use Rattle.r4_build.specs.r4_measure.r4_edit.Remaking.{after_edits}
use Rattle.r4_build.specs.r4_work.Remaking.{CanEdit, CanRemakeUp}
use Rattle.r4_build.specs.r4_work.Working.{path_of, root_of}
use Rattle.r4_leaf_steps.proofs.Looked.{can_remake, is_whole, same_range}
use Rattle.r4_leaf_steps.proofs.sufficing.may_edit.Goals as goal

pub returns : goal.returns
returns c = λ ok t working.
    let r = root_of_pair c.args.root.now in
    let w = c.args.set.now in
    let f = c.args.fresh.now in
    let leaf = c.args.leaf.now in
    let cuts = c.args.cuts.now in
    let items = c.args.items.now in
    let x : CellSeen = arc_value c.in-Some.standing.now in
    let ups : List CellSeen = map (λ y. arc_value y) c.in-Some.ups.now in
    let up : path_of w (rank leaf.lo) ≡ x ∷ ups
    = ap (λ (k : Key). path_of w (rank k)) (sym c.lo.ensures)
    ∙ (sym (c.in_ok-path.ensures t r f working)
    ∙ (sym (ap (map (λ y. arc_value y)) c.as_slice.ensures.value)
    ∙ ap (map (λ y. arc_value y)) c.in-Some.ensures.cases.0)) in
    let same = c.if-not-is_leaf_of_range.false in
    let lo = ap (λ (y : CellSeen). y.lo) (sym c.deref.ensures) ∙ c.is_leaf_of_range.ensures.lo same in
    let hi = ap (λ (y : CellSeen). y.hi) (sym c.deref.ensures) ∙ c.is_leaf_of_range.ensures.hi same in
    let of = subst (λ (y : CellSeen). AreOfLeaf (rank y.lo) (rank y.hi) (node_of y).units) c.deref-2.ensures c.in_ok-bytes.ensures.units in
    let n = c.in_ok-bytes.bytes in
    let few = c.suffices.ensures.small ok in
    let bytes = is_whole n (leaf_bytes (after_edits cuts items x))
    (subst (λ (y : CellSeen). n ≡ min (leaf_bytes (after_edits cuts items y)) (2 ^ 64 - 1)) c.deref-2.ensures c.in_ok-bytes.ensures.bytes) few in
    let edit = subst (λ (y : CellSeen). CanEdit (root_of w r) f (after_edits cuts items x) y ups) c.deref-3.ensures
    (c.suffices.ensures.edit ok (root_of w r) (after_edits cuts items x) c.root_now-top.ensures bytes) in
    record {
      working = working;
      remake = subst (CanRemakeUp (root_of w r) f cuts items) (sym up)
          (can_remake (root_of w r) f cuts items x ups (same_range leaf x cuts items lo hi c.requires.given) of
          (subst (λ m. m < 58912) bytes few) edit);
    }
