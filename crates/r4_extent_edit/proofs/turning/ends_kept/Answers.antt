use Rattle.std.proofs.Common.{ℕ, ◌<◌, ◌≤◌, ◌≡◌, sym, subst, ◌∙◌}
use Rattle.std.specs.Prelude.{Contains}
use Rattle.std.specs.Arc.{arc_value}
use Rattle.std.specs.Option.{option_map}
use Rattle.r4_base.specs.Key.{rank}
use Rattle.r4_base.specs.Value.{Value}
use Rattle.r4_work.specs.r4_cell.Seen.{CellSeen, node_of}
use Rattle.r4_work.specs.r4_edit.LeafParts.{HasLeft, HasRight}
use Rattle.r4_extent_edit.proofs.TurnEnds.{ends_at, first_is, last_is}
use Rattle.r4_extent_edit.proofs.turning.ends_kept.Goals as goal

pub rest_of-requires-clause-level : goal.rest_of-requires-clause-level
rest_of-requires-clause-level c =
    let (leaf, around) = ends_at arc_value c.args.leaves.now c.index-leaves-leaves.result (rank c.args.from.now)
    (rank c.args.to.now) c.index-leaves-leaves.is c.requires.ends in
    subst (λ (x : CellSeen). x.level ≡ 1) (sym c.deref-2.ensures) around.last_level

pub rest_of-requires-clause-from : goal.rest_of-requires-clause-from
rest_of-requires-clause-from c =
    let (leaf, around) = ends_at arc_value c.args.leaves.now c.index-leaves-leaves.result (rank c.args.from.now)
    (rank c.args.to.now) c.index-leaves-leaves.is c.requires.ends in
    subst (λ (x : CellSeen). rank x.lo < rank c.args.to.now) (sym c.deref-2.ensures) around.ends

pub rest_of-requires-clause-to : goal.rest_of-requires-clause-to
rest_of-requires-clause-to c =
    let (leaf, around) = ends_at arc_value c.args.leaves.now c.index-leaves-leaves.result (rank c.args.from.now)
    (rank c.args.to.now) c.index-leaves-leaves.is c.requires.ends in
    subst (λ (x : CellSeen). rank c.args.to.now ≤ rank x.hi) (sym c.deref-2.ensures) around.high

pub rest_of-requires-clause-units : goal.rest_of-requires-clause-units
rest_of-requires-clause-units c =
    let (leaf, around) = ends_at arc_value c.args.leaves.now c.index-leaves-leaves.result (rank c.args.from.now)
    (rank c.args.to.now) c.index-leaves-leaves.is c.requires.ends in
    subst (λ (x : CellSeen). (k : ℕ) (v : Value) → Contains (node_of x).units (k, v)
    → k < rank x.hi) (sym c.deref-2.ensures) around.units

pub returns-clause-keeps : goal.returns-clause-keeps
returns-clause-keeps c leaf more same = record {
  left_is = subst (λ (x : CellSeen). HasLeft x c.args.from.now (option_map arc_value c.in_ok-left.left))
      (c.deref.ensures ∙ first_is arc_value c.args.leaves.now c.index-leaves-0.result leaf more c.index-leaves-0.is
      same) c.in_ok-left.ensures;
  right_is = subst (λ (x : CellSeen). HasRight x c.args.to.now c.args.fresh.now.next
      (option_map arc_value c.in_ok-right.right)) (c.deref-2.ensures
      ∙ last_is arc_value c.args.leaves.now c.index-leaves-leaves.result leaf more c.index-leaves-leaves.is same)
      c.in_ok-right.ensures.right;
  number = c.in_ok-right.ensures.fresh;
}
