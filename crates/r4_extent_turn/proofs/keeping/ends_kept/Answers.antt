use Rattle.std.proofs.Common.{ℕ, ◌<◌, ◌≤◌, ◌≡◌, ◌+◌, refl, sym, ap, subst, ◌∙◌}
use Rattle.std.specs.Prelude.{Contains, ◌==◌, if◌then◌else◌}
use Rattle.std.specs.Arc.{arc_value}
use Rattle.std.specs.Option.{option_map}
use Rattle.r4_base.specs.Key.{rank}
use Rattle.r4_base.specs.Value.{Value}
use Rattle.r4_extent_build.specs.r4_cell.Seen.{CellSeen, node_of}
use Rattle.r4_extent_build.specs.r4_edit.LeafParts.{HasLeft, HasRight}
use Rattle.r4_extent_build.proofs.r4_extent_edit.TurnEnds.{ends_at, first_is, last_is}
use Rattle.r4_extent_turn.specs.Turning.{last_of, right_number}
use Rattle.r4_extent_turn.proofs.keeping.ends_kept.Goals as goal

pub right_of-requires-clause-level : goal.right_of-requires-clause-level
right_of-requires-clause-level c =
    let (leaf, around) = ends_at arc_value c.args.leaves.now c.index-leaves-leaves.result (rank c.args.from.now)
    (rank c.args.to.now) c.index-leaves-leaves.is c.requires.ends in
    subst (λ (x : CellSeen). x.level ≡ 1) (sym c.deref-3.ensures) around.last_level

pub right_of-requires-clause-from : goal.right_of-requires-clause-from
right_of-requires-clause-from c =
    let (leaf, around) = ends_at arc_value c.args.leaves.now c.index-leaves-leaves.result (rank c.args.from.now)
    (rank c.args.to.now) c.index-leaves-leaves.is c.requires.ends in
    subst (λ (x : CellSeen). rank x.lo < rank c.args.to.now) (sym c.deref-3.ensures) around.ends

pub right_of-requires-clause-to : goal.right_of-requires-clause-to
right_of-requires-clause-to c =
    let (leaf, around) = ends_at arc_value c.args.leaves.now c.index-leaves-leaves.result (rank c.args.from.now)
    (rank c.args.to.now) c.index-leaves-leaves.is c.requires.ends in
    subst (λ (x : CellSeen). rank c.args.to.now ≤ rank x.hi) (sym c.deref-3.ensures) around.high

pub right_of-requires-clause-units : goal.right_of-requires-clause-units
right_of-requires-clause-units c =
    let (leaf, around) = ends_at arc_value c.args.leaves.now c.index-leaves-leaves.result (rank c.args.from.now)
    (rank c.args.to.now) c.index-leaves-leaves.is c.requires.ends in
    subst (λ (x : CellSeen). (k : ℕ) (v : Value) → Contains (node_of x).units (k, v)
    → k < rank x.hi) (sym c.deref-3.ensures) around.units

pub returns : goal.returns
returns c x same =
    let first : c.deref-2.result.now ≡ x.leaf = c.deref-2.ensures ∙ first_is arc_value c.args.leaves.now c.index-leaves-0-2.result x.leaf x.more c.index-leaves-0-2.is same in
    let number : c.number_beside.result ≡ right_number x c.args.fresh.now.next = c.number_beside.ensures ∙ ap (λ (l : CellSeen). if l.id == c.args.fresh.now.next then c.args.fresh.now.next + 1 else c.args.fresh.now.next) first in
    record {
      left_is = subst (λ (l : CellSeen). HasLeft l c.args.from.now (option_map arc_value c.in_ok-left.left))
          (c.deref.ensures ∙ first_is arc_value c.args.leaves.now c.index-leaves-0.result x.leaf x.more c.index-leaves-0.is same) c.in_ok-left.ensures;
      right_is = subst (λ (i : ℕ). HasRight (last_of x) c.args.to.now i (option_map arc_value c.in_ok-right.right)) number
          (subst (λ (l : CellSeen). HasRight l c.args.to.now c.number_beside.result (option_map arc_value c.in_ok-right.right))
          (c.deref-3.ensures ∙ last_is arc_value c.args.leaves.now c.index-leaves-leaves.result x.leaf x.more c.index-leaves-leaves.is same) c.in_ok-right.ensures);
      number = refl;
    }
