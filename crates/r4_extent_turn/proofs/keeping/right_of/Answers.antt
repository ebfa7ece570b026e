use Rattle.std.proofs.Common.{◌≡◌, ap, sym, ◌∙◌, arith}
use Rattle.std.proofs.lemmas.Bool.{eqb-true}
use Rattle.r4_base.specs.Key.{rank}
use Rattle.r4_extent_build.specs.r4_cell.Seen.{node_of}
use Rattle.r4_extent_build.proofs.r4_extent_edit.TurnEnds.{none_behind}
use Rattle.r4_extent_turn.proofs.keeping.right_of.Goals as goal

pub returns-then-is_same : goal.returns-then-is_same
returns-then-is_same c =
    let same : rank c.args.key.now ≡ rank c.args.leaf.now.hi = eqb-true _ _ (sym c.is_same.ensures.ranks
    ∙ c.if-is_same.true) ∙ ap rank c.hi.ensures in
    none_behind (rank c.args.key.now) (node_of c.args.leaf.now).units (λ j v at. let lt = c.requires.units j v at in
    omega (arith, lt, same))
