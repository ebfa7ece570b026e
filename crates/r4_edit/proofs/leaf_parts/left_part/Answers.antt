use Rattle.std.proofs.Common.{◌≡◌, ◌<◌, ◌≤◌, ℕ, false, ap, sym, arith}
use Rattle.std.specs.Prelude.{◌==◌}
use Rattle.std.proofs.lemmas.Bool.Decides.{nat_tests}
use Rattle.r4_base.specs.Key.{rank}
use Rattle.r4_edit.proofs.PartedLeaf.{left_fits, left_part_is, some_range}
use Rattle.r4_edit.proofs.leaf_parts.left_part.Goals as goal

apart : (key lo from : ℕ) → (key == lo) ≡ false → lo ≡ from → from ≤ key → from < key
apart key lo from other same le = grind (arith, nat_tests, other, same, le)

pub new_cell-requires : goal.new_cell-requires
new_cell-requires c =
    left_fits c.args.leaf.now c.args.key.now c.in_ok-block.block (some_range c.args.leaf.now c.args.key.now c.requires.from c.requires.to)
    c.requires.from c.in_ok-block.ensures c.lo-2.result c.lo-2.ensures

pub returns : goal.returns
returns c = (
  apart (rank c.args.key.now) (rank c.lo.result) (rank c.args.leaf.now.lo) (sym c.if-is_same.ensures.ranks) (ap rank c.lo.ensures) c.requires.from,
  left_part_is c.args.leaf.now c.args.key.now c.in_ok-block.block (some_range c.args.leaf.now c.args.key.now c.requires.from c.requires.to)
      c.requires.from c.in_ok-block.ensures _ c.id.result.0 c.lo-2.result c.in_ok-cell.ensures c.id.ensures c.lo-2.ensures,
)
