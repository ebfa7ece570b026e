use Rattle.std.proofs.Common.{[], subst, sym, arith, ◌∷◌}
use Rattle.r4_base.specs.Tree.{Root, Store}
use Rattle.r4_base.specs.Value.{Value}
use Rattle.r4_cell.specs.Seen.{CellSeen}
use Rattle.r4_edit.specs.Splitting.{IsSplitIn}
use Rattle.r4_edit_testing.specs.Trials.{IsTwigOfHoles}
use Rattle.r4_edit_testing.proofs.HoleTwig.{may_be_parted}
use Rattle.r4_edit_testing.proofs.holes.halve_holes.Goals as goal

pub split-requires-clause-path : goal.split-requires-clause-path
split-requires-clause-path c =
    let next = c.numbers-fresh.ensures.next in
    let is = subst IsTwigOfHoles c.deref.ensures (c.in_ok-is_twig_of_holes.ensures c.if-not-branch.false) in
    subst (λ (x : CellSeen). (t : Store Value) × ((r : Root) × IsSplitIn t r (x ∷ []) c.numbers-fresh.result))
    (sym c.in_ok-try_clone.ensures) (may_be_parted _ is c.numbers-fresh.result (omega (arith, next)))
