use Rattle.std.proofs.Common.{◌≡◌, ◌<◌, subst, sym, arith}
use Rattle.r4_base.specs.Key.{least, rank, top}
use Rattle.r4_base.proofs.FreshTree.{least_below}
use Rattle.r4_cell.specs.Seen.{CellSeen}
use Rattle.r4_extent_edit_tests.proofs.raising.raised.Goals as goal

pub root_over-requires-clause-follow : goal.root_over-requires-clause-follow
root_over-requires-clause-follow c =
    let twig = c.requires.twig in
    let high = twig.hi in
    let range = least_below in
    subst (λ (x : CellSeen). (x.level ≡ 2) × (rank x.lo ≡ least) × (least < rank x.hi) × (rank x.hi ≡ top))
    (sym c.in_ok-try_clone.ensures) (twig.level, twig.lo, omega (arith, high, range), high)
