use Rattle.std.proofs.Common.{◌≡◌, ◌+◌, ◌∷◌, map, false, sym, ap, ◌∙◌}
use Rattle.std.specs.Prelude.{◌&&◌}
use Rattle.std.specs.Arc.{arc_value}
use Rattle.std.specs.List.{list_all}
use Rattle.std.proofs.lemmas.Bool.{and_parts}
use Rattle.std.proofs.lemmas.Result.{IfOk-weaker}
use Rattle.r4_base.specs.Key.{rank}
use Rattle.r4_extent_shrink.specs.r4_extent_growth.r4_extent_build.Growing.{end_after}
use Rattle.r4_extent_shrink.specs.r4_extent_growth.r4_measure.r4_cell.Seen.{CellSeen}
use Rattle.r4_extent_shrink.specs.r4_extent_growth.r4_measure.r4_reach.Touched.{first_byte}
use Rattle.r4_extent_shrink.proofs.r4_extent_growth.Tests.{and_off, and_on}
use Rattle.r4_extent_turned.specs.Suiting.{is_clear, lie_around, lie_beside}
use Rattle.r4_extent_turned.proofs.Looked.{levels}
use Rattle.r4_extent_turned.proofs.leaves.leaves_suit.Goals as goal

pub returns-then-not-lie : goal.returns-then-not-lie
returns-then-not-lie c = λ leaf more same ends.
    let b = c.args.body.now in
    let off : (lie_beside (rank leaf.lo) (leaf ∷ more) && lie_around b leaf c.args.last.now) ≡ false = sym (c.lie.ensures leaf more same) ∙ c.if-not-lie.true in
    and_off _ (list_all (is_clear (first_byte b + b.was) (end_after b)) (leaf ∷ more)) false
    (ap (λ (z : CellSeen). lie_beside (rank leaf.lo) (leaf ∷ more) && lie_around b leaf z) (sym ends) ∙ off) (λ i. false)

pub are_clear-requires-clause-levels : goal.are_clear-requires-clause-levels
are_clear-requires-clause-levels c =
    let b = c.args.body.now in
    levels (map (λ x. arc_value x) c.args.leaves.now) (λ leaf more same. (and_parts (lie_beside (rank leaf.lo) (leaf ∷ more)) (lie_around b leaf c.args.last.now) (sym (c.lie.ensures leaf more same) ∙ c.if-not-lie.false)).0)

pub returns : goal.returns
returns c =
    let b = c.args.body.now in
    IfOk-weaker c.are_clear.result _ _ (λ ok is leaf more same ends.
    and_on _ (list_all (is_clear (first_byte b + b.was) (end_after b)) (leaf ∷ more)) ok
    (ap (λ (z : CellSeen). lie_beside (rank leaf.lo) (leaf ∷ more) && lie_around b leaf z) (sym ends) ∙ (sym (c.lie.ensures leaf more same) ∙ c.if-not-lie.false))
    (is ∙ ap (list_all (is_clear (first_byte b + b.was) (end_after b))) same)) c.are_clear.ensures
