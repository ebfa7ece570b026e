use Rattle.std.proofs.Common.{◌≡◌, ◌∷◌, List, map, sym, ap, ◌∙◌}
use Rattle.std.specs.Arc.{arc_value}
use Rattle.r4_extent_shrink.specs.r4_extent_growth.r4_measure.r4_cell.Seen.{CellSeen}
use Rattle.r4_extent_shrink.proofs.r4_extent_growth.r4_extent_loss.r4_extent_edit.TurnEnds.{last_is}
use Rattle.r4_extent_turn.specs.Turning.{last_of}
use Rattle.r4_extent_turn.specs.TurningIn.{turn_from}
use Rattle.r4_extent_turned.proofs.TurnSuits.{some_first}
use Rattle.r4_extent_turned.proofs.suiting.last_leaf.Goals as goal

pub returns : goal.returns
returns c =
    let twig = arc_value c.args.turning.now.twig in
    let cs : List CellSeen = map (λ x. arc_value x) c.args.turning.now.leaves.items in
    let xs = c.as_slice-leaves.result.now in
    let (leaf, more, first) = some_first (λ x. arc_value x) xs (sym c.is_empty.ensures ∙ c.if-is_empty.false) in
    let same : cs ≡ leaf ∷ more = ap (map (λ x. arc_value x)) (sym c.as_slice-leaves.ensures.value) ∙ first in
    let last = last_is arc_value xs c.index-leaves-leaves.result leaf more c.index-leaves-leaves.is first in
    (c.deref-2.ensures ∙ last) ∙ ap (λ zs. last_of (turn_from twig zs)) (sym same)
