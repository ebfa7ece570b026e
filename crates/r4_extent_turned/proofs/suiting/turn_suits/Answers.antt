use Rattle.std.proofs.Common.{◌≡◌, ◌∷◌, List, map, sym, ap, ◌∙◌}
use Rattle.std.specs.Arc.{arc_value}
use Rattle.std.proofs.lemmas.Result.{IfOk-weaker}
use Rattle.r4_content.specs.Held.{edits_of}
use Rattle.r4_extent_shrink.specs.r4_extent_growth.r4_extent_build.r4_extent_edit.Turning.{last_leaf}
use Rattle.r4_extent_shrink.specs.r4_extent_growth.r4_measure.r4_cell.Seen.{CellSeen}
use Rattle.r4_extent_shrink.proofs.r4_extent_growth.r4_extent_loss.r4_extent_edit.TurnEnds.{last_is}
use Rattle.r4_extent_turned.specs.Suiting.{has_leaves, twig_suits}
use Rattle.r4_extent_turned.proofs.TurnSuits.{as_twig, not_lying, not_there, some_first}
use Rattle.r4_extent_turned.proofs.suiting.turn_suits.Goals as goal

pub returns-then-not-has_leaves-clause-exact : goal.returns-then-not-has_leaves-clause-exact
returns-then-not-has_leaves-clause-exact c =
    let b = c.args.body.now in
    let e = edits_of c.args.edits.now in
    let f = c.args.fresh.now in
    let cells : List CellSeen = map (λ x. arc_value x) c.args.cells.now in
    let twig = arc_value c.args.turning.now.twig in
    let cs : List CellSeen = map (λ x. arc_value x) c.args.turning.now.leaves.items in
    let xs = c.as_slice-leaves.result.now in
    let (leaf, more, first) = some_first (λ x. arc_value x) xs (sym c.is_empty.ensures ∙ c.if-is_empty.false) in
    let same : cs ≡ leaf ∷ more = ap (map (λ x. arc_value x)) (sym c.as_slice-leaves.ensures.value) ∙ first in
    let last = last_is arc_value xs c.index-leaves-leaves.result leaf more c.index-leaves-leaves.is first in
    let has : has_leaves b twig (last_leaf leaf more) ≡ c.has_leaves.result = (λ i. has_leaves b (sym c.deref.ensures i) (sym (c.deref-2.ensures ∙ last) i)) ∙ sym c.has_leaves.ensures in
    not_there b e f cells twig cs leaf more same (has ∙ c.if-not-has_leaves.true)

pub returns-then-not-branch-clause-exact : goal.returns-then-not-branch-clause-exact
returns-then-not-branch-clause-exact c =
    let b = c.args.body.now in
    let e = edits_of c.args.edits.now in
    let f = c.args.fresh.now in
    let cells : List CellSeen = map (λ x. arc_value x) c.args.cells.now in
    let twig = arc_value c.args.turning.now.twig in
    let cs : List CellSeen = map (λ x. arc_value x) c.args.turning.now.leaves.items in
    let xs = c.as_slice-leaves.result.now in
    let (leaf, more, first) = some_first (λ x. arc_value x) xs (sym c.is_empty.ensures ∙ c.if-is_empty.false) in
    let same : cs ≡ leaf ∷ more = ap (map (λ x. arc_value x)) (sym c.as_slice-leaves.ensures.value) ∙ first in
    let last = last_is arc_value xs c.index-leaves-leaves.result leaf more c.index-leaves-leaves.is first in
    let has : has_leaves b twig (last_leaf leaf more) ≡ c.has_leaves.result = (λ i. has_leaves b (sym c.deref.ensures i) (sym (c.deref-2.ensures ∙ last) i)) ∙ sym c.has_leaves.ensures in
    not_lying b e f cells twig cs leaf more same (has ∙ c.if-not-has_leaves.false) (sym (c.in_ok-leaves_suit.ensures leaf more first (c.deref-3.ensures ∙ last)) ∙ c.if-not-branch.true)

pub returns-clause-exact : goal.returns-clause-exact
returns-clause-exact c =
    let b = c.args.body.now in
    let e = edits_of c.args.edits.now in
    let f = c.args.fresh.now in
    let cells : List CellSeen = map (λ x. arc_value x) c.args.cells.now in
    let twig = arc_value c.args.turning.now.twig in
    let cs : List CellSeen = map (λ x. arc_value x) c.args.turning.now.leaves.items in
    let xs = c.as_slice-leaves.result.now in
    let (leaf, more, first) = some_first (λ x. arc_value x) xs (sym c.is_empty.ensures ∙ c.if-is_empty.false) in
    let same : cs ≡ leaf ∷ more = ap (map (λ x. arc_value x)) (sym c.as_slice-leaves.ensures.value) ∙ first in
    let last = last_is arc_value xs c.index-leaves-leaves.result leaf more c.index-leaves-leaves.is first in
    let has : has_leaves b twig (last_leaf leaf more) ≡ c.has_leaves.result = (λ i. has_leaves b (sym c.deref.ensures i) (sym (c.deref-2.ensures ∙ last) i)) ∙ sym c.has_leaves.ensures in
    let lie = sym (c.in_ok-leaves_suit.ensures leaf more first (c.deref-3.ensures ∙ last)) ∙ c.if-not-branch.false in
    IfOk-weaker c.twig_suits.result _ _ (λ ok is. as_twig b e f cells twig cs leaf more same (has ∙ c.if-not-has_leaves.false) lie ok (is ∙ (λ i. twig_suits b e f cells (c.deref-4.ensures i) ((c.deref-5.ensures ∙ last) i)))) c.twig_suits.ensures.exact
