use Rattle.std.proofs.Common.{◌≡◌, ◌+◌, ◌∷◌, Bool, false, true, List, drop, map, sym, ap, ◌∙◌, arith}
use Rattle.std.specs.Prelude.{◌&&◌}
use Rattle.std.specs.Arc.{arc_value}
use Rattle.std.specs.List.{list_all}
use Rattle.r4_base.specs.Key.{rank}
use Rattle.r4_extent_shrink.proofs.r4_extent_growth.AllTurn.{rest_is}
use Rattle.r4_extent_shrink.proofs.r4_extent_growth.r4_graft.Halves.{later_rank}
use Rattle.r4_extent_shrink.specs.r4_extent_growth.r4_extent_build.Growing.{end_after}
use Rattle.r4_extent_shrink.specs.r4_extent_growth.r4_measure.r4_cell.Seen.{CellSeen}
use Rattle.r4_extent_shrink.specs.r4_extent_growth.r4_measure.r4_reach.Touched.{first_byte}
use Rattle.r4_extent_turned.specs.Suiting.{is_clear}
use Rattle.r4_extent_turned.proofs.Looked.{coming_end, item_in}
use Rattle.r4_extent_turned.proofs.leaves.are_clear.Goals as goal

pub is_clear-requires : goal.is_clear-requires
is_clear-requires c =
    c.requires.levels c.deref.result.now
    (item_in (λ x. arc_value x) c.args.leaves.now c.loop-leaf.leaf-index _ c.loop-leaf-test.true c.deref.result.now (c.deref.ensures ∙ ap (λ x. arc_value x) c.leaf-item.is))

pub returns-then-not-branch : goal.returns-then-not-branch
returns-then-not-branch c =
    let b = c.args.body.now in
    let from : rank c.behind.result ≡ first_byte b + b.was = let at = ap rank c.behind.ensures ∙ later_rank c.first_byte.result _ in let first = c.first_byte.ensures.at in let n = c.size_before-size.ensures in omega (arith, at, first, n) in
    let to : rank c.coming.result.to ≡ end_after b = c.coming.ensures.to ∙ coming_end b c.requires.turns in
    let P = is_clear (first_byte b + b.was) (end_after b) in
    let i = c.loop-leaf.leaf-index in
    let first = c.deref.result.now in
    let rest : List CellSeen = map (λ x. arc_value x) (drop (i + 1) c.args.leaves.now) in
    let is : map (λ x. arc_value x) (drop i c.args.leaves.now) ≡ first ∷ rest
    = rest_is (λ x. arc_value x) c.args.leaves.now i _ c.loop-leaf-test.true first (c.deref.ensures ∙ ap (λ x. arc_value x) c.leaf-item.is) in
    let here : P first ≡ false = (λ j. is_clear (sym from j) (sym to j) first) ∙ (sym c.in_ok-is_clear.ensures ∙ c.if-not-branch.true) in
    sym (c.loop-leaf.invariant ∙ (ap (list_all P) is ∙ ap (λ (v : Bool). v && list_all P rest) here))

pub loop-leaf-preserved : goal.loop-leaf-preserved
loop-leaf-preserved c =
    let b = c.args.body.now in
    let from : rank c.behind.result ≡ first_byte b + b.was = let at = ap rank c.behind.ensures ∙ later_rank c.first_byte.result _ in let first = c.first_byte.ensures.at in let n = c.size_before-size.ensures in omega (arith, at, first, n) in
    let to : rank c.coming.result.to ≡ end_after b = c.coming.ensures.to ∙ coming_end b c.requires.turns in
    let P = is_clear (first_byte b + b.was) (end_after b) in
    let i = c.loop-leaf.leaf-index in
    let first = c.deref.result.now in
    let rest : List CellSeen = map (λ x. arc_value x) (drop (i + 1) c.args.leaves.now) in
    let is : map (λ x. arc_value x) (drop i c.args.leaves.now) ≡ first ∷ rest
    = rest_is (λ x. arc_value x) c.args.leaves.now i _ c.loop-leaf-test.true first (c.deref.ensures ∙ ap (λ x. arc_value x) c.leaf-item.is) in
    let here : P first ≡ true = (λ j. is_clear (sym from j) (sym to j) first) ∙ (sym c.in_ok-is_clear.ensures ∙ c.if-not-branch.false) in
    c.loop-leaf.invariant ∙ (ap (list_all P) is ∙ ap (λ (v : Bool). v && list_all P rest) here)
