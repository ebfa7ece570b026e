use Rattle.std.proofs.Common.{rules, arith, sym, subst, ap, ◌∙◌, ◌≡◌, ◌≢◌, slice_index, Contains, ◌≤◌}
use Rattle.std.specs.Arc.{arc_value}
use Rattle.r4_base.specs.Key.{rank}
use Rattle.r4_base.proofs.Keys.{is_key}
use Rattle.r4_base.specs.Tree.{InSpan, Span}
use Rattle.r4_cell.specs.Seen.{CellSeen, node_of}
use Rattle.r4_search.proofs.Walks.{goes_both, leaves_both}
use Rattle.r4_list.proofs.Stages.{moved, moves_both}
use Rattle.r4_list.proofs.Lookups.{handed_on, ends_level, rank_small}
use Rattle.r4_list.proofs.FrameSpans.{none_behind, none_both, none_least, none_less, none_passed}
use Rattle.r4_list.proofs.OverAnswers.{over_handed}
use Rattle.r4_list.proofs.frame.leaf_from.Goals as goal

pub returns-in_err-cell-clause-fetched : goal.returns-in_err-cell-clause-fetched
returns-in_err-cell-clause-fetched g c = handed_on c.args.root.now _ _ _ c.from_residual.result c.in_err-cell.field-0.0 _ _ _ c.loop-at.invariant.0.goes c.loop-at.invariant.0.device c.cell_of.ensures.fetched.goes c.cell_of.ensures.fetched.device c.from_residual.ensures.1 c.in_err-cell.ensures.fetched.cause

pub returns-then-level-eq-LEAF-clause-fetched : goal.returns-then-level-eq-LEAF-clause-fetched
returns-then-level-eq-LEAF-clause-fetched g c = record { goes = goes_both _ _ _ c.loop-at.invariant.0.goes c.cell_of.ensures.fetched.goes; device = leaves_both _ _ _ c.loop-at.invariant.0.device c.cell_of.ensures.fetched.device; cause = tt }

pub behind-at-requires-clause-level : goal.behind-at-requires-clause-level
behind-at-requires-clause-level g c = subst (λ (x : CellSeen). 1 ≤ x.level) (sym c.deref-in-loop-at.ensures) (ends_level (arc_value c.in_ok-cell.cell) _ c.in_ok-cell.ensures.ends)

pub loop-at-smaller : goal.loop-at-smaller
loop-at-smaller g c =
    let more = c.behind-at.ensures.more in
    let small = rank_small c.behind-at.result (is_key c.behind-at.result (search rules) (search rules) (search rules) (search rules) (search rules)) in
    omega (arith, more, small)

pub loop-at-preserved : goal.loop-at-preserved
loop-at-preserved g c =
    let (moves, from, overs, _) = c.loop-at.invariant in
    let more = c.behind-at.ensures.more in (
      moves_both _ _ _ _ _ _ moves (moved _ _ _ _ _ _ c.cell_of.ensures.fetched),
      omega (arith, from, more),
      λ n image m has over.
          let (before, none) = overs n image m has over in
          let f = c.in_ok-cell.ensures.over n image m has before in
          let x = arc_value {X = CellSeen} c.in_ok-cell.cell in
          let other : x.level ≢ 1 = λ h. c.if-level-eq-LEAF.false (c.level.ensures ∙ (ap (λ (y : CellSeen). y.level) c.deref.ensures ∙ h)) in
          let ends = subst (λ (y : CellSeen). (s : Span) → Contains (node_of y).spans s → InSpan s (rank c.loop-at.at) → rank c.behind-at.result ≤ s.hi) c.deref-in-loop-at.ensures c.behind-at.ensures.within in
          (f.over, none_both m (rank c.args.key) (rank c.loop-at.at) (rank c.behind-at.result) none (none_behind has x (rank c.loop-at.at) (rank c.behind-at.result) f.found other c.in_ok-cell.ensures.ends ends)),
      is_key c.behind-at.result (search rules) (search rules) (search rules) (search rules) (search rules),
    )

pub returns-in_err-cell-clause-over : goal.returns-in_err-cell-clause-over
returns-in_err-cell-clause-over g c = λ n image m has over dir first.
    over_handed has c.args.root.now _ _ _ c.in_err-cell.field-0.0 c.from_residual.result (c.in_err-cell.ensures.over n image m has (c.loop-at.invariant.2 n image m has over).0) c.from_residual.ensures.1

pub returns-then-level-eq-LEAF-clause-over : goal.returns-then-level-eq-LEAF-clause-over
returns-then-level-eq-LEAF-clause-over g c = λ n image m has over dir first.
    let (before, none) = c.loop-at.invariant.2 n image m has over in
    let f = c.in_ok-cell.ensures.over n image m has before in
    let low = c.in_ok-cell.ensures.from in
    record {
      over = f.over;
      found = (tt, record { stored = f.found; at = rank c.loop-at.at; from = c.loop-at.invariant.1; low = low; high = c.in_ok-cell.ensures.inside; none = none_less m (rank c.args.key) (rank c.loop-at.at) _ low none });
      undamaged = tt;
    }

pub returns-then-level-eq-LEAF-clause-within : goal.returns-then-level-eq-LEAF-clause-within
returns-then-level-eq-LEAF-clause-within g c = rank_small c.args.key (is_key c.args.key (search rules) (search rules) (search rules) (search rules) (search rules))

pub returns-then-not-is_in_tree-clause-over : goal.returns-then-not-is_in_tree-clause-over
returns-then-not-is_in_tree-clause-over g c = λ n image m has over dir first.
    let (before, none) = c.loop-at.invariant.2 n image m has over in
    let is = is_key c.args.key (search rules) (search rules) (search rules) (search rules) (search rules) in
    let same : slice_index c.loop-at.at.el 0 ≡ slice_index c.args.key.el 0 = c.loop-at-test.true in
    let small = is.small 0 in
    let below = c.is_in_tree.ensures.outside c.if-not-is_in_tree.true (omega (arith, same, first, small)) in
    record { over = before; found = (none_least has dir c.args.key c.loop-at.at first same below, tt); undamaged = tt }

pub returns-clause-over : goal.returns-clause-over
returns-clause-over g c = λ n image m has over dir first.
    let (before, none) = c.loop-at.invariant.2 n image m has over in
    record { over = before; found = (none_passed has dir c.args.key c.loop-at.at c.loop-at.invariant.3 first c.loop-at.invariant.1 c.loop-at-test.false none, tt); undamaged = tt }
