use Rattle.std.proofs.Common.{◌≡◌, ◌+◌, drop, sym, subst, ◌∙◌}
use Rattle.std.specs.Arc.{arc_value}
use Rattle.r4_matching.specs.Nearest.{IsSettled}
use Rattle.r4_matching.proofs.ListLaws.{left_from}
use Rattle.r4_matching.proofs.NearestLaws.{merged_both, merged_one, merged_swapped}
use Rattle.r4_matching.proofs.lists.Lists.merge.Goals as goal

pub loop-merged-preserved-then-is_same : goal.loop-merged-preserved-then-is_same
loop-merged-preserved-then-is_same c =
    let had = c.args.self.now.had.now in
    let has = c.args.self.now.has.now in
    let at = c.loop-merged.merged in
    let x = c.deref.result.now in
    let same : c.deref-in-loop-merged.result.now ≡ x = sym (c.is_same.ensures.0 c.if-is_same.true) in
    record {
      found = c.loop-merged.invariant.found;
      merged = merged_both had has at.first (drop at.had had) (drop at.has has) (drop (at.had + 1) had)
          (drop (at.has + 1) has) x
          (left_from (λ it. arc_value it) c.as_slice-had.result.now had at.had c.index-had-merged.result x
          c.as_slice-had.ensures c.loop-merged-test.true c.index-had-merged.is c.deref.ensures)
          (left_from (λ it. arc_value it) c.as_slice-has.result.now has at.has c.index-has-merged.result x
          c.as_slice-has.ensures c.if-merged-has.true c.index-has-merged.is
          (sym same ∙ c.deref-in-loop-merged.ensures))
          c.loop-merged.invariant.merged;
    }

pub loop-merged-preserved-then-is_before : goal.loop-merged-preserved-then-is_before
loop-merged-preserved-then-is_before c =
    let had = c.args.self.now.had.now in
    let has = c.args.self.now.has.now in
    let at = c.loop-merged.merged in
    let x = c.deref-then-is_before.result.now in
    let nearer = c.nearer-merged.ensures in
    record {
      found = nearer.nearer.found c.loop-merged.invariant.found;
      merged = merged_one had has at.first c.nearer-merged.result nearer.nearer x
          (subst (IsSettled had has c.nearer-merged.result) c.id.ensures nearer.settled) (drop at.had had)
          (drop (at.had + 1) had) (drop at.has has)
          (left_from (λ it. arc_value it) c.as_slice-had.result.now had at.had c.index-had-merged.result x
          c.as_slice-had.ensures c.loop-merged-test.true c.index-had-merged.is c.deref-then-is_before.ensures)
          c.loop-merged.invariant.merged;
    }

pub loop-merged-preserved : goal.loop-merged-preserved
loop-merged-preserved c =
    let had = c.args.self.now.had.now in
    let has = c.args.self.now.has.now in
    let at = c.loop-merged.merged in
    let x = c.deref-else-is_before.result.now in
    let first = c.nearer-merged-else-is_before.result in
    let nearer = c.nearer-merged-else-is_before.ensures in
    record {
      found = nearer.nearer.found c.loop-merged.invariant.found;
      merged = merged_swapped had has first (drop (at.has + 1) has) (drop at.had had)
          (merged_one had has at.first first nearer.nearer x
          (subst (IsSettled had has first) c.id-else-is_before.ensures nearer.settled) (drop at.has has)
          (drop (at.has + 1) has) (drop at.had had)
          (left_from (λ it. arc_value it) c.as_slice-has.result.now has at.has c.index-has-merged.result x
          c.as_slice-has.ensures c.if-merged-has.true c.index-has-merged.is c.deref-else-is_before.ensures)
          (merged_swapped had has at.first (drop at.had had) (drop at.has has) c.loop-merged.invariant.merged));
    }
