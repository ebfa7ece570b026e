use Rattle.std.proofs.Common.{◌+◌, drop, subst}
use Rattle.std.specs.Arc.{arc_value}
use Rattle.r4_matching.specs.Nearest.{IsSettled}
use Rattle.r4_matching.proofs.ListLaws.{left_from}
use Rattle.r4_matching.proofs.NearestLaws.{merged_one}
use Rattle.r4_matching.proofs.lists.Lists.nearest.Goals as goal

pub loop-i-preserved : goal.loop-i-preserved
loop-i-preserved c =
    let had = c.args.self.now.had.now in
    let has = c.args.self.now.has.now in
    let cells = c.args.cells.now in
    let i = c.loop-i.i in
    let x = c.deref.result.now in
    let first = c.nearer-first.result in
    let nearer = c.nearer-first.ensures in
    record {
      found = λ h. nearer.nearer.found (c.loop-i.invariant.found h);
      merged = λ others h. merged_one had has c.loop-i.first first nearer.nearer x
          (subst (IsSettled had has first) c.id.ensures nearer.settled) (drop i cells) (drop (i + 1) cells) others
          (left_from (λ it. arc_value it) c.as_slice-cells.result.now cells i c.index-cells-i.result x
          c.as_slice-cells.ensures c.loop-i-test.true c.index-cells-i.is c.deref.ensures)
          (c.loop-i.invariant.merged others h);
    }
