use Rattle.std.proofs.Common.{◌-◌}
use Rattle.r4_cde.proofs.Finds.{IsNarrowed}
use Rattle.r4_cde.proofs.view.DirView.find.Given as goal

abbrev pub invariant-loop-low : goal.invariant-loop-low
invariant-loop-low l = IsNarrowed l.self.item l.self.body.now l.key l.low l.high

abbrev pub decreases-loop-low : goal.decreases-loop-low
decreases-loop-low l = l.high - l.low
