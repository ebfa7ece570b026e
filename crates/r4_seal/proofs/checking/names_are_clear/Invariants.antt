use Rattle.std.proofs.Common.{take}
use Rattle.r4_seal.specs.Checked.{AreClearNames}
use Rattle.r4_seal.proofs.checking.names_are_clear.Given as goal

abbrev pub invariant-loop-one : goal.invariant-loop-one
invariant-loop-one g l = AreClearNames l.core (take l.one-index l.renamed)
