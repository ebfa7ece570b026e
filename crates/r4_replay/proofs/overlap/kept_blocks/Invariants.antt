use Rattle.std.proofs.Common.{take}
use Rattle.std.specs.Prelude.{map}
use Rattle.r4_replay.specs.Txns.{txn_shown}
use Rattle.r4_replay.proofs.Overlaps.{HasKeptOf}
use Rattle.r4_replay.proofs.overlap.kept_blocks.Given as goal

abbrev pub invariant-loop-txn : goal.invariant-loop-txn
invariant-loop-txn l = HasKeptOf (take l.txn-index (map txn_shown l.txns)) l.kept
