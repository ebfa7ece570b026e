use Rattle.std.proofs.Common.{◌≡◌, take, drop}
use Rattle.r4_outside.specs.Device.{Goes, TellsReads, IsQuiet, Untouched}
use Rattle.r4_replay.specs.Txns.{chain_shown}
use Rattle.r4_replay.proofs.Chaining.{IsUnderWay, IsSafeSoFar}
use Rattle.r4_replay.proofs.place.put_txns.Given as goal

abbrev pub invariant-loop-txn : goal.invariant-loop-txn
invariant-loop-txn g l =
    let old = g.D.Device.state l.fn.dev in
    let now = g.D.Device.state l.dev in
    record {
      goes : Goes old now;
      idle : l.txn-index ≡ 0 → Untouched old now;
      under_way : TellsReads old → IsUnderWay old (chain_shown l.txns) l.fn.footer now (chain_shown (drop l.txn-index l.txns)) (chain_shown (take l.txn-index l.txns)) l.footer;
      safe : IsQuiet old → IsSafeSoFar old (chain_shown l.txns) now;
    }
