use Rattle.std.proofs.Common.{◌≡◌, vec_len}
use Rattle.r4_base.specs.Refusal.{txns_at}
use Rattle.r4_outside.specs.Device.{TellsReads}
use Rattle.r4_replay.specs.Reading.{Idles}
use Rattle.r4_replay.specs.Heads.{heads_shown}
use Rattle.r4_replay.specs.Chains.{chain_of, InRangeAll}
use Rattle.r4_replay.proofs.Found.{txns_onto}
use Rattle.r4_replay.proofs.chain.read_txns.Given as goal

abbrev pub invariant-loop-head : goal.invariant-loop-head
invariant-loop-head g l =
    let old = g.D.Device.state l.fn.dev in
    record {
      idles : Idles old (g.D.Device.state l.dev);
      in_range : InRangeAll l.blocks l.txns.items;
      so_far : TellsReads old → txns_at l.blocks old.seen (heads_shown l.fn.heads) ≡ txns_onto l.blocks old.seen (heads_shown l.heads) (chain_of l.txns);
    }

abbrev pub decreases-loop-head : goal.decreases-loop-head
decreases-loop-head g l = vec_len l.heads
