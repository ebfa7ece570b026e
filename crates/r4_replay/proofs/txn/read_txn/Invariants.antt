use Rattle.std.proofs.Common.{◌≡◌, length, ◌-◌}
use Rattle.std.specs.Prelude.{All}
use Rattle.r4_base.specs.Chain.{PairInRange}
use Rattle.r4_base.specs.Refusal.{records_from}
use Rattle.r4_outside.specs.Device.{TellsReads}
use Rattle.r4_replay.specs.Reading.{Idles}
use Rattle.r4_replay.proofs.Found.{after_records}
use Rattle.r4_replay.proofs.txn.read_txn.Given as goal

abbrev pub invariant-loop-serial : goal.invariant-loop-serial
invariant-loop-serial g l =
    let old = g.D.Device.state l.fn.dev in
    record {
      idles : Idles old (g.D.Device.state l.dev);
      in_range : All (PairInRange l.blocks) l.pairs.items;
      so_far : TellsReads old → records_from (l.head.says.total - 1) l.blocks old.seen l.head.says.id l.head.at 1 0 l.head.at l.head.says.next_block
          ≡ after_records l.records.items l.pairs.items (records_from (l.head.says.total - l.serial) l.blocks old.seen l.head.says.id l.head.at l.serial (length l.pairs.items) l.holder l.at);
    }
