use Rattle.std.proofs.Common.{◌≡◌, drop}
use Rattle.r4_base.specs.Image.{put_pairs}
use Rattle.r4_outside.specs.Device.{Goes, TellsReads, Spares}
use Rattle.r4_replay.specs.Placing.{IsOriginalOf}
use Rattle.r4_replay.proofs.place.copy_pairs.Given as goal

abbrev pub invariant-loop-original : goal.invariant-loop-original
invariant-loop-original g l =
    let old = g.D.Device.state l.fn.dev in
    let now = g.D.Device.state l.dev in
    record {
      goes : Goes old now;
      copied : TellsReads old → put_pairs (drop l.original-index l.pairs) now.seen ≡ put_pairs l.pairs old.seen;
      spares : Spares (IsOriginalOf l.pairs) old now;
    }
