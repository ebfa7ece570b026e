use Rattle.r4_base.specs.Image.{AgreesOutside}
use Rattle.r4_outside.specs.Device.{Goes, Spares, TellsReads}
use Rattle.r4_mkfs.specs.Mkfs.{HasBitmaps, IsRest, TakesCalls}
use Rattle.r4_mkfs.proofs.making.write_bitmaps.Given as goal

abbrev pub invariant-loop-n : goal.invariant-loop-n
invariant-loop-n g l =
    let old = g.D.Device.state l.fn.dev in
    let now = g.D.Device.state l.dev in
    record {
      goes : Goes old now;
      bitmaps : TellsReads old → HasBitmaps l.blocks l.n now.seen;
      others : AgreesOutside (IsRest l.blocks) old.seen now.seen;
      spares : Spares (IsRest l.blocks) old now;
      once : TakesCalls l.n old now;
    }
