-- Each core may be asked, as long as no call of the device failed.
use Rattle.std.proofs.Common.{◌≡◌, None}
use Rattle.r4_taking.specs.r4_kept.Kept.{IsKept}
use Rattle.r4_taking.specs.r4_kept.Naming.{Naming}
use Rattle.r4_taking.specs.r4_kept.View.{CoreSeen, blocks_of}
use Rattle.r4_taking.proofs.r4_kept.Readable.{readable, root_there}
use Rattle.r4_outside.specs.Device.{State}
use Rattle.r4_serve.specs.Serving.{CanAsk}
use Rattle.r4_ready.specs.Readiness.{parts_of}

pub can_ask : {D : Type 0} (r : Naming) (d : State) (c : CoreSeen D) → IsKept r d c → c.broken ≡ None
    → CanAsk d (parts_of c)
can_ask r d c k sound = record {
  within = k.cells.super40.blocks.2;
  readable = readable d c.buffer (blocks_of c) (k.cells.clean sound);
  height = k.cells.height.0;
  stands = root_there d c k.cells;
}
