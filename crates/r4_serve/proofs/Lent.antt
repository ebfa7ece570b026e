-- What is asked over a borrow of a device is asked of the device.
use Rattle.std.specs.Prelude.{IfOk, Result, Ok, Err}
use Rattle.std.specs.Borrow.{GName}
use Rattle.r4_content.specs.declared.command.Command.{Command}
use Rattle.r4_extent_reach.specs.r4_gather.Asking.{StaysOver}
use Rattle.r4_outside.specs.Device.{State, lent_to}
use Rattle.r4_search.proofs.FromDevice.{lent_stays}
use Rattle.r4_serve.specs.Serving.{Asks, CanAsk, PartsSeen}
use Rattle.r4_serve.specs.declared.asked.Asked.{Asked}

pub lent_can : (n : GName) (d : State) (p : PartsSeen) → CanAsk d p → CanAsk (lent_to n d) p
lent_can n d p can = record {
  within = can.within;
  readable = record {
    accepted = can.readable.accepted;
    same = λ tells. can.readable.same tells;
    names = can.readable.names;
  };
  height = can.height;
  stands = can.stands;
}

module _ (n m : GName) (d e : State) (p : PartsSeen) (x : Command) where
  pub lent_asks : (a : Asked) → Asks (lent_to n d) (lent_to m e) p x a → Asks d e p x a
  unfolding StaysOver
  lent_asks a h = record {
    after = h.after;
    met = h.met;
    same = record {
      stays = record {
        device = lent_stays n m d e h.same.stays.device;
        root = h.same.stays.root;
        named = h.same.stays.named;
        blocks = h.same.stays.blocks;
        meant = h.same.stays.meant;
        kept = h.same.stays.kept;
        added = h.same.stays.added;
        keeps = h.same.stays.keeps;
      };
      answered = h.same.answered;
    };
    is = h.is;
  }

  pub lent_ok : {F : Type 0} (r : Result Asked F) → IfOk r (Asks (lent_to n d) (lent_to m e) p x)
      → IfOk r (Asks d e p x)
  lent_ok {F} (Ok a) h = lent_asks a h
  lent_ok {F} (Err f) h = tt
