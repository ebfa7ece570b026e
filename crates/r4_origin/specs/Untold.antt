-- A device of which nothing is told.
use Rattle.std.specs.Prelude.{[], None}
use Rattle.r4_outside.specs.Device.{State}

abbrev pub untold : State
untold = record {
  blocks = 0;
  seen = [];
  may_hold = λ m b s x. ⊥;
  clock = 0;
  faults = 0;
  lender = [];
  stop = None;
}
