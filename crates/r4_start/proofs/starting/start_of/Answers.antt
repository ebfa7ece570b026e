use Rattle.std.proofs.Common.{refl}
use Rattle.r4_start.proofs.starting.start_of.Goals as goal

pub returns-clause-started : goal.returns-clause-started
returns-clause-started g c = record {
  found = c.in_ok-found.found;
  is_found = c.in_ok-found.ensures.found;
  space = c.in_ok-space.ensures.space;
  lawful = c.in_ok-space.ensures.lawful;
  tree = c.root_in.ensures;
  numbers = refl;
  volume = refl;
  turns = c.in_ok-turns.ensures;
  trace = c.in_ok-trace.ensures.none;
  room = c.in_ok-trace.ensures.room;
}
