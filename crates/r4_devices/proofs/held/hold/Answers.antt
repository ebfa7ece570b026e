use Rattle.std.proofs.Common.{◌∙◌, ap, sym}
use Rattle.r4_devices.proofs.Stopping.{not_wanted, no_pick, held_already, held_more}
use Rattle.r4_devices.specs.Stop.{is_held}
use Rattle.r4_devices.proofs.held.hold.Goals as goal
use Rattle.r4_devices.proofs.held.hold.Goals.{then-is_none-via-then-is_none, then-is_none-via-else-is_none+then-has}

pub returns-then-is_none-clause-holds : goal.returns-then-is_none-clause-holds
returns-then-is_none-clause-holds g c = elim c.then-is_none.branch [
  | then-is_none-via-then-is_none w ↦ not_wanted _ _ _ _ (no_pick _ _ _ w.if-is_none.ensures)
  | then-is_none-via-else-is_none+then-has w ↦ not_wanted _ _ _ _ (held_already c.args.pick c.args.at.0 c.args.held.now.items (ap (is_held c.args.at.0) (sym w.deref.ensures.value) ∙ sym w.if-has.ensures))
]

pub returns-clause-held : goal.returns-clause-held
returns-clause-held g c = held_more _ _ _ _ _ _ _ _ c.requires.below c.in-Ok.ensures c.requires.held (c.in_ok-insert.ensures.items)
