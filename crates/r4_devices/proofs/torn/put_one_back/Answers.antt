use Rattle.r4_devices.proofs.Changing.{torn_by_none, changes_write, changes_rose}
use Rattle.r4_devices.proofs.Stopping.{keeps_same, keeps_idle, keeps_write, idles_read}
use Rattle.r4_devices.proofs.torn.put_one_back.Goals as goal

pub returns-then-mask-eq0 : goal.returns-then-mask-eq0
returns-then-mask-eq0 g c = record { keeps = keeps_same _; changes = rw c.if-mask-eq0.true (torn_by_none _ _ _) }

pub returns-in_default : goal.returns-in_default
returns-in_default g c = record {
  keeps = keeps_idle _ _ (idles_read _ _ _ _ _ c.in_default.ensures);
  changes = changes_rose _ _ _ c.in_default.ensures.cause;
}

pub returns : goal.returns
returns g c = record {
  keeps = keeps_write _ c.args.held.now _ _ _ _ _ _ _ c.requires c.in-Ok.ensures c.mix.ensures.mix c.put.ensures;
  changes = changes_write _ _ _ _ _ _ _ _ _ _ c.requires.below c.in-Ok.ensures c.mix.ensures.mix c.mix.ensures.whole c.put.ensures;
}
