use Rattle.r4_devices.proofs.Changing.{torn_by_none, changes_write, changes_rose}
use Rattle.r4_devices.proofs.Stopping.{tears_none, tears_idle, tears_write, idles_read}
use Rattle.r4_devices.proofs.torn.tear_write.Goals as goal

pub returns-then-mask-eq0 : goal.returns-then-mask-eq0
returns-then-mask-eq0 g c = record { tears = tears_none _ _ _ _; changes = rw c.if-mask-eq0.true (torn_by_none _ _ _) }

pub returns-in_default : goal.returns-in_default
returns-in_default g c = record {
  tears = tears_idle _ _ _ _ _ (idles_read _ _ _ _ _ c.in_default.ensures);
  changes = changes_rose _ _ _ c.in_default.ensures.cause;
}

pub returns : goal.returns
returns g c = record {
  tears = tears_write _ _ _ _ _ _ _ _ _ _ c.requires c.in-Ok.ensures c.mix.ensures.mix c.put.ensures;
  changes = changes_write _ _ _ _ _ _ _ _ _ _ c.requires c.in-Ok.ensures c.mix.ensures.mix c.mix.ensures.whole c.put.ensures;
}
