use Rattle.std.proofs.Common.{arith}
use Rattle.r4_devices.proofs.Stopping.{halts_if, nothing_back, some_back}
use Rattle.r4_devices.proofs.torn.halt.Goals as goal
use Rattle.r4_devices.proofs.torn.halt.Goals.{in-Some, in_default}

pub returns : goal.returns
returns g c = halts_if _ _ _ _ _ _ _ _ _ c.tear_write.ensures.tears c.tear_write.ensures.changes
    (elim c.match-pick.branch [ in-Some w ↦ rw w.dev-is (some_back _ _ _ _ _ _ _ w.in-Some.is w.put_all_back.ensures.keeps w.put_all_back.ensures.changes) | in_default w ↦ rw w.dev-is (nothing_back _ _ _ _ _ w.in_default.is) ])
    c.moment-cut.ensures (omega (arith, c.moment-before.ensures)) (omega (arith, c.moment-before.ensures, c.if-before.false, c.moment-before.type_inv)) (omega (arith, c.saturating_add.ensures, c.count.ensures)) (omega (arith, c.saturating_add.ensures, c.count.ensures, c.count.type_inv))
