use Rattle.r4_devices.proofs.Picking.{marked_by, unmarked_by, skip_more, keep_more, pick_more}
use Rattle.r4_devices.proofs.picks.pick.Goals as goal

pub returns-then-skip-s-eq1 : goal.returns-then-skip-s-eq1
returns-then-skip-s-eq1 c first p = skip_more _ _ _ _ _ p (marked_by _ _ c.if-skip-s-eq1.true)

pub returns-then-behind : goal.returns-then-behind
returns-then-behind c first p = pick_more _ _ _ _ _ p _ c.number_behind-behind.ensures (unmarked_by _ _ c.if-skip-s-eq1.false) c.if-behind.true c.requires

pub returns : goal.returns
returns c first p = keep_more _ _ _ _ _ p _ c.number_behind-behind.ensures (unmarked_by _ _ c.if-skip-s-eq1.false) c.if-behind.false
