use Rattle.r4_devices.proofs.Picking.{none_picked}
use Rattle.r4_devices.proofs.picks.picks.Goals as goal

pub loop-s-init : goal.loop-s-init
loop-s-init c = none_picked c.args.skip c.args.number
