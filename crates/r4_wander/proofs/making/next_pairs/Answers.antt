use Rattle.std.proofs.Common.{◌*◌}
use Rattle.r4_wander.proofs.Cutting.{cut_is}
use Rattle.r4_wander.proofs.making.next_pairs.Goals as goal

pub returns : goal.returns
returns c = cut_is c.args.all.now (254 * c.args.k) 254 c.min-from.result c.min-to.result c.min-from.ensures c.min-to.ensures
