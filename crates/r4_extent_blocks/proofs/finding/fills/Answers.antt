use Rattle.std.proofs.Common.{refl}
use Rattle.r4_base.specs.Key.{rank}
use Rattle.r4_extent_blocks.proofs.Sets.{fill_tells}
use Rattle.r4_extent_blocks.proofs.finding.fills.Goals as goal

pub returns : goal.returns
returns c =
    fill_tells (rank c.args.lo.now) (rank c.args.from.now) (rank c.args.to.now) c.args.byte _ _ _ c.keys_between.ensures c.keys_between-2.ensures refl
