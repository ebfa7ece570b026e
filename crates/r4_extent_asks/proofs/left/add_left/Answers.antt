use Rattle.r4_base.specs.Key.{rank}
use Rattle.r4_extent_asks.proofs.Named.{adds_none}
use Rattle.r4_extent_asks.proofs.left.add_left.Goals as goal

pub returns-in_default : goal.returns-in_default
returns-in_default c = adds_none c.args.twig.now c.args.place (rank c.args.key.now) c.args.ids.now.items
    c.in_default.ensures.none
