use Rattle.r4_bodies.specs.r4_cell.Seen.{node_of}
use Rattle.r4_extent_demands.specs.Changing.{comes_in}
use Rattle.r4_extent_demands.proofs.PutsInto.{any_is}
use Rattle.r4_extent_demands.proofs.changing.comes_among.Goals as goal

pub returns : goal.returns
returns c = any_is c.extents_have.result (comes_in c.args.body.now) (node_of c.args.twig.now).spans
    c.extents_have.ensures
