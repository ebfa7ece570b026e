use Rattle.std.proofs.Common.{◌<◌, arith}
use Rattle.r4_space.proofs.SpaceLaws.{unused_free}
use Rattle.r4_space.proofs.space_map.SpaceMap.next_unused.Goals as goal

pub returns-clause-free : goal.returns-clause-free
returns-clause-free c =
    let i = c.self.inside in
    let size = c.self.invariant.blocks.taken_size in
    let within : c.in_ok-block.block < i.blocks = omega (arith, c.in_ok-block.ensures.within) in
    rw (← c.self.view_is) (unused_free i.blocks c.in_ok-block.block i.marked i.placed i.taken i.held.items i.deferred.items c.self.invariant.blocks within c.in_ok-block.ensures.clear)
