use Rattle.std.proofs.Common.{◌<◌, arith}
use Rattle.r4_space.proofs.ClaimLaws.{blocks_placed}
use Rattle.r4_space.proofs.SpaceLaws.{space_blocks, unused_free}
use Rattle.r4_space.proofs.space_map.SpaceMap.place.Goals as goal

pub invariant_of-self : goal.invariant_of-self
invariant_of-self c =
    let i = c.self.inside in
    let size = c.self.invariant.blocks.taken_size in
    let within : c.in_ok-block.block < i.blocks = omega (arith, c.in_ok-block.ensures.within) in
    rw (c.take.ensures, c.put.ensures) (space_blocks i.blocks i.marked i.placed _ _ i.held.items i.deferred.items _ _ i.claimed i.twice _ _ i.taken _ i.ledger.bitmaps i.ledger.spare _ _ _ _ _ c.self.invariant
    (blocks_placed i.blocks c.in_ok-block.block i.marked i.placed i.taken i.held.items i.deferred.items c.self.invariant.blocks within) c.self.invariant.claims (omega arith) (omega arith) (omega arith) (omega arith))

pub returns-clause-free : goal.returns-clause-free
returns-clause-free c =
    let i = c.self.inside in
    let size = c.self.invariant.blocks.taken_size in
    let within : c.in_ok-block.block < i.blocks = omega (arith, c.in_ok-block.ensures.within) in
    rw (← c.self.view_is) (unused_free i.blocks c.in_ok-block.block i.marked i.placed i.taken i.held.items i.deferred.items c.self.invariant.blocks within c.in_ok-block.ensures.clear)
