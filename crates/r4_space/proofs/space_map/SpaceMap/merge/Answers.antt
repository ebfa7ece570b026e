use Rattle.std.proofs.Common.{◌≡◌, map, arith}
use Rattle.std.proofs.lemmas.List.{length-map}
use Rattle.r4_space.specs.Space.{renamed}
use Rattle.r4_space.proofs.ClaimLaws.{blocks_merged}
use Rattle.r4_space.proofs.ClaimedLaws.{claims_merged}
use Rattle.r4_space.proofs.SpaceLaws.{space_blocks, changed}
use Rattle.r4_space.proofs.space_map.SpaceMap.merge.Goals as goal

pub invariant_of-self : goal.invariant_of-self
invariant_of-self c =
    let i = c.self.inside in
    let new = changed i.deferred c.as_mut_slice.result.now c.rename.new.claims c.as_mut_slice.ensures.value c.rename.auto.claims in
    let names : c.rename.new.claims ≡ map (renamed c.args.kept c.args.gone) i.deferred.items = rw c.as_mut_slice.ensures.value at c.rename.ensures in
    let size = length-map i.deferred.items (renamed c.args.kept c.args.gone) in
    rw (new, names, c.merge.ensures) (space_blocks i.blocks i.marked i.placed _ _ i.held.items i.deferred.items _ _ i.claimed i.twice _ _ i.taken _ i.ledger.bitmaps i.ledger.spare _ _ _ _ _ c.self.invariant
    (blocks_merged i.blocks i.marked i.placed i.taken i.held.items i.deferred.items c.args.kept c.args.gone c.self.invariant.blocks) (claims_merged i.blocks i.held.items i.deferred.items i.claimed i.twice c.args.kept c.args.gone c.self.invariant.claims) (omega arith) (omega arith) (omega arith) (omega arith))
