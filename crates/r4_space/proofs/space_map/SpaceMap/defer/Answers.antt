use Rattle.std.proofs.Common.{◌≡◌, ◌<◌, [], ◌∷◌, ap, arith}
use Rattle.std.proofs.lemmas.List.{length-append}
use Rattle.r4_space.specs.declared.things.Claim.{Claim}
use Rattle.r4_space.specs.Space.{Space}
use Rattle.r4_space.proofs.ClaimLaws.{blocks_deferred}
use Rattle.r4_space.proofs.ClaimedLaws.{claims_deferred}
use Rattle.r4_space.proofs.SpaceLaws.{space_blocks}
use Rattle.r4_space.proofs.space_map.SpaceMap.defer.Goals as goal

pub invariant_of-self : goal.invariant_of-self
invariant_of-self c =
    let i = c.self.inside in
    let count : i.blocks ≡ c.args.self.now.block_count = ap (λ (s : Space). s.block_count) c.self.view_is in
    let within : c.args.block.0 < i.blocks = omega (arith, c.requires.within) in
    let spare : i.ledger.spare ≡ c.args.self.now.spare = ap (λ (s : Space). s.spare) c.self.view_is in
    let some = c.requires.room in
    let claim : Claim = record { atom = c.args.atom; block = c.args.block } in
    let longer = length-append i.deferred.items (claim ∷ []) in
    let room = c.add.ensures.capacity in
    rw (c.take.ensures, c.put.ensures, c.claim_again.ensures, c.add.ensures.items, c.open.ensures) (space_blocks i.blocks i.marked i.placed _ _ i.held.items i.deferred.items _ _ i.claimed i.twice _ _ i.taken _ i.ledger.bitmaps i.ledger.spare _ _ _ _ _ c.self.invariant
    (blocks_deferred i.blocks i.marked i.placed i.taken i.held.items i.deferred.items claim c.self.invariant.blocks within) (claims_deferred i.blocks i.held.items i.deferred.items i.claimed i.twice claim c.self.invariant.claims within) (omega arith) (omega arith) (omega arith) room)
