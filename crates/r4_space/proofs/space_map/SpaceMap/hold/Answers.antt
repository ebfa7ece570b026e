use Rattle.std.proofs.Common.{◌≡◌, ◌<◌, [], ◌∷◌, ap, arith}
use Rattle.std.proofs.lemmas.List.{length-append}
use Rattle.r4_space.specs.declared.things.Claim.{Claim}
use Rattle.r4_space.specs.Space.{Space}
use Rattle.r4_space.proofs.ClaimLaws.{blocks_held}
use Rattle.r4_space.proofs.ClaimedLaws.{claims_held}
use Rattle.r4_space.proofs.SpaceLaws.{space_blocks, unclaimed_of, unused_free}
use Rattle.r4_space.proofs.space_map.SpaceMap.hold.Goals as goal

pub invariant_of-self-2 : goal.invariant_of-self-2
invariant_of-self-2 c =
    let i = c.self.inside in
    let size = c.self.invariant.blocks.taken_size in
    let within : c.in-Some.number < i.blocks = omega (arith, c.in-Some.ensures.within) in
    let spare : i.ledger.spare ≡ c.args.self.now.spare = ap (λ (s : Space). s.spare) c.self.view_is in
    let some = c.requires in
    let claim : Claim = record { atom = c.args.atom; block = record { 0 = c.in-Some.number } } in
    let free = unclaimed_of i.blocks c.in-Some.number i.marked i.placed i.taken i.held.items i.deferred.items c.self.invariant.blocks within c.in-Some.ensures.clear in
    let longer = length-append i.held.items (claim ∷ []) in
    let room = c.add.ensures.capacity in
    rw (c.take.ensures, c.put.ensures, c.add.ensures.items, c.open.ensures) (space_blocks i.blocks i.marked i.placed _ _ i.held.items i.deferred.items _ _ i.claimed i.twice _ _ i.taken _ i.ledger.bitmaps i.ledger.spare _ _ _ _ _ c.self.invariant
    (blocks_held i.blocks i.marked i.placed i.taken i.held.items i.deferred.items claim c.self.invariant.blocks within) (claims_held i.blocks i.held.items i.deferred.items i.claimed i.twice claim c.self.invariant.claims within free.0 free.1) (omega arith) (omega arith) room (omega arith))

pub returns-clause-free : goal.returns-clause-free
returns-clause-free c =
    let i = c.self.inside in
    let size = c.self.invariant.blocks.taken_size in
    let within : c.in-Some.number < i.blocks = omega (arith, c.in-Some.ensures.within) in
    rw (← c.self.view_is) (unused_free i.blocks c.in-Some.number i.marked i.placed i.taken i.held.items i.deferred.items c.self.invariant.blocks within c.in-Some.ensures.clear)
