use Rattle.std.proofs.Common.{◌≡◌, ◌∙◌, ℕ, length, refl, ap, sym, arith}
use Rattle.std.specs.Prelude.{replicate, false}
use Rattle.std.proofs.lemmas.List.FromFn.{length-map-range_with_len}
use Rattle.r4_space.specs.Space.{claims_of, is_marked_after}
use Rattle.r4_space.proofs.ClaimedLaws.{claims_settled, settled_taken}
use Rattle.r4_space.proofs.SpaceLaws.{space_blocks, blocks_settled, fewer, same_marks}
use Rattle.r4_space.proofs.space_map.SpaceMap.settle.Goals as goal

pub give_back-requires-clause-size : goal.give_back-requires-clause-size
give_back-requires-clause-size c =
    let i = c.self.inside in
    let is = c.self.invariant.blocks in
    let after = same_marks i.blocks i.marked i.marked i.placed i.placed c.settle_marks.new.marked _ (claims_of c.args.atom i.deferred.items) refl refl (ap (claims_of c.args.atom) c.as_slice.ensures.value) is.marked_size c.settle_marks.ensures.marked in
    ap length after ∙ length-map-range_with_len (is_marked_after i.blocks i.marked i.placed (claims_of c.args.atom i.deferred.items)) 0 i.blocks ∙ sym is.taken_size

pub give_back-requires-2-clause-size : goal.give_back-requires-2-clause-size
give_back-requires-2-clause-size c =
    let i = c.self.inside in
    let is = c.self.invariant.blocks in
    let after = same_marks i.blocks i.marked i.marked i.placed i.placed c.settle_marks.new.marked _ (claims_of c.args.atom i.deferred.items) refl refl (ap (claims_of c.args.atom) c.as_slice.ensures.value) is.marked_size c.settle_marks.ensures.marked in
    ap length after ∙ length-map-range_with_len (is_marked_after i.blocks i.marked i.placed (claims_of c.args.atom i.deferred.items)) 0 i.blocks ∙ sym is.taken_size ∙ sym c.give_back.ensures.size

pub invariant_of-self : goal.invariant_of-self
invariant_of-self c =
    let i = c.self.inside in
    let is = c.self.invariant.blocks in
    let n = i.blocks in
    let atom = c.args.atom in
    let none : c.settle_marks.new.placed ≡ replicate n false = c.settle_marks.ensures.placed ∙ ap (λ (k : ℕ). replicate k false) is.placed_size in
    let after = same_marks n i.marked i.marked i.placed i.placed c.settle_marks.new.marked _ (claims_of atom i.deferred.items) refl refl (ap (claims_of atom) c.as_slice.ensures.value) is.marked_size c.settle_marks.ensures.marked in
    let size : length c.unclaim.new.claimed ≡ n = c.unclaim.ensures.size ∙ c.self.invariant.claims.claimed_size in
    let claimed = rw (c.as_slice-held.ensures.value, c.as_slice-deferred.ensures.value, c.self.invariant.claims.claimed_size) at c.unclaim.ensures.each in
    let given = rw (c.as_slice-held.ensures.value, is.taken_size) at c.give_back.ensures.each in
    let given_too = rw (c.as_slice-deferred.ensures.value, c.give_back.ensures.size ∙ is.taken_size) at c.give_back-2.ensures.each in
    rw (c.drop_claims.ensures.items, c.drop_claims-2.ensures.items, c.settle.ensures, c.drop_claims.ensures.capacity, c.drop_claims-2.ensures.capacity)
    (space_blocks n i.marked i.placed _ _ i.held.items i.deferred.items _ _ i.claimed i.twice _ _ i.taken _ i.ledger.bitmaps i.ledger.spare _ _ _ _ _ c.self.invariant
    (blocks_settled n i.marked i.placed c.settle_marks.new.marked c.settle_marks.new.placed i.taken c.give_back-2.new.taken i.held.items i.deferred.items atom is after none (c.give_back-2.ensures.size ∙ c.give_back.ensures.size ∙ is.taken_size)
    (λ b lt. settled_taken n b i.marked i.placed c.settle_marks.new.marked c.settle_marks.new.placed c.unclaim.new.claimed i.taken c.give_back.new.taken c.give_back-2.new.taken i.held.items i.deferred.items atom is lt after none (claimed b lt) (given b lt) (given_too b lt)))
    (claims_settled n i.held.items i.deferred.items i.claimed i.twice c.unclaim.new.claimed atom c.self.invariant.claims size claimed)
    (fewer atom i.held.items i.ledger.spare) (fewer atom i.deferred.items i.ledger.spare) (omega arith) (omega arith))
