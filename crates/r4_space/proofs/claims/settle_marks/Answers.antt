use Rattle.std.proofs.Common.{length, refl, ◌∙◌}
use Rattle.r4_space.specs.Space.{claims_of}
use Rattle.r4_space.proofs.ClaimLaws.{marks_settled}
use Rattle.r4_space.proofs.claims.settle_marks.Goals as goal

pub returns-clause-marked : goal.returns-clause-marked
returns-clause-marked c =
    let n = length c.args.marked.now in
    let freed = claims_of c.args.atom c.args.deferred.now in
    marks_settled n c.args.marked.now c.args.placed.now c.unmark.new.marked freed refl (c.unmark.ensures.size ∙ c.mark_placed.ensures.size) c.requires.fixed (λ b.
    rw (c.mark_placed.ensures.size, c.mark_placed.ensures.marked b) at (c.unmark.ensures.each b))
