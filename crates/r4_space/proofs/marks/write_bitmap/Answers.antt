use Rattle.std.proofs.Common.{◌∙◌, ◌*◌, ◌+◌, length}
use Rattle.r4_space.specs.Space.{up_to}
use Rattle.r4_space.proofs.MarkLaws.{bit_is}
use Rattle.r4_space.proofs.marks.write_bitmap.Goals as goal

pub returns-clause-bits : goal.returns-clause-bits
returns-clause-bits c i lt =
    c.free_claims.ensures.bits i lt ∙ rw (c.write_marks.ensures.bits i lt, c.len.ensures) (bit_is (length c.args.marked.now) (c.args.n * 32736 + i) c.args.marked.now c.args.placed.now (up_to c.args.sealed.now c.args.atom) c.args.deferred.now c.requires.within c.requires.fixed)
