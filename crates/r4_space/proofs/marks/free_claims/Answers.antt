use Rattle.std.proofs.Common.{◌∙◌, take, get_or}
use Rattle.std.proofs.lemmas.List.{take_more}
use Rattle.r4_base.specs.Bitmap.{is_used}
use Rattle.r4_space.specs.declared.things.Claim.{Claim}
use Rattle.r4_space.specs.Space.{up_to}
use Rattle.r4_space.proofs.MarkLaws.{freed_more}
use Rattle.r4_space.proofs.marks.free_claims.Goals as goal

pub loop-claim-preserved : goal.loop-claim-preserved
loop-claim-preserved c = record {
  front = c.free_bit.ensures.front ∙ c.loop-claim.invariant.front;
  bits = λ i lt.
      let step = c.free_bit.ensures.bits i lt in
      let was = c.loop-claim.invariant.bits i lt in
      let freed = c.is_freed.ensures in
      let none : Claim = record { atom = record { 0 = 0 }; block = record { 0 = 0 } } in
      let j = c.loop-claim.claim-index in
      let claims = c.args.claims.now in
      rw (step, was, freed, take_more claims j none c.loop-claim-test.true) (freed_more c.args.blocks c.args.first i (up_to c.args.sealed.now c.args.atom) (take j claims) (get_or claims j none) (is_used c.args.block.now i));
}
