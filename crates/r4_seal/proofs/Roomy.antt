-- Room that is made twice.
use Rattle.std.proofs.Common.{◌∙◌, ap, arith}
use Rattle.r4_core.specs.r4_kept.View.{CoreSeen}
use Rattle.r4_core.specs.r4_ready.Rooms.{HasMoreRoom}

pub more_and_more : {D : Type 0} (a b c : CoreSeen D) → HasMoreRoom a b → HasMoreRoom b c → HasMoreRoom a c
more_and_more a b c one two = record {
  entries = let x = one.entries in let y = two.entries in omega (arith, x, y);
  captures = let x = one.captures in let y = two.captures in omega (arith, x, y);
  places = let x = one.places in let y = two.places in omega (arith, x, y);
  claims = let x = one.claims in let y = two.claims in omega (arith, x, y);
  owners = λ n. two.owners n ∙ one.owners n;
  cells = λ i. two.cells i ∙ one.cells i;
  same = two.same ∙ ap (λ (m : CoreSeen _). record m {
    trace = record m.trace { spare = c.trace.spare };
    atoms = record m.atoms { captured = c.atoms.captured; spare = c.atoms.spare; txn_spare = c.atoms.txn_spare };
    buffer = c.buffer;
    space = record m.space { spare = c.space.spare };
  }) one.same;
}
