use Rattle.std.proofs.Common.{arith}
use Rattle.std.proofs.lemmas.List.{length-map}
use Rattle.std.specs.Arc.{arc_value}
use Rattle.r4_accounting.proofs.putting.put_change.Goals as goal

pub returns : goal.returns
returns c = record {
  deferred =
      let deferred = rw c.in-Ok.is at c.tell_space.ensures.deferred in rw (← c.as_slice.ensures.value) deferred;
  told = let told = rw c.in-Ok.is at c.tell_space.ensures.told in rw (← c.as_slice.ensures.value) told;
  owners = rw (← c.as_slice-2.ensures.value) c.take_over.ensures;
  cells = c.put.ensures.buffered;
  room =
      let many = length-map c.args.new.items (λ x. arc_value x) in let room = c.put.ensures.spare in omega (arith, many, room);
}
