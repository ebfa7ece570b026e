use Rattle.std.proofs.Common.{◌≡◌, map, take}
use Rattle.r4_allowed.specs.Making.{twig_entry}
use Rattle.r4_allowed.proofs.making.of_twigs.Given as goal

abbrev pub invariant-loop-id : goal.invariant-loop-id
invariant-loop-id l = l.table.items ≡ map twig_entry (take l.id-index l.twigs)
