use Rattle.std.proofs.Common.{◌≡◌, drop}
use Rattle.r4_space.specs.Accounts.{is_sealed}
use Rattle.r4_space.specs.Space.{up_to}
use Rattle.r4_space.proofs.marks.is_up_to.Given as goal

abbrev pub invariant-loop-a : goal.invariant-loop-a
invariant-loop-a l = is_sealed (up_to (drop l.a-index l.sealed) l.atom) l.other ≡ is_sealed (up_to l.sealed l.atom) l.other
