use Rattle.std.proofs.Common.{◌≡◌, false, take}
use Rattle.r4_space.specs.Accounts.{is_open}
use Rattle.r4_space.proofs.ledger.among.Given as goal

abbrev pub invariant-loop-i : goal.invariant-loop-i
invariant-loop-i l = is_open (take l.i l.atoms) l.atom ≡ false
