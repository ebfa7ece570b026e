use Rattle.std.proofs.Common.{◌≡◌, ℕ}
use Rattle.std.specs.Prelude.{slice_index_or}
use Rattle.r4_check_objects.proofs.table.filled.Given as goal

abbrev pub invariant-loop : goal.invariant-loop
invariant-loop g l = (q : ℕ) → slice_index_or l.list.items q l.fn.value ≡ l.fn.value
