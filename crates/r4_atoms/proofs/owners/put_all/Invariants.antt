use Rattle.std.proofs.Common.{◌≡◌, ℕ, ◌+◌, ◌≤◌, ◌++◌, drop, hash_map_len}
use Rattle.std.specs.HashMap.{spare}
use Rattle.r4_atoms.specs.Owned.{label_of, pairs_of}
use Rattle.r4_atoms.proofs.owners.put_all.Given as goal

abbrev pub invariant-loop-one : goal.invariant-loop-one
invariant-loop-one l = record {
  entries : (n : ℕ) → label_of n (l.table.entries ++ pairs_of (drop l.one-index l.row)) ≡ label_of n (l.initial.table.entries ++ pairs_of l.row);
  len : hash_map_len l.table ≤ hash_map_len l.initial.table + l.one-index;
  places : spare l.initial.table ≤ spare l.table + l.one-index;
}
