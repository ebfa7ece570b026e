use Rattle.std.proofs.Common.{◌≡◌, ◌≤◌, ℕ, nat_eq}
use Rattle.std.specs.List.{IsDistinct}
use Rattle.std.specs.Map.{keys_of, lookup}
use Rattle.r4_locks.specs.Modes.{freed}
use Rattle.r4_locks.specs.Kept.{held_in}
use Rattle.r4_locks.proofs.lock_table.let_all_go.Given as goal

abbrev pub invariant-loop-node : goal.invariant-loop-node
invariant-loop-node l =
    ((n : ℕ) → freed (lookup (nat_eq n) l.node-iterator) (held_in l.nodes.holders n) ≡ freed (lookup (nat_eq n) l.fn.task.holds) (held_in l.initial.nodes.holders n))
    × IsDistinct nat_eq (keys_of l.node-iterator)
    × (l.initial.nodes.room ≤ l.nodes.room)
