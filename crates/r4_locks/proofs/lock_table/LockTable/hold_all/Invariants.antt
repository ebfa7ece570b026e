use Rattle.std.proofs.Common.{◌≡◌, ◌≢◌, ℕ, ◌+◌, ◌≤◌, take}
use Rattle.r4_locks.specs.Locks.{IsTask, mode_of, mode_with, room_of, task_at}
use Rattle.r4_locks.proofs.lock_table.LockTable.hold_all.Given as goal

abbrev pub invariant-loop-node : goal.invariant-loop-node
invariant-loop-node l =
    IsTask l.self l.who.0
    × ((k : ℕ) → k ≢ l.who.0 → task_at l.self k ≡ task_at l.initial.self k)
    × ((n : ℕ) → mode_of l.self l.who.0 n ≡ mode_with l.wanted (take l.node-index l.names) n (mode_of l.initial.self l.who.0 n))
    × ((k : ℕ) → room_of l.initial.self k ≤ room_of l.self k + l.node-index)
