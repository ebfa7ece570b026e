-- The entries for which a commit that is under way needs room.
use Rattle.std.proofs.Common.{◌≡◌, ℕ, ◌<◌, ◌≤◌, Bool, true, false, cond, Option, Some, None, arith}
use Rattle.std.proofs.Common.{nat_lt}
use Rattle.std.proofs.lemmas.Bool.{cond-false, cond-true, le-ltb, lt-ltb}
use Rattle.r4_durable.specs.r4_commit.Planned.{CommitSeen}
use Rattle.r4_kept.specs.History.{owed_for_work}

one_or_two : (b : Bool) → 1 ≤ cond {A = ℕ} b 2 1
one_or_two true = omega arith
one_or_two false = omega arith

-- one at least
pub owes_one : (w : Option CommitSeen) → 1 ≤ owed_for_work w
owes_one None = omega arith
owes_one (Some w) = one_or_two (nat_lt w.work.part 2)

-- two until it is durable, and one from then on
pub owes_two : (w : CommitSeen) → w.work.part < 2 → owed_for_work (Some w) ≡ 2
owes_two w lt = cond-true (nat_lt w.work.part 2) 2 1 (lt-ltb w.work.part 2 lt)

pub owes_last : (w : CommitSeen) → 2 ≤ w.work.part → owed_for_work (Some w) ≡ 1
owes_last w le = cond-false (nat_lt w.work.part 2) 2 1 (le-ltb w.work.part 2 le)
