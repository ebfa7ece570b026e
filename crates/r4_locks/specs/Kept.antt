-- What the rows of holders tell.
use Rattle.std.specs.Prelude.{ℕ, ◌<◌, List, slice_index_or, Option, None, IsSome, nat_eq}
use Rattle.std.specs.Map.{lookup}
use Rattle.std.specs.Option.{unwrap_or}
use Rattle.r4_locks.specs.declared.things.Held.{Held}
use Rattle.r4_locks.specs.declared.things.Held.TheVariants.{Free}
use Rattle.r4_locks.specs.Locks.{TaskSeen, IsHeldBy}

-- who holds each node that is held, and for how many more there is room
pub record NodesSeen : Type 0 where
  pub holders : List (ℕ × Held)
  pub room : ℕ

abbrev pub held_in : List (ℕ × Held) → (node : ℕ) → Held
held_in holders node = unwrap_or (lookup (nat_eq node) holders) Free

-- Of each node its holders are kept, and each task's number fits.
pub record IsKept (tasks : List (Option TaskSeen)) (holders : List (ℕ × Held)) : Type 0 where
  pub told : (node : ℕ) → IsHeldBy tasks node (held_in holders node)
  pub small : (task : ℕ) → IsSome (slice_index_or tasks task None) → task < 4294967295
