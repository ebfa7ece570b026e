-- What a walk along a path finds, as the code tells it, and the pieces that are left of a path (docs/volume.md, "Paths").
use Rattle.std.specs.Prelude.{◌≡◌, ◌⊎◌, ℕ, ◌^◌, ◌<◌, ◌≤◌, List, [], length, drop, nat_le, Option, Some, None, if◌then◌else◌}
use Rattle.r4_base.specs.Key.{least}
use Rattle.r4_base.specs.Value.{Content}
use Rattle.r4_base.specs.Volume.{stat_rank}
use Rattle.r4_base.specs.declared.items.Target.{Target}
use Rattle.r4_content.specs.Walk.{Walked, At, NoName, NoDirectory, NoEntry, attr_at, pieces_of, target_at}
use Rattle.r4_list.specs.declared.walk.Object.{Object}
use Rattle.r4_list.specs.declared.walk.Walked.{Walked as Told}
use Rattle.r4_list.specs.declared.walk.Walked.TheVariants.{At as ToldAt, NoName as ToldNoName, NoDirectory as ToldNoDirectory, NoEntry as ToldNoEntry}

-- where the walk ended that is told
abbrev pub walked_of : Told → Walked
walked_of (ToldAt o a) = At o a
walked_of ToldNoName = NoName
walked_of ToldNoDirectory = NoDirectory
walked_of ToldNoEntry = NoEntry

-- the pieces from a place on; none behind the end
abbrev pub pieces_from : List ℕ → (from : ℕ) → List (List ℕ)
pieces_from path from = if nat_le from (length path) then pieces_of (drop from path) else []

-- what the entry of a name names, with its attributes; none where there is no entry, or no attributes of what it names
abbrev pub IsStep : Content → (dir : ℕ) → (name : List ℕ) → Option Object → Type 0
IsStep m dir name None = (target_at m dir name ≡ None) ⊎ ((p : Target) × (target_at m dir name ≡ Some p) × (attr_at m p ≡ None))
IsStep m dir name (Some x) = (target_at m dir name ≡ Some x.object) × (attr_at m x.object ≡ Some x.attr)

-- An object that was looked up: its numbers are those of an object, and its stat data have a key that a tree may have.
pub record IsLookedUp (o : Target) : Type 0 where
  pub locality : o.locality < 2 ^ 60
  pub oid : o.oid.0 < 2 ^ 60
  pub from : least ≤ stat_rank o

-- where a walk ends at an object, it was looked up
abbrev pub EndsLookedUp : Told → Type 0
EndsLookedUp (ToldAt o a) = IsLookedUp o
EndsLookedUp ToldNoName = Unit {0}
EndsLookedUp ToldNoDirectory = Unit {0}
EndsLookedUp ToldNoEntry = Unit {0}
