-- The commands of chosen transactions, one after another from a lawful content on (docs/sets.md).
use Rattle.std.specs.Prelude.{◌≡◌, ◌⊎◌, ℕ, ◌+◌, ◌<◌, ◌≤◌, Bool, if◌then◌else◌, List, [], ◌∷◌, Option, Some}
use Rattle.r4_base.specs.Value.{Content}
use Rattle.r4_base.specs.Volume.{HasStat, objects_in}
use Rattle.r4_base.specs.declared.items.Attr.{Attr}
use Rattle.r4_base.specs.declared.items.Target.{Target}
use Rattle.r4_base.specs.declared.superblock.Super40.{Super40}
use Rattle.r4_content.specs.Counts.{born, gone}
use Rattle.r4_content.specs.Fields.{HasBytePaths}
use Rattle.r4_content.specs.Lawful.{IsLawful, RoomFor}
use Rattle.r4_content.specs.Locality.{commands}
use Rattle.r4_sets.specs.r4_trace.Folds.{content_of, everything}
use Rattle.r4_sets.specs.r4_trace.Ids.{HasNewIds, IsDrawn, Start, no_id}
use Rattle.r4_sets.specs.r4_trace.Job.{Asked}
use Rattle.r4_sets.specs.r4_trace.declared.entry.Entry.{Entry}
use Rattle.r4_sets.specs.r4_trace.declared.entry.Entry.TheVariants.{Done}

-- how many commands were done
abbrev pub dones_in : List Entry → ℕ
dones_in [] = 0
dones_in (Done txn script index x reply ∷ older) = dones_in older + 1
dones_in (e ∷ older) = dones_in older

-- the paths of each of them are of bytes
abbrev pub HavePaths : List Entry → Type 0
HavePaths [] = Unit {0}
HavePaths (Done txn script index x reply ∷ older) = HasBytePaths x × HavePaths older
HavePaths (e ∷ older) = HavePaths older

-- The run begins with a lawful content, each directory of which can count so many entries more as commands are done,
-- and
-- one; its paths are of bytes, and what it makes gets new ids.
pub record IsLawfulRun (limit : ℕ) (start : Start) (job : Option Asked) (trace : List Entry) : Type 0 where
  pub lawful : IsLawful limit start.content
  pub room : RoomFor (dones_in trace + 1) start.content
  pub paths : HavePaths trace
  pub ids : HasNewIds (Some start) job trace

-- The object was there at the start under this id, or a command made it.
abbrev pub IsKnown : Start → List Entry → Target → Type 0
IsKnown start trace o =
    ((p : Target) × (b : Attr) × HasStat start.content p b × (p.oid ≡ o.oid))
    ⊎ (IsDrawn trace o.oid.0 × (o.oid.0 < no_id))

-- ---- how many objects the commands of chosen transactions make, and take away, where all are done

abbrev pub born_in : (limit : ℕ) → Content → (ℕ → Bool) → List Entry → ℕ
born_in limit start chosen [] = 0
born_in limit start chosen (Done txn script index x reply ∷ older) =
    (if chosen txn.0 then born limit x (content_of (commands limit) start everything older) else 0)
    + born_in limit start chosen older
born_in limit start chosen (e ∷ older) = born_in limit start chosen older

abbrev pub gone_in : (limit : ℕ) → Content → (ℕ → Bool) → List Entry → ℕ
gone_in limit start chosen [] = 0
gone_in limit start chosen (Done txn script index x reply ∷ older) =
    (if chosen txn.0 then gone limit x (content_of (commands limit) start everything older) else 0)
    + gone_in limit start chosen older
gone_in limit start chosen (e ∷ older) = gone_in limit start chosen older

-- The superblock counts the objects of the start, with those that the chosen commands made and without those that they
-- took away; its next id is above all that were drawn.
pub record CountsObjects (limit : ℕ) (start : Start) (chosen : ℕ → Bool) (trace : List Entry) (super : Super40)
    : Type 0 where
  pub at_start : (o : Target) (a : Attr) → HasStat start.content o a → (42 ≤ o.oid.0) × (o.oid.0 < start.next_id)
  pub next : start.next_id ≤ super.oid
  pub drawn : (x : ℕ) → IsDrawn trace x → x < no_id → (42 ≤ x) × (x < super.oid)
  pub count : super.file_count + gone_in limit start.content chosen trace
      ≡ objects_in start.content + born_in limit start.content chosen trace
