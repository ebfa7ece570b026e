-- The body that a command changes (docs/volume.md, "Reach"). A key is its rank.
use Rattle.std.specs.Prelude.{◌≡◌, ℕ, ◌+◌, ◌^◌, ◌<◌, ◌≤◌, true, Contains, Option, None, Some}
use Rattle.std.specs.FinMap.{find}
use Rattle.std.specs.Ordering.{nat_cmp}
use Rattle.r4_base.specs.Key.{key_of_rank}
use Rattle.r4_base.specs.Value.{Stat}
use Rattle.r4_base.specs.Volume.{IsObject, object_of, stat_rank}
use Rattle.r4_base.specs.declared.items.Attr.{Attr}
use Rattle.r4_base.specs.declared.items.Target.{Target}
use Rattle.r4_content.specs.Course.{asked}
use Rattle.r4_content.specs.Edited.{Intervals, Pairs, is_in}
use Rattle.r4_content.specs.Meaning.{course, greatest_size}
use Rattle.r4_content.specs.Seen.{of_seen}
use Rattle.r4_content.specs.declared.command.Command.{Command}
use Rattle.r4_suited.specs.r4_reach.Reach.{is_body}
use Rattle.r4_suited.specs.r4_reach.Touched.{Body, first_byte}

-- Each object that a command finds in what was seen has a size of 64 bits.
abbrev pub HaveSizes : Command → Pairs → Type 0
HaveSizes c s = (o : Target) (a : Attr) → IsObject o
    → is_in (asked (course greatest_size c) (of_seen s)) (stat_rank o) ≡ true
    → find nat_cmp (stat_rank o) s ≡ Some (Stat a) → a.size < 2 ^ 64

-- The body has no more bytes after than a file may have, where it had no more before.
abbrev pub KeepsFileSize : Option Body → Type 0
KeepsFileSize None = Unit {0}
KeepsFileSize (Some b) = b.was ≤ greatest_size → b.now ≤ greatest_size

-- The body's first key is a body's, of its file, and among these; an interval that begins at a key of a body ends within
-- the file's.
pub record LieInBody (b : Body) (rs : Intervals) : Type 0 where
  pub first : is_body b.first ≡ true
  pub file : b.file ≡ object_of (key_of_rank b.first)
  pub among : is_in rs b.first ≡ true
  pub within : (r : ℕ × ℕ) → Contains rs r → is_body r.0 ≡ true → r.1 ≤ first_byte b + 2 ^ 64

-- if there is one
abbrev pub LiesInBody : Option Body → Intervals → Type 0
LiesInBody None rs = Unit {0}
LiesInBody (Some b) rs = LieInBody b rs
