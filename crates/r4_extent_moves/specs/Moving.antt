-- What a change does to the content, of which the body stands in extents afterwards (docs/volume.md, "Bodies in
-- extents"). A key is its rank.
use Rattle.std.specs.Prelude.{◌≡◌, ◌↔◌, ℕ, ◌+◌, ◌^◌, ◌<◌, Bool, true, false, nat_lt, if◌then◌else◌, unwrap_or}
use Rattle.std.specs.Prelude.{Option, None, Some}
use Rattle.r4_base.specs.Tree.{Store}
use Rattle.r4_base.specs.Value.{Byte, Content, Value, at_key}
use Rattle.r4_base.specs.Volume.{HasFiles, HasStat, HasUnits, IsObject, IsVisible, is_directory}
use Rattle.r4_base.specs.declared.items.Attr.{Attr}
use Rattle.r4_content.specs.Edited.{Edits, Intervals, changed, edited, is_between, is_in}
use Rattle.r4_content.specs.Lawful.{HasBodies}
use Rattle.r4_content.specs.Meaning.{greatest_size}
use Rattle.r4_allowed.specs.r4_extent_change.r4_extent_blocks.Setting.{byte_of, byte_set}
use Rattle.r4_applied.specs.r4_build.Building.{set_by}
use Rattle.r4_applied.specs.r4_patch.Effect.{Placed, UnitIn}
use Rattle.r4_applied.specs.r4_reach.Reach.{is_body}
use Rattle.r4_applied.specs.r4_reach.Touched.{Body, blocks_end, first_byte}

-- the key is one that the body may have
abbrev pub in_body : Body → (key : ℕ) → Bool
in_body b k = is_between (first_byte b) (first_byte b + 2 ^ 64) k

-- the byte that stands there, or 0
abbrev pub byte_there : Option Value → ℕ
byte_there None = 0
byte_there (Some v) = unwrap_or (byte_of v) 0

-- What stands at a key of the body afterwards: in an extent, up to the end of the blocks that it needs, the byte that is
-- set, else the one that stood there, else 0.
abbrev pub body_then : Body → Edits → (raw : Content) → (key : ℕ) → Option (Placed Value)
body_then b e raw k =
    if nat_lt k (blocks_end b b.now)
    then Some (Byte (unwrap_or (byte_set e k) (byte_there (at_key raw k))), false)
    else None

-- In a tree u, whose units are `raw`, a change moves the units of these keys: of those that are none of the body's just
-- the ones that are changed, to what is set there, in leaves. At each key of the body that is moved, and at each that is
-- not, there stands afterwards what is to stand there.
pub record MovesBody (b : Body) (e : Edits) (u : Store Value) (raw : Content) (at : ℕ → Bool)
    (to : ℕ → Option (Placed Value)) : Type 0 where
  pub others : (k : ℕ) → in_body b k ≡ false → at k ≡ is_in (changed e) k
  pub own : (k : ℕ) → in_body b k ≡ false → at k ≡ true → to k ≡ set_by e k
  pub moved : (k : ℕ) → in_body b k ≡ true → at k ≡ true → to k ≡ body_then b e raw k
  pub stays : (k : ℕ) (w : Placed Value) → in_body b k ≡ true → at k ≡ false
      → UnitIn u k w ↔ (body_then b e raw k ≡ Some w)

-- Edits of the content that is visible of a tree's units. All keys of bodies that change are of one file's; its size
-- afterwards is what its attributes tell, and where it has bytes then it is there, as a file.
pub record ChangesBody (b : Body) (e : Edits) (u : Store Value) (raw n : Content) : Type 0 where
  pub units : HasUnits u raw
  pub files : HasFiles u raw
  pub visible : IsVisible raw n
  pub before : HasBodies greatest_size n
  pub after : HasBodies greatest_size (edited e n)
  pub object : IsObject b.file
  pub one : (k : ℕ) → is_in (changed e) k ≡ true → is_body k ≡ true → in_body b k ≡ true
  pub now : (a : Attr) → HasStat (edited e n) b.file a → is_directory a ≡ false → a.size ≡ b.now
  pub there : 0 < b.now → (a : Attr) × HasStat (edited e n) b.file a × (is_directory a ≡ false)

-- These intervals have just the keys of a set.
abbrev pub AreKeys : Intervals → (ℕ → Bool) → Type 0
AreKeys moved at = (k : ℕ) → is_in moved k ≡ at k
