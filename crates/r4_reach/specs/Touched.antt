-- What a command reads and changes of the units of a tree, on what was seen (docs/volume.md, "Reach"). A key is its
-- rank.
use Rattle.std.specs.Prelude.{◌≡◌, ◌⊎◌, ℕ, ◌+◌, ◌-◌, ◌*◌, ◌/◌, [], ◌∷◌, ◌++◌, map, Bool, false, not}
use Rattle.std.specs.Prelude.{◌&&◌, ◌||◌, ◌==◌, nat_lt, if◌then◌else◌, Option, Some, None, option_map}
use Rattle.std.specs.List.{list_any}
use Rattle.std.specs.FinMap.{find}
use Rattle.std.specs.Ordering.{nat_cmp}
use Rattle.r4_base.specs.Key.{key_of_rank}
use Rattle.r4_base.specs.Tree.{Holds, Node, Store}
use Rattle.r4_base.specs.Value.{Byte, Entry, Stat, Value}
use Rattle.r4_base.specs.Volume.{blocks_for, byte_rank, object_of, stat_rank}
use Rattle.r4_base.specs.declared.items.Target.{Target}
use Rattle.r4_content.specs.Course.{asked, ending}
use Rattle.r4_content.specs.Edited.{Edits, Intervals, Pairs, changed}
use Rattle.r4_content.specs.Listed.{list_edited}
use Rattle.r4_content.specs.Meaning.{course, greatest_size}
use Rattle.r4_content.specs.Seen.{of_seen}
use Rattle.r4_content.specs.declared.command.Command.{Command}
use Rattle.r4_reach.specs.Reach.{is_body}

abbrev pub edits_on : Command → Pairs → Edits
edits_on c s = (ending (course greatest_size c) (of_seen s)).edits

-- ---- a body that changes

-- A file, the first of its body's keys that changes, its size before and after, 0 where it goes, and whether its body
-- stands in extents
-- before.
pub record Body : Type 0 where
  pub file : Target
  pub first : ℕ
  pub was : ℕ
  pub now : ℕ
  pub in_extents : Bool

-- the first key of the intervals that is one of a body's keys and begins one that has keys
abbrev pub body_key : Intervals → Option ℕ
body_key [] = None
body_key (r ∷ rs) = if nat_lt r.0 r.1 && is_body r.0 then Some r.0 else body_key rs

abbrev pub size_in : Option Value → ℕ
size_in None = 0
size_in (Some (Stat a)) = a.size
size_in (Some (Entry n t)) = 0
size_in (Some (Byte x)) = 0

abbrev pub body_of : Edits → Pairs → (in_extents : Bool) → (key : ℕ) → Body
body_of e s in_extents k =
    let o = object_of (key_of_rank k) in
    record {
      file = o;
      first = k;
      was = size_in (find nat_cmp (stat_rank o) s);
      now = size_in (find nat_cmp (stat_rank o) (list_edited e s));
      in_extents = in_extents;
    }

-- the key of the file's first byte
abbrev pub first_byte : Body → ℕ
first_byte b = byte_rank b.file 0

-- the body stands in extents afterwards, if it is there
abbrev pub is_spread : Body → Bool
is_spread b = b.in_extents || nat_lt 16384 b.now

-- the body stood in tails, or there was none
abbrev pub turns_out : Body → Bool
turns_out b = is_spread b && not b.in_extents

-- the key at which blocks end that a body of so many bytes has
abbrev pub blocks_end : Body → (size : ℕ) → ℕ
blocks_end b size = first_byte b + 4096 * blocks_for size

-- the keys of the blocks that come where no extent was, and of those that go
abbrev pub coming : Body → ℕ × ℕ
coming b = if is_spread b then (if b.in_extents then blocks_end b b.was else first_byte b, blocks_end b b.now) else
    (0, 0)

abbrev pub going : Body → ℕ × ℕ
going b = if b.in_extents then (blocks_end b b.now, blocks_end b b.was) else (0, 0)

-- ---- the keys

-- an interval of the body's keys, with the whole of each of its blocks
abbrev pub whole_blocks : Body → ℕ × ℕ → ℕ × ℕ
whole_blocks b r = (
  first_byte b + (r.0 - first_byte b) / 4096 * 4096,
  first_byte b + (r.1 - first_byte b + 4095) /
      4096 * 4096,
)

abbrev pub with_blocks : Body → ℕ × ℕ → ℕ × ℕ
with_blocks b r = if is_body r.0 then whole_blocks b r else r

-- Where the body is or becomes extents, all keys of its blocks that are touched count as changed; where it turns out
-- of tails, all of the body.
abbrev pub raw_changes : Option Body → Intervals → Intervals
raw_changes None rs = rs
raw_changes (Some b) rs = if is_spread b then
    (if turns_out b then coming b ∷ map (with_blocks b) rs else map (with_blocks b) rs) else rs

-- a file that is not empty becomes longer
abbrev pub grows : Body → Bool
grows b = nat_lt 0 b.was && nat_lt b.was b.now

abbrev pub last_byte : Body → ℕ
last_byte b = byte_rank b.file (b.was - 1)

-- Where it does, its last byte is read, since the keys that change are all behind it: it tells where the body stands.
abbrev pub kind_reads : Option Body → Intervals
kind_reads None = []
kind_reads (Some b) = if grows b then (last_byte b, last_byte b + 1) ∷ [] else []

-- the key that tells where the body stands
abbrev pub shown_at : Body → ℕ
shown_at b = if grows b then last_byte b else b.first

abbrev pub body_on : Command → Pairs → (in_extents : Bool) → Option Body
body_on c s in_extents = option_map (body_of (edits_on c s) s in_extents) (body_key (changed (edits_on c s)))

abbrev pub reads_on : Command → Pairs → (in_extents : Bool) → Intervals
reads_on c s in_extents = asked (course greatest_size c) (of_seen s) ++ kind_reads (body_on c s in_extents)

abbrev pub changes_on : Command → Pairs → (in_extents : Bool) → Intervals
changes_on c s in_extents = raw_changes (body_on c s in_extents) (changed (edits_on c s))

-- In the tree a block or a hole has the byte there, or none has: the body stands in extents, or does not. A body of
-- no bytes stands in
-- none.
abbrev pub has_unit : Node Value → (key : ℕ) → Bool
has_unit c k = list_any (λ u. u.0 == k) c.units

abbrev pub IsKindIn : Store Value → Option Body → Type 0
IsKindIn t None = Unit {0}
IsKindIn t (Some b) = ((b.was ≡ 0) × (b.in_extents ≡ false))
    ⊎ ((i : ℕ) × (c : Node Value) × (t i ≡ Some c) × Holds c (shown_at b)
    × (b.in_extents ≡ (not (c.level == 1) && has_unit c (shown_at b))))
