-- The keys of a command, with those that its change needs besides (docs/sets.md).
use Rattle.std.specs.Prelude.{◌≡◌, ◌⊎◌, ℕ, ◌-◌, ◌^◌, ◌<◌, true, false}
use Rattle.r4_base.specs.Key.{key_of_rank, minor_of}
use Rattle.r4_base.specs.Tree.{Root, Store}
use Rattle.r4_base.specs.Value.{Content, Value}
use Rattle.r4_base.specs.Volume.{HasExtents, HasStat, HasTails, byte_rank, is_directory, object_of, stat_rank}
use Rattle.r4_base.specs.declared.items.Attr.{Attr}
use Rattle.r4_base.specs.declared.items.Target.{Target}
use Rattle.r4_sets.specs.r4_cell.Patch.{IsPatch, Meets, place}
use Rattle.r4_content.specs.Course.{ending, of_content}
use Rattle.r4_content.specs.Edited.{Intervals, is_in}
use Rattle.r4_content.specs.Locality.{Touches, commands}
use Rattle.r4_content.specs.Meaning.{course}
use Rattle.r4_content.specs.Units.{MovesUnits}
use Rattle.r4_content.specs.declared.command.Command.{Command}
use Rattle.r4_sets.specs.r4_patch.Effect.{HasEffect, IsSetAt}
use Rattle.r4_sets.specs.Change.{BuiltChange, IsTouched}

-- `changed` are the keys that the command changes, and of bodies that it changes others too, where blocks are put or
-- taken away; `touched` are these, those that it reads, and the last byte of a file that is not empty and becomes
-- longer.
pub record IsTouchedBy (limit : ℕ) (x : Command) (n : Content) (touched changed : Intervals) : Type 0 where
  pub reads : (k : ℕ) → is_in ((commands limit).reads x n) k ≡ true → is_in touched k ≡ true
  pub changes : (k : ℕ) → is_in ((commands limit).changes x n) k ≡ true → is_in changed k ≡ true
  pub within : (k : ℕ) → is_in changed k ≡ true → is_in touched k ≡ true
  -- of bodies that the command does not change, no key is changed
  pub bodies : (o : Target) (a : Attr) (y : ℕ) → HasStat n o a → y < 2 ^ 64
      → is_in changed (byte_rank o y) ≡ true
      → (z : ℕ) × (z < 2 ^ 64) × (is_in ((commands limit).changes x n) (byte_rank o z) ≡ true)
  -- a key of a body is one that the command reads or changes, or its object's stat key is
  pub others : (k : ℕ) → is_in touched k ≡ true → minor_of (key_of_rank k) ≡ 4
      → Touches (commands limit) x n k
      ⊎ (is_in ((commands limit).reads x n) (stat_rank (object_of (key_of_rank k))) ≡ true)
  pub last_byte : (o : Target) (a b : Attr) → HasStat n o a → is_directory a ≡ false → 0 < a.size
      → HasStat ((commands limit).after x n) o b → a.size < b.size
      → is_in touched (byte_rank o (a.size - 1)) ≡ true

-- What a change has to show to do a command of this project in the tree u, with the units `raw`, of which n is visible:
-- that it is a patch of the tree, its effect on units, that these are moved as the command's edits say, the keys, and
-- in
-- which kind of cells each body stands that it touches.
pub record IsBuiltFor
    (limit : ℕ) (x : Command) (u : Store Value) (root : Root) (raw n : Content) (b : BuiltChange) : Type 0 where
  pub patch : IsPatch b.change
  pub meets : Meets b.change u root
  pub effect : HasEffect b.change (is_in b.moved) b.to
  pub units : IsSetAt (is_in b.moved) b.to raw b.after
  pub moves : MovesUnits (ending (course limit x) (of_content n)).edits n raw b.after b.moved
  pub keys : IsTouchedBy limit x n b.touched b.changed
  pub moved_in : (k : ℕ) → is_in b.moved k ≡ true → is_in b.changed k ≡ true
  pub kinds : (o : Target) (a : Attr) → HasStat b.after o a → is_directory a ≡ false → IsTouched b.changed o
      → HasTails (place b.change u) o a.size ⊎ HasExtents (place b.change u) o a.size
