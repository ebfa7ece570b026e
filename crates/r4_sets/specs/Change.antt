-- Changes of the cells of a session by the commands of open atoms (docs/sets.md).
use Rattle.std.specs.Prelude.{◌≡◌, ◌⊎◌, ◌↔◌, ℕ, ◌*◌, ◌^◌, ◌<◌, ◌≤◌, Bool, true, false, ◌||◌, cond, ◌∷◌, Option, Some}
use Rattle.std.specs.Prelude.{None}
use Rattle.std.specs.Prelude.{is_some}
use Rattle.r4_base.specs.Key.{key_of_rank, minor_of, offset_of, least, top}
use Rattle.r4_base.specs.Tree.{Node, Store, Root, Holds, UnitAt}
use Rattle.r4_base.specs.Value.{Value, Byte, Content, at_key}
use Rattle.r4_base.specs.Volume.{HasExtents, HasFiles, HasStat, HasTails, HasUnits, IsPadding, IsVisible, KeyFits}
use Rattle.r4_base.specs.Volume.{InExtent, InTail, blocks_for}
use Rattle.r4_base.specs.Volume.{byte_rank, is_directory, object_of, stat_rank}
use Rattle.r4_base.specs.declared.items.Attr.{Attr}
use Rattle.r4_base.specs.declared.items.Target.{Target}
use Rattle.r4_base.specs.declared.things.ScriptNo.{ScriptNo}
use Rattle.r4_base.specs.declared.things.TxnNo.{TxnNo}
use Rattle.r4_patch.specs.r4_cell.Patch.{Patch, place, root_after, IsPatch, Meets}
use Rattle.r4_patch.specs.Effect.{HasEffect, IsSetAt, Placed}
use Rattle.r4_content.specs.Edited.{Intervals, is_in}
use Rattle.r4_content.specs.Locality.{Meaning}
use Rattle.r4_content.specs.declared.command.Command.{Command}
use Rattle.r4_content.specs.declared.reply.Reply.{Reply}
use Rattle.r4_trace.specs.Traced.{IsSealed, atom_in}
use Rattle.r4_trace.specs.declared.entry.Entry.TheVariants.{Done}
use Rattle.r4_sets.specs.Session.{Session, all_done}
use Rattle.r4_sets.specs.Units.{SameUnit}

-- ---- bodies of files

-- Each unit of a file's body stays, and so does its size: it had the attributes a.
abbrev pub BodyStays : (changed : Intervals) (after : Content) → Target → Attr → Type 0
BodyStays changed after o a =
    (b : Attr) × HasStat after o b × (is_directory b ≡ false) × (b.size ≡ a.size)
    × ((offset : ℕ) → offset < 2 ^ 64 → is_in changed (byte_rank o offset) ≡ false)

-- A file's body is empty, or among the keys is one of its units: in a tail or in an extent, as the others are.
abbrev pub BodyShown : (touched : Intervals) (u : Store Value) → Target → Attr → Type 0
BodyShown touched u o a =
    (a.size ≡ 0)
    ⊎ ((offset : ℕ) × (v : Value) × (offset < 2 ^ 64) × (is_in touched (byte_rank o offset) ≡ true)
    × UnitAt u (byte_rank o offset) v)

-- with a key of a body the stat key of its object is among the keys
abbrev pub HasStats : (touched : Intervals) → Type 0
HasStats touched =
    (k : ℕ) → is_in touched k ≡ true → minor_of (key_of_rank k) ≡ 4
    → is_in touched (stat_rank (object_of (key_of_rank k))) ≡ true

-- Where a file's stat key is among the keys, its body stays, or one of its units in the tree u is there too. The
-- content
-- is n before and m after.
abbrev pub ShowsUnits : (touched changed : Intervals) (u : Store Value) (n m : Content) → Type 0
ShowsUnits touched changed u n m =
    (o : Target) (a : Attr) → HasStat n o a → is_directory a ≡ false → is_in touched (stat_rank o) ≡ true
    → BodyStays changed m o a ⊎ BodyShown touched u o a

-- ---- what a command's change does in a tree

-- n is what is visible of the tree's units; after the change d it has those of `after`. `changed` are the keys whose
-- units
-- may change, and `touched` these and those that the command reads.
pub record Does
    (w : Meaning Command Reply) (x : Command) (u : Store Value) (root : Root) (n : Content) (d : Patch Value)
    (touched changed : Intervals) : Type 0 where
  pub patch : IsPatch d
  pub meets : Meets d u root
  pub after : Content
  pub units : HasUnits (place d u) after
  pub files : HasFiles (place d u) after
  pub visible : IsVisible after (w.after x n)
  pub reads : (k : ℕ) → is_in (w.reads x n) k ≡ true → is_in touched k ≡ true
  pub changes : (k : ℕ) → is_in (w.changes x n) k ≡ true → is_in changed k ≡ true
  pub within : (k : ℕ) → is_in changed k ≡ true → is_in touched k ≡ true
  -- all other units stay, each in its kind of cell
  pub stays : (k : ℕ) → is_in changed k ≡ false → SameUnit u (place d u) k
  pub stats : HasStats touched
  -- and where the body of a file or its size changes, a unit shows how it stands
  pub bodies : ShowsUnits touched changed u n (w.after x n)

-- ---- a change in its own words

-- a key of the file's stat data or of its body is among the keys
abbrev pub IsTouched : (changed : Intervals) → Target → Type 0
IsTouched changed o =
    (is_in changed (stat_rank o) ≡ true)
    ⊎ ((x : ℕ) × (x < 2 ^ 64) × (is_in changed (byte_rank o x) ≡ true))

-- What is asked of files after a change: of those alone whose stat data or bodies it touches. Before it the units are
-- `raw`, after it `after` in the tree u, of which m is to be visible.
pub record FilesAfter (u : Store Value) (raw after m : Content) (changed : Intervals) : Type 0 where
  -- what stands at a changed key fits it, and is visible as it should be
  pub fits : (k : ℕ) (v : Value) → is_in changed k ≡ true → at_key after k ≡ Some v → KeyFits after (key_of_rank k) v
  pub seen : (k : ℕ) (v : Value) → is_in changed k ≡ true
      → (at_key m k ≡ Some v) ↔ ((at_key after k ≡ Some v) × (IsPadding after (key_of_rank k) v → ⊥))
  -- a byte that stays has its file, and is below its size where it was
  pub kept : (k y : ℕ) (a : Attr) → is_in changed k ≡ false → at_key raw k ≡ Some (Byte y)
      → HasStat raw (object_of (key_of_rank k)) a → is_directory a ≡ false
      → is_in changed (stat_rank (object_of (key_of_rank k))) ≡ true
      → (b : Attr) × HasStat after (object_of (key_of_rank k)) b × (is_directory b ≡ false)
      × ((a.size ≤ offset_of (key_of_rank k)) ↔ (b.size ≤ offset_of (key_of_rank k)))
  -- a file whose stat data or body is touched stands as files do
  pub bodies : (o : Target) (b : Attr) → HasStat after o b → is_directory b ≡ false → IsTouched changed o
      → (b.size ≤ 2 ^ 30) × (HasTails u o b.size ⊎ HasExtents u o b.size)
  pub bytes : (o : Target) (b : Attr) → HasStat after o b → is_in changed (stat_rank o) ≡ true → b.bytes ≡ b.size

-- At the changed keys of a body there stand in the tree u the units of a body of this size, in tails; or in extents.
abbrev pub TailsThere : (u : Store Value) (changed : Intervals) → Target → (size : ℕ) → Type 0
TailsThere u changed o size =
    (x : ℕ) → x < 2 ^ 64 → is_in changed (byte_rank o x) ≡ true
    → (InTail u (byte_rank o x) ↔ (x < size)) × (InExtent u (byte_rank o x) → ⊥)

abbrev pub ExtentsThere : (u : Store Value) (changed : Intervals) → Target → (size : ℕ) → Type 0
ExtentsThere u changed o size =
    (x : ℕ) → x < 2 ^ 64 → is_in changed (byte_rank o x) ≡ true
    → (InExtent u (byte_rank o x) ↔ (x < 4096 * blocks_for size)) × (InTail u (byte_rank o x) → ⊥)

-- at its other keys the tree t has no unit, and the offset is at or past the end
abbrev pub NoneElse : (t : Store Value) (changed : Intervals) → Target → (end : ℕ) → Type 0
NoneElse t changed o end =
    (x : ℕ) → x < 2 ^ 64 → is_in changed (byte_rank o x) ≡ false
    → (InTail t (byte_rank o x) → ⊥) × (InExtent t (byte_rank o x) → ⊥) × (end ≤ x)

-- at its other keys the offset is before the one end where it is before the other
abbrev pub SameElse : (changed : Intervals) → Target → (old new : ℕ) → Type 0
SameElse changed o old new =
    (x : ℕ) → x < 2 ^ 64 → is_in changed (byte_rank o x) ≡ false → (x < old) ↔ (x < new)

-- A change of cells that was built: with the keys that it touches, those that it changes, and those whose units it
-- moves;
-- what stands at the moved keys then, and the content of units after it.
pub record BuiltChange : Type 0 where
  pub change : Patch Value
  pub touched : Intervals
  pub changed : Intervals
  pub moved : Intervals
  pub to : ℕ → Option (Placed Value)
  pub after : Content

-- All that is asked of a command's change in a tree, each where it can be seen: of the change, of the files that it
-- touches, and of the keys.
pub record Promises
    (w : Meaning Command Reply) (x : Command) (u : Store Value) (root : Root) (raw n : Content) (b : BuiltChange)
    : Type 0 where
  pub patch : IsPatch b.change
  pub meets : Meets b.change u root
  -- at the moved keys it has the units of `to`, whatever tree it is of; so the tree's become those of `after`
  pub effect : HasEffect b.change (is_in b.moved) b.to
  pub units : IsSetAt (is_in b.moved) b.to raw b.after
  pub files : FilesAfter (place b.change u) raw b.after (w.after x n) b.changed
  pub reads : (k : ℕ) → is_in (w.reads x n) k ≡ true → is_in b.touched k ≡ true
  pub changes : (k : ℕ) → is_in (w.changes x n) k ≡ true → is_in b.changed k ≡ true
  pub moves : (k : ℕ) → is_in b.moved k ≡ true → is_in b.changed k ≡ true
  pub within : (k : ℕ) → is_in b.changed k ≡ true → is_in b.touched k ≡ true
  pub stats : HasStats b.touched
  pub bodies : ShowsUnits b.touched b.changed u n (w.after x n)

-- ---- a command of an atom

-- the patch has an old or a new cell of this name
abbrev pub touches : Patch Value → ℕ → Bool
touches d i = is_some (d.old i) || is_some (d.new i)

-- the cell belongs to no open atom or to this one
abbrev pub IsFree : Session → (atom i : ℕ) → Type 0
IsFree c n i = (c.owner i ≡ None) ⊎ (c.owner i ≡ Some n)

-- each of the keys lies in a cell in memory that belongs to no open atom or to this one
abbrev pub IsReached : Session → (atom : ℕ) (touched : Intervals) → Type 0
IsReached c n touched =
    (k : ℕ) → is_in touched k ≡ true → least ≤ k → k < top
    → (i : ℕ) × (a : Node Value) × (c.memory i ≡ Some a) × Holds a k × IsFree c n i

-- A command of a transaction, whose atom is open, is done by the change d.
pub record Applies (w : Meaning Command Reply) (c : Session) (txn : ℕ) (x : Command) (d : Patch Value) : Type 0 where
  pub unsealed : IsSealed c.trace (atom_in c.trace txn) → ⊥
  pub touched : Intervals
  pub changed : Intervals
  pub does : Does w x c.memory c.root (all_done w c) d touched changed
  -- what it changes belongs to no other atom, and so does each cell that holds a key that it touches
  pub own : (i : ℕ) → touches d i ≡ true → IsFree c (atom_in c.trace txn) i
  pub reach : IsReached c (atom_in c.trace txn) touched

-- the cells of the patch belong to the atom
abbrev pub owned : (atom : ℕ) → Patch Value → (ℕ → Option ℕ) → ℕ → Option ℕ
owned n d owner i = cond (touches d i) (Some n) (owner i)

-- the session after it, with its Done entry
abbrev pub applied : Meaning Command Reply → Session → TxnNo → ScriptNo → (index : ℕ) → Command → Patch Value → Session
applied w c txn script index x d = record c {
  trace = Done txn script index x (w.reply x (all_done w c)) ∷ c.trace;
  memory = place d c.memory;
  root = root_after d c.root;
  owner = owned (atom_in c.trace txn.0) d c.owner;
}

-- ---- a command that changes no key

-- no cell changes
abbrev pub no_patch : Patch Value
no_patch = record { old = λ i. None; new = λ i. None; root = None }

pub record Answers (w : Meaning Command Reply) (c : Session) (txn : ℕ) (x : Command) : Type 0 where
  pub unsealed : IsSealed c.trace (atom_in c.trace txn) → ⊥
  pub touched : Intervals
  pub same : (k : ℕ) → is_in (w.changes x (all_done w c)) k ≡ false
  pub reads : (k : ℕ) → is_in (w.reads x (all_done w c)) k ≡ true → is_in touched k ≡ true
  pub stats : HasStats touched
  pub reach : IsReached c (atom_in c.trace txn) touched

-- it is told, and no cell changes
abbrev pub answered : Meaning Command Reply → Session → TxnNo → ScriptNo → (index : ℕ) → Command → Session
answered w c txn script index x = record c {
  trace = Done txn script index x (w.reply x (all_done w c)) ∷ c.trace;
}

-- ---- bodies that a command changes

-- Where a key of a file's body may change, and the file is not empty, a key of its body below its size is among those
-- touched.
abbrev pub ShowsBodies : (touched changed : Intervals) → Content → Type 0
ShowsBodies touched changed n =
    (o : Target) (a : Attr) (x : ℕ) → HasStat n o a → is_directory a ≡ false → 0 < a.size → x < 2 ^ 64
    → is_in changed (byte_rank o x) ≡ true
    → (y : ℕ) × (y < a.size) × (is_in touched (byte_rank o y) ≡ true)
