-- What becomes of the table of atoms and of the space as a task is done.
use Rattle.std.specs.Prelude.{◌≡◌, ◌≢◌, ◌+◌, ◌≤◌, ◌^◌, ◌&&◌, ℕ, Bool, if◌then◌else◌, length, not}
use Rattle.std.specs.Prelude.{List, Some, count_by, nat_le}
use Rattle.r4_atoms.specs.Atoms.{AtomsSeen, IsBegun, IsOpenAtom, account_of, atom_of, owner_of}
use Rattle.r4_atoms.specs.declared.things.Account.{Account}
use Rattle.r4_base.specs.Bitmap.{bitmap_count}
use Rattle.r4_base.specs.declared.things.AtomNo.{AtomNo}
use Rattle.r4_taking.specs.r4_buffer.Changed.{has_name}
use Rattle.r4_taking.specs.r4_buffer.Seen.{BufferSeen, buffered, is_dirty_by}
use Rattle.r4_taking.specs.r4_cell.Seen.{CellSeen}
use Rattle.r4_taking.specs.r4_space.Accounts.{account_at, dues}
use Rattle.r4_taking.specs.r4_space.Space.{Space, unused_count}

-- The atom owns each node that the change touches, and has this account; of the other atoms and of
-- all transactions the table says what it said. At most so many places were used up.
pub record HasCaptured
    (old new : AtomsSeen) (atom : ℕ) (touched : ℕ → Bool) (account : Account) (places : ℕ) : Type 0
  where
    pub owners : (n : ℕ) → owner_of new n ≡ (if touched n then Some atom else owner_of old n)
    pub own : account_of new atom ≡ account
    pub others : (a : ℕ) → IsBegun old a → a ≢ atom → account_of new a ≡ account_of old a
    pub atoms : (t : ℕ) → atom_of new t ≡ atom_of old t
    pub opens : (a : ℕ) → IsOpenAtom new a → IsOpenAtom old a
    pub count : length new.txns ≡ length old.txns
    pub spare : old.spare ≤ new.spare + places

-- The space has these numbers of the atom, and covers what open atoms take up; the other atoms have
-- what they had. At most so many calls were used up.
pub record HasCharged (old new : Space) (atom : AtomNo) (cells fresh calls : ℕ) : Type 0 where
  pub covered : dues (bitmap_count new.block_count) new.atoms ≤ unused_count new
  pub own_cells : (account_at new.atoms atom).cells ≡ cells
  pub own_fresh : (account_at new.atoms atom).fresh ≡ fresh
  pub others : (a : AtomNo) → a.0 ≢ atom.0 → account_at new.atoms a ≡ account_at old.atoms a
  pub sealed : new.sealed ≡ old.sealed
  pub held : new.held ≡ old.held
  pub placed : new.placed ≡ old.placed
  pub spare : old.spare ≤ new.spare + calls

-- ---- which cells are counted

-- an old cell of a change that was counted and goes, and a new one that was not counted
abbrev pub is_less : BufferSeen → (new : List CellSeen) → CellSeen → Bool
is_less b new x = is_dirty_by (buffered b x.id) && not (has_name new x.id)

abbrev pub is_more : BufferSeen → CellSeen → Bool
is_more b x = not (is_dirty_by (buffered b x.id))

-- So many cells of an atom are counted then, and so many of these have no block: those that go are
-- taken off, and those that come are added.
pub record IsCount (b : BufferSeen) (old new : List CellSeen) (before after : Account) : Type 0
  where
    pub cells : after.cells + count_by (is_less b new) old
        ≡ before.cells + count_by (is_more b) new
    pub fresh : after.fresh + count_by (λ x. is_less b new x && nat_le (2 ^ 63) x.id) old
        ≡ before.fresh + count_by (λ x. is_more b x && nat_le (2 ^ 63) x.id) new
