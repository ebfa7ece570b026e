-- A change takes the place of old cells: what its calls ask for, and what they leave.
use Rattle.std.specs.Prelude.{◌≡◌, ◌+◌, ◌<◌, ◌≤◌, ◌^◌, ℕ, Contains, List, false, length}
use Rattle.r4_atoms.specs.Atoms.{AtomsSeen, IsFreeFor, IsOpenAtom}
use Rattle.r4_atoms.specs.declared.things.Account.{Account}
use Rattle.r4_base.specs.Bitmap.{bitmap_count}
use Rattle.r4_base.specs.declared.things.AtomNo.{AtomNo}
use Rattle.r4_done.specs.r4_buffer.Changed.{replaced}
use Rattle.r4_done.specs.r4_buffer.Seen.{BufferSeen, buffered}
use Rattle.r4_cell.specs.Seen.{CellSeen}
use Rattle.r4_done.specs.Doing.{HasCharged}
use Rattle.r4_space.specs.Accounts.{account_at, dues, is_sealed}
use Rattle.r4_space.specs.Space.{Space, charged, free_of, need_at, unused_count}
use Rattle.r4_accounting.specs.Accounting.{HasBlock, HasDeferred, HasTakenOver, freed}

-- the numbers of an account are small enough to be priced
pub record IsPriceable (account : Account) : Type 0 where
  pub cells : account.cells < 2 ^ 32
  pub fresh : account.fresh < 2 ^ 32

-- The space has these numbers of the atom.
pub record HasNumbers (s : Space) (atom : AtomNo) (account : Account) : Type 0 where
  pub cells : (account_at s.atoms atom).cells ≡ account.cells
  pub fresh : (account_at s.atoms atom).fresh ≡ account.fresh

-- A change may take the place of old cells, for an open atom, which has this account then. So much
-- is free, no other open atom owns one of the cells, and there is room for each of them, and for a
-- charge and each block that is deferred.
pub record CanPut
    (s : Space) (t : AtomsSeen) (b : BufferSeen) (atom : AtomNo) (account : Account)
    (old new : List CellSeen) : Type 0
  where
    pub small : IsPriceable account
    pub unsealed : is_sealed s.sealed atom ≡ false
    pub covered : dues (bitmap_count s.block_count) s.atoms ≤ unused_count s
    pub enough : need_at s atom account.cells account.fresh ≤ free_of s
    pub blocks : (x : CellSeen) → Contains old x → HasBlock s x
    pub calls : 1 + length (freed s old new) ≤ s.spare
    pub opened : IsOpenAtom t atom.0
    pub old_free : (x : CellSeen) → Contains old x → IsFreeFor t atom.0 x.id
    pub new_free : (x : CellSeen) → Contains new x → IsFreeFor t atom.0 x.id
    pub captures : length old + length new ≤ t.spare
    pub places : length new ≤ b.spare

-- It did: the space covers the account, and the blocks of used cells that go are deferred; the atom
-- owns all cells of the change; and the new cells stand in the place of the old ones.
pub record HasPlaced
    (s then : Space) (t owned : AtomsSeen) (b now : BufferSeen) (atom : AtomNo) (account : Account)
    (old new : List CellSeen) : Type 0
  where
    pub deferred : HasDeferred (charged s atom account.cells account.fresh) then atom old new
    pub told : (calls : ℕ) → 1 + length (freed s old new) ≤ calls
        → HasCharged s then atom account.cells account.fresh calls
    pub owners : HasTakenOver t owned atom.0 account old new
    pub cells : (i : ℕ) → buffered now i ≡ replaced old new i (buffered b i)
    pub room : now.spare + length new ≡ b.spare
