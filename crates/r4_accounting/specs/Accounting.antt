-- What a change of a task does to the numbers of its atom, to the table of atoms, and to the space.
use Rattle.std.specs.Prelude.{◌≡◌, ◌+◌, ◌-◌, ◌<◌, ◌≤◌, ◌^◌, ◌&&◌, ◌||◌, ℕ, Bool, List, Some, false}
use Rattle.std.specs.Prelude.{◌++◌, filter, if◌then◌else◌, length, map, nat_le, not}
use Rattle.r4_atoms.specs.Atoms.{AtomsSeen, owner_of, state_of, with_state}
use Rattle.r4_atoms.specs.declared.things.Account.{Account}
use Rattle.r4_base.specs.declared.things.AtomNo.{AtomNo}
use Rattle.r4_done.specs.r4_buffer.Changed.{has_name}
use Rattle.r4_done.specs.r4_buffer.Seen.{BufferSeen}
use Rattle.r4_cell.specs.Seen.{CellSeen}
use Rattle.r4_done.specs.Doing.{is_less, is_more}
use Rattle.r4_space.specs.Space.{Space, is_taken}
use Rattle.r4_space.specs.declared.things.Claim.{Claim}

-- a cell that has no block yet
abbrev pub is_fresh : CellSeen → Bool
is_fresh x = nat_le (2 ^ 63) x.id

-- of the cells that have none, those that were counted and go, and those that come
abbrev pub is_fresh_less : BufferSeen → (new : List CellSeen) → CellSeen → Bool
is_fresh_less b new x = is_less b new x && is_fresh x

abbrev pub is_fresh_more : BufferSeen → CellSeen → Bool
is_fresh_more b x = is_more b x && is_fresh x

-- The atom owns each of these nodes then; all else of the table is as it was. At most a place for
-- each was used up.
pub record HasOwned (old new : AtomsSeen) (atom : ℕ) (cells : List CellSeen) : Type 0 where
  pub txns : new.txns ≡ old.txns
  pub atoms : new.atoms ≡ old.atoms
  pub owners : (n : ℕ) → owner_of new n
      ≡ (if has_name cells n then Some atom else owner_of old n)
  pub spare : old.spare ≤ new.spare + length cells

-- a cell goes that has a block, which is used
abbrev pub frees : Space → (new : List CellSeen) → CellSeen → Bool
frees s new x = not (is_fresh x) && (not (has_name new x.id) && is_taken s x.id)

-- the cells that go and have used blocks
abbrev pub freed : Space → (old new : List CellSeen) → List CellSeen
freed s old new = filter (frees s new) old

abbrev pub claim_of : AtomNo → CellSeen → Claim
claim_of atom x = record { atom = atom; block = record { 0 = x.id } }

-- the blocks of these cells are deferred for an atom
abbrev pub deferring : Space → AtomNo → List CellSeen → Space
deferring s atom cells = record s {
  deferred = s.deferred ++ map (claim_of atom) cells;
  spare = s.spare - length cells;
}

-- The blocks of the cells that go are deferred for their atom, where they were used; and so no
-- block is used that was not.
pub record HasDeferred (old new : Space) (atom : AtomNo) (before after : List CellSeen) : Type 0
  where
    pub is : new ≡ deferring old atom (freed old before after)
    pub taken : (b : ℕ) → is_taken new b ≡ is_taken old b

-- the name of a cell that has a block is a block of the space
abbrev pub HasBlock : Space → CellSeen → Type 0
HasBlock s x = is_fresh x ≡ false → x.id < s.block_count

-- what a change may add at most to an account, which has so many new cells
abbrev pub added : (cells born gone : ℕ) → Account
added cells born gone = record { cells = cells; fresh = cells; born = born; gone = gone }

-- The atom owns all cells of a change, the old and the new ones, and has this account. All else of
-- the table is as it was. At most a place for each was used up.
pub record HasTakenOver
    (old new : AtomsSeen) (atom : ℕ) (account : Account) (before after : List CellSeen) : Type 0
  where
    pub txns : new.txns ≡ old.txns
    pub states : new.atoms
        ≡ (with_state old atom (record (state_of old atom) { account = account })).atoms
    pub owners : (n : ℕ) → owner_of new n
        ≡ (if has_name before n || has_name after n then Some atom else owner_of old n)
    pub spare : old.spare ≤ new.spare + (length before + length after)
