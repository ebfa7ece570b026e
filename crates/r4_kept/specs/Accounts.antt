-- Group C, the accounts: what atoms take up, and what tasks may still use up (docs/space.md).
use Rattle.std.specs.Prelude.{◌≡◌, ◌⊎◌, ◌↔◌, ℕ, ◌+◌, ◌^◌, ◌≤◌, ◌==◌, nat_le, nat_eq, Bool}
use Rattle.std.specs.Prelude.{false, true, if◌then◌else◌, List, []}
use Rattle.std.specs.Prelude.{◌∷◌, length, count_by, sum_by, Contains, slice_index_or}
use Rattle.std.specs.Prelude.{Option, Some, None}
use Rattle.std.specs.List.{IsDistinct}
use Rattle.r4_history.specs.r4_atoms.Atoms.{AtomsSeen, IsBegun, IsOpenAtom, account_of, atom_of, owner_of}
use Rattle.r4_base.specs.Bitmap.{bitmap_count}
use Rattle.r4_base.specs.declared.things.AtomNo.{AtomNo}
use Rattle.r4_buffer.specs.Seen.{BufferSeen, buffered, is_dirty_by}
use Rattle.r4_durable.specs.r4_space.Accounts.{account_at, dues, no_account}
use Rattle.r4_durable.specs.r4_commit.Planned.{CommitSeen}
use Rattle.r4_durable.specs.r4_space.Space.{claims_without, unused_count}
use Rattle.r4_durable.specs.r4_space.declared.things.Claim.{Claim}
use Rattle.r4_history.specs.r4_trace.declared.entry.Entry.{Entry}
use Rattle.r4_history.specs.r4_trace.declared.entry.Entry.TheVariants.{Done}
use Rattle.r4_history.specs.r4_turns.declared.out.Out.{Out}
use Rattle.r4_history.specs.r4_turns.declared.turn.Turn.{Turn}
use Rattle.r4_kept.specs.View.{CoreSeen}
use Rattle.r4_kept.specs.declared.parts.Commit.{Commit}

-- ---- cells of an atom

-- So many cells of an atom stand in memory, and so many of these have no block.
pub record CountsCells (b : BufferSeen) (s : AtomsSeen) (atom cells fresh : ℕ) : Type 0 where
  pub nodes : List ℕ
  pub different : IsDistinct nat_eq nodes
  pub just : (i : ℕ) → Contains nodes i
      ↔ ((owner_of s i ≡ Some atom) × (is_dirty_by (buffered b i) ≡ true))
  pub cells_are : cells ≡ length nodes
  pub fresh_are : fresh ≡ count_by (nat_le (2 ^ 63)) nodes

-- ---- what tasks may still use up

abbrev pub cells_for : Option Out → ℕ
cells_for None = 0
cells_for (Some out) = out.cells

abbrev pub claims_for : Option Out → ℕ
claims_for None = 0
claims_for (Some out) = out.claims

abbrev pub cells_owed : List Turn → ℕ
cells_owed turns = sum_by (λ (t : Turn). cells_for t.out) turns

abbrev pub claims_owed : List Turn → ℕ
claims_owed turns = sum_by (λ (t : Turn). claims_for t.out) turns

-- ---- objects that an atom made or took away

-- how many commands of such transactions were done
abbrev pub dones_of : (chosen : ℕ → Bool) → List Entry → ℕ
dones_of chosen [] = 0
dones_of chosen (Done txn script index x reply ∷ older) =
    (if chosen txn.0 then 1 else 0) + dones_of chosen older
dones_of chosen (e ∷ older) = dones_of chosen older

-- how many commands of an atom were done
abbrev pub dones_in : AtomsSeen → (atom : ℕ) → List Entry → ℕ
dones_in s a trace = dones_of (λ t. atom_of s t == a) trace

-- ---- what a commit holds in the space

-- Nothing is sealed, held or placed.
pub record IsStill (sealed : List AtomNo) (held : List Claim) (placed : List Bool) : Type 0 where
  pub none_sealed : sealed ≡ []
  pub none_held : held ≡ []
  pub none_placed : (b : ℕ) → slice_index_or placed b false ≡ false

-- At most this atom is sealed, and what is held is held for it.
pub record IsFor (atom : AtomNo) (sealed : List AtomNo) (held : List Claim) : Type 0 where
  pub alone : (sealed ≡ []) ⊎ (sealed ≡ atom ∷ [])
  pub own : claims_without atom held ≡ []

-- so it is while no commit with a plan is under way, and while one is
abbrev pub HoldsFor : AtomNo → Option CommitSeen → List AtomNo → List Claim → List Bool → Type 0
HoldsFor atom None sealed held placed = IsStill sealed held placed
HoldsFor atom (Some w) sealed held placed = IsFor atom sealed held

abbrev pub HoldsOf : Option Commit → List AtomNo → List Claim → List Bool → Type 0
HoldsOf None sealed held placed = IsStill sealed held placed
HoldsOf (Some k) sealed held placed = HoldsFor k.atom k.work sealed held placed

-- ---- the group

pub record AreAccounts {D : Type 0} (c : CoreSeen D) : Type 0 where
  -- what open atoms take up is free for them
  pub covered : dues (bitmap_count c.space.block_count) c.space.atoms ≤ unused_count c.space
  -- the space and the table of atoms have the same numbers of each open atom
  pub same : (a : AtomNo) → IsOpenAtom c.atoms a.0
      → ((account_at c.space.atoms a).cells ≡ (account_of c.atoms a.0).cells)
      × ((account_at c.space.atoms a).fresh ≡ (account_of c.atoms a.0).fresh)
  -- and these are those of its cells in memory
  pub counted : (a : ℕ) → IsOpenAtom c.atoms a
      → CountsCells c.buffer c.atoms a (account_of c.atoms a).cells (account_of c.atoms a).fresh
  -- an atom that was not begun has no account in the space
  pub unknown : (a : AtomNo) → (IsBegun c.atoms a.0 → ⊥)
      → account_at c.space.atoms a ≡ no_account a
  -- an open atom has made no more objects than its commands were done, nor taken away
  pub objects : (a : ℕ) → IsOpenAtom c.atoms a
      → ((account_of c.atoms a).born ≤ dones_in c.atoms a c.trace.entries)
      × ((account_of c.atoms a).gone ≤ dones_in c.atoms a c.trace.entries)
  -- before a call of the device fails, the space has sealed, held and placed for the commit alone
  pub holds : c.broken ≡ None
      → HoldsOf c.commit c.space.sealed c.space.held c.space.placed
  -- there is room for all that the tasks out may capture, put into memory, and defer
  pub room_to_capture : cells_owed c.turns.turns ≤ c.atoms.spare
  pub room_for_cells : cells_owed c.turns.turns ≤ c.buffer.spare
  pub room_to_defer : claims_owed c.turns.turns ≤ c.space.spare
