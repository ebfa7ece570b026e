-- Transactions, their atoms, and the nodes that an atom owns.
use Rattle.std.specs.Prelude.{◌≡◌, ◌≢◌, slice_set, ℕ, ◌+◌, ◌-◌, ◌<◌, ◌≤◌, ◌^◌, List, [], ◌∷◌, map, length, slice_index, slice_index_or, Option, Some, None, Bool, true, false, not, cond, count_by, ◌&&◌, ◌==◌, if◌then◌else◌}
use Rattle.r4_base.specs.declared.things.ScriptNo.{ScriptNo}
use Rattle.r4_base.specs.declared.things.AtomNo.{AtomNo}
use Rattle.r4_base.specs.declared.things.NodeId.{NodeId}
use Rattle.r4_atoms.specs.declared.things.Account.{Account}
use Rattle.r4_atoms.specs.declared.things.AtomState.{AtomState}
use Rattle.r4_atoms.specs.declared.things.CaptureFault.{CaptureFault}
use Rattle.r4_atoms.specs.declared.things.CaptureFault.TheVariants.{Memory, Owned}
use Rattle.r4_atoms.specs.declared.things.Row.{Row}
use Rattle.r4_atoms.specs.declared.things.Uncommitted.{Uncommitted}
use Rattle.r4_atoms.specs.declared.things.Uncommitted.TheVariants.{None as Nothing, Closed, Open}
use mathlib.Core.Bool.{beq}
use Rattle.r4_atoms.specs.Names.{AreNames, renamed}
use Rattle.r4_atoms.specs.Owned.{label_of}

-- a transaction: its script, its atom, and whether it is open
pub record TxnSeen : Type 0 where
  pub script : ℕ
  pub atom : ℕ
  pub is_open : Bool

-- The transactions, of which transaction t stands at place t - 1; what became of the atom of each number and its account,
-- in the same way; each captured node with a transaction of the atom that captured it; and for how many captures and how
-- many transactions there is room.
pub record AtomsSeen : Type 0 where
  pub txns : List TxnSeen
  pub atoms : List AtomState
  pub captured : List (ℕ × ℕ)
  pub spare : ℕ
  pub txn_spare : ℕ

-- ---- transactions and atoms

abbrev pub no_txn : TxnSeen
no_txn = record { script = 0; atom = 0; is_open = false }

abbrev pub txn_of : AtomsSeen → ℕ → TxnSeen
txn_of s t = slice_index_or s.txns (t - 1) no_txn

abbrev pub atom_of : AtomsSeen → ℕ → ℕ
atom_of s t = (txn_of s t).atom

-- the transaction was begun
pub record IsBegun (s : AtomsSeen) (t : ℕ) : Type 0 where
  pub some : 0 < t
  pub within : t ≤ length s.txns

-- an atom is named by its smallest transaction
pub record IsAtom (s : AtomsSeen) (a : ℕ) : Type 0 where
  pub begun : IsBegun s a
  pub own : atom_of s a ≡ a

abbrev pub no_account : Account
no_account = record { cells = 0; fresh = 0; born = 0; gone = 0 }

-- an atom that is not sealed, with nothing in its account
abbrev pub new_atom : AtomState
new_atom = record { sealed = false; committed = false; cleaned = false; account = no_account }

abbrev pub state_of : AtomsSeen → ℕ → AtomState
state_of s a = slice_index_or s.atoms (a - 1) new_atom

abbrev pub account_of : AtomsSeen → ℕ → Account
account_of s a = (state_of s a).account

abbrev pub is_sealed : AtomsSeen → ℕ → Bool
is_sealed s a = (state_of s a).sealed

abbrev pub is_committed : AtomsSeen → ℕ → Bool
is_committed s a = (state_of s a).committed

abbrev pub is_cleaned : AtomsSeen → ℕ → Bool
is_cleaned s a = (state_of s a).cleaned

-- an atom is open until it is sealed
pub record IsOpenAtom (s : AtomsSeen) (a : ℕ) : Type 0 where
  pub atom : IsAtom s a
  pub unsealed : is_sealed s a ≡ false

-- the transaction is of this atom, and open
abbrev pub is_open_in : ℕ → TxnSeen → Bool
is_open_in a t = t.is_open && (t.atom == a)

-- the transaction is of this atom, and open
pub record IsOpenIn (s : AtomsSeen) (a t : ℕ) : Type 0 where
  pub begun : IsBegun s t
  pub atom : atom_of s t ≡ a
  pub opened : (txn_of s t).is_open ≡ true

pub record IsSmallestOpen (s : AtomsSeen) (a t : ℕ) : Type 0 where
  pub is : IsOpenIn s a t
  pub smallest : (other : ℕ) → IsOpenIn s a other → t ≤ other

-- how many transactions of an atom are open
abbrev pub open_count : AtomsSeen → ℕ → ℕ
open_count s a = count_by (is_open_in a) s.txns

-- an atom that was never sealed and has no open transaction
pub record IsClosedAtom (s : AtomsSeen) (a : ℕ) : Type 0 where
  pub unsealed : IsOpenAtom s a
  pub none : open_count s a ≡ 0

-- the smallest of these atoms
pub record IsSmallestClosed (s : AtomsSeen) (a : ℕ) : Type 0 where
  pub is : IsClosedAtom s a
  pub smallest : (other : ℕ) → IsClosedAtom s other → a ≤ other

-- ---- what of a script is not committed

-- the transaction is of the script, and its atom is not sealed
abbrev pub is_pending : AtomsSeen → (script : ℕ) → ℕ → Bool
is_pending s script t = ((txn_of s t).script == script) && not (is_sealed s (atom_of s t))

-- and its atom has no open transaction, or has one
abbrev pub is_pending_as : AtomsSeen → (script : ℕ) → (closed : Bool) → ℕ → Bool
is_pending_as s script closed t = is_pending s script t && beq closed (open_count s (atom_of s t) == 0)

-- no transaction passes the test
abbrev pub NonePasses : AtomsSeen → (ℕ → Bool) → Type 0
NonePasses s test = (t : ℕ) → IsBegun s t → test t ≡ false

-- the smallest atom of the transactions that pass the test
pub record IsSmallestAtom (s : AtomsSeen) (test : ℕ → Bool) (a : ℕ) : Type 0 where
  pub passes : (t : ℕ) × IsBegun s t × (test t ≡ true) × (atom_of s t ≡ a)
  pub smallest : (t : ℕ) → IsBegun s t → test t ≡ true → a ≤ atom_of s t

-- what of a script is in atoms that are not sealed
abbrev pub IsUncommittedOf : AtomsSeen → (script : ℕ) → Uncommitted → Type 0
IsUncommittedOf s script Nothing = NonePasses s (is_pending s script)
IsUncommittedOf s script (Closed atom) = IsSmallestAtom s (is_pending_as s script true) atom.0
IsUncommittedOf s script (Open atom txn) = NonePasses s (is_pending_as s script true) × IsSmallestAtom s (is_pending_as s script false) atom.0 × IsSmallestOpen s atom.0 txn.0

-- each transaction of the script is in a committed atom
abbrev pub AllCommitted : AtomsSeen → (script : ℕ) → Type 0
AllCommitted s script = (t : ℕ) → IsBegun s t → (txn_of s t).script ≡ script → is_committed s (atom_of s t) ≡ true

-- ---- owners

-- the atom of a transaction, unless its nodes are clean
abbrev pub owner_by : AtomsSeen → Option ℕ → Option ℕ
owner_by s None = None
owner_by s (Some t) = cond (is_cleaned s (atom_of s t)) None (Some (atom_of s t))

-- the atom that owns a node
abbrev pub owner_of : AtomsSeen → ℕ → Option ℕ
owner_of s node = owner_by s (label_of node s.captured)

abbrev pub is_atom : ℕ → Option ℕ → Bool
is_atom atom None = false
is_atom atom (Some by) = by == atom

-- whether an atom owns a node
abbrev pub owns : AtomsSeen → (atom node : ℕ) → Bool
owns s atom node = is_atom atom (owner_of s node)

abbrev pub numbers : List NodeId → List ℕ
numbers nodes = map (λ (n : NodeId). n.0) nodes

-- nobody owns a node any more that this atom owned
abbrev pub without_owner : ℕ → Option ℕ → Option ℕ
without_owner atom None = None
without_owner atom (Some by) = if by == atom then None else Some by

-- no other atom that is not sealed owns the node
abbrev pub IsFreeFor : AtomsSeen → (atom node : ℕ) → Type 0
IsFreeFor s atom node = (by : ℕ) → owner_of s node ≡ Some by → by ≢ atom → is_sealed s by ≡ true

-- this other atom, which is not sealed, owns the node
pub record IsOtherOwner (s : AtomsSeen) (atom node : ℕ) (by : AtomNo) : Type 0 where
  pub owns : owner_of s node ≡ Some by.0
  pub other : by.0 ≢ atom
  pub unsealed : is_sealed s by.0 ≡ false

-- why an atom may not capture a node
abbrev pub IsRefused : AtomsSeen → (atom node : ℕ) → CaptureFault → Type 0
IsRefused s atom node (Owned by) = IsOtherOwner s atom node by
IsRefused s atom node Memory = (s.spare ≡ 0) × IsFreeFor s atom node

-- ---- what becomes of them

abbrev pub new_txn : (script atom : ℕ) → TxnSeen
new_txn script atom = record { script = script; atom = atom; is_open = true }

-- the sums of two accounts
abbrev pub sum_of : Account → Account → Account
sum_of a b = record { cells = a.cells + b.cells; fresh = a.fresh + b.fresh; born = a.born + b.born; gone = a.gone + b.gone }

-- each sum of the two accounts is a number of 64 bits
pub record FitTogether (a b : Account) : Type 0 where
  pub cells : a.cells + b.cells < 2 ^ 64
  pub fresh : a.fresh + b.fresh < 2 ^ 64
  pub born : a.born + b.born < 2 ^ 64
  pub gone : a.gone + b.gone < 2 ^ 64

-- the atom `kept` in place of `gone`
abbrev pub renamed_txn : (kept gone : ℕ) → TxnSeen → TxnSeen
renamed_txn kept gone t = record { script = t.script; atom = renamed kept gone t.atom; is_open = t.is_open }

abbrev pub with_account : AtomState → Account → AtomState
with_account state account = record { sealed = state.sealed; committed = state.committed; cleaned = state.cleaned; account = account }

-- what is in the account at one place is added to that at another
abbrev pub joined : List AtomState → (to from : ℕ) → List AtomState
joined states to from =
    let moved = (slice_index_or states from new_atom).account in
    let had = (slice_index_or states to new_atom) in
    slice_set (slice_set states from (with_account (slice_index_or states from new_atom) no_account)) to (with_account had (sum_of had.account moved))

-- another state of an atom
abbrev pub with_state : AtomsSeen → ℕ → AtomState → AtomsSeen
with_state s a state = record s { atoms = slice_set s.atoms (a - 1) state }

-- ---- how they are kept

abbrev pub new_row : ScriptNo → Row
new_row script = record { script = script; is_open = true; open_txns = 1 }

abbrev pub no_row : Row
no_row = record { script = record { 0 = 0 }; is_open = false; open_txns = 0 }

abbrev pub row_at : List Row → ℕ → Row
row_at rows i = slice_index_or rows i no_row

-- the transaction of a row is ended, which is of the atom that another row names
abbrev pub ended : List Row → (at name : ℕ) → List Row
ended rows at name =
    let first = slice_set rows at (record { script = (row_at rows at).script; is_open = false; open_txns = (row_at rows at).open_txns }) in
    slice_set first name (record { script = (row_at first name).script; is_open = (row_at first name).is_open; open_txns = (row_at first name).open_txns - 1 })

abbrev pub with_open_txns : Row → ℕ → Row
with_open_txns row n = record { script = row.script; is_open = row.is_open; open_txns = n }

-- the open transactions counted at one place are counted at another
abbrev pub joined_rows : List Row → (to from : ℕ) → List Row
joined_rows rows to from =
    slice_set (slice_set rows from (with_open_txns (row_at rows from) 0)) to (with_open_txns (row_at rows to) ((row_at rows to).open_txns + (row_at rows from).open_txns))

abbrev pub state_at : List AtomState → ℕ → AtomState
state_at states i = slice_index_or states i new_atom

abbrev pub txn_seen : Row → ℕ → TxnSeen
txn_seen row name = record { script = row.script.0; atom = name + 1; is_open = row.is_open }

abbrev pub txns_of : List Row → List ℕ → List TxnSeen
txns_of [] names = []
txns_of (row ∷ rows) [] = []
txns_of (row ∷ rows) (name ∷ names) = txn_seen row name ∷ txns_of rows names

-- What holds of the rows: each atom counts its open transactions, a sealed one has none, and the atoms of all
-- transactions below `low` are committed.
pub record AreKept (names : List ℕ) (rows : List Row) (states : List AtomState) (entries : List (ℕ × ℕ)) (low : ℕ) : Type 0 where
  pub named : AreNames names
  pub few : length names < 2 ^ 32
  pub same_rows : length rows ≡ length names
  pub same_states : length states ≡ length names
  pub counted : (i : ℕ) → i < length names → (row_at rows i).open_txns ≡ count_by (is_open_in (i + 1)) (txns_of rows names)
  pub sound : (i : ℕ) → i < length names → (state_at states i).committed ≡ true → (state_at states i).sealed ≡ true
  pub sound_clean : (i : ℕ) → i < length names → (state_at states i).cleaned ≡ true → (state_at states i).sealed ≡ true
  pub closed : (i : ℕ) → i < length names → (state_at states i).sealed ≡ true → (row_at rows i).open_txns ≡ 0
  pub begun : (node t : ℕ) → label_of node entries ≡ Some t → (0 < t) × (t ≤ length names)
  pub low_within : low ≤ length names
  pub settled : (i : ℕ) → i < low → (state_at states (slice_index names i)).committed ≡ true

-- the rows have room for so many more transactions
pub record HaveRoom (rows states spare room_rows room_states : ℕ) : Type 0 where
  pub rows_fit : rows + spare ≤ room_rows
  pub states_fit : states + spare ≤ room_states

abbrev pub script_in : Row → ℕ
script_in row = row.script.0

-- the scripts are those of the rows, and there is room for no fewer more of them than for transactions
pub record AreScripts (rows : List Row) (scripts : List ℕ) (spare spare_scripts : ℕ) : Type 0 where
  pub same : scripts ≡ map script_in rows
  pub room : spare ≤ spare_scripts
