-- What stands in a trace, the newest entry first: transactions, their atoms, and which of these are
-- sealed and committed (docs/traces.md).
use Rattle.std.specs.Prelude.{◌≡◌, ◌⊎◌, ℕ, ◌+◌, ◌<◌, ◌≤◌, ◌==◌, nat_lt, nat_le, Bool, false, ◌&&◌, ◌||◌, if◌then◌else◌, List, [], ◌∷◌, Option, Some, None}
use Rattle.r4_trace.specs.declared.entry.Entry.{Entry}
use Rattle.r4_trace.specs.declared.entry.Entry.TheVariants.{Begin, Fuse, Ended, Sealed, Committed, Acked, Broken}

-- ---- counts

abbrev pub begun_in : List Entry → ℕ
begun_in [] = 0
begun_in (Begin txn script ∷ older) = begun_in older + 1
begun_in (e ∷ older) = begun_in older

abbrev pub sealed_in : List Entry → ℕ
sealed_in [] = 0
sealed_in (Sealed atom ∷ older) = sealed_in older + 1
sealed_in (e ∷ older) = sealed_in older

abbrev pub committed_in : List Entry → ℕ
committed_in [] = 0
committed_in (Committed atom clock ∷ older) = committed_in older + 1
committed_in (e ∷ older) = committed_in older

-- the committed ones with a clock of at most m
abbrev pub committed_by : (m : ℕ) → List Entry → ℕ
committed_by m [] = 0
committed_by m (Committed atom clock ∷ older) =
    if nat_le clock m then committed_by m older + 1 else committed_by m older
committed_by m (e ∷ older) = committed_by m older

-- the newest clock, and 0 where there is none
abbrev pub latest : List Entry → ℕ
latest [] = 0
latest (Committed atom clock ∷ older) = clock
latest (Acked script txn clock ∷ older) = clock
latest (Broken clock faults ∷ older) = clock
latest (e ∷ older) = latest older

-- the clock of the Broken entry
abbrev pub broken_at : List Entry → Option ℕ
broken_at [] = None
broken_at (Broken clock faults ∷ older) = Some clock
broken_at (e ∷ older) = broken_at older

-- ---- transactions

abbrev pub IsBegun : List Entry → (txn script : ℕ) → Type 0
IsBegun [] t s = ⊥
IsBegun (Begin txn script ∷ older) t s = ((t ≡ txn.0) × (s ≡ script.0)) ⊎ IsBegun older t s
IsBegun (e ∷ older) t s = IsBegun older t s

abbrev pub IsEnded : List Entry → (txn : ℕ) → Type 0
IsEnded [] t = ⊥
IsEnded (Ended txn ∷ older) t = (t ≡ txn.0) ⊎ IsEnded older t
IsEnded (e ∷ older) t = IsEnded older t

-- a transaction of the script is open
abbrev pub IsOpen : List Entry → (txn script : ℕ) → Type 0
IsOpen trace t s = IsBegun trace t s × (IsEnded trace t → ⊥)

-- the transaction of the script that was begun last, and 0 where there is none
abbrev pub last_of : List Entry → (script : ℕ) → ℕ
last_of [] s = 0
last_of (Begin txn script ∷ older) s = if s == script.0 then txn.0 else last_of older s
last_of (e ∷ older) s = last_of older s

-- ---- atoms

-- the name of an atom after `gone` became one with `kept`
abbrev pub renamed_atom : (kept gone atom : ℕ) → ℕ
renamed_atom kept gone atom = if atom == gone then kept else atom

-- The atom of a transaction, by its smallest one. A transaction begins alone in its own.
abbrev pub atom_in : List Entry → (txn : ℕ) → ℕ
atom_in [] t = t
atom_in (Fuse kept gone node ∷ older) t = renamed_atom kept.0 gone.0 (atom_in older t)
atom_in (e ∷ older) t = atom_in older t

abbrev pub IsSealed : List Entry → (atom : ℕ) → Type 0
IsSealed [] a = ⊥
IsSealed (Sealed atom ∷ older) a = (a ≡ atom.0) ⊎ IsSealed older a
IsSealed (e ∷ older) a = IsSealed older a

abbrev pub IsCommitted : List Entry → (atom : ℕ) → Type 0
IsCommitted [] a = ⊥
IsCommitted (Committed atom clock ∷ older) a = (a ≡ atom.0) ⊎ IsCommitted older a
IsCommitted (e ∷ older) a = IsCommitted older a

-- an atom, named by its smallest transaction, one that was begun; and it is not sealed
pub record IsUnsealed (trace : List Entry) (atom : ℕ) : Type 0 where
  pub counted : (0 < atom) × (atom ≤ begun_in trace)
  pub own : atom_in trace atom ≡ atom
  pub unsealed : IsSealed trace atom → ⊥

abbrev pub last_sealed : List Entry → Option ℕ
last_sealed [] = None
last_sealed (Sealed atom ∷ older) = Some atom.0
last_sealed (e ∷ older) = last_sealed older

-- ---- the first atoms that were sealed

-- an atom is among the first k that were sealed, and a transaction is one of theirs
abbrev pub in_first : List Entry → (k atom : ℕ) → Bool
in_first [] k a = false
in_first (Sealed atom ∷ older) k a =
    ((a == atom.0) && nat_lt (sealed_in older) k) || in_first older k a
in_first (e ∷ older) k a = in_first older k a

abbrev pub is_first : List Entry → (k txn : ℕ) → Bool
is_first trace k t = in_first trace k (atom_in trace t)

-- ---- what is acknowledged

-- An Acked entry says that the transaction is durable.
abbrev pub IsSaid : List Entry → (txn : ℕ) → Type 0
IsSaid [] t = ⊥
IsSaid (Acked script txn clock ∷ older) t =
    ((t ≤ txn.0) × IsBegun older t script.0) ⊎ IsSaid older t
IsSaid (e ∷ older) t = IsSaid older t

-- One with a clock of at most m says so.
abbrev pub IsAcked : List Entry → (m txn : ℕ) → Type 0
IsAcked [] m t = ⊥
IsAcked (Acked script txn clock ∷ older) m t =
    ((clock ≤ m) × (t ≤ txn.0) × IsBegun older t script.0) ⊎ IsAcked older m t
IsAcked (e ∷ older) m t = IsAcked older m t
