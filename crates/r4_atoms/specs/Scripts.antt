-- The transactions of each script, of which each tells the one before it.
use Rattle.std.specs.Prelude.{◌≡◌, ◌≢◌, ℕ, ◌+◌, ◌-◌, ◌<◌, ◌≤◌, List, length, map, slice_index, slice_index_or, Option, Some, None}
use Rattle.r4_atoms.specs.declared.scripts.Begun.{Begun}
use Rattle.r4_atoms.specs.Owned.{label_of}

-- the script of each transaction, and for how many more transactions there is room
pub record Scripted : Type 0 where
  pub scripts : List ℕ
  pub spare : ℕ

-- Of the first `k` transactions the last one of a script, numbered from 1; 0 where it has none of them.
pub record IsLatest (scripts : List ℕ) (script k t : ℕ) : Type 0 where
  pub within : t ≤ k
  pub own : 0 < t → slice_index scripts (t - 1) ≡ script
  pub last : (i : ℕ) → t ≤ i → i < k → slice_index scripts i ≢ script

abbrev pub script_of : Begun → ℕ
script_of b = b.script

abbrev pub scripts_of : List Begun → List ℕ
scripts_of begun = map script_of begun

abbrev pub no_begun : Begun
no_begun = record { script = 0; before = 0 }

abbrev pub begun_at : List Begun → ℕ → Begun
begun_at begun i = slice_index_or begun i no_begun

-- the number, or 0
abbrev pub or_none : Option ℕ → ℕ
or_none None = 0
or_none (Some t) = t

-- each script leads to its last transaction, and each transaction to the one before it
pub record AreLinked (begun : List Begun) (last : List (ℕ × ℕ)) : Type 0 where
  pub latest : (script : ℕ) → IsLatest (scripts_of begun) script (length begun) (or_none (label_of script last))
  pub before : (i : ℕ) → i < length begun → IsLatest (scripts_of begun) (begun_at begun i).script i (begun_at begun i).before

-- the table and the row have room for `spare` more
pub record HaveSpare (in_row places capacity spare : ℕ) : Type 0 where
  pub table : spare ≤ places
  pub row : in_row + spare ≤ capacity
