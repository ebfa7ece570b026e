-- Sets of blocks that the log keeps, and the smallest original among them.
use Rattle.std.specs.Prelude.{◌≡◌, ◌⊎◌, ◌↔◌, ℕ, ◌≤◌, true, List, Contains, Option, Some, None}
use Rattle.std.specs.Ordering.{nat_cmp}
use Rattle.std.specs.BTreeSet.{BTreeSet, contains_by}
use Rattle.r4_base.specs.Chain.{Txn, originals, kept_blocks}

abbrev pub Has : BTreeSet ℕ → ℕ → Type 0
Has set b = contains_by (nat_cmp b) set ≡ true

-- no block is put in place and kept
abbrev pub IsApart : List Txn → Type 0
IsApart chain = (b : ℕ) → Contains (originals chain) b → Contains (kept_blocks chain) b → ⊥

-- The set has the blocks that a chain keeps.
pub record HasKept (chain : List Txn) (set : BTreeSet ℕ) : Type 0 where
  pub each : (b : ℕ) → Has set b ↔ Contains (kept_blocks chain) b

-- The set has what it had, and these blocks.
pub record Adds (old : BTreeSet ℕ) (blocks : List ℕ) (new : BTreeSet ℕ) : Type 0 where
  pub each : (b : ℕ) → Has new b ↔ (Has old b ⊎ Contains blocks b)

-- The smallest of these blocks that the set has, or the one before.
abbrev pub IsSmallestIn : BTreeSet ℕ → List ℕ → (before result : Option ℕ) → Type 0
IsSmallestIn set blocks before None = (before ≡ None) × ((b : ℕ) → Contains blocks b → Has set b → ⊥)
IsSmallestIn set blocks before (Some s) = ((before ≡ Some s) ⊎ (Contains blocks s × Has set s)) × ((b : ℕ) → before ≡ Some b → s ≤ b) × ((b : ℕ) → Contains blocks b → Has set b → s ≤ b)
