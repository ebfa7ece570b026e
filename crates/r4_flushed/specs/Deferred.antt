-- Which blocks are deferred for the open atoms of a session (docs/durable.md).
use Rattle.std.specs.Prelude.{◌≡◌, ◌≢◌, ◌↔◌, ℕ, true, Some}
use Rattle.r4_base.specs.declared.things.AtomNo.{AtomNo}
use Rattle.r4_placed.specs.r4_space.Space.{Space, claims_of, is_claimed}
use Rattle.r4_placed.specs.r4_sets.Session.{Session}
use Rattle.r4_flushed.specs.Flushed.{IsGone}

-- the block is deferred for the atom
abbrev pub IsDeferred : Space → AtomNo → ℕ → Type 0
IsDeferred s a b = is_claimed (claims_of a s.deferred) b ≡ true

-- For each atom exactly those blocks are deferred whose cells under the open atoms it owns, and that are gone from
-- memory.
abbrev pub AreDeferred : Session → Space → Type 0
AreDeferred c s = (a : AtomNo) (b : ℕ) → IsDeferred s a b ↔ IsGone c a c.under.cells b

-- The same for each atom but one, which owns nothing, as where it is sealed.
pub record AreDeferredBut (atom : AtomNo) (c : Session) (s : Space) : Type 0 where
  pub others : (a : AtomNo) (b : ℕ) → a.0 ≢ atom.0 → IsDeferred s a b ↔ IsGone c a c.under.cells b
  pub none : (b : ℕ) → c.owner b ≡ Some atom.0 → ⊥
