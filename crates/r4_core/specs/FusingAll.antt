-- Other atoms with which one fuses.
use Rattle.std.specs.Prelude.{◌≡◌, ◌≢◌, ◌+◌, ◌≤◌, ℕ, Contains, List, None}
use Rattle.std.specs.Prelude.{length}
use Rattle.r4_atoms.specs.Atoms.{IsOpenAtom}
use Rattle.r4_others.specs.r4_history.Serving.{Rise}
use Rattle.r4_ready.specs.r4_kept.History.{owed, owed_for_commit}
use Rattle.r4_ready.specs.r4_kept.View.{CoreSeen}

-- An atom may fuse with these, one after another: all of them are open, and they are others and
-- rise. There is room for an entry for each.
pub record CanFuseAll {D : Type 0} (c : CoreSeen D) (own : ℕ) (others : List (ℕ × ℕ)) : Type 0
  where
    pub sound : c.broken ≡ None
    pub is_open : IsOpenAtom c.atoms own
    pub rise : Rise others
    pub each : (p : ℕ × ℕ) → Contains others p → IsOpenAtom c.atoms p.0 × (p.0 ≢ own)
    pub room : owed c.turns + owed_for_commit c.commit + length others ≤ c.trace.spare
