-- Steps of a run that seal and commit nothing (docs/durable.md).
use Rattle.std.specs.Prelude.{◌≡◌, List, [], ◌∷◌, ◌++◌}
use Rattle.r4_open.specs.r4_space.Space.{Space}
use Rattle.r4_flushed.specs.r4_trace.declared.entry.Entry.{Entry}
use Rattle.r4_flushed.specs.r4_trace.declared.entry.Entry.TheVariants.{Committed, Sealed}
use Rattle.r4_flushed.specs.r4_trace.Order.{IsOrdered}
use Rattle.r4_flushed.specs.r4_sets.Session.{Session}

-- the entry seals no atom and commits none
abbrev pub SealsNothing : Entry → Type 0
SealsNothing (Sealed atom) = ⊥
SealsNothing (Committed atom clock) = ⊥
SealsNothing e = Unit {0}

abbrev pub SealNothing : List Entry → Type 0
SealNothing [] = Unit {0}
SealNothing (e ∷ es) = SealsNothing e × SealNothing es

-- The session has such entries more, which are in order; the committed cells and those under the open atoms are as they
-- were.
pub record GoesOn (c now : Session) (more : List Entry) : Type 0 where
  pub start : now.start ≡ c.start
  pub trace : now.trace ≡ more ++ c.trace
  pub base : now.base ≡ c.base
  pub under : now.under ≡ c.under
  pub legal : IsOrdered (more ++ c.trace)
  pub none : SealNothing more

-- the space marks and places the same blocks
pub record MarksAlike (s later : Space) : Type 0 where
  pub count : later.block_count ≡ s.block_count
  pub marked : later.marked ≡ s.marked
  pub placed : later.placed ≡ s.placed
