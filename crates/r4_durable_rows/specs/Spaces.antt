-- Spaces in which blocks are given back too late or too early (docs/durable.md, "Wrong bodies").
use Rattle.std.specs.Prelude.{ℕ, false, slice_set}
use Rattle.r4_base.specs.Image.{Image}
use Rattle.r4_space.specs.Space.{Space, settled}
use Rattle.r4_wander.specs.LogPlan.{parts_of}
use Rattle.r4_wander.specs.Parts.{base_of}
use Rattle.r4_commit.specs.Planned.{blocks_of, with_all_held}
use Rattle.r4_sealed.specs.Commits.{Commit}

-- the space while the commit is made: the blocks of its log are held
abbrev pub holding : Commit → Space
holding work = with_all_held work.space work.atom (blocks_of work.plan)

-- and as it has settled
abbrev pub given_back : Commit → Space
given_back work = settled (holding work) work.atom

-- too late: the atom settles, and the blocks of its log stay held
abbrev pub never_given_back : Commit → Space
never_given_back work = record (given_back work) { held = (holding work).held }

-- the image of the commit once its journal header is synced, and before any home is written
abbrev pub headed : Commit → Image
headed work = base_of (parts_of work.plan) work.base 2

-- too early: a block that is freed is unmarked at once, where it should be deferred
abbrev pub freed_at_once : Space → ℕ → Space
freed_at_once s b = record s { marked = slice_set s.marked b false }
