-- What is deferred goes along with a run.
use Rattle.std.specs.Prelude.{◌≡◌, Option, Some}
use Rattle.r4_base.specs.declared.things.AtomNo.{AtomNo}
use Rattle.r4_kept.specs.r4_durable.GoingOn.{MarksAlike}
use Rattle.r4_kept.specs.r4_flushed.Deferred.{AreDeferred, AreDeferredBut}
use Rattle.r4_kept.specs.r4_sealed.Commits.{IsLater}
use Rattle.r4_kept.specs.r4_sets.Session.{Session}
use Rattle.r4_kept.specs.r4_space.Lawful.{IsLawful}
use Rattle.r4_kept.specs.r4_space.Space.{Space}
use Rattle.r4_kept.specs.declared.parts.Commit.{Commit}

-- What is deferred goes along, and so does the space of the commit of this atom.
pub record FollowsFor (a : AtomNo) (c now : Session) (s later : Space) : Type 0 where
  pub but : AreDeferredBut a c s → AreDeferredBut a now later
  pub on : (x : Space) → IsLater x s a → IsLater x later a

pub record Follows (commit : Option Commit) (c now : Session) (s later : Space) : Type 0 where
  pub defers : AreDeferred c s → AreDeferred now later
  pub alike : MarksAlike s later
  pub lawful : IsLawful later
  pub under_way : (k : Commit) → commit ≡ Some k → FollowsFor k.atom c now s later
