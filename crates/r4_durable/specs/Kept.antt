-- What is kept of a run that began with a volume, while no commit is under way (docs/durable.md).
--     Rests      the image, with its space: it has the committed cells
--     IsSession  the session
--     Means      both
--     IsKept     on a device
use Rattle.std.specs.Prelude.{◌≡◌, ◌⊎◌, ◌↔◌, ℕ, [], ◌∷◌, map, Option, false, slice_index_or}
use Rattle.r4_base.specs.Chain.{HasLog, committed}
use Rattle.r4_base.specs.Image.{AreDifferent, Image, IsImage}
use Rattle.r4_base.specs.Volume.{IsLost, root_of}
use Rattle.r4_base.specs.declared.superblock.Super40.{Super40}
use Rattle.r4_content.specs.Locality.{commands}
use Rattle.r4_outside.specs.Device.{IsQuiet, State, TellsCrashes, TellsReads}
use Rattle.r4_open.specs.r4_space.Lawful.{IsLawful}
use Rattle.r4_open.specs.r4_space.Bitmaps.{told_space}
use Rattle.r4_open.specs.r4_space.Space.{Space, settled}
use Rattle.r4_open.specs.Opening.{IsOpening}
use Rattle.r4_open.specs.declared.opened.Opened.{Opened}
use Rattle.r4_flushed.specs.r4_place.Chosen.{AreChosen, placed_all}
use Rattle.r4_flushed.specs.r4_trace.Job.{Asked}
use Rattle.r4_flushed.specs.r4_trace.Safe.{IsSafeFrom}
use Rattle.r4_flushed.specs.r4_trace.Traced.{committed_in, sealed_in}
use Rattle.r4_flushed.specs.r4_wander.Safe.{WithAtom}
use Rattle.r4_flushed.specs.r4_wander.declared.plan.LogPlan.{LogPlan}
use Rattle.r4_flushed.specs.r4_sets.Atoms.{opened}
use Rattle.r4_flushed.specs.r4_sets.Session.{Session, Sets, in_under}
use Rattle.r4_flushed.specs.r4_sets_told.Runs.{CountsObjects, IsLawfulRun}
use Rattle.r4_flushed.specs.r4_sealed.Commits.{HasPlan, IsLater}
use Rattle.r4_flushed.specs.r4_sealed.Contents.{HasContentWith, RenewsSuper}
use Rattle.r4_flushed.specs.r4_sealed.Written.{IsSpaceOf}
use Rattle.r4_flushed.specs.Deferred.{AreDeferred}
use Rattle.r4_flushed.specs.Flushed.{IsFlush, OwnsBlocks, with_flushed}
use Rattle.r4_flushed.specs.r4_placed.Flushing.{Flushing, commit_by_block}
use Rattle.r4_durable.specs.Meaning.{Beginning, IsNextId, WasLost, first_id, means as meant, start_of}
use Rattle.r4_durable.specs.Sealing.{Sealing, commit_in, made_by, session_after, start_in}

-- Nothing is unflushed in the image; it has the committed cells, with the content of the committed atoms. The space is
-- its own, and no block is placed. Its next id may have been reached, and just the blocks are lost that were lost at
-- the beginning.
pub record Rests (limit : ℕ) (b : Beginning) (c : Session) (s : Space) (image : Image) : Type 0 where
  pub whole : IsImage b.blocks image
  pub log : HasLog b.blocks image []
  pub super40 : Super40
  pub has : HasContentWith b.blocks image super40 c.base.cells (made_by limit c (committed_in c.trace))
  pub root : c.base.root ≡ root_of super40
  pub lawful : IsLawful s
  pub here : IsSpaceOf has.content s
  pub none_placed : (k : ℕ) → slice_index_or s.placed k false ≡ false
  pub next_id : IsNextId b super40.oid
  pub lost : (k : ℕ) → IsLost has.content k ↔ WasLost b k

-- The session began with the content of the beginning; each of its sets means what it should; the run is lawful; and a
-- block that an open atom owns is one of a cell under the open atoms.
pub record IsSession (limit : ℕ) (b : Beginning) (job : Option Asked) (c : Session) : Type 0 where
  pub start : c.start ≡ b.content
  pub sets : Sets (commands limit) c
  pub run : IsLawfulRun limit (start_in c (first_id b)) job c.trace
  pub owns : OwnsBlocks c

-- In a session no atom is sealed, and an image has its committed cells. Exactly those blocks are deferred for an open
-- atom whose cells it owns, and that are gone.
pub record Means (limit : ℕ) (b : Beginning) (job : Option Asked) (c : Session) (s : Space) (image : Image)
    : Type 0 where
  pub session : IsSession limit b job c
  pub none_sealed : sealed_in c.trace ≡ committed_in c.trace
  pub alone : c.under ≡ c.base
  pub deferred : AreDeferred c s
  pub rests : Rests limit b c s image

-- What the device reads means that; from the clock t on a crash left what it should; and now it leaves what is read.
pub record IsKept
    (limit : ℕ) (b : Beginning) (job : Option Asked) (c : Session) (s : Space) (t : ℕ) (d : State) : Type 0 where
  pub means : TellsReads d → Means limit b job c s d.seen
  pub durable : TellsCrashes d → IsSafeFrom (meant b) (commands limit) b.content t c.trace d
  pub now : TellsCrashes d → IsQuiet d

-- ---- a flush from there

-- The cells of the flush have different names, and blocks were chosen for them; its head is the one that the journal
-- header names.
pub record HasChosen (work : Flushing) : Type 0 where
  pub prev : work.last.0 ≡ committed work.base
  pub still_lawful : IsLawful (placed_all work.space work.answers)
  pub names : AreDifferent (map (λ x. x.id) work.cells)
  pub chosen : AreChosen 22 work.space work.cells work.answers

-- the atom is sealed under the names of its blocks
abbrev pub sealing_of : Session → Flushing → LogPlan → Sealing
sealing_of c work plan = record {
  session = c;
  flush = work;
  plan = plan;
  under = with_flushed c work c.base.cells;
  memory = with_flushed c work c.memory;
}

-- What a flush has to show, where the committed superblock is this: the blocks that were chosen, its cells with their
-- names renamed, the plan, and the superblock to come.
pub record CanSeal
    (limit : ℕ) (b : Beginning) (c : Session) (super40 : Super40) (work : Flushing) (plan : LogPlan) : Type 0 where
  pub chosen : HasChosen work
  pub flushed : IsFlush c work
  -- the space is sealed for the atom before its blocks are chosen, or later
  pub sealed : (work.space.sealed ≡ []) ⊎ (work.space.sealed ≡ work.atom ∷ [])
  pub has_plan : HasPlan (commit_by_block work plan)
  pub renews : RenewsSuper super40 work.next
  pub root : (session_after (sealing_of c work plan)).under.root ≡ root_of work.next
  pub counts : CountsObjects limit (start_in c (first_id b)) (in_under (session_after (sealing_of c work plan)))
      (session_after (sealing_of c work plan)).trace work.next

-- From what is kept a flush is sealed and committed, with a next id that may have been reached.
pub record IsUnderWay
    (limit : ℕ) (b : Beginning) (job : Option Asked) (c : Session) (work : Flushing) (plan : LogPlan) : Type 0 where
  pub kept : Means limit b job c work.space work.base
  pub can : CanSeal limit b c kept.rests.super40 work plan
  pub next_id : IsNextId b work.next.oid

-- ---- and when its commit has settled

-- The image settles as with the atom, and nothing is unflushed; the space is that of the commit, or later.
pub record HasSettled (b : Beginning) (x : Sealing) (later : Space) (image : Image) : Type 0 where
  pub whole : IsImage b.blocks image
  pub log : HasLog b.blocks image []
  pub with_it : WithAtom b.blocks x.flush.base [] x.plan image
  pub is_later : IsLater (commit_in x).space later x.flush.atom
  pub lawful : IsLawful (settled later x.flush.atom)

-- ---- opening

-- the space that the bitmaps tell which an opening found
abbrev pub space_of : Opened → Space
space_of o = told_space o.super40.block_count o.bitmaps.items

-- The lawful run begins, the image was opened, and its space is lawful.
pub record HasOpened (limit : ℕ) (b : Beginning) (job : Option Asked) (o : Opened) (image : Image) : Type 0 where
  pub run : IsLawfulRun limit (start_of b) job []
  pub opening : IsOpening b.blocks image o
  pub lawful : IsLawful (space_of o)

-- the session with which it begins
abbrev pub session_of : Beginning → Session
session_of b = opened b.volume.content.store (root_of b.volume.content.super) b.content
