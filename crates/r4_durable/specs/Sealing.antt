-- A closed atom is sealed, and what a crash leaves of its commit (docs/durable.md).
--     Sealing      the session before it, the flush, the plan, and the cells under the new names
--     IsSealing    what is asked of all these
--     MeansInPart  what an image means by the part of the commit that is under way
use Rattle.std.specs.Prelude.{◌≡◌, ◌⊎◌, ℕ, zero, suc, Option}
use Rattle.r4_base.specs.Image.{Image}
use Rattle.r4_base.specs.Tree.{Store}
use Rattle.r4_base.specs.Value.{Content, Value}
use Rattle.r4_base.specs.Volume.{HasContent, root_of}
use Rattle.r4_content.specs.Locality.{commands}
use Rattle.r4_flushed.specs.r4_trace.Folds.{after_first}
use Rattle.r4_flushed.specs.r4_trace.Ids.{Start}
use Rattle.r4_flushed.specs.r4_trace.Job.{Asked}
use Rattle.r4_flushed.specs.r4_trace.Safe.{HasFirst}
use Rattle.r4_flushed.specs.r4_trace.Traced.{committed_in, sealed_in}
use Rattle.r4_flushed.specs.r4_wander.declared.plan.LogPlan.{LogPlan}
use Rattle.r4_flushed.specs.r4_sets.Session.{Session, Sets, in_under}
use Rattle.r4_flushed.specs.r4_sets_told.Runs.{CountsObjects, IsLawfulRun}
use Rattle.r4_flushed.specs.r4_sealed.Commits.{Commit, HasPlan}
use Rattle.r4_flushed.specs.r4_sealed.Contents.{RenewsSuper}
use Rattle.r4_flushed.specs.Flushed.{IsSealedTo, sealed_to}
use Rattle.r4_flushed.specs.r4_placed.Flushing.{Flushing, IsAtRest, commit_by_block}
use Rattle.r4_durable.specs.Meaning.{IsVolumeLike}

pub record Sealing : Type 0 where
  pub session : Session
  pub flush : Flushing
  pub plan : LogPlan
  -- the cells with the atom in place, and those in memory, under the names of blocks
  pub under : Store Value
  pub memory : Store Value

-- the session with the atom sealed
abbrev pub session_after : Sealing → Session
session_after x = sealed_to x.session x.flush x.under x.memory

-- the commit that follows: its plan is made for the cells under the names of their blocks
abbrev pub commit_in : Sealing → Commit
commit_in x = commit_by_block x.flush x.plan

-- with what the run of a session began
abbrev pub start_in : Session → (next_id : ℕ) → Start
start_in c next_id = record { content = c.start; next_id = next_id }

-- what the first k atoms of a session made
abbrev pub made_by : (limit : ℕ) → Session → (k : ℕ) → Content
made_by limit c k = after_first (commands limit) c.start c.trace k

-- No atom of the session is sealed, and its sets mean what they should; the run is lawful. The flush begins with the
-- image of what is committed, and the atom is sealed under the names of its blocks. The plan is the commit's. And the
-- superblock to come has the root of the cells with the atom in place, and counts the objects of all that is sealed.
pub record IsSealing (limit next_id : ℕ) (job : Option Asked) (n : ℕ) (x : Sealing) : Type 0 where
  pub sets : Sets (commands limit) x.session
  pub run : IsLawfulRun limit (start_in x.session next_id) job x.session.trace
  pub none_sealed : sealed_in x.session.trace ≡ committed_in x.session.trace
  pub rest : IsAtRest n x.flush (made_by limit x.session (committed_in x.session.trace))
  pub to : IsSealedTo x.session x.flush rest.content.store x.under x.memory
  pub plan : HasPlan (commit_in x)
  pub renews : RenewsSuper rest.content.super x.flush.next
  pub root : (session_after x).under.root ≡ root_of x.flush.next
  pub counts : CountsObjects limit (start_in x.session next_id) (in_under (session_after x)) (session_after x).trace
      x.flush.next

-- ---- what a crash leaves

-- The image has the volume of the first k atoms, in which each Done has its reply, with this next id; and just the
-- blocks are lost in it that are lost in the content c.
abbrev pub MeansFirst :
    (limit : ℕ) → Session → (k : ℕ) → {n : ℕ} {old : Image} {o : Content} → HasContent n old o → (next_id : ℕ)
    → Image → Type 0
MeansFirst limit c k d next_id image = HasFirst (IsVolumeLike d next_id) (commands limit) c.start c.trace k image

-- While the first part is under way the committed atoms, with the old next id; while the journal header is these, or
-- all that is sealed with the new next id; and then the latter.
abbrev pub MeansInPart :
    (limit : ℕ) → Session → {n : ℕ} {old : Image} {o : Content} → HasContent n old o → (next_id part : ℕ) → Image
    → Type 0
MeansInPart limit c d next_id zero image = MeansFirst limit c (committed_in c.trace) d d.super.oid image
MeansInPart limit c d next_id (suc zero) image =
    MeansFirst limit c (committed_in c.trace) d d.super.oid image
    ⊎ MeansFirst limit c (sealed_in c.trace) d next_id image
MeansInPart limit c d next_id (suc (suc i)) image = MeansFirst limit c (sealed_in c.trace) d next_id image
