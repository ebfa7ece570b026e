-- No write of a commit falls on a block that an image needs which a crash may leave meanwhile, but for the homes.
use Rattle.std.proofs.Common.{◌≡◌, ◌≢◌, ℕ, List, [], Option, Some, None}
use Rattle.r4_base.proofs.Choices.{never_both}
use Rattle.r4_base.specs.Chain.{Txn}
use Rattle.r4_base.specs.Image.{Image}
use Rattle.r4_base.specs.Value.{Content}
use Rattle.r4_base.specs.Volume.{HasVolume, Needs}
use Rattle.r4_base.specs.declared.things.AtomNo.{AtomNo}
use Rattle.r4_ready.specs.r4_commit.Plannable.{is_spoken_for}
use Rattle.r4_ready.specs.r4_commit.Planned.{CommitSeen}
use Rattle.r4_ready.proofs.r4_commit.Safety.{first_free}
use Rattle.r4_content.specs.Meaning.{greatest_size}
use Rattle.r4_ready.specs.r4_durable.Kept.{sealing_of}
use Rattle.r4_ready.specs.r4_durable.Meaning.{Beginning, IsNamed, first_id}
use Rattle.r4_ready.specs.r4_durable.Sealing.{IsSealing, Sealing, commit_in, made_by}
use Rattle.r4_ready.proofs.r4_durable.Flushes.{is_sealing}
use Rattle.r4_ready.proofs.r4_durable.SealedContent.{here, ok}
use Rattle.r4_flushing.proofs.r4_flushed.FlushedCells.{FitsOnDisk}
use Rattle.r4_outside.specs.Device.{State, TellsCrashes}
use Rattle.r4_flushing.proofs.r4_sealed.Kept.{needed}
use Rattle.r4_flushing.specs.r4_sets.Session.{Session}
use Rattle.r4_space.specs.Space.{Space}
use Rattle.r4_trace.specs.Job.{Asked}
use Rattle.r4_trace.specs.Traced.{committed_in}
use Rattle.r4_wander.specs.LogPlan.{first}
use Rattle.r4_wander.specs.Needed.{SparesNeeded}
use Rattle.r4_wander.specs.Progress.{Commits, Stands}
use Rattle.r4_wander.specs.Torn.{IsTarget}
use Rattle.r4_wander.specs.declared.plan.LogPlan.{LogPlan}
use Rattle.r4_ready.specs.r4_kept.Durable.{StandsAt}
use Rattle.r4_ready.specs.r4_kept.Kept.{IsKept}
use Rattle.r4_ready.specs.r4_kept.Meaning.{IsFlushing, IsInCommit}
use Rattle.r4_ready.specs.r4_kept.Naming.{Naming, job_named, names_in}
use Rattle.r4_ready.specs.r4_kept.Steps.{Writes}
use Rattle.r4_ready.specs.r4_kept.Story.{Flush}
use Rattle.r4_ready.specs.r4_kept.View.{CoreSeen}
use Rattle.r4_ready.specs.r4_kept.declared.parts.Commit.{Commit}
use Rattle.r4_ready.specs.r4_kept.declared.parts.Volume.{Volume}
use Rattle.r4_core.proofs.Writing.{at_hand, small}

-- what a step of the writer says of needed blocks
abbrev pub SparesWhere : State → State → CommitSeen → Type 0
SparesWhere d e w =
    (n : ℕ) (base : Image) (chain : List Txn) (p : LogPlan) (m : Content) (v : HasVolume n base m)
    → Commits w.work n base chain p → Stands w.work base d → w.work.part ≢ 2
    → ((b : ℕ) → IsTarget (first p) b → Needs v b → ⊥) → SparesNeeded d e

module _ (disk : FitsOnDisk) (b : Beginning) (job : Option Asked) (c : Session) (s : Space) (vol : Volume)
    (d e : State) (k : AtomNo) (w : CommitSeen) (spares : SparesWhere d e w) (other : w.work.part ≢ 2) where
  module _ (f : Flush) (h : IsFlushing b job c s d f k w) where
    abbrev x : Sealing
    x = sealing_of f.before f.work f.plan

    abbrev sealing : IsSealing greatest_size (first_id b) job b.blocks x
    sealing = is_sealing greatest_size b job f.before f.work f.plan h.way.kept h.way.can

    abbrev volume : HasVolume b.blocks f.work.base
        (made_by greatest_size f.before (committed_in f.before.trace))
    volume = record {
      whole = h.way.kept.rests.whole;
      chain = [];
      log = h.way.kept.rests.log;
      content = sealing.rest.content;
    }

    free : (n : ℕ) → IsTarget (first f.plan) n → Needs volume n → ⊥
    free n target need =
        let fits = ok disk greatest_size small (first_id b) job b.blocks x sealing in
        let work = commit_in x in
        never_both (is_spoken_for work.space n)
        (needed b.blocks work fits _ sealing.rest.content
        (here disk greatest_size small (first_id b) job b.blocks x sealing) h.way.kept.rests.log h.way.kept.rests.whole
        n need)
        (first_free b.blocks work.base [] work.space work.atom work.cells work.answers work.next work.last work.plan
        fits.is_for fits.plannable n target)

    spared : Stands w.work f.work.base d → SparesNeeded d e
    spared stands = spares b.blocks f.work.base [] f.plan _ volume h.commits stands other free

  spared_by : (f : Option Flush) → IsInCommit b job c s vol d f k (Some w) → StandsAt d f (Some w) → SparesNeeded d e
  spared_by None h stands = absurd h
  spared_by (Some f) h stands = spared f h stands

pub spares_needed : {D : Type 0} (disk : FitsOnDisk) (r : Naming) (d e : State) (c : CoreSeen D) (k : Commit)
    (w : CommitSeen) → IsKept r d c → Writes c k w → SparesWhere d e w → w.work.part ≢ 2 → (b : Beginning) (t : ℕ)
    → IsNamed (names_in r) d.blocks b → r.clock ≡ Some t → TellsCrashes d → SparesNeeded d e
spares_needed disk r d e c k w h writes spares other b t named at tells =
    let was = (at_hand r d c k w h writes).story b named in
    spared_by disk b (job_named r.scripts) was.story.session c.space c.volume d e k.atom w spares other was.story.flush
    was.means.at (was.durable t at tells).now
