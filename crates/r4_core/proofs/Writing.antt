-- A step of a commit's plan, in whatever part: what reading gives then, and what a crash leaves meanwhile. Where a call
-- of the device fails in it, what holds of a core holds still.
use Rattle.std.proofs.Common.{◌≡◌, ◌⊎◌, inl, inr, ⊎_elim, ℕ, zero, suc, ◌+◌, ◌-◌, ◌<◌, ◌≤◌, ◌^◌, List, [], ◌∷◌, ◌++◌}
use Rattle.std.proofs.Common.{length, take}
use Rattle.std.proofs.Common.{Option, Some, None, refl, sym, ◌∙◌, ap, subst, arith, true≢false}
use Rattle.std.specs.Option.{option_map}
use Rattle.r4_atoms.specs.Atoms.{numbers}
use Rattle.r4_base.specs.Image.{Image, block_at}
use Rattle.r4_base.specs.Layout.{IsLawfulSuper}
use Rattle.r4_base.specs.declared.superblock.Super40.{Super40}
use Rattle.r4_base.specs.declared.things.AtomNo.{AtomNo}
use Rattle.r4_base.proofs.Choices.{nothing_in}
use Rattle.r4_ready.specs.r4_commit.Planned.{CommitSeen}
use Rattle.r4_content.specs.Locality.{commands}
use Rattle.r4_content.specs.Meaning.{greatest_size}
use Rattle.r4_ready.specs.r4_durable.Meaning.{Beginning, BeginsWith, IsNamed, means, start_of}
use Rattle.r4_ready.proofs.r4_durable.GoingOn.{part_step, step_behind}
use Rattle.r4_ready.proofs.r4_durable.Staying.{ordered_before}
use Rattle.r4_flushing.proofs.r4_flushed.FlushedCells.{FitsOnDisk}
use Rattle.r4_others.proofs.r4_history.DrawnSteps.{drawn_entry}
use Rattle.r4_others.proofs.r4_history.TaskSteps.{tasks_other}
use Rattle.r4_others.proofs.r4_history.Told.{told_broken}
use Rattle.r4_outside.specs.Device.{Goes, LeavesOnly, State, TellsCrashes, TellsReads}
use Rattle.r4_flushing.specs.r4_placed.Flushing.{commit_by_block}
use Rattle.r4_flushing.specs.r4_sealed.Commits.{LeftInPart}
use Rattle.r4_flushing.specs.r4_sets.Atoms.{told}
use Rattle.r4_flushing.specs.r4_sets.Session.{Session}
use Rattle.r4_space.specs.Space.{Space}
use Rattle.r4_trace.specs.Job.{Asked}
use Rattle.r4_trace.specs.Kept.{Told}
use Rattle.r4_trace.specs.Order.{IsOrdered}
use Rattle.r4_trace.specs.Safe.{IsSafeFrom, Step}
use Rattle.r4_trace.specs.Traced.{latest}
use Rattle.r4_trace.specs.declared.entry.Entry.{Entry}
use Rattle.r4_trace.specs.declared.entry.Entry.TheVariants.{Broken, Committed}
use Rattle.r4_trace.proofs.Safely.{safe_push, safe_step}
use Rattle.r4_wander.specs.Parts.{Parts, base_of, part}
use Rattle.r4_wander.specs.Progress.{Commits, FitOn, IsNext, Progress, ReadsAs, Stands, stage_at, under_way}
use Rattle.r4_wander.specs.declared.stage.Stage.{Stage}
use Rattle.r4_wander.specs.declared.stage.Stage.TheVariants.{Copies, Footed, Headed, Homes, Logged}
use Rattle.r4_wander.specs.Safe.{ByPart}
use Rattle.r4_wander.specs.Torn.{IsTarget, Write, put_writes, targets}
use Rattle.r4_wander.specs.declared.plan.LogPlan.{LogPlan}
use Rattle.r4_base.specs.Chain.{Txn}
use Rattle.r4_wander.proofs.Members.{any_cases, any_here, any_later}
use Rattle.r4_wander.proofs.Settling.{put_writes_other}
use Rattle.r4_ready.specs.r4_kept.Accounts.{AreAccounts}
use Rattle.r4_ready.specs.r4_kept.Cells.{AreCells, AreReadable, IsWriting}
use Rattle.r4_ready.specs.r4_kept.Durable.{IsDurable, StandsAt}
use Rattle.r4_ready.specs.r4_kept.History.{IsHistory}
use Rattle.r4_ready.specs.r4_kept.Kept.{HasStory, IsKept}
use Rattle.r4_ready.specs.r4_kept.Meaning.{ComesFrom, HasMeaning, IsFlushing, IsInCommit, IsInPart}
use Rattle.r4_ready.specs.r4_kept.Naming.{Naming, job_named, names_in}
use Rattle.r4_ready.specs.r4_kept.Steps.{IsAtPlan, IsQuietPart, Writes, failed, with_entry, writing}
use Rattle.r4_ready.specs.r4_kept.Story.{Flush, Headed as HeadedThen, Story}
use Rattle.r4_ready.specs.r4_kept.View.{CoreSeen, blocks_of, tables_of}
use Rattle.r4_ready.specs.r4_kept.declared.parts.Commit.{Commit}
use Rattle.r4_ready.specs.r4_kept.declared.parts.Volume.{Volume}
use Rattle.r4_ready.proofs.r4_kept.Carried.{session_told}
use Rattle.r4_ready.proofs.r4_kept.Owing.{owes_one}

-- ---- blocks that no part writes

fewer_targets : (k : ℕ) (ws : List Write) (i : ℕ) → IsTarget (take k ws) i → IsTarget ws i
fewer_targets zero ws i h = absurd (nothing_in i h)
fewer_targets (suc k) [] i h = absurd (nothing_in i h)
fewer_targets (suc k) (w ∷ ws) i h = ⊎_elim (λ here. any_here w.0 (targets ws) i here)
    (λ later. any_later w.0 (targets ws) i (fewer_targets k ws i later)) (any_cases w.0 (targets (take k ws)) i h)

module _ (plan : Parts) (base : Image) (i : ℕ) (apart : (p : ℕ) → IsTarget (part plan p) i → ⊥) where
  pub same_base : (p : ℕ) → block_at (base_of plan base p) i ≡ block_at base i
  same_base zero = refl
  same_base (suc p) = put_writes_other (part plan p) (base_of plan base p) i (apart p) ∙ same_base p

  same_so_far : (p k : ℕ) → block_at (put_writes (take k (part plan p)) (base_of plan base p)) i ≡ block_at base i
  same_so_far p k =
      put_writes_other (take k (part plan p)) (base_of plan base p) i
      (λ h. apart p (fewer_targets k (part plan p) i h)) ∙ same_base p

-- reading gives there what it gave as the commit began
pub read_apart : (w : Progress) (base : Image) (d : State) (i : ℕ) → ((p : ℕ) → IsTarget (part w.plan p) i → ⊥)
    → ReadsAs w base d → block_at d.seen i ≡ block_at base i
read_apart w base d i apart h =
    ap (λ (image : Image). block_at image i) h.seen ∙ same_so_far w.plan base i apart w.part w.done

-- ---- a step of the writer

-- what a step tells
pub record Steps (d e : State) (w v : CommitSeen) : Type 0 where
  pub goes : Goes d e
  pub plan : v.work.plan ≡ w.work.plan
  pub told : (v.head ≡ w.head) × (v.super40 ≡ w.super40)
  pub next : IsNext w.work v.work
  pub reads : (base : Image) → ReadsAs w.work base d → ReadsAs v.work base e
  pub stands : (base : Image) → Stands w.work base d → Stands v.work base e

-- and whatever comes of it
abbrev pub Settles : State → State → Progress → Type 0
Settles d e w = (n : ℕ) (base : Image) (chain : List Txn) (p : LogPlan) → Commits w n base chain p
    → Stands w base d → LeavesOnly d e (ByPart n base chain p w.part)

module _ (d e : State) (w v : CommitSeen) (steps : Steps d e w v) where
  pub apart_on : (i : ℕ) → ((p : ℕ) → IsTarget (part w.work.plan p) i → ⊥) → (p : ℕ)
      → IsTarget (part v.work.plan p) i → ⊥
  apart_on i apart p target =
      apart p (subst (λ (plan : Parts). IsTarget (part plan p) i) steps.plan target)

  -- what reading gives in a block that no part writes
  same_apart : (base : Image) (i : ℕ) → ((p : ℕ) → IsTarget (part w.work.plan p) i → ⊥) → ReadsAs w.work base d
      → block_at e.seen i ≡ block_at d.seen i
  same_apart base i apart h =
      read_apart v.work base e i (apart_on i apart) (steps.reads base h)
      ∙ sym (read_apart w.work base d i apart h)

-- ---- what is answered, by the part

abbrev pub IsQuietStage : Stage → Type 0
IsQuietStage Copies = Unit {0}
IsQuietStage Logged = Unit {0}
IsQuietStage Headed = ⊥
IsQuietStage Homes = Unit {0}
IsQuietStage Footed = ⊥

abbrev pub IsToldBy : (part : ℕ) → Stage → Type 0
IsToldBy p s = (IsQuietPart p × IsQuietStage s) ⊎ (((p ≡ 1) × (s ≡ Headed)) ⊎ ((p ≡ 3) × (s ≡ Footed)))

module _ (w v : Progress) (next : IsNext w v) where
  -- the parts of the journal header and the journal footer have one write, so a step ends each
  ended : length (under_way w) ≡ 1 → (v.part ≡ w.part + 1) × (v.done ≡ 0)
  ended one = ⊎_elim (λ x. let more = x.0 in absurd (omega (arith, more, one))) (λ x. (x.1, x.2)) next

  quiet_as : (p k : ℕ) → v.part ≡ p → v.done ≡ k → IsQuietStage (stage_at p k) → IsQuietStage (stage_at v.part v.done)
  quiet_as p k part done quiet =
      subst (λ (i : ℕ). IsQuietStage (stage_at i v.done)) (sym part)
      (subst (λ (n : ℕ). IsQuietStage (stage_at p n)) (sym done) quiet)

  stage_as : (p : ℕ) → v.part ≡ p → v.done ≡ 0 → stage_at v.part v.done ≡ stage_at p 0
  stage_as p part done = ap (λ (i : ℕ). stage_at i v.done) part ∙ ap (stage_at p) done

  part_told : (p : ℕ) → w.part ≡ p → p < 4 → IsToldBy w.part (stage_at v.part v.done)
  part_told zero is lt = inl (
    inl is,
    ⊎_elim
        (λ x. quiet_as 0 v.done (x.1 ∙ is) refl tt)
        (λ x. quiet_as 1 v.done (x.1 ∙ ap (λ (n : ℕ). n + 1) is) refl tt) next,
  )
  part_told (suc zero) is lt =
      let end = ended (ap (λ (i : ℕ). length (part w.plan i)) is) in
      inr (inl (is, stage_as 2 (end.0 ∙ ap (λ (n : ℕ). n + 1) is) end.1))
  part_told (suc (suc zero)) is lt = inl (
    inr is,
    ⊎_elim
        (λ x. (let done = x.2 in quiet_as 2 (suc (w.done + 3)) (x.1 ∙ is) (omega (arith, done)) tt))
        (λ x. quiet_as 3 v.done (x.1 ∙ ap (λ (n : ℕ). n + 1) is) refl tt) next,
  )
  part_told (suc (suc (suc zero))) is lt =
      let end = ended (ap (λ (i : ℕ). length (part w.plan i)) is) in
      inr (inr (is, stage_as 4 (end.0 ∙ ap (λ (n : ℕ). n + 1) is) end.1))
  part_told (suc (suc (suc (suc n)))) is lt = absurd (omega (arith, lt))

  pub header_told : w.part < 4 → (s : Stage) → s ≡ stage_at v.part v.done → s ≡ Headed → w.part ≡ 1
  header_told lt s at is = ⊎_elim
      (λ x. absurd (subst IsQuietStage (sym at ∙ is) x.1))
      (⊎_elim (λ x. x.0) (λ x. absurd (cc (sym is ∙ at ∙ x.1)))) (part_told w.part refl lt)

  pub footer_told : w.part < 4 → (s : Stage) → s ≡ stage_at v.part v.done → s ≡ Footed → w.part ≡ 3
  footer_told lt s at is = ⊎_elim
      (λ x. absurd (subst IsQuietStage (sym at ∙ is) x.1))
      (⊎_elim (λ x. absurd (cc (sym is ∙ at ∙ x.1))) (λ x. x.0)) (part_told w.part refl lt)

  pub quiet_told : w.part < 4 → (s : Stage) → s ≡ stage_at v.part v.done → (s ≡ Headed → ⊥) → (s ≡ Footed → ⊥)
      → IsQuietPart w.part
  quiet_told lt s at not_headed not_footed = ⊎_elim
      (λ x. x.0)
      (⊎_elim (λ x. absurd (not_headed (at ∙ x.1))) (λ x. absurd (not_footed (at ∙ x.1)))) (part_told w.part refl lt)

-- ---- what a crash leaves meanwhile

pub small : greatest_size < 2 ^ 64
small = omega arith

two_more : (n : ℕ) → 2 ≤ n → n ≡ suc (suc (n - 2))
two_more n le = omega (arith, le)

module _ (disk : FitsOnDisk) (b : Beginning) (job : Option Asked) (c : Session) (s : Space) (vol : Volume)
    (d e : State) (k : AtomNo) (w : CommitSeen) (goes : Goes d e)
    (settles : Settles d e w.work) (size : b.blocks ≡ d.blocks) (time : latest c.trace ≤ d.clock) where
  sized : e.blocks ≡ b.blocks
  sized = goes.blocks ∙ sym size

  flushing_step : (f : Flush) → IsFlushing b job c s d f k w → Stands w.work f.work.base d
      → Step (means b) (commands greatest_size) b.content c.trace d e
  flushing_step f h stands = by h.comes.headed h.comes.from h.comes.in_part
    where
      leaves : LeavesOnly d e (LeftInPart b.blocks (commit_by_block f.work f.plan) w.work.part)
      leaves = settles b.blocks f.work.base [] f.plan h.commits stands

      by : (o : Option HeadedThen) → ComesFrom b job f h.comes.more o c → IsInPart o w.work.part
          → Step (means b) (commands greatest_size) b.content c.trace d e
      by None from lt =
          subst (λ (l : List Entry). Step (means b) (commands greatest_size) b.content l d e) (sym from.trace)
          (part_step disk greatest_size small b job f.before f.work f.plan h.way h.comes.more from.legal from.none
          w.work.part d e sized (subst (λ (l : List Entry). latest l ≤ d.clock) from.trace time) goes leaves)
      by (Some hd) from le =
          let trace = from.behind.trace
          ∙ ap (λ (l : List Entry). hd.later ++ (Committed f.work.atom hd.clock ∷ l)) from.before.trace in
          let legal = subst
          (λ (l : List Entry). IsOrdered (hd.later ++ (Committed f.work.atom hd.clock ∷ l)))
          from.before.trace from.behind.legal in
          let next = ordered_before hd.later _ legal in
          subst (λ (l : List Entry). Step (means b) (commands greatest_size) b.content l d e) (sym trace)
          (step_behind disk greatest_size small b job f.before f.work f.plan h.way h.comes.more next.2
          from.before.none hd.clock hd.later legal from.behind.none next (w.work.part - 2) d e sized
          (subst (λ (l : List Entry). latest l ≤ d.clock) trace time) goes
          (subst (λ (i : ℕ). LeavesOnly d e (LeftInPart b.blocks (commit_by_block f.work f.plan) i))
          (two_more w.work.part le) leaves))

  commit_step : (f : Option Flush) → IsInCommit b job c s vol d f k (Some w) → StandsAt d f (Some w)
      → Step (means b) (commands greatest_size) b.content c.trace d e
  commit_step None h stands = absurd h
  commit_step (Some f) h stands = flushing_step f h stands

-- ---- a core

module _ {D : Type 0} (disk : FitsOnDisk) (r : Naming) (d e : State) (x : CoreSeen D) (k : Commit) (w : CommitSeen)
    (dev : D)
    (h : IsKept r d (record x { commit = Some (writing k w); broken = None })) (goes : Goes d e)
    (settles : Settles d e w.work) where
  abbrev trace : List Entry
  trace = x.trace.entries

  abbrev pub had : CoreSeen D
  had = record x { commit = Some (writing k w); broken = None }

  pub named_before : (b : Beginning) → IsNamed (names_in r) e.blocks b → IsNamed (names_in r) d.blocks b
  named_before b named = subst (λ (n : ℕ). IsNamed (names_in r) n b) goes.blocks named

  pub begun_before : (o : Option Beginning) → BeginsWith (names_in r) e.blocks o → BeginsWith (names_in r) d.blocks o
  begun_before o named = subst (λ (n : ℕ). BeginsWith (names_in r) n o) goes.blocks named

  pub lawful_super : IsLawfulSuper e.blocks x.volume.super40
  lawful_super = subst (λ (n : ℕ). IsLawfulSuper n x.volume.super40) (sym goes.blocks) h.cells.super40

  -- in a run that names its beginning
  module _ (b : Beginning) (named : IsNamed (names_in r) e.blocks b) where
    abbrev pub was : HasStory r b d had
    was = h.story b (named_before b named)

    pub in_time : latest was.story.session.trace ≤ d.clock
    in_time = subst (λ (l : List Entry). latest l ≤ d.clock) (sym was.means.trace) (h.history.told None tt).time

    meanwhile : (t : ℕ) → r.clock ≡ Some t → TellsCrashes d
        → Step (means b) (commands greatest_size) b.content trace d e
    meanwhile t at tells =
        subst (λ (l : List Entry). Step (means b) (commands greatest_size) b.content l d e) was.means.trace
        (commit_step disk b (job_named r.scripts) was.story.session x.space x.volume d e k.atom w goes settles
        (named_before b named).size in_time was.story.flush was.means.at (was.durable t at tells).now)

    pub still_safe : (t : ℕ) → r.clock ≡ Some t → TellsCrashes d
        → IsSafeFrom (means b) (commands greatest_size) b.content t trace e
    still_safe t at tells =
        safe_step (means b) (commands greatest_size) b.content t d e trace (meanwhile t at tells)
        (was.durable t at tells).each

  -- ---- the step is made

  module _ (v : CommitSeen) (steps : Steps d e w v) where
    pub same_read : (i : ℕ) → TellsReads d → ((p : ℕ) → IsTarget (part w.work.plan p) i → ⊥)
        → block_at e.seen i ≡ block_at d.seen i
    same_read i tells apart =
        same_apart d e w v steps h.cells.commit.base i apart (h.cells.commit.reads tells)

    pub readable_now : AreReadable e x.buffer (blocks_of x)
    readable_now =
        let g = h.cells.clean refl in
        record {
          accepted = g.accepted;
          same = λ tells i f at not.
              (let before = goes.reads.0 tells in
              g.same before i f at not
              ∙ sym (same_read i before (λ p target.
              absurd (true≢false (sym (h.cells.commit.apart i p f target at) ∙ not)))));
          names = g.names;
        }

    pub writing_now : v.work.part < 4 → IsWriting e x.buffer (blocks_of x) (numbers k.nodes) v
    writing_now lt =
        let g = h.cells.commit in
        record {
          fits = subst (λ (n : ℕ). FitOn n v.work.plan) (sym goes.blocks)
              (subst (FitOn d.blocks) (sym steps.plan) g.fits);
          unfinished = lt;
          within = ⊎_elim
              (λ y.
              (let enough = y.0 in
              let done = y.2 in
              let same : length (under_way v.work) ≡ length (under_way w.work) =
              ap (λ (i : ℕ). length (part v.work.plan i)) y.1
              ∙ ap (λ (plan : Parts). length (part plan w.work.part)) steps.plan in
              omega (arith, enough, done, same)))
              (λ y. (let done = y.2 in omega (arith, done))) steps.next;
          super40 = subst (λ (n : ℕ). IsLawfulSuper n v.super40) (sym goes.blocks)
              (subst (IsLawfulSuper d.blocks) (sym steps.told.1) g.super40);
          count = ap (λ (s : Super40). s.block_count) steps.told.1 ∙ g.count;
          base = g.base;
          reads = λ tells. steps.reads g.base (g.reads (goes.reads.0 tells));
          apart = λ i p f target at. g.apart i p f
              (subst (λ (plan : Parts). IsTarget (part plan p) i) steps.plan target) at;
          below = g.below;
          accepted = g.accepted;
          lands = λ tells i f has at.
              g.lands (goes.reads.0 tells) i f has at
              ∙ sym (ap (λ (plan : Parts). block_at (base_of plan g.base 4) i) steps.plan);
        }

  -- ---- a call of the device failed

  abbrev over : CoreSeen D
  over = failed had dev e.clock e.faults

  history_over : IsHistory r e over
  history_over = record {
    told = λ o named. told_broken (commands greatest_size) (option_map start_of o) d.clock (tables_of had) trace
        (h.history.told o (begun_before o named)) e.clock e.faults refl goes.time;
    job = h.history.job;
    first = h.history.first;
    drawn = drawn_entry h.history.first x.turns x.numbers.next_oid trace h.history.drawn (Broken e.clock e.faults) tt;
    begins = λ b named. h.history.begins b (named_before b named);
    committed = λ other at. absurd (cc at);
    room = let enough = h.history.room in let one = owes_one (Some w) in omega (arith, enough, one);
  }

  legal_over : IsOrdered (Broken e.clock e.faults ∷ trace)
  legal_over = (history_over.told None tt).legal.order

  accounts_over : AreAccounts over
  accounts_over =
      let g = h.accounts in
      record {
        covered = g.covered;
        same = g.same;
        counted = g.counted;
        unknown = g.unknown;
        objects = g.objects;
        holds = λ none. absurd (cc none);
        room_to_capture = g.room_to_capture;
        room_for_cells = g.room_for_cells;
        room_to_defer = g.room_to_defer;
      }

  cells_over : AreCells e over
  cells_over =
      let g = h.cells in
      record {
        super40 = lawful_super;
        space = g.space;
        root = g.root;
        height = g.height;
        root_stands = g.root_stands;
        buffered_names = g.buffered_names;
        reached_names = g.reached_names;
        owned_names = g.owned_names;
        named = g.named;
        given_cells = λ none. absurd (cc none);
        dirty = g.dirty;
        fresh = g.fresh;
        clean = λ none. absurd (cc none);
        nodes = λ other at. absurd (cc at);
        commit = tt;
      }

  module _ (b : Beginning) (named : IsNamed (names_in r) e.blocks b) where
    abbrev last : Story
    last = record {
      session = told (was b named).story.session (Broken e.clock e.faults);
      flush = (was b named).story.flush;
    }

    means_over : HasMeaning b (job_named r.scripts) e over last
    means_over =
        let m = (was b named).means in
        record {
          reads = goes.reads.1 m.reads;
          session = session_told b (job_named r.scripts) (was b named).story.session (Broken e.clock e.faults) tt
              m.session;
          trace = ap (λ (l : List Entry). Broken e.clock e.faults ∷ l) m.trace;
          owner = m.owner;
          root = m.root;
          cells = m.cells;
          clean = λ none. absurd (cc none);
          reach = m.reach;
          owned = m.owned;
          born = m.born;
          gone = m.gone;
          at = tt;
        }

    durable_over : (t : ℕ) → r.clock ≡ Some t → TellsCrashes e → IsDurable b t e over last
    durable_over t at tells = record {
      each = safe_push (means b) (commands greatest_size) b.content t e trace (Broken e.clock e.faults) legal_over tt
          (still_safe b named t at (goes.crashes.0 tells));
      now = tt;
    }

  pub kept_over : IsKept r e over
  kept_over = record {
    history = history_over;
    tables = record {
      tasks = tasks_other (tables_of had) x.locks h.tables.tasks None (Some e.clock);
      ordered = h.tables.ordered;
    };
    accounts = accounts_over;
    cells = cells_over;
    tasks = record {
      uses = h.tasks.uses;
      drawn = h.tasks.drawn;
      apart = h.tasks.apart;
      unused = h.tasks.unused;
      unnamed = h.tasks.unnamed;
      unreached = h.tasks.unreached;
      unowned = h.tasks.unowned;
      given = h.tasks.given;
    };
    lender = λ l is. goes.lender ∙ h.lender l is;
    story = λ b named. record { story = last b named; means = means_over b named; durable = durable_over b named };
  }

-- ---- the same, of a core that writes this plan

pub at_hand : {D : Type 0} (r : Naming) (d : State) (c : CoreSeen D) (k : Commit) (w : CommitSeen)
    → IsKept r d c → Writes c k w
    → IsKept r d (record c { commit = Some (writing k w); broken = None })
at_hand r d c k w h at =
    subst (λ (o : Option ℕ). IsKept r d (record c { commit = Some (writing k w); broken = o })) at.sound
    (subst (λ (o : Option CommitSeen). IsKept r d (record c { commit = Some (record k { work = o }) })) at.work
    (subst (λ (o : Option Commit). IsKept r d (record c { commit = o })) at.commit h))

module _ {D : Type 0} (disk : FitsOnDisk) (r : Naming) (d e : State) (c : CoreSeen D) (k : Commit) (w : CommitSeen)
    (dev : D) (h : IsKept r d c) (at : Writes c k w) (goes : Goes d e)
    (settles : Settles d e w.work) where
  keeps_broken : IsKept r e (failed c dev e.clock e.faults)
  keeps_broken = kept_over disk r d e c k w dev (at_hand r d c k w h at) goes settles

  -- the same of parts that are as they are then
  pub keeps_failed : (commit : Option Commit) (broken : Option ℕ) (entries : Told) → commit ≡ None
      → broken ≡ Some e.clock → entries ≡ with_entry c.trace (Broken e.clock e.faults)
      → IsKept r e (record c { dev = dev; commit = commit; broken = broken; trace = entries })
  keeps_failed commit broken entries is_none is_broken is_told =
      subst (λ (o : Option Commit). IsKept r e (record c { dev = dev; commit = o; broken = broken; trace = entries }))
      (sym is_none)
      (subst (λ (o : Option ℕ). IsKept r e (record c { dev = dev; commit = None; broken = o; trace = entries }))
      (sym is_broken)
      (subst (λ (l : Told). IsKept r e (record c { dev = dev; commit = None; broken = Some e.clock; trace = l }))
      (sym is_told) keeps_broken))

-- the commit and the plan that a core has are those that it writes
pub writes_as : {D : Type 0} (c : CoreSeen D) → IsAtPlan c → (k : Commit) (w : CommitSeen)
    → c.commit ≡ Some k → k.work ≡ Some w → Writes c k w
writes_as c h k w at work =
    let x = h.2 in
    let same : h.0 ≡ k = cc (sym x.commit ∙ at) in
    record {
      sound = x.sound;
      commit = at;
      work = work;
    }
