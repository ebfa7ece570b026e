-- A commit writes more of its plan, in a part at whose end no entry comes: what holds of a core holds still.
use Rattle.std.proofs.Common.{◌≡◌, ◌⊎◌, inl, inr, ⊎_elim, ℕ, ◌+◌, ◌<◌, ◌≤◌, List, [], Option, Some, None}
use Rattle.std.proofs.Common.{refl, sym, ◌∙◌, subst, arith}
use Rattle.std.specs.Prelude.{◌↔◌, Contains}
use Rattle.std.specs.Option.{option_map}
use Rattle.std.proofs.lemmas.Bool.{le-leb, lt-leb}
use Rattle.r4_atoms.specs.Atoms.{is_committed, numbers, owner_of}
use Rattle.r4_base.specs.Cell.{IsCellOf}
use Rattle.r4_base.specs.Chain.{Txn}
use Rattle.r4_base.specs.Image.{Image}
use Rattle.r4_base.specs.declared.things.AtomNo.{AtomNo}
use Rattle.r4_ready.specs.r4_commit.Planned.{CommitSeen}
use Rattle.r4_content.specs.Locality.{commands}
use Rattle.r4_content.specs.Meaning.{greatest_size}
use Rattle.r4_ready.specs.r4_durable.Meaning.{Beginning, IsNamed, start_of}
use Rattle.r4_flushing.proofs.r4_flushed.FlushedCells.{FitsOnDisk}
use Rattle.r4_others.proofs.r4_history.RunSteps.{told_later}
use Rattle.r4_outside.specs.Device.{Goes, State, TellsCrashes}
use Rattle.r4_flushing.specs.r4_sets.Session.{Session}
use Rattle.r4_space.specs.Space.{Space}
use Rattle.r4_trace.specs.Job.{Asked}
use Rattle.r4_trace.specs.declared.entry.Entry.{Entry}
use Rattle.r4_wander.specs.LogPlan.{parts_of}
use Rattle.r4_wander.specs.Parts.{IsOrderOf}
use Rattle.r4_wander.specs.Progress.{Commits}
use Rattle.r4_wander.specs.declared.plan.LogPlan.{LogPlan}
use Rattle.r4_ready.specs.r4_kept.Accounts.{AreAccounts}
use Rattle.r4_ready.specs.r4_kept.Cells.{AreCells}
use Rattle.r4_ready.specs.r4_kept.Durable.{IsDurable, StandsAt}
use Rattle.r4_ready.specs.r4_kept.History.{IsHistory, is_headed, owed_for_work}
use Rattle.r4_ready.specs.r4_kept.Kept.{HasStory, IsKept}
use Rattle.r4_ready.specs.r4_kept.Meaning.{Comes, HasMeaning, IsInCommit, IsInPart}
use Rattle.r4_ready.specs.r4_kept.Naming.{Naming, job_named, names_in}
use Rattle.r4_ready.specs.r4_kept.Steps.{IsQuietPart, Writes, writing, written}
use Rattle.r4_ready.specs.r4_kept.Story.{Flush, Headed}
use Rattle.r4_ready.specs.r4_kept.View.{CoreSeen, blocks_of, tables_of}
use Rattle.r4_ready.specs.r4_kept.declared.parts.Commit.{Commit}
use Rattle.r4_ready.specs.r4_kept.declared.parts.Volume.{Volume}
use Rattle.r4_ready.proofs.r4_kept.Owing.{owes_last, owes_two}
use Rattle.r4_core.proofs.Writing.{Settles, Steps, apart_on, at_hand, begun_before, lawful_super, named_before}
use Rattle.r4_core.proofs.Writing.{readable_now, same_read, still_safe, was, writing_now}

-- ---- how far the plan is

module _ (d e : State) (w v : CommitSeen) (steps : Steps d e w v) (quiet : IsQuietPart w.work.part) where
  part_cases : (v.work.part ≡ w.work.part) ⊎ (v.work.part ≡ w.work.part + 1)
  part_cases = ⊎_elim (λ x. inl x.1) (λ x. inr x.1) steps.next

  part_below : v.work.part < 4
  part_below = ⊎_elim
      (λ q. ⊎_elim (λ s. omega (arith, q, s)) (λ s. omega (arith, q, s)) part_cases)
      (λ q. ⊎_elim (λ s. omega (arith, q, s)) (λ s. omega (arith, q, s)) part_cases) quiet

  -- the part before the journal header, and those behind it
  part_before : w.work.part < 2 → v.work.part < 2
  part_before lt = ⊎_elim
      (λ q. ⊎_elim (λ s. omega (arith, q, s)) (λ s. omega (arith, q, s)) part_cases)
      (λ q. absurd (omega (arith, q, lt))) quiet

  part_behind : 2 ≤ w.work.part → 2 ≤ v.work.part
  part_behind le = ⊎_elim (λ s. omega (arith, s, le)) (λ s. omega (arith, s, le)) part_cases

  commits_on : (n : ℕ) (base : Image) (chain : List Txn) (p : LogPlan) → Commits w.work n base chain p
      → Commits v.work n base chain p
  commits_on n base chain p h = record {
    safe = h.safe;
    encoded = h.encoded;
    order = subst (IsOrderOf (parts_of p)) (sym steps.plan) h.order;
    homes = λ le. h.homes (⊎_elim
        (λ q. absurd (⊎_elim (λ s. omega (arith, q, s, le)) (λ s. omega (arith, q, s, le)) part_cases))
        (λ q. omega (arith, q)) quiet);
  }

  in_part_on : (h : Option Headed) → IsInPart h w.work.part → IsInPart h v.work.part
  in_part_on None lt = part_before lt
  in_part_on (Some h) le = part_behind le

  comes_on : (b : Beginning) (job : Option Asked) (f : Flush) (c : Session) → Comes b job f c w.work.part
      → Comes b job f c v.work.part
  comes_on b job f c h = record {
    more = h.more;
    headed = h.headed;
    from = h.from;
    in_part = in_part_on h.headed h.in_part;
  }

-- there is still room to be kept for as many entries
as_many_owed : (d e : State) (w v : CommitSeen) → Steps d e w v → IsQuietPart w.work.part
    → owed_for_work (Some v) ≡ owed_for_work (Some w)
as_many_owed d e w v steps (inl is) =
    let before : w.work.part < 2 = omega (arith, is) in
    owes_two v (part_before d e w v steps (inl is) before) ∙ sym (owes_two w before)
as_many_owed d e w v steps (inr is) =
    let behind : 2 ≤ w.work.part = omega (arith, is) in
    owes_last v (part_behind d e w v steps (inr is) behind) ∙ sym (owes_last w behind)

-- nor does its journal header come to be written
as_headed : (d e : State) (w v : CommitSeen) → Steps d e w v → IsQuietPart w.work.part
    → is_headed (Some v) ≡ is_headed (Some w)
as_headed d e w v steps (inl is) =
    let before : w.work.part < 2 = omega (arith, is) in
    lt-leb 2 v.work.part (part_before d e w v steps (inl is) before) ∙ sym (lt-leb 2 w.work.part before)
as_headed d e w v steps (inr is) =
    let behind : 2 ≤ w.work.part = omega (arith, is) in
    le-leb 2 v.work.part (part_behind d e w v steps (inr is) behind) ∙ sym (le-leb 2 w.work.part behind)

-- ---- the commit goes on

module _ (b : Beginning) (job : Option Asked) (c : Session) (s : Space) (vol : Volume) (d e : State) (k : AtomNo)
    (w v : CommitSeen) (steps : Steps d e w v) (quiet : IsQuietPart w.work.part) where
  commit_on : (f : Option Flush) → IsInCommit b job c s vol d f k (Some w)
      → IsInCommit b job c s vol e f k (Some v)
  commit_on None h = absurd h
  commit_on (Some f) h = record {
    way = h.way;
    comes = comes_on d e w v steps quiet b job f c h.comes;
    atom = h.atom;
    super40 = steps.told.1 ∙ h.super40;
    head = steps.told.0 ∙ h.head;
    commits = commits_on d e w v steps quiet b.blocks f.work.base [] f.plan h.commits;
    reads = steps.reads f.work.base h.reads;
    deferred = h.deferred;
    later = h.later;
    lawful = h.lawful;
  }

  stands_on : (f : Option Flush) → StandsAt d f (Some w) → StandsAt e f (Some v)
  stands_on None h = absurd h
  stands_on (Some f) h = steps.stands f.work.base h

-- ---- a core

module _ {D : Type 0} (disk : FitsOnDisk) (r : Naming) (d e : State) (x : CoreSeen D) (k : Commit) (w : CommitSeen)
    (dev : D)
    (h : IsKept r d (record x { commit = Some (writing k w); broken = None })) (goes : Goes d e)
    (settles : Settles d e w.work) (quiet : IsQuietPart w.work.part) (v : CommitSeen) (steps : Steps d e w v) where
  abbrev trace : List Entry
  trace = x.trace.entries

  abbrev had : CoreSeen D
  had = record x { commit = Some (writing k w); broken = None }

  abbrev now : CoreSeen D
  now = record x { dev = dev; commit = Some (writing k v); broken = None }

  history_part : IsHistory r e now
  history_part = record {
    told = λ o named. told_later (commands greatest_size) (option_map start_of o) d.clock (tables_of had) trace
        (h.history.told o (begun_before disk r d e x k w dev h goes settles o named)) e.clock goes.time;
    job = h.history.job;
    first = h.history.first;
    drawn = h.history.drawn;
    begins = λ b named. h.history.begins b (named_before disk r d e x k w dev h goes settles b named);
    committed = λ other at.
        (let same : writing k v ≡ other = cc at in
        subst (λ (y : Commit). is_committed x.atoms y.atom.0 ≡ is_headed y.work) same
        (h.history.committed (writing k w) refl ∙ sym (as_headed d e w v steps quiet)));
    room = let enough = h.history.room in let same = as_many_owed d e w v steps quiet in omega (arith, enough, same);
  }

  accounts_part : AreAccounts now
  accounts_part =
      let g = h.accounts in
      record {
        covered = g.covered;
        same = g.same;
        counted = g.counted;
        unknown = g.unknown;
        objects = g.objects;
        holds = g.holds;
        room_to_capture = g.room_to_capture;
        room_for_cells = g.room_for_cells;
        room_to_defer = g.room_to_defer;
      }

  cells_part : AreCells e now
  cells_part =
      let g = h.cells in
      record {
        super40 = lawful_super disk r d e x k w dev h goes settles;
        space = g.space;
        root = g.root;
        height = g.height;
        root_stands = g.root_stands;
        buffered_names = g.buffered_names;
        reached_names = g.reached_names;
        owned_names = g.owned_names;
        named = g.named;
        given_cells = λ sound. g.given_cells refl;
        dirty = g.dirty;
        fresh = g.fresh;
        clean = λ sound. readable_now disk r d e x k w dev h goes settles v steps;
        nodes = λ other at.
            (let same : writing k v ≡ other = cc at in
            subst (λ (y : Commit). (i : ℕ) → Contains (numbers y.nodes) i ↔ (owner_of x.atoms i ≡ Some y.atom.0))
            same (g.nodes (writing k w) refl));
        commit = writing_now disk r d e x k w dev h goes settles v steps (part_below d e w v steps quiet);
      }

  module _ (b : Beginning) (named : IsNamed (names_in r) e.blocks b) where
    abbrev had_story : HasStory r b d had
    had_story = was disk r d e x k w dev h goes settles b named

    means_part : HasMeaning b (job_named r.scripts) e now had_story.story
    means_part =
        let m = had_story.means in
        record {
          reads = goes.reads.1 m.reads;
          session = m.session;
          trace = m.trace;
          owner = m.owner;
          root = m.root;
          cells = m.cells;
          clean = λ sound i n at none.
              (let had_it = m.clean refl i n at none in (
                subst (λ (block : List ℕ). IsCellOf (blocks_of x) block n)
                    (sym (same_read disk r d e x k w dev h goes settles v steps i m.reads had_it.1)) had_it.0,
                apart_on d e w v steps i had_it.1,
              ));
          reach = m.reach;
          owned = m.owned;
          born = m.born;
          gone = m.gone;
          at = commit_on b (job_named r.scripts) had_story.story.session x.space x.volume d e k.atom w v steps quiet
              had_story.story.flush m.at;
        }

    durable_part : (t : ℕ) → r.clock ≡ Some t → TellsCrashes e → IsDurable b t e now had_story.story
    durable_part t at tells =
        let before = goes.crashes.0 tells in
        let g = had_story.durable t at before in
        record {
          each = still_safe disk r d e x k w dev h goes settles b named t at before;
          now = stands_on b (job_named r.scripts) had_story.story.session x.space x.volume d e k.atom w v steps quiet
              had_story.story.flush g.now;
        }

  kept_part : IsKept r e now
  kept_part = record {
    history = history_part;
    tables = record { tasks = h.tables.tasks; ordered = h.tables.ordered };
    accounts = accounts_part;
    cells = cells_part;
    tasks = record {
      uses = h.tasks.uses;
      drawn = h.tasks.drawn;
      apart = h.tasks.apart;
      unused = h.tasks.unused;
      unnamed = h.tasks.unnamed;
      unreached = h.tasks.unreached;
      unowned = h.tasks.unowned;
      given = h.tasks.given;
    };
    lender = λ l is. goes.lender ∙ h.lender l is;
    story = λ b named. record {
      story = (was disk r d e x k w dev h goes settles b named).story;
      means = means_part b named;
      durable = durable_part b named;
    };
  }

-- ---- the same, of a core that writes such a part

module _ {D : Type 0} (disk : FitsOnDisk) (r : Naming) (d e : State) (c : CoreSeen D) (k : Commit) (w : CommitSeen)
    (dev : D)
    (h : IsKept r d c) (writes : Writes c k w) (goes : Goes d e) (settles : Settles d e w.work)
    (quiet : IsQuietPart w.work.part) where
  pub keeps_part : (v : CommitSeen) → Steps d e w v → IsKept r e (written c dev k v)
  keeps_part v steps =
      subst (λ (o : Option ℕ). IsKept r e (record c { dev = dev; commit = Some (writing k v); broken = o }))
      (sym writes.sound)
      (kept_part disk r d e c k w dev (at_hand r d c k w h writes) goes settles quiet v steps)
