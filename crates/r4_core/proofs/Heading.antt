-- A commit writes its journal header, and its entry comes: what holds of a core holds still.
use Rattle.std.proofs.Common.{◌≡◌, ⊎_elim, ℕ, ◌+◌, ◌<◌, ◌≤◌, Bool, true, false, cond, List, [], ◌∷◌, length}
use Rattle.std.proofs.Common.{Option, Some, None, refl, sym, ◌∙◌, ap, subst, arith}
use Rattle.std.specs.Prelude.{◌↔◌, Contains, IsSome, nat_le}
use Rattle.std.specs.Option.{option_map}
use Rattle.r4_atoms.specs.Atoms.{AtomsSeen, IsAtom, IsOpenAtom, account_of, is_committed, is_sealed, numbers, owner_of}
use Rattle.r4_atoms.specs.Atoms.{state_of}
use Rattle.r4_atoms.specs.declared.things.Account.{Account}
use Rattle.r4_atoms.specs.declared.things.AtomState.{AtomState}
use Rattle.r4_base.specs.Cell.{IsCellOf}
use Rattle.r4_base.specs.Image.{Image}
use Rattle.r4_base.specs.declared.things.AtomNo.{AtomNo}
use Rattle.r4_ready.specs.r4_commit.Planned.{CommitSeen}
use Rattle.r4_content.specs.Locality.{commands}
use Rattle.r4_content.specs.Meaning.{greatest_size}
use Rattle.r4_ready.specs.r4_durable.Kept.{IsSession}
use Rattle.r4_ready.specs.r4_durable.Meaning.{Beginning, IsNamed, means, start_of}
use Rattle.r4_ready.specs.r4_durable.Sealing.{session_after}
use Rattle.r4_ready.proofs.r4_durable.GoingOn.{header_step}
use Rattle.r4_ready.proofs.r4_durable.Steps.{counts_stay}
use Rattle.r4_flushing.specs.r4_flushed.Deferred.{AreDeferredBut}
use Rattle.r4_flushing.proofs.r4_flushed.FlushedCells.{FitsOnDisk}
use Rattle.r4_flushing.proofs.r4_flushed.Owned.{committed_owns}
use Rattle.r4_others.specs.r4_history.Tables.{with_committed}
use Rattle.r4_others.proofs.r4_history.DrawnSteps.{drawn_entry}
use Rattle.r4_others.proofs.r4_history.RunSteps.{commit_is}
use Rattle.r4_others.proofs.r4_history.TaskSteps.{state_follow}
use Rattle.r4_others.proofs.r4_history.Told.{told_committed}
use Rattle.r4_outside.specs.Device.{Goes, Leaves, LeavesOnly, State, TellsCrashes}
use Rattle.r4_flushing.specs.r4_placed.Flushing.{commit_by_block}
use Rattle.r4_flushing.specs.r4_sealed.Commits.{LeftInPart}
use Rattle.r4_flushing.specs.r4_sets.Atoms.{committed}
use Rattle.r4_flushing.specs.r4_sets.Session.{Session}
use Rattle.r4_flushing.proofs.r4_sets.Gathered.{committed_sets}
use Rattle.r4_space.specs.Space.{Space}
use Rattle.r4_trace.specs.Job.{Asked}
use Rattle.r4_trace.specs.Kept.{Told}
use Rattle.r4_trace.specs.Order.{IsOrdered}
use Rattle.r4_trace.specs.Safe.{CommitStep}
use Rattle.r4_trace.specs.Traced.{committed_in, latest, sealed_in}
use Rattle.r4_trace.specs.declared.entry.Entry.{Entry}
use Rattle.r4_trace.specs.declared.entry.Entry.TheVariants.{Committed}
use Rattle.r4_trace.proofs.Safely.{safe_committed}
use Rattle.r4_wander.specs.LogPlan.{parts_of}
use Rattle.r4_wander.specs.Parts.{IsOrderOf, part}
use Rattle.r4_wander.specs.Progress.{Commits, Stands}
use Rattle.r4_wander.proofs.Encoding.{has_homes}
use Rattle.r4_wander.proofs.Standing.{settles_now}
use Rattle.r4_ready.specs.r4_kept.Accounts.{AreAccounts, CountsCells}
use Rattle.r4_ready.specs.r4_kept.Cells.{AreCells}
use Rattle.r4_ready.specs.r4_kept.Durable.{IsDurable, StandsAt}
use Rattle.r4_ready.specs.r4_kept.History.{IsHistory, is_headed}
use Rattle.r4_ready.specs.r4_kept.Kept.{HasStory, IsKept}
use Rattle.r4_ready.specs.r4_kept.Meaning.{Comes, ComesFrom, HasMeaning, IsFlushing, IsInCommit, IsInPart, if_open}
use Rattle.r4_ready.specs.r4_kept.Naming.{Naming, job_named, names_in}
use Rattle.r4_ready.specs.r4_kept.Steps.{Writes, headed, with_entry, writing}
use Rattle.r4_ready.specs.r4_kept.Story.{Flush, Headed, Story, sealing_in}
use Rattle.r4_ready.specs.r4_kept.View.{CoreSeen, blocks_of, tables_of}
use Rattle.r4_ready.specs.r4_kept.declared.parts.Commit.{Commit}
use Rattle.r4_ready.specs.r4_kept.declared.parts.Volume.{Volume}
use Rattle.r4_ready.proofs.r4_kept.Owing.{owes_last, owes_two}
use Rattle.r4_ready.proofs.r4_kept.States.{opens_same, owners_same, state_same, state_there}
use Rattle.r4_core.proofs.Writing.{small, Settles, Steps, apart_on, at_hand, begun_before, in_time, lawful_super}
use Rattle.r4_core.proofs.Writing.{named_before}
use Rattle.r4_core.proofs.Writing.{readable_now, same_read, was, writing_now}

-- ---- how far the plan is

module _ (d e : State) (w v : CommitSeen) (steps : Steps d e w v) (is : w.work.part ≡ 1) where
  one_write : length (part w.work.plan w.work.part) ≡ 1
  one_write = ap (λ (i : ℕ). length (part w.work.plan i)) is

  -- the part has one write, so the step ends it
  pub at_homes : (v.work.part ≡ 2) × (v.work.done ≡ 0)
  at_homes = ⊎_elim
      (λ x. let more = x.0 in absurd (omega (arith, more, one_write)))
      (λ x. let next = x.1 in (omega (arith, next, is), x.2)) steps.next

-- ---- the commit goes on

module _ (disk : FitsOnDisk) (b : Beginning) (job : Option Asked) (c : Session) (s : Space) (vol : Volume)
    (d e : State) (k : AtomNo) (w v : CommitSeen) (steps : Steps d e w v) (is : w.work.part ≡ 1)
    (size : b.blocks ≡ d.blocks) (time : latest c.trace ≤ d.clock) (session : IsSession greatest_size b job c)
    (legal : IsOrdered (Committed k e.clock ∷ c.trace)) where
  abbrev after : Session
  after = committed c k e.clock

  sized : e.blocks ≡ b.blocks
  sized = steps.goes.blocks ∙ sym size

  module _ (f : Flush) (h : IsFlushing b job c s d f k w) where
    not_yet : (o : Option Headed) → IsInPart o w.work.part → o ≡ None
    not_yet None lt = refl
    not_yet (Some hd) le = absurd (omega (arith, le, is))

    from : ComesFrom b job f h.comes.more None c
    from = subst (λ (o : Option Headed). ComesFrom b job f h.comes.more o c) (not_yet h.comes.headed h.comes.in_part)
        h.comes.from

    one_more : sealed_in c.trace ≡ committed_in c.trace + 1
    one_more =
        let counts = counts_stay greatest_size (session_after (sealing_in f)) c h.comes.more from in
        counts.0 ∙ ap (λ (n : ℕ). n + 1) (h.way.kept.none_sealed ∙ sym counts.1)

    session_headed : IsSession greatest_size b job after
    session_headed = record {
      start = session.start;
      sets = committed_sets (commands greatest_size) c session.sets k e.clock one_more;
      run = record {
        lawful = session.run.lawful;
        room = session.run.room;
        paths = session.run.paths;
        ids = session.run.ids;
      };
      owns = committed_owns c session.owns k e.clock;
    }

    deferred_headed : AreDeferredBut f.work.atom after s
    deferred_headed = record {
      others = λ a n other. (
        (λ x. (let g = (h.deferred.others a n other).0 x in record { own = g.own; gone = g.gone; was = g.was })),
        (λ g. (h.deferred.others a n other).1 (record { own = g.own; gone = g.gone; was = g.was })),
      );
      none = h.deferred.none;
    }

    commits_on : Commits v.work b.blocks f.work.base [] f.plan
    commits_on = record {
      safe = h.commits.safe;
      encoded = h.commits.encoded;
      order = subst (IsOrderOf (parts_of f.plan)) (sym steps.plan) h.commits.order;
      homes = λ le. has_homes b.blocks f.work.base f.plan h.commits.safe h.commits.encoded;
    }

    abbrev headed_then : Headed
    headed_then = record { session = c; space = s; clock = e.clock; later = [] }

    comes_on : Comes b job f after v.work.part
    comes_on = record {
      more = h.comes.more;
      headed = Some headed_then;
      from = record {
        before = from;
        session = session;
        deferred = h.deferred;
        later = h.later;
        lawful = h.lawful;
        behind = record {
          start = refl;
          trace = ap (λ (a : AtomNo). Committed a e.clock ∷ c.trace) h.atom;
          base = refl;
          under = refl;
          legal = subst (λ (a : AtomNo). IsOrdered (Committed a e.clock ∷ c.trace)) h.atom legal;
          none = tt;
        };
      };
      in_part = let two = (at_homes d e w v steps is).0 in omega (arith, two);
    }

    flushing_on : IsFlushing b job after s e f k v
    flushing_on = record {
      way = h.way;
      comes = comes_on;
      atom = h.atom;
      super40 = steps.told.1 ∙ h.super40;
      head = steps.told.0 ∙ h.head;
      commits = commits_on;
      reads = steps.reads f.work.base h.reads;
      deferred = deferred_headed;
      later = h.later;
      lawful = h.lawful;
    }

    -- what a crash leaves of it
    module _ (settles : Settles d e w.work) (stands : Stands w.work f.work.base d) (rose : d.clock < e.clock) where
      leaves : LeavesOnly d e (LeftInPart b.blocks (commit_by_block f.work f.plan) 1)
      leaves = subst (λ (i : ℕ). LeavesOnly d e (LeftInPart b.blocks (commit_by_block f.work f.plan) i)) is
          (settles b.blocks f.work.base [] f.plan h.commits stands)

      durable_then : (image : Image) → Leaves e e.clock image
          → LeftInPart b.blocks (commit_by_block f.work f.plan) 2 image
      durable_then image left =
          let two = (at_homes d e w v steps is).0 in
          subst (λ (i : ℕ). LeftInPart b.blocks (commit_by_block f.work f.plan) i image) two
          ((settles_now v.work b.blocks f.work.base [] f.plan e (omega (arith, two)) commits_on
          (steps.stands f.work.base stands)).each e.clock image (omega arith) (omega arith) left)

      header_now : CommitStep (means b) (commands greatest_size) b.content c.trace k d e
      header_now =
          subst (λ (a : AtomNo). CommitStep (means b) (commands greatest_size) b.content c.trace a d e) (sym h.atom)
          (subst (λ (l : List Entry).
          CommitStep (means b) (commands greatest_size) b.content l f.work.atom d e) (sym from.trace)
          (header_step disk greatest_size small b job f.before f.work f.plan h.way h.comes.more from.legal from.none 1 d
          e sized (subst (λ (l : List Entry). latest l ≤ d.clock) from.trace time) steps.goes leaves
          (subst (λ (l : List Entry). IsOrdered (Committed f.work.atom e.clock ∷ l)) from.trace
          (subst (λ (a : AtomNo). IsOrdered (Committed a e.clock ∷ c.trace)) h.atom legal))
          rose durable_then))

  session_on : (f : Option Flush) → IsInCommit b job c s vol d f k (Some w) → IsSession greatest_size b job after
  session_on None h = absurd h
  session_on (Some f) h = session_headed f h

  commit_on : (f : Option Flush) → IsInCommit b job c s vol d f k (Some w) → IsInCommit b job after s vol e f k (Some v)
  commit_on None h = absurd h
  commit_on (Some f) h = flushing_on f h

  stands_on : (f : Option Flush) → StandsAt d f (Some w) → StandsAt e f (Some v)
  stands_on None h = absurd h
  stands_on (Some f) h = steps.stands f.work.base h

  step_on : (f : Option Flush) → IsInCommit b job c s vol d f k (Some w) → StandsAt d f (Some w)
      → Settles d e w.work → d.clock < e.clock
      → CommitStep (means b) (commands greatest_size) b.content c.trace k d e
  step_on None h stands settles rose = absurd h
  step_on (Some f) h stands settles rose = header_now f h settles stands rose

-- ---- a core

module _ {D : Type 0} (disk : FitsOnDisk) (r : Naming) (d e : State) (x : CoreSeen D) (k : Commit) (w : CommitSeen)
    (dev : D)
    (h : IsKept r d (record x { commit = Some (writing k w); broken = None })) (goes : Goes d e)
    (settles : Settles d e w.work) (is : w.work.part ≡ 1) (v : CommitSeen) (steps : Steps d e w v)
    (rose : d.clock < e.clock) where
  abbrev trace : List Entry
  trace = x.trace.entries

  abbrev a : ℕ
  a = k.atom.0

  abbrev had : CoreSeen D
  had = record x { commit = Some (writing k w); broken = None }

  abbrev atoms : AtomsSeen
  atoms = with_committed x.atoms a

  abbrev new : AtomState
  new = record (state_of x.atoms a) { committed = true }

  abbrev e_now : Entry
  e_now = Committed k.atom e.clock

  abbrev now : CoreSeen D
  now = record x {
    dev = dev;
    atoms = atoms;
    commit = Some (writing k v);
    broken = None;
    trace = with_entry x.trace e_now;
  }

  not_headed : is_headed (Some w) ≡ false
  not_headed = ap (λ (i : ℕ). nat_le 2 i) is

  uncommitted : is_committed x.atoms a ≡ false
  uncommitted = h.history.committed (writing k w) refl ∙ not_headed

  under_way : IsAtom x.atoms a × (is_sealed x.atoms a ≡ true)
  under_way = commit_is (commands greatest_size) None d.clock (tables_of had) trace (h.history.told None tt) a refl

  owners : (i : ℕ) → owner_of atoms i ≡ owner_of x.atoms i
  owners = owners_same x.atoms a new refl

  opens : (n : ℕ) → IsOpenAtom atoms n → IsOpenAtom x.atoms n
  opens = opens_same x.atoms a new refl

  accounts : (n : ℕ) → account_of atoms n ≡ account_of x.atoms n
  accounts = state_same x.atoms a new (λ (y : AtomState). y.account) refl

  committed_then : (k2 : Commit) → now.commit ≡ Some k2 → is_committed atoms k2.atom.0 ≡ is_headed k2.work
  committed_then k2 at =
      let two = (at_homes d e w v steps is).0 in
      let states = (h.history.told None tt).atoms.states in
      let same : writing k v ≡ k2 = cc at in
      subst (λ (y : Commit). is_committed atoms y.atom.0 ≡ is_headed y.work) same
      (ap (λ (y : AtomState). y.committed) (state_there x.atoms a new under_way.0.begun states)
      ∙ sym (ap (λ (i : ℕ). nat_le 2 i) two))

  history_headed : IsHistory r e now
  history_headed = record {
    told = λ o named. told_committed (commands greatest_size) (option_map start_of o) d.clock (tables_of had) trace
        (h.history.told o (begun_before disk r d e x k w dev h goes settles o named)) k.atom e.clock refl refl
        uncommitted goes.time;
    job = h.history.job;
    first = h.history.first;
    drawn = drawn_entry h.history.first x.turns x.numbers.next_oid trace h.history.drawn e_now tt;
    begins = λ b named. h.history.begins b (named_before disk r d e x k w dev h goes settles b named);
    committed = committed_then;
    room =
        let enough = h.history.room in
        let two = owes_two w (omega (arith, is)) in
        let at = (at_homes d e w v steps is).0 in
        let one = owes_last v (omega (arith, at)) in
        omega (arith, enough, two, one);
  }

  legal_headed : IsOrdered (e_now ∷ trace)
  legal_headed = (history_headed.told None tt).legal.order

  counts_on : (n cells fresh : ℕ) → CountsCells x.buffer x.atoms n cells fresh
      → CountsCells x.buffer atoms n cells fresh
  counts_on n cells fresh g = record {
    nodes = g.nodes;
    different = g.different;
    just = λ i. (
      (λ has. (owners i ∙ ((g.just i).0 has).0, ((g.just i).0 has).1)),
      (λ both. (g.just i).1 (sym (owners i) ∙ both.0, both.1)),
    );
    cells_are = g.cells_are;
    fresh_are = g.fresh_are;
  }

  accounts_headed : AreAccounts now
  accounts_headed =
      let g = h.accounts in
      record {
        covered = g.covered;
        same = λ n opened.
            (let one = g.same n (opens n.0 opened) in
            let acc = accounts n.0 in (
              one.0 ∙ sym (ap (λ (y : Account). y.cells) acc),
              one.1 ∙ sym (ap (λ (y : Account). y.fresh) acc),
            ));
        counted = λ n opened.
            subst (λ (y : Account). CountsCells x.buffer atoms n y.cells y.fresh) (sym (accounts n))
            (counts_on n _ _ (g.counted n (opens n opened)));
        unknown = λ n none.
            g.unknown n (λ begun. none (record { some = begun.some; within = begun.within }));
        objects = λ n opened.
            (let one = g.objects n (opens n opened) in
            let acc = accounts n in
            let born : (account_of atoms n).born ≡ (account_of x.atoms n).born = ap (λ (y : Account). y.born) acc in
            let gone : (account_of atoms n).gone ≡ (account_of x.atoms n).gone = ap (λ (y : Account). y.gone) acc in
            (omega (arith, one.0, born), omega (arith, one.1, gone)));
        holds = g.holds;
        room_to_capture = g.room_to_capture;
        room_for_cells = g.room_for_cells;
        room_to_defer = g.room_to_defer;
      }

  cells_headed : AreCells e now
  cells_headed =
      let g = h.cells in
      record {
        super40 = lawful_super disk r d e x k w dev h goes settles;
        space = g.space;
        root = g.root;
        height = g.height;
        root_stands = g.root_stands;
        buffered_names = g.buffered_names;
        reached_names = g.reached_names;
        owned_names = λ i some. g.owned_names i (subst IsSome (owners i) some);
        named = g.named;
        given_cells = λ sound. g.given_cells refl;
        dirty = λ i f at. (
          (λ yes. subst IsSome (sym (owners i)) ((g.dirty i f at).0 yes)),
          (λ some. (g.dirty i f at).1 (subst IsSome (owners i) some)),
        );
        fresh = g.fresh;
        clean = λ sound. readable_now disk r d e x k w dev h goes settles v steps;
        nodes = λ k2 at.
            (let same : writing k v ≡ k2 = cc at in
            subst (λ (y : Commit). (i : ℕ) → Contains (numbers y.nodes) i ↔ (owner_of atoms i ≡ Some y.atom.0))
            same (λ i. (
              (λ has. owners i ∙ (g.nodes (writing k w) refl i).0 has),
              (λ own. (g.nodes (writing k w) refl i).1 (sym (owners i) ∙ own)),
            )));
        commit = let two = (at_homes d e w v steps is).0 in
            writing_now disk r d e x k w dev h goes settles v steps (omega (arith, two));
      }

  -- ---- in a run that names its beginning

  same_if_open : (o : Option ℕ) → if_open atoms o ≡ if_open x.atoms o
  same_if_open None = refl
  same_if_open (Some n) =
      ap (λ (y : Bool). cond y None (Some n)) (state_same x.atoms a new (λ (y : AtomState). y.sealed) refl n)

  module _ (b : Beginning) (named : IsNamed (names_in r) e.blocks b) where
    abbrev story_was : HasStory r b d had
    story_was = was disk r d e x k w dev h goes settles b named

    abbrev c : Session
    c = story_was.story.session

    abbrev story_now : Story
    story_now = record { session = committed c k.atom e.clock; flush = story_was.story.flush }

    legal_now : IsOrdered (e_now ∷ c.trace)
    legal_now = subst (λ (l : List Entry). IsOrdered (e_now ∷ l)) (sym story_was.means.trace) legal_headed

    means_headed : HasMeaning b (job_named r.scripts) e now story_now
    means_headed =
        let m = story_was.means in
        let size = (named_before disk r d e x k w dev h goes settles b named).size in
        let time = in_time disk r d e x k w dev h goes settles b named in
        record {
          reads = goes.reads.1 m.reads;
          session = session_on disk b (job_named r.scripts) c x.space x.volume d e k.atom w v steps is size time
              m.session legal_now story_was.story.flush m.at;
          trace = ap (λ (l : List Entry). e_now ∷ l) m.trace;
          owner = λ i. m.owner i
              ∙ sym (ap (if_open atoms) (owners i) ∙ same_if_open (owner_of x.atoms i));
          root = m.root;
          cells = m.cells;
          clean = λ sound i n at none.
              (let had_it = m.clean refl i n at none in (
                subst (λ (block : List ℕ). IsCellOf (blocks_of x) block n)
                    (sym (same_read disk r d e x k w dev h goes settles v steps i m.reads had_it.1)) had_it.0,
                apart_on d e w v steps i had_it.1,
              ));
          reach = m.reach;
          owned = λ i n some. m.owned i n (subst IsSome (owners i) some);
          born = λ n opened. ap (λ (y : Account). y.born) (accounts n) ∙ m.born n (opens n opened);
          gone = λ n opened. ap (λ (y : Account). y.gone) (accounts n) ∙ m.gone n (opens n opened);
          at = commit_on disk b (job_named r.scripts) c x.space x.volume d e k.atom w v steps is size time
              m.session legal_now story_was.story.flush m.at;
        }

    durable_headed : (t : ℕ) → r.clock ≡ Some t → TellsCrashes e → IsDurable b t e now story_now
    durable_headed t at tells =
        let before = goes.crashes.0 tells in
        let g = story_was.durable t at before in
        let m = story_was.means in
        let size = (named_before disk r d e x k w dev h goes settles b named).size in
        let time = in_time disk r d e x k w dev h goes settles b named in
        record {
          each = safe_committed (means b) (commands greatest_size) b.content t d e trace k.atom
              (subst (λ (l : List Entry). CommitStep (means b) (commands greatest_size) b.content l k.atom d e)
              m.trace
              (step_on disk b (job_named r.scripts) c x.space x.volume d e k.atom w v steps is size time m.session
              legal_now story_was.story.flush m.at g.now settles rose)) g.each;
          now = stands_on disk b (job_named r.scripts) c x.space x.volume d e k.atom w v steps is size time
              m.session legal_now story_was.story.flush g.now;
        }

  pub kept_headed : IsKept r e now
  kept_headed = record {
    history = history_headed;
    tables = record {
      tasks = state_follow (tables_of had) x.locks h.tables.tasks a new refl;
      ordered = h.tables.ordered;
    };
    accounts = accounts_headed;
    cells = cells_headed;
    tasks = record {
      uses = h.tasks.uses;
      drawn = h.tasks.drawn;
      apart = h.tasks.apart;
      unused = h.tasks.unused;
      unnamed = h.tasks.unnamed;
      unreached = h.tasks.unreached;
      unowned = λ q i n has is_n low high. owners i ∙ h.tasks.unowned q i n has is_n low high;
      given = h.tasks.given;
    };
    lender = λ l is_l. goes.lender ∙ h.lender l is_l;
    story = λ b named. record {
      story = story_now b named;
      means = means_headed b named;
      durable = durable_headed b named;
    };
  }

-- ---- the same, of a core that writes its journal header

module _ {D : Type 0} (r : Naming) (d : State) (c : CoreSeen D) (k : Commit) (w : CommitSeen) (h : IsKept r d c)
    (writes : Writes c k w) (is : w.work.part ≡ 1) where
  abbrev here : IsKept r d (record c { commit = Some (writing k w); broken = None })
  here = at_hand r d c k w h writes

  -- what the calls ask for
  pub may_commit : IsAtom c.atoms k.atom.0 × (is_sealed c.atoms k.atom.0 ≡ true)
      × (is_committed c.atoms k.atom.0 ≡ false)
  may_commit =
      let was = commit_is (commands greatest_size) None d.clock
      (tables_of (record c { commit = Some (writing k w); broken = None })) c.trace.entries (here.history.told None tt)
      k.atom.0 refl in
      (was.0, was.1, here.history.committed (writing k w) refl ∙ ap (λ (i : ℕ). nat_le 2 i) is)

  pub has_room : 1 ≤ c.trace.spare
  has_room =
      let enough = here.history.room in
      let two = owes_two w (let is = is in omega (arith, is)) in
      omega (arith, enough, two)

  module _ (disk : FitsOnDisk) (e : State) (dev : D) (goes : Goes d e) (settles : Settles d e w.work) (v : CommitSeen)
      (steps : Steps d e w v) (rose : d.clock < e.clock) where
    keeps_head : IsKept r e (headed c dev k v e.clock)
    keeps_head =
        subst (λ (o : Option ℕ). IsKept r e (record (headed c dev k v e.clock) { broken = o })) (sym writes.sound)
        (kept_headed disk r d e c k w dev here goes settles is v steps rose)

    -- the same of parts that are as they are then
    pub keeps_headed : (clock : ℕ) (table : AtomsSeen) (entries : Told) → clock ≡ e.clock
        → table ≡ with_committed c.atoms k.atom.0 → entries ≡ with_entry c.trace (Committed k.atom clock)
        → IsKept r e (record c {
          dev = dev;
          atoms = table;
          commit = Some (writing k v);
          trace = entries;
        })
    keeps_headed clock table entries is_clock are_atoms are_entries =
        subst (λ (s : AtomsSeen).
        IsKept r e (record c { dev = dev; atoms = s; commit = Some (writing k v); trace = entries })) (sym are_atoms)
        (subst (λ (l : Told). IsKept r e (record (headed c dev k v clock) { trace = l })) (sym are_entries)
        (subst (λ (n : ℕ). IsKept r e (headed c dev k v n)) (sym is_clock) keeps_head))
