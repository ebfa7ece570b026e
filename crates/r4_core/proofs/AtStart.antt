-- A core at the start of its job: all that holds of a core holds of it.
use Rattle.std.proofs.Common.{◌≡◌, inl, ℕ, zero, suc, ◌-◌, ◌*◌, ◌^◌, ◌≤◌, List, [], get_or, length}
use Rattle.std.proofs.Common.{replicate, true≢false, Option, None, Some, refl, sym, ◌∙◌, ap, subst, arith}
use Rattle.std.specs.Borrow.{GName}
use Rattle.std.specs.Prelude.{IsSome, Ok, sum_by}
use Rattle.std.specs.Option.{option_map}
use Rattle.std.proofs.lemmas.List.{length-replicate}
use Rattle.std.proofs.lemmas.List.Folds.{sum_by-replicate}
use Rattle.r4_atoms.specs.Atoms.{AtomsSeen, IsAtom}
use Rattle.r4_base.specs.Cell.{IsCellOf}
use Rattle.r4_base.specs.Image.{Image, block_at}
use Rattle.r4_base.specs.Tree.{Node, Root, Store}
use Rattle.r4_base.specs.Value.{Value}
use Rattle.r4_base.specs.Volume.{root_of}
use Rattle.r4_base.specs.declared.superblock.Super40.{Super40}
use Rattle.r4_buffer.specs.Seen.{BufferSeen}
use Rattle.r4_cell.specs.declared.change.Root.{Root as RootPair}
use Rattle.r4_content.specs.Locality.{commands}
use Rattle.r4_content.specs.Meaning.{greatest_size}
use Rattle.r4_ready.specs.r4_durable.Kept.{Means as MeansAtRest, session_of, space_of}
use Rattle.r4_ready.specs.r4_durable.Meaning.{Beginning, IsNamed, IsOn, first_id, means, start_of}
use Rattle.r4_ready.proofs.r4_durable.Opened.{begins_lawfully, kept_now, none_in, opens_safely}
use Rattle.r4_others.proofs.r4_history.DrawnSteps.{drawn_first}
use Rattle.r4_others.proofs.r4_history.RunSteps.{told_first}
use Rattle.r4_others.proofs.r4_history.TaskSteps.{tasks_first}
use Rattle.r4_others.proofs.r4_history.WaitingSteps.{text_ordered}
use Rattle.r4_others.specs.r4_history.Drawn.{numbers_of}
use Rattle.r4_others.specs.r4_history.Held.{IsOut}
use Rattle.r4_locks.specs.Locks.{LocksSeen}
use Rattle.r4_start.specs.r4_open.Opening.{IsOpening}
use Rattle.r4_start.specs.r4_open.declared.opened.Opened.{Opened}
use Rattle.r4_outside.specs.Device.{Goes, IsQuiet, State, TellsCrashes, TellsReads}
use Rattle.r4_start.specs.r4_replay.Replay.{PutInPlace, SettlesAlways}
use Rattle.r4_script.specs.Spelling.{AreScripts}
use Rattle.r4_script.specs.Text.{job_of}
use Rattle.r4_script.specs.declared.job.Job.{Job}
use Rattle.r4_space.proofs.AccountLaws.{dues-none}
use Rattle.r4_space.specs.Lawful.{IsLawful}
use Rattle.r4_space.specs.Space.{Space, unused_count}
use Rattle.r4_base.specs.Bitmap.{bitmap_count}
use Rattle.r4_trace.specs.Safe.{IsSafeFrom}
use Rattle.r4_trace.specs.declared.entry.Entry.{Entry}
use Rattle.r4_turns.specs.Turns.{TurnsSeen, start, started, turn_at}
use Rattle.r4_turns.specs.declared.out.Numbers.{Numbers}
use Rattle.r4_turns.specs.declared.out.Out.{Out}
use Rattle.r4_turns.specs.declared.turn.Turn.{Turn}
use Rattle.r4_ready.specs.r4_kept.Accounts.{AreAccounts, cells_for, claims_for}
use Rattle.r4_ready.specs.r4_kept.Cells.{AreCells, IsName}
use Rattle.r4_ready.specs.r4_kept.Durable.{IsDurable}
use Rattle.r4_ready.specs.r4_kept.History.{IsHistory, owed}
use Rattle.r4_ready.specs.r4_kept.Kept.{IsKept}
use Rattle.r4_ready.specs.r4_kept.Meaning.{HasMeaning}
use Rattle.r4_ready.specs.r4_kept.Naming.{Naming, job_named, names_in}
use Rattle.r4_start.specs.Starting.{IsFound, first_numbers, first_volume}
use Rattle.r4_ready.specs.r4_kept.Story.{Story}
use Rattle.r4_ready.specs.r4_kept.Tables.{AreTables}
use Rattle.r4_ready.specs.r4_kept.TasksOut.{AreOut}
use Rattle.r4_ready.specs.r4_kept.View.{CoreSeen, root_seen}
use Rattle.r4_ready.specs.r4_kept.declared.parts.Numbers.{Numbers as CoreNumbers}
use Rattle.r4_ready.specs.r4_kept.declared.parts.Volume.{Volume}

-- ---- turns before any command

all_alike : {A : Type 0} (x : A) (n i : ℕ) → get_or (replicate n x) i x ≡ x
all_alike x zero i = refl
all_alike x (suc n) zero = refl
all_alike x (suc n) (suc i) = all_alike x n i

module _ (job : Job) where
  still : (s : ℕ) → turn_at (started job) s ≡ start
  still s = all_alike start (length job.scripts) (s - 1)

  none_out : (s : ℕ) (out : Out) → IsOut (started job) s out → ⊥
  none_out s out is = cc (sym is.is_out ∙ ap (λ (x : Turn). x.out) (still s))

  no_numbers : (s : ℕ) (n : Numbers) → numbers_of (turn_at (started job) s) ≡ Some n → ⊥
  no_numbers s n has = cc (sym has ∙ ap numbers_of (still s))

  -- what is added up of the tasks that are out
  none_owed : (f : Option Out → ℕ) → f None ≡ 0 → sum_by (λ (x : Turn). f x.out) (started job).turns ≡ 0
  none_owed f none =
      let e = sum_by-replicate (λ (x : Turn). f x.out) (length job.scripts) start in
      let z : length job.scripts * f None ≡ 0 = ap (λ (n : ℕ). length job.scripts * n) none ∙ omega arith in
      e ∙ z

-- ---- atoms and cells

abbrev pub no_atoms : AtomsSeen
no_atoms = record { txns = []; atoms = []; captured = []; spare = 0; txn_spare = 0 }

abbrev pub no_cells : BufferSeen
no_cells = record { entries = []; spare = 0 }

none_begun : (a : ℕ) → IsAtom no_atoms a → ⊥
none_begun a is =
    let some = is.begun.some in
    let within : a ≤ 0 = is.begun.within in
    absurd (omega (arith, some, within))

-- ---- a device as one that does not tell what a crash leaves

abbrev dumb : State → State
dumb d = record d { may_hold = λ m b s x. ⊥ }

tells_none : (d : State) → 64 ≤ d.blocks → TellsCrashes (dumb d) → ⊥
tells_none d some tells = tells.sectors 0 0 (omega (arith, some)) (omega arith)

dumb_goes : (old new : State) → 64 ≤ old.blocks → Goes old new → Goes (dumb old) (dumb new)
dumb_goes old new some goes = record {
  blocks = goes.blocks;
  lender = goes.lender;
  stop = goes.stop;
  reads = goes.reads;
  crashes =
      let same = goes.blocks in (
        (λ tells. absurd (tells_none new (omega (arith, some, same)) tells)),
        (λ tells. absurd (tells_none old some tells)),
      );
  time = goes.time;
  faults = goes.faults;
  earlier = λ m b s x le. ((λ h. h), (λ h. h));
}

dumb_put : (old new : State) (count : ℕ) → PutInPlace old count new → PutInPlace (dumb old) count (dumb new)
dumb_put old new count p = record {
  chain = p.chain;
  log = p.log;
  count = p.count;
  settled = p.settled;
  footer = p.footer;
  equal = p.equal;
}

-- ---- what a crash leaves of a run that names its beginning

module _ (r : Naming) (old d : State) (goes : Goes old d) (moments : IsQuiet old → SettlesAlways old d)
    (image : (i : Image) → r.start ≡ Some i → TellsReads old × (i ≡ old.seen))
    (clock : (t : ℕ) → r.clock ≡ Some t → t ≡ old.clock)
    (quiet : IsSome r.start → IsSome r.clock → TellsCrashes old → IsQuiet old) where
  begins_on : (b : Beginning) → IsNamed (names_in r) d.blocks b → IsOn b old
  begins_on b named = record {
    size = named.size ∙ goes.blocks;
    image = (image b.image named.start).1;
  }

  was_quiet : TellsCrashes d → (b : Beginning) (t : ℕ) → IsNamed (names_in r) d.blocks b → r.clock ≡ Some t
      → IsQuiet old
  was_quiet crashes b t named is =
      quiet (subst IsSome (sym named.start) refl) (subst IsSome (sym is) refl) (goes.crashes.0 crashes)

  pub safe_begun : TellsCrashes d → (b : Beginning) (t : ℕ) → IsNamed (names_in r) d.blocks b → r.clock ≡ Some t
      → IsSafeFrom (means b) (commands greatest_size) b.content t [] d
  safe_begun crashes b t named is =
      subst (λ (n : ℕ). IsSafeFrom (means b) (commands greatest_size) b.content n [] d) (sym (clock t is))
      (opens_safely b greatest_size old d (begins_on b named) goes (moments (was_quiet crashes b t named is)))

-- ---- a core

module _ {D : Type 0} (r : Naming) (old d : State) (dev : D) (job : Job) (threshold : ℕ) (o : Opened)
    (locks : LocksSeen) (tree : RootPair) (spare : ℕ)
    (goes : Goes old d) (found : IsFound old d o) (lawful : IsLawful (space_of o)) (free : locks.tasks ≡ [])
    (pair : root_seen tree ≡ root_of o.super40) (room : owed (started job) ≤ spare)
    (moments : IsQuiet old → SettlesAlways old d) (settled : IsQuiet old → IsQuiet d)
    (scripts : AreScripts job.scripts)
    (image : (i : Image) → r.start ≡ Some i → TellsReads old × (i ≡ old.seen))
    (clock : (t : ℕ) → r.clock ≡ Some t → t ≡ old.clock)
    (quiet : IsSome r.start → IsSome r.clock → TellsCrashes old → IsQuiet old)
    (text : (t : List ℕ) → r.scripts ≡ Some t → job_of t ≡ Ok job)
    (lent : (l : List GName) → r.lender ≡ Some l → old.lender ≡ l) where
  abbrev pub begun : CoreSeen D
  begun = record {
    dev = dev;
    turns = started job;
    locks = locks;
    atoms = no_atoms;
    buffer = no_cells;
    space = space_of o;
    tree = tree;
    numbers = first_numbers o;
    volume = first_volume o;
    commit = None;
    broken = None;
    trace = record { entries = []; spare = spare };
    threshold = threshold;
  }

  -- ---- on every image

  tables_begun : AreTables begun
  tables_begun = record {
    tasks = tasks_first job 0 0 locks free;
    ordered = text_ordered (started job) (length-replicate (length job.scripts) start) scripts;
  }

  accounts_begun : AreAccounts begun
  accounts_begun =
      let cells = none_owed job cells_for refl in
      let claims = none_owed job claims_for refl in
      let dues = dues-none (bitmap_count o.super40.block_count) in
      record {
        covered = subst (λ (n : ℕ). n ≤ unused_count (space_of o)) (sym dues) (omega arith);
        same = λ a opened. absurd (none_begun a.0 opened.atom);
        counted = λ a opened. absurd (none_begun a opened.atom);
        unknown = λ a none. refl;
        objects = λ a opened. absurd (none_begun a opened.atom);
        holds = λ sound. record {
          none_sealed = refl;
          none_held = refl;
          none_placed = λ b. none_in o.super40.block_count b;
        };
        room_to_capture = omega (arith, cells);
        room_for_cells = omega (arith, cells);
        room_to_defer = omega (arith, claims);
      }

  root_is : tree.id.0 ≡ o.super40.root_block
  root_is = ap (λ (x : Root). x.id) pair

  cells_begun : AreCells d begun
  cells_begun =
      let s = found.super40 in
      let height : tree.height ≡ o.super40.tree_height = ap (λ (x : Root). x.height) pair in
      record {
        super40 = s;
        space = refl;
        root = subst (λ (i : ℕ). IsName o.super40.block_count (2 ^ 63) i) (sym root_is)
            (inl (s.root.1, s.root_not_fixed));
        height = (omega (arith, height, s.height.0), omega (arith, height, s.height.1));
        root_stands = λ high.
            (let same = root_is in
            let low = s.root.1 in
            let most = s.blocks.1 in
            absurd (omega (arith, high, same, low, most)));
        buffered_names = λ i e at. absurd (cc at);
        reached_names = λ s out x is. absurd (none_out job s out is);
        owned_names = λ i some. absurd (cc some);
        named = record {
          once = λ i j n m x. absurd (cc x.is);
          not_root = λ i n x. absurd (cc x.is);
        };
        given_cells = λ sound s out x is. absurd (none_out job s out is);
        dirty = λ i e at. absurd (cc at);
        fresh = λ i e at. absurd (cc at);
        clean = λ sound. record {
          accepted = λ i e at. absurd (cc at);
          same = λ tells i e at. absurd (cc at);
          names = λ i e at. absurd (cc at);
        };
        nodes = λ k at. absurd (cc at);
        commit = tt;
      }

  tasks_begun : AreOut begun
  tasks_begun = record {
    uses = λ i. omega arith;
    drawn = λ s n is has. absurd (no_numbers job s n has);
    apart = λ s q n m is also other has. absurd (no_numbers job s n has);
    unused = λ s i n e is has. absurd (no_numbers job s n has);
    unnamed = λ s i n m is has. absurd (no_numbers job s n has);
    unreached = λ s q n out x is has. absurd (no_numbers job s n has);
    unowned = λ s i n is has. absurd (no_numbers job s n has);
    given = λ s out x is. absurd (none_out job s out is);
  }

  -- ---- in a run that names its beginning

  module _ (b : Beginning) (named : IsNamed (names_in r) d.blocks b) where
    tells : TellsReads old
    tells = (image b.image named.start).0

    reads : TellsReads d
    reads = goes.reads.1 tells

    on : IsOn b old
    on = begins_on r old d goes moments image clock quiet b named

    sized : IsOpening b.blocks d.seen o
    sized = subst (λ (n : ℕ). IsOpening n d.seen o) (sym named.size) (found.opening reads)

    -- Of what reading gives, whatever a crash leaves: so it is where no clock is named. And it holds of any number of
    -- ids that the run may draw.
    means_with : (ids : ℕ)
        → MeansAtRest greatest_size (record b { ids = ids }) (job_named r.scripts) (session_of b) (space_of o) d.seen
    means_with ids =
        let put = found.replayed tells in
        let more : Beginning = record b { ids = ids } in
        (kept_now greatest_size more (job_named r.scripts) o (dumb old) (dumb d) put.0
        (record { size = on.size; image = on.image }) (dumb_goes old d found.size.0 goes)
        (λ t. dumb_put old d put.0 put.1)
        (λ crashes. absurd (tells_none old found.size.0 crashes))
        (λ t. record { run = begins_lawfully more (job_named r.scripts); opening = sized; lawful = lawful })).means
        reads

    abbrev m : MeansAtRest greatest_size b (job_named r.scripts) (session_of b) (space_of o) d.seen
    m = means_with b.ids

    super_is : (ids : ℕ) → (means_with ids).rests.super40 ≡ o.super40
    super_is ids =
        let has = (means_with ids).rests.has in
        let same : has.content.super ≡ o.super40 = cc (sym has.content.layout.format ∙ sized.super) in
        sym has.same_super ∙ same

    -- with no id to draw the next id is the first one
    first_is : o.super40.oid ≡ first_id b
    first_is =
        let may = (means_with 0).rests.next_id in
        let same : (means_with 0).rests.super40.oid ≡ o.super40.oid =
        ap (λ (s : Super40). s.oid) (super_is 0) in
        omega (arith, may.0, may.1, same)

    abbrev story : Story
    story = record { session = session_of b; flush = None }

    cells_stand : (i : ℕ) (n : Node Value) → (session_of b).memory i ≡ Some n
        → IsCellOf o.super40.block_count (block_at d.seen i) n
    cells_stand i n at =
        let has = m.rests.has in
        subst (λ (s : Super40). IsCellOf s.block_count (block_at d.seen i) n) (has.same_super ∙ super_is b.ids)
        (has.content.cells i n (ap (λ (t : Store Value). t i) has.same_store ∙ at))

    means_begun : HasMeaning b (job_named r.scripts) d begun story
    means_begun = record {
      reads = reads;
      session = m.session;
      trace = refl;
      owner = λ i. refl;
      root = m.rests.root ∙ ap root_of (super_is b.ids) ∙ sym pair;
      cells = λ i e at. absurd (cc at);
      clean = λ sound i n at none. (cells_stand i n at, tt);
      reach = λ s out x is. absurd (none_out job s out is);
      owned = λ i n some. absurd (true≢false (sym some));
      born = λ a opened. absurd (none_begun a opened.atom);
      gone = λ a opened. absurd (none_begun a opened.atom);
      at = record { means = m; super40 = sized.super; prev = sized.head };
    }

    durable_begun : (t : ℕ) → r.clock ≡ Some t → TellsCrashes d → IsDurable b t d begun story
    durable_begun t is crashes = record {
      each = safe_begun r old d goes moments image clock quiet crashes b t named is;
      now = settled (was_quiet r old d goes moments image clock quiet crashes b t named is);
    }

  history_begun : IsHistory r d begun
  history_begun = record {
    told = λ p named. told_first (commands greatest_size) (option_map start_of p) d.clock job 0 0;
    job = text;
    first = o.super40.oid;
    drawn = drawn_first o.super40.oid job (let small = found.super40.next_id.1 in omega (arith, small));
    begins = first_is;
    committed = λ k at. absurd (cc at);
    room = omega (arith, room);
  }

  pub keeps_begun : IsKept r d begun
  keeps_begun = record {
    history = history_begun;
    tables = tables_begun;
    accounts = accounts_begun;
    cells = cells_begun;
    tasks = tasks_begun;
    lender = λ l is. goes.lender ∙ lent l is;
    story = λ b named. record {
      story = story b named;
      means = means_begun b named;
      durable = durable_begun b named;
    };
  }

  abbrev made : TurnsSeen → AtomsSeen → BufferSeen → Space → CoreNumbers → Volume → List Entry → CoreSeen D
  made turns atoms buffer space numbers volume entries = record begun {
    turns = turns;
    atoms = atoms;
    buffer = buffer;
    space = space;
    numbers = numbers;
    volume = volume;
    trace = record { entries = entries; spare = spare };
  }

  -- the same of parts that are as they are then
  pub keeps_start : (turns : TurnsSeen) (atoms : AtomsSeen) (buffer : BufferSeen) (space : Space)
      (numbers : CoreNumbers) (volume : Volume) (entries : List Entry)
      → turns ≡ started job → atoms ≡ no_atoms → buffer ≡ no_cells → space ≡ space_of o → numbers ≡ first_numbers o
      → volume ≡ first_volume o → entries ≡ [] → IsKept r d (made turns atoms buffer space numbers volume entries)
  keeps_start turns atoms buffer space numbers volume entries are_turns are_atoms is_buffer is_space are_numbers
      is_volume are_none =
      subst (λ (x : TurnsSeen). IsKept r d (made x atoms buffer space numbers volume entries)) (sym are_turns)
      (subst (λ (x : AtomsSeen). IsKept r d (made (started job) x buffer space numbers volume entries)) (sym are_atoms)
      (subst (λ (x : BufferSeen). IsKept r d (made (started job) no_atoms x space numbers volume entries))
      (sym is_buffer)
      (subst (λ (x : Space). IsKept r d (made (started job) no_atoms no_cells x numbers volume entries)) (sym is_space)
      (subst (λ (x : CoreNumbers). IsKept r d (made (started job) no_atoms no_cells (space_of o) x volume entries))
      (sym are_numbers)
      (subst (λ (x : Volume).
      IsKept r d (made (started job) no_atoms no_cells (space_of o) (first_numbers o) x entries))
      (sym is_volume)
      (subst (λ (x : List Entry).
      IsKept r d (made (started job) no_atoms no_cells (space_of o) (first_numbers o) (first_volume o) x))
      (sym are_none) keeps_begun))))))
