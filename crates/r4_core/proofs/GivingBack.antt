-- A task is given back: what holds of a core holds still.
use Rattle.std.proofs.Common.{◌≡◌, inl, inr, ℕ, ◌+◌, Option, Some, None, refl, sym, ◌∙◌, ap, subst, arith}
use Rattle.std.specs.Prelude.{slice_get, sum_by}
use Rattle.std.specs.Option.{option_map}
use Rattle.std.proofs.lemmas.Bool.{cases_eq}
use Rattle.r4_atoms.specs.Atoms.{numbers}
use Rattle.r4_base.specs.Tree.{Name}
use Rattle.r4_buffer.specs.Changed.{in_turn, unused, uses_of}
use Rattle.r4_buffer.specs.Seen.{BufferSeen, IsLawful, buffered}
use Rattle.r4_cell.specs.Seen.{CellSeen, node_of}
use Rattle.r4_ready.specs.r4_commit.Planned.{CommitSeen}
use Rattle.r4_content.specs.Locality.{commands}
use Rattle.r4_content.specs.Meaning.{greatest_size}
use Rattle.r4_ready.specs.r4_durable.Meaning.{Beginning, start_of}
use Rattle.r4_others.specs.r4_history.Drawn.{numbers_in, numbers_of}
use Rattle.r4_others.specs.r4_history.Held.{IsOut}
use Rattle.r4_others.specs.r4_history.Tables.{next_at}
use Rattle.r4_others.proofs.r4_history.DrawnSteps.{drawn_back, turn_other}
use Rattle.r4_others.proofs.r4_history.Places.{turn_now}
use Rattle.r4_others.proofs.r4_history.RunSteps.{told_back}
use Rattle.r4_others.proofs.r4_history.TaskSteps.{tasks_back}
use Rattle.r4_locks.specs.Locks.{IsTask, LocksSeen, OthersAsBefore, task_at}
use Rattle.r4_outside.specs.Device.{State}
use Rattle.r4_turns.specs.Turns.{IsScript, TurnsSeen, commands_at, given_back, turn_at}
use Rattle.r4_turns.specs.declared.out.Out.{Out}
use Rattle.r4_turns.specs.declared.turn.Turn.{Turn}
use Rattle.r4_ready.specs.r4_kept.Accounts.{AreAccounts, CountsCells, cells_for, claims_for}
use Rattle.r4_ready.specs.r4_kept.Cells.{AreCells, FitsCommit, HasNames, IsAccepted, IsWritingOf, NamesAt}
use Rattle.r4_ready.specs.r4_kept.History.{IsHistory}
use Rattle.r4_ready.specs.r4_kept.Kept.{HasStory, IsKept}
use Rattle.r4_ready.specs.r4_kept.Meaning.{HasMeaning}
use Rattle.r4_ready.specs.r4_kept.Naming.{Naming, job_named}
use Rattle.r4_ready.specs.r4_kept.Tables.{AreTables}
use Rattle.r4_ready.specs.r4_kept.TasksOut.{AreOut, pins_in}
use Rattle.r4_ready.specs.r4_kept.View.{CoreSeen, blocks_of, tables_of}
use Rattle.r4_ready.specs.r4_kept.declared.parts.Commit.{Commit}
use Rattle.r4_ready.proofs.r4_kept.Staying.{named_on, names_as, still_like}
use Rattle.r4_ready.proofs.r4_kept.Turning.{is_script_before, out_of_others, owed_less, same_of, summed}
use Rattle.r4_ready.proofs.r4_kept.Unused.{AreLike, IsLike, none_there, readable_like, same_dirty, unused_fewer}
use Rattle.r4_ready.proofs.r4_kept.Unused.{unused_like, was_there}

module _ (t : TurnsSeen) (s : ℕ) (out : Out) (is : IsScript t s) (was : (turn_at t s).out ≡ Some out) where
  abbrev back : Turn
  back = record (turn_at t s) { out = None; numbers = Some out.numbers }

  -- the numbers of each next command are those that they were
  pub numbers_back : (q : ℕ) → IsScript t q
      → numbers_of (turn_at (given_back t s out.numbers) q) ≡ numbers_of (turn_at t q)
  numbers_back q has = elim (cases_eq q s) [
    | inl same ↦
        ap (λ (m : ℕ). numbers_of (turn_at (given_back t s out.numbers) m)) same
        ∙ ap numbers_of (turn_now t s back is)
        ∙ sym (ap (λ (o : Option Out). numbers_in o (turn_at t s).numbers) was)
        ∙ ap (λ (m : ℕ). numbers_of (turn_at t m)) (sym same)
    | inr other ↦ ap numbers_of (turn_other t s q back is has.0 other)
  ]

  -- and so is each next command
  pub next_back : (q : ℕ) → next_at (given_back t s out.numbers) q ≡ next_at t q
  next_back q = ap (slice_get (commands_at t q)) (same_of t s back is (λ (x : Turn). x.answered) refl q)

  -- what is added up of the tasks that are out is less by what this one had
  pub sums_fall : (f : Option Out → ℕ) → f None ≡ 0
      → sum_by (λ (x : Turn). f x.out) (given_back t s out.numbers).turns + f (Some out)
      ≡ sum_by (λ (x : Turn). f x.out) t.turns
  sums_fall f none =
      let e : sum_by (λ (x : Turn). f x.out) (given_back t s out.numbers).turns + f (turn_at t s).out
      ≡ sum_by (λ (x : Turn). f x.out) t.turns + f None = summed t s back is (λ (x : Turn). f x.out) in
      let same = ap f was in
      omega (arith, e, same, none)

-- ---- a core

module _ {D : Type 0} (r : Naming) (d : State) (c : CoreSeen D) (k : IsKept r d c) (s : ℕ) (out : Out)
    (is : IsScript c.turns s) (was : (turn_at c.turns s).out ≡ Some out)
    (locks : LocksSeen) (gone : task_at locks out.task.0 ≡ None) (others : OthersAsBefore c.locks locks out.task.0)
    (buffer : BufferSeen)
    (cells : (i : ℕ) → buffered buffer i ≡ in_turn unused out.pins i (buffered c.buffer i))
    (room : buffer.spare ≡ c.buffer.spare) (lawful : IsLawful c.buffer) (still : IsLawful buffer) where
  abbrev after : CoreSeen D
  after = record c { turns = given_back c.turns s out.numbers; locks = locks; buffer = buffer }

  here : IsOut c.turns s out
  here = record { is_script = is; is_out = was }

  like : AreLike c.buffer buffer
  like i = subst (IsLike (buffered c.buffer i)) (sym (cells i)) (unused_like out.pins i (buffered c.buffer i))

  scripts : (q : ℕ) → IsScript (given_back c.turns s out.numbers) q → IsScript c.turns q
  scripts q has = is_script_before c.turns s (back c.turns s out is was) is q has

  outs : (q : ℕ) (o : Out) → IsOut (given_back c.turns s out.numbers) q o → IsOut c.turns q o
  outs q o has = out_of_others c.turns s (back c.turns s out is was) is refl q o has

  history_back : IsHistory r d after
  history_back = record {
    told = λ o named. told_back (commands greatest_size) (option_map start_of o) d.clock (tables_of c) c.trace.entries
        (k.history.told o named) s out.numbers is;
    job = k.history.job;
    first = k.history.first;
    drawn = drawn_back k.history.first c.turns c.numbers.next_oid c.trace.entries k.history.drawn s out is was;
    begins = k.history.begins;
    committed = k.history.committed;
    room =
        let fewer = owed_less c.turns s (back c.turns s out is was) is (λ x. omega arith) in
        let had = k.history.room in
        omega (arith, fewer, had);
  }

  tables_back : AreTables after
  tables_back = record {
    tasks = tasks_back (tables_of c) c.locks locks k.tables.tasks s out here gone others;
    ordered = λ q has. k.tables.ordered q (scripts q has);
  }

  counts_back : (a cells fresh : ℕ) → CountsCells c.buffer c.atoms a cells fresh
      → CountsCells buffer c.atoms a cells fresh
  counts_back a cells fresh h = record {
    nodes = h.nodes;
    different = h.different;
    just = λ i. (
      (λ has. (((h.just i).0 has).0, same_dirty c.buffer buffer like i ∙ ((h.just i).0 has).1)),
      (λ both. (h.just i).1 (both.0, sym (same_dirty c.buffer buffer like i) ∙ both.1)),
    );
    cells_are = h.cells_are;
    fresh_are = h.fresh_are;
  }

  accounts_back : AreAccounts after
  accounts_back =
      let g = k.accounts in
      let cells = sums_fall c.turns s out is was cells_for refl in
      let claims = sums_fall c.turns s out is was claims_for refl in
      record {
        covered = g.covered;
        same = g.same;
        counted = λ a opened. counts_back a _ _ (g.counted a opened);
        unknown = g.unknown;
        objects = g.objects;
        holds = g.holds;
        room_to_capture = omega (arith, cells, g.room_to_capture);
        room_for_cells = omega (arith, cells, g.room_for_cells, room);
        room_to_defer = omega (arith, claims, g.room_to_defer);
      }

  fits_back : (blocks : ℕ) (commit : Option Commit) → FitsCommit d c.buffer blocks commit
      → FitsCommit d buffer blocks commit
  fits_back blocks None h = tt
  fits_back blocks (Some x) h = by x.work h
    where
      by : (w : Option CommitSeen) → IsWritingOf d c.buffer blocks (numbers x.nodes) w
          → IsWritingOf d buffer blocks (numbers x.nodes) w
      by None h = h
      by (Some w) h = record {
        fits = h.fits;
        unfinished = h.unfinished;
        within = h.within;
        super40 = h.super40;
        count = h.count;
        base = h.base;
        reads = h.reads;
        apart = λ i p f target at.
            (let e = was_there c.buffer buffer like i f at in
            e.like.dirty ∙ h.apart i p e.entry target e.is);
        below = h.below;
        accepted = λ i f has at.
            (let e = was_there c.buffer buffer like i f at in
            subst (IsAccepted blocks) (sym e.like.cell) (h.accepted i e.entry has e.is));
        lands = λ tells i f has at.
            (let e = was_there c.buffer buffer like i f at in
            ap (λ (y : CellSeen). y.block) e.like.cell ∙ h.lands tells i e.entry has e.is);
      }

  names_before : (i : ℕ) (n : Name) → NamesAt buffer i n → NamesAt c.buffer i n
  names_before i n x =
      let e = was_there c.buffer buffer like i x.entry x.is in
      names_as c.buffer i e.entry x.entry e.is e.like.cell n x.among

  cells_back : AreCells d after
  cells_back =
      let g = k.cells in
      record {
        super40 = g.super40;
        space = g.space;
        root = g.root;
        height = g.height;
        root_stands = λ high. same_dirty c.buffer buffer like c.tree.id.0 ∙ g.root_stands high;
        buffered_names = λ i f at.
            (let e = was_there c.buffer buffer like i f at in
            subst (HasNames (blocks_of c) c.numbers.next_name) (sym e.like.cell) (g.buffered_names i e.entry e.is));
        reached_names = λ q o x has. g.reached_names q o x (outs q o has);
        owned_names = g.owned_names;
        named = named_on c.buffer buffer c.tree.id.0 (λ i n x high. names_before i n x) g.named;
        given_cells = λ sound q o x has there.
            still_like c.buffer buffer like (blocks_of c) x (g.given_cells sound q o x (outs q o has) there);
        dirty = λ i f at.
            (let e = was_there c.buffer buffer like i f at in (
              (λ yes. (g.dirty i e.entry e.is).0 (sym e.like.dirty ∙ yes)),
              (λ some. e.like.dirty ∙ (g.dirty i e.entry e.is).1 some),
            ));
        clean = λ sound. readable_like c.buffer buffer like lawful still d (blocks_of c) (g.clean sound);
        fresh = λ i f at high.
            (let e = was_there c.buffer buffer like i f at in
            e.like.dirty ∙ g.fresh i e.entry e.is high);
        nodes = g.nodes;
        commit = fits_back (blocks_of c) c.commit g.commit;
      }

  tasks_after : AreOut after
  tasks_after =
      let g = k.tasks in
      let same = numbers_back c.turns s out is was in
      record {
        uses = λ i.
            (let fewer = unused_fewer out.pins i (buffered c.buffer i) in
            let now = ap uses_of (cells i) in
            let sums = sums_fall c.turns s out is was (λ o. pins_in o i) refl in
            let le = g.uses i in
            omega (arith, fewer, now, sums, le));
        drawn = λ q n has is_n. (let one = scripts q has in g.drawn q n one (sym (same q one) ∙ is_n));
        apart = λ q p n m has also other is_n is_m.
            (let one = scripts q has in
            let two = scripts p also in
            g.apart q p n m one two other (sym (same q one) ∙ is_n) (sym (same p two) ∙ is_m));
        unused = λ q i n f has is_n at.
            (let one = scripts q has in
            let e = was_there c.buffer buffer like i f at in
            g.unused q i n e.entry one (sym (same q one) ∙ is_n) e.is);
        unnamed = λ q i n m has is_n x.
            (let one = scripts q has in
            g.unnamed q i n m one (sym (same q one) ∙ is_n) (names_before i m x));
        unreached = λ q p n o x has is_n there.
            (let one = scripts q has in
            g.unreached q p n o x one (sym (same q one) ∙ is_n) (outs p o there));
        unowned = λ q i n has is_n.
            (let one = scripts q has in g.unowned q i n one (sym (same q one) ∙ is_n));
        given = λ q o x has next. g.given q o x (outs q o has) (sym (next_back c.turns s out is was q) ∙ next);
      }

  means_back : (b : Beginning) (h : HasStory r b d c) → HasMeaning b (job_named r.scripts) d after h.story
  means_back b h =
      let m = h.means in
      record {
        reads = m.reads;
        session = m.session;
        trace = m.trace;
        owner = m.owner;
        root = m.root;
        cells = λ i f at.
            (let e = was_there c.buffer buffer like i f at in
            m.cells i e.entry e.is ∙ ap (λ (x : CellSeen). Some (node_of x)) (sym e.like.cell));
        clean = λ sound i n at none. m.clean sound i n at (none_there c.buffer buffer like i none);
        reach = λ q o x has. m.reach q o x (outs q o has);
        owned = λ i n some at. same_dirty c.buffer buffer like i ∙ m.owned i n some at;
        born = m.born;
        gone = m.gone;
        at = m.at;
      }

  pub keeps_back : IsKept r d after
  keeps_back = record {
    history = history_back;
    tables = tables_back;
    accounts = accounts_back;
    cells = cells_back;
    tasks = tasks_after;
    lender = k.lender;
    story = λ b named.
        (let h = k.story b named in
        record {
          story = h.story;
          means = means_back b h;
          durable = λ t at tells. (let g = h.durable t at tells in record { each = g.each; now = g.now });
        });
  }

  -- the same of turns that are as they are then
  pub keeps_taken : (turns : TurnsSeen) → turns ≡ given_back c.turns s out.numbers
      → IsKept r d (record c { turns = turns; locks = locks; buffer = buffer })
  keeps_taken turns is_turns =
      subst (λ (x : TurnsSeen). IsKept r d (record c { turns = x; locks = locks; buffer = buffer })) (sym is_turns)
      keeps_back

  -- the task holds nodes until then
  pub may_release : IsTask c.locks out.task.0
  may_release = (k.tables.tasks.held.holds s out here).stands
