-- A command goes out as a task: what holds of a core holds still.
use Rattle.std.proofs.Common.{◌≡◌, ◌⊎◌, inl, inr, ⊎_elim, ℕ, ◌+◌, ◌<◌, ◌≤◌, ◌^◌, ◌==◌, true, false, List, [], ◌∷◌}
use Rattle.std.proofs.Common.{◌++◌, length, Option, Some, None, Contains, refl, sym, ◌∙◌, ap, subst, arith, nat_lt}
use Rattle.std.proofs.Common.{cond, true≢false}
use Rattle.std.specs.Prelude.{IsSome, count_by}
use Rattle.std.specs.Option.{option_map}
use Rattle.std.proofs.lemmas.Bool.{cases_Bool, lt-ltb, or_cases, or_left, or_right}
use Rattle.std.proofs.lemmas.List.Sums.{sum_by-cons}
use Rattle.r4_atoms.specs.Atoms.{numbers, owner_of}
use Rattle.r4_base.specs.Image.{block_at}
use Rattle.r4_base.specs.Key.{rank}
use Rattle.r4_base.specs.Tree.{Name}
use Rattle.r4_base.specs.declared.things.NodeId.{NodeId}
use Rattle.r4_kept.specs.r4_buffer.Changed.{Standing, in_turn, used, uses_of}
use Rattle.r4_kept.specs.r4_buffer.Reading.{NamesStand}
use Rattle.r4_kept.specs.r4_buffer.Seen.{BufferSeen, EntrySeen, IsLawful, buffered, cell_at, is_above, is_captured}
use Rattle.r4_kept.specs.r4_buffer.Seen.{is_dirty_by}
use Rattle.r4_kept.proofs.r4_buffer.Captured.{captured_is, is_captured_from}
use Rattle.r4_kept.specs.r4_cell.Seen.{CellSeen, node_of}
use Rattle.r4_kept.proofs.r4_cell.NamesBelow.{names_below}
use Rattle.r4_kept.specs.r4_commit.Planned.{CommitSeen}
use Rattle.r4_content.specs.Locality.{commands}
use Rattle.r4_content.specs.Meaning.{greatest_size, with_id}
use Rattle.r4_content.specs.declared.command.Command.{Command}
use Rattle.r4_kept.specs.r4_durable.Meaning.{Beginning, IsNamed, start_of}
use Rattle.r4_kept.specs.r4_history.Drawn.{numbers_of}
use Rattle.r4_kept.specs.r4_history.Held.{HoldsNew, IsOut, names_of}
use Rattle.r4_kept.specs.r4_history.Tables.{next_at}
use Rattle.r4_kept.proofs.r4_history.DrawnSteps.{drawn_out}
use Rattle.r4_kept.proofs.r4_history.Places.{next_there}
use Rattle.r4_kept.proofs.r4_history.RunSteps.{told_out}
use Rattle.r4_kept.proofs.r4_history.TaskSteps.{tasks_out}
use Rattle.r4_kept.specs.r4_locks.Locks.{LocksSeen}
use Rattle.r4_outside.specs.Device.{State}
use Rattle.r4_kept.specs.r4_turns.Turns.{HasNext, IsScript, TurnsSeen, gone_out, turn_at}
use Rattle.r4_kept.specs.r4_turns.declared.out.Numbers.{Numbers}
use Rattle.r4_kept.specs.r4_turns.declared.out.Out.{Out}
use Rattle.r4_kept.specs.Accounts.{AreAccounts, CountsCells, cells_for, claims_for}
use Rattle.r4_kept.specs.Cells.{AreCells, AreReadable, FitsCommit, HasNames, IsAccepted, IsName, IsStillThere}
use Rattle.r4_kept.specs.Cells.{IsWritingOf, NamesAt}
use Rattle.r4_kept.specs.History.{IsHistory}
use Rattle.r4_kept.specs.Kept.{IsKept}
use Rattle.r4_kept.specs.Meaning.{HasMeaning, Spares, SparesIn}
use Rattle.r4_kept.specs.Naming.{Naming, job_named, names_in}
use Rattle.r4_kept.specs.Tables.{AreTables}
use Rattle.r4_kept.specs.TasksOut.{AreApart, AreOut, IsGiven, WereDrawn, pins_in}
use Rattle.r4_kept.specs.View.{CoreSeen, blocks_of, tables_of}
use Rattle.r4_kept.specs.declared.parts.Commit.{Commit}
use Rattle.r4_kept.specs.declared.parts.Numbers.{Numbers as Next}
use Rattle.r4_kept.proofs.Readable.{captured_dirty}
use Rattle.r4_kept.proofs.Staying.{named_on, names_as, still_on}
use Rattle.r4_kept.proofs.Unused.{IsLike}
use Rattle.r4_taking.specs.GoingOut.{CanGoOut, IsMet, IsOnDisk}
use Rattle.r4_taking.proofs.NamesFree.{names_free}
use Rattle.r4_taking.proofs.OutTurns.{next_same, numbers_cases, out_cases, owed_out, scripts_before, sums_rise}
use Rattle.r4_taking.proofs.Used.{IsClean, IsNew, IsUsed, all_used, uses_then}

-- ---- what stands in memory then

-- an entry that stands there then: the one that was there, or a cell that was read from the device, clean
pub record IsRead {D : Type 0} (d : State) (c : CoreSeen D) (i : ℕ) (f : EntrySeen) : Type 0 where
  pub clean : f.dirty ≡ false
  pub named : f.cell.id ≡ i
  pub on_disk : IsOnDisk d c f.cell

pub record Was (b : BufferSeen) (i : ℕ) (f : EntrySeen) : Type 0 where
  pub entry : EntrySeen
  pub is : buffered b i ≡ Some entry
  pub cell : f.cell ≡ entry.cell
  pub dirty : f.dirty ≡ entry.dirty

module _ {D : Type 0} (d : State) (c : CoreSeen D) (lawful : IsLawful c.buffer) (met : List CellSeen)
    (are : (x : CellSeen) → Contains met x → IsMet d c x)
    (new : BufferSeen) (still : IsLawful new)
    (cells : (i : ℕ) → buffered new i ≡ in_turn used met i (buffered c.buffer i)) where
  abbrev b : BufferSeen
  b = c.buffer

  was_by : (i : ℕ) (f : EntrySeen) (o : Standing) → buffered b i ≡ o → IsLike o (Some f) → Was b i f
  was_by i f None at h = absurd h
  was_by i f (Some e) at h = record { entry = e; is = at; cell = h.cell; dirty = h.dirty }

  held_by : (i : ℕ) (x : CellSeen) (f : EntrySeen) (o : Standing) → buffered b i ≡ o
      → option_map (λ (e : EntrySeen). e.cell) o ≡ Some x → IsClean o → f.cell ≡ x → f.dirty ≡ false → Was b i f
  held_by i x f None at h clean cell dirty = absurd (cc h)
  held_by i x f (Some e) at h clean cell dirty =
      record { entry = e; is = at; cell = cell ∙ sym (cc h); dirty = dirty ∙ sym clean }

  new_by : (i : ℕ) (f : EntrySeen) → IsNew met i (buffered b i) (Some f) → Was b i f ⊎ IsRead d c i f
  new_by i f n =
      let same : f ≡ n.entry = cc n.is in
      let dirty : f.dirty ≡ false = ap (λ (e : EntrySeen). e.dirty) same ∙ n.clean in
      let named : f.cell.id ≡ i = ap (λ (e : EntrySeen). e.cell.id) same ∙ n.named in
      let m : IsMet d c f.cell = are f.cell (subst (λ (e : EntrySeen). Contains met e.cell) (sym same) n.there) in
      by f.cell.id named refl m dirty
    where
      by : (j : ℕ) → j ≡ i → f.cell.id ≡ j → IsMet d c f.cell → f.dirty ≡ false → Was b i f ⊎ IsRead d c i f
      by j at own m dirty = elim (cases_Bool (is_captured b f.cell.id)) [
        | inl held ↦
            let here : cell_at b i ≡ Some f.cell =
            ap (cell_at b) (sym (own ∙ at)) ∙ m.captured held in
            inl (held_by i f.cell f (buffered b i) refl here n.was refl dirty)
        | inr not ↦ inr (record { clean = dirty; named = own ∙ at; on_disk = m.on_disk not })
      ]

  pub entry_cases : (i : ℕ) (f : EntrySeen) → buffered new i ≡ Some f → Was b i f ⊎ IsRead d c i f
  entry_cases i f at =
      ⊎_elim (λ like. inl (was_by i f (buffered b i) refl like)) (λ n. new_by i f n)
      (subst (IsUsed met i (buffered b i)) (sym (cells i) ∙ at) (all_used met i (buffered b i)))

  -- what was there stays, where it is captured
  pub record Stayed (i : ℕ) (e : EntrySeen) : Type 0 where
    pub entry : EntrySeen
    pub is : buffered new i ≡ Some entry
    pub cell : entry.cell ≡ e.cell
    pub dirty : entry.dirty ≡ e.dirty

  then_is : (i : ℕ) (e : EntrySeen) → buffered b i ≡ Some e → IsUsed met i (Some e) (buffered new i)
  then_is i e at =
      subst (λ (o : Standing). IsUsed met i o (buffered new i)) at
      (subst (IsUsed met i (buffered b i)) (sym (cells i)) (all_used met i (buffered b i)))

  stayed_by : (i : ℕ) (e : EntrySeen) (p : Standing) → buffered new i ≡ p → IsLike (Some e) p → Stayed i e
  stayed_by i e None at h = absurd h
  stayed_by i e (Some f) at h = record { entry = f; is = at; cell = h.cell; dirty = h.dirty }

  pub stays : (i : ℕ) (e : EntrySeen) → buffered b i ≡ Some e → is_captured b i ≡ true → Stayed i e
  stays i e at held =
      ⊎_elim (λ like. stayed_by i e (buffered new i) refl like)
      (λ n.
      (let m = are n.entry.cell n.there in
      let here : cell_at b i ≡ Some n.entry.cell =
      ap (cell_at b) (sym n.named) ∙ m.captured (ap (is_captured b) n.named ∙ held) in
      let same : Some e.cell ≡ Some n.entry.cell =
      sym (ap (option_map (λ (x : EntrySeen). x.cell)) at) ∙ here in
      record { entry = n.entry; is = n.is; cell = sym (cc same); dirty = n.clean ∙ sym n.was }))
      (then_is i e at)

  -- a dirty one is captured
  dirty_held : (i : ℕ) (e : EntrySeen) → buffered b i ≡ Some e → e.dirty ≡ true → is_captured b i ≡ true
  dirty_held i e at dirty = is_captured_from b lawful i (record { entry = e; is = at; why = inl dirty })

  pub captured_still : (i : ℕ) → is_captured b i ≡ true → is_captured new i ≡ true
  captured_still i held =
      let h = captured_is b lawful i held in
      let f = stays i h.entry h.is held in
      is_captured_from new still i (record {
        entry = f.entry;
        is = f.is;
        why = ⊎_elim (λ dirty. inl (f.dirty ∙ dirty)) (λ above.
            (let g = stays above.name above.entry above.is (dirty_held above.name above.entry above.is above.dirty) in
            inr (record {
              name = above.name;
              entry = g.entry;
              is = g.is;
              dirty = g.dirty ∙ above.dirty;
              above = ap (λ (x : CellSeen). is_above x g.entry.cell) f.cell
                  ∙ ap (is_above h.entry.cell) g.cell ∙ above.above;
            }))) h.why;
      })

  pub captured_before : (i : ℕ) (f : EntrySeen) → buffered new i ≡ Some f → Was b i f → is_captured new i ≡ true
      → is_captured b i ≡ true
  captured_before i f at was held =
      let h = captured_is new still i held in
      let same : h.entry ≡ f = cc (sym h.is ∙ at) in
      is_captured_from b lawful i (record {
        entry = was.entry;
        is = was.is;
        why = ⊎_elim (λ dirty. inl (sym was.dirty ∙ ap (λ (x : EntrySeen). x.dirty) (sym same) ∙ dirty)) (λ above.
            ⊎_elim (λ g.
            inr (record {
              name = above.name;
              entry = g.entry;
              is = g.is;
              dirty = sym g.dirty ∙ above.dirty;
              above = ap (λ (x : CellSeen). is_above x g.entry.cell) (sym was.cell)
                  ∙ ap (λ (x : EntrySeen). is_above x.cell g.entry.cell) (sym same)
                  ∙ ap (is_above h.entry.cell) (sym g.cell) ∙ above.above;
            }))
            (λ read. absurd (true≢false (sym above.dirty ∙ read.clean)))
            (entry_cases above.name above.entry above.is)) h.why;
      })

  pub same_dirty : (i : ℕ) → is_dirty_by (buffered new i) ≡ is_dirty_by (buffered b i)
  same_dirty i =
      by (buffered b i) (buffered new i)
      (subst (IsUsed met i (buffered b i)) (sym (cells i)) (all_used met i (buffered b i)))
    where
      clean : (o : Standing) → IsClean o → is_dirty_by o ≡ false
      clean None h = refl
      clean (Some e) h = h

      by : (o p : Standing) → IsUsed met i o p → is_dirty_by p ≡ is_dirty_by o
      by None None (inl h) = refl
      by None (Some f) (inl h) = absurd h
      by (Some e) None (inl h) = absurd h
      by (Some e) (Some f) (inl h) = h.dirty
      by o p (inr n) = ap is_dirty_by n.is ∙ n.clean ∙ sym (clean o n.was)

  pub none_before : (i : ℕ) → buffered new i ≡ None → buffered b i ≡ None
  none_before i none =
      by (buffered b i) refl
      (subst (IsUsed met i (buffered b i)) (sym (cells i) ∙ none) (all_used met i (buffered b i)))
    where
      by : (o : Standing) → buffered b i ≡ o → IsUsed met i (buffered b i) None → buffered b i ≡ None
      by None at h = at
      by (Some e) at (inl h) = absurd (subst (λ (o : Standing). IsLike o None) at h)
      by (Some e) at (inr n) = absurd (cc n.is)

  -- ---- what is named, and what tasks were given

  -- what names the number of a new cell did so before
  pub names_before : blocks_of c ≤ 2 ^ 63 → (i : ℕ) (n : Name) → NamesAt new i n → 2 ^ 63 ≤ n.id → NamesAt b i n
  names_before small i n x high =
      ⊎_elim (λ was. names_as b i was.entry x.entry was.is was.cell n x.among)
      (λ read.
      (let y = x.entry.cell in
      let low = names_below (blocks_of c) y.level (rank y.lo) (rank y.hi) y.block n read.on_disk.accepted x.among in
      absurd (omega (arith, low, small, high)))) (entry_cases i x.entry x.is)

  same_cell : (i : ℕ) → is_dirty_by (buffered b i) ≡ true → cell_at new i ≡ cell_at b i
  same_cell i dirty = by (buffered b i) refl dirty
    where
      by : (o : Standing) → buffered b i ≡ o → is_dirty_by o ≡ true
          → cell_at new i ≡ option_map (λ (e : EntrySeen). e.cell) o
      by None at h = absurd (true≢false (sym h))
      by (Some e) at h =
          let f = stays i e at (dirty_held i e at h) in
          ap (option_map (λ (x : EntrySeen). x.cell)) f.is ∙ ap (λ (x : CellSeen). Some x) f.cell

  pub still_there : (blocks : ℕ) (x : CellSeen) → IsStillThere b blocks x → IsStillThere new blocks x
  still_there blocks x h = still_on b new blocks x (same_dirty x.id) (same_cell x.id) h

  -- a cell that was met is there
  module _ (next : ℕ) (readable : AreReadable d b (blocks_of c))
      (names : (i : ℕ) (e : EntrySeen) → buffered b i ≡ Some e → HasNames (blocks_of c) next e.cell)
      (fresh : (i : ℕ) (e : EntrySeen) → buffered b i ≡ Some e → 2 ^ 63 ≤ i → e.dirty ≡ true) where
    clean_there : (x : CellSeen) (o : Standing) → buffered b x.id ≡ o
        → option_map (λ (e : EntrySeen). e.cell) o ≡ Some x → is_dirty_by o ≡ false
        → (x.id < blocks_of c) × IsAccepted (blocks_of c) x
    clean_there x None at h not = absurd (cc h)
    clean_there x (Some e) at h not =
        let same : e.cell ≡ x = cc h in (
          ⊎_elim (λ low. low.0) (λ high. absurd (true≢false (sym (fresh x.id e at high.0) ∙ not)))
              (subst (λ (y : CellSeen). IsName (blocks_of c) next y.id) same (names x.id e at).own),
          subst (IsAccepted (blocks_of c)) same (readable.accepted x.id e at not),
        )

    pub met_there : (x : CellSeen) → Contains met x → IsStillThere b (blocks_of c) x
    met_there x there =
        let m = are x there in
        record {
          dirty = λ yes. m.captured (captured_dirty b x.id yes);
          clean = λ no. elim (cases_Bool (is_captured b x.id)) [
            | inl held ↦ clean_there x (buffered b x.id) refl (m.captured held) no
            | inr free ↦ (let on = m.on_disk free in (on.block, on.accepted))
          ];
        }

  -- ---- what can be read

  names_on_disk : (x : CellSeen) → IsOnDisk d c x → NamesStand new (blocks_of c) x
  names_on_disk x on n has =
      or_left (nat_lt n.id (blocks_of c)) (is_captured new n.id)
      (lt-ltb n.id (blocks_of c)
      (names_below (blocks_of c) x.level (rank x.lo) (rank x.hi) x.block n on.accepted has))

  pub readable_then : AreReadable d b (blocks_of c) → AreReadable d new (blocks_of c)
  readable_then h = record {
    accepted = λ i f at not.
        ⊎_elim (λ was.
        subst (IsAccepted (blocks_of c)) (sym was.cell) (h.accepted i was.entry was.is (sym was.dirty ∙ not)))
        (λ read. read.on_disk.accepted) (entry_cases i f at);
    same = λ tells i f at not.
        ⊎_elim (λ was.
        ap (λ (x : CellSeen). x.block) was.cell ∙ h.same tells i was.entry was.is (sym was.dirty ∙ not))
        (λ read. read.on_disk.same tells ∙ ap (block_at d.seen) read.named) (entry_cases i f at);
    names = λ i f at yes.
        ⊎_elim (λ was.
        subst (NamesStand new (blocks_of c)) (sym was.cell)
        (λ n has.
        ⊎_elim (λ low. or_left (nat_lt n.id (blocks_of c)) (is_captured new n.id) low)
        (λ held. or_right (nat_lt n.id (blocks_of c)) (is_captured new n.id) (captured_still n.id held))
        (or_cases (nat_lt n.id (blocks_of c)) (is_captured b n.id)
        (h.names i was.entry was.is (captured_before i f at was yes) n has))))
        (λ read. names_on_disk f.cell read.on_disk) (entry_cases i f at);
  }

-- ---- names

module _ {D : Type 0} (d : State) (c : CoreSeen D) where
  later_name : (blocks next after i : ℕ) → next ≤ after → IsName blocks next i → IsName blocks after i
  later_name blocks next after i le (inl h) = inl h
  later_name blocks next after i le (inr h) = let lt = h.1 in inr (h.0, omega (arith, lt, le))

  later_names : (blocks next after : ℕ) (x : CellSeen) → next ≤ after → HasNames blocks next x → HasNames blocks after x
  later_names blocks next after x le h = record {
    own = later_name blocks next after x.id le h.own;
    named = λ n has. later_name blocks next after n.id le (h.named n has);
  }

  names_read : (next : ℕ) (x : CellSeen) → IsOnDisk d c x → HasNames (blocks_of c) next x
  names_read next x on = record {
    own = inl (on.block, on.free);
    named = λ n has. inl (
      names_below (blocks_of c) x.level (rank x.lo) (rank x.hi) x.block n on.accepted has,
      names_free (blocks_of c) x.level (rank x.lo) (rank x.hi) x.block n on.accepted has,
    );
  }

-- ---- a core

module _ {D : Type 0} (r : Naming) (d : State) (c : CoreSeen D) (k : IsKept r d c) (s : ℕ) (out : Out)
    (is : IsScript c.turns s) (met : List CellSeen) (next : Next) (can : CanGoOut d c s out met next)
    (locks : LocksSeen) (holds : HoldsNew c.locks locks out)
    (buffer : BufferSeen) (cells : (i : ℕ) → buffered buffer i ≡ in_turn used met i (buffered c.buffer i))
    (room : buffer.spare + length met ≡ c.buffer.spare) (lawful : IsLawful c.buffer) (still : IsLawful buffer)
    (known : (b : Beginning) (named : IsNamed (names_in r) d.blocks b) (x : CellSeen) → Contains met x
    → (k.story b named).story.session.memory x.id ≡ Some (node_of x)) where
  abbrev after : CoreSeen D
  after = record c {
    turns = gone_out c.turns s out;
    locks = locks;
    buffer = buffer;
    numbers = next;
  }

  scripts : (q : ℕ) → IsScript after.turns q → IsScript c.turns q
  scripts = scripts_before c.turns s is out

  cases : (i : ℕ) (f : EntrySeen) → buffered buffer i ≡ Some f → Was c.buffer i f ⊎ IsRead d c i f
  cases = entry_cases d c lawful met can.met_are buffer still cells

  dirty_then : (i : ℕ) → is_dirty_by (buffered buffer i) ≡ is_dirty_by (buffered c.buffer i)
  dirty_then = same_dirty d c lawful met can.met_are buffer still cells

  -- names are drawn later on
  next_rises : c.numbers.next_name ≤ next.next_name
  next_rises = by (numbers_of (turn_at c.turns s)) refl
    where
      by : (o : Option Numbers) → numbers_of (turn_at c.turns s) ≡ o → c.numbers.next_name ≤ next.next_name
      by (Some n) some = let e = can.draws.kept n some in omega (arith, e)
      by None none =
          let e = can.draws.drawn none in
          let one = e.1 in
          let two = e.2 in
          let three = e.3 in
          omega (arith, one, two, three)

  -- ---- history and tables

  history_out : IsHistory r d after
  history_out = record {
    told = λ o named. told_out (commands greatest_size) (option_map start_of o) d.clock (tables_of c) c.trace.entries
        (k.history.told o named) s out is;
    job = k.history.job;
    first = k.history.first;
    drawn = drawn_out k.history.first c.turns c.numbers.next_oid c.trace.entries k.history.drawn s can.served.command
        out next.next_oid is can.served.next can.free (can.gets can.served.command can.served.next);
    begins = k.history.begins;
    committed = k.history.committed;
    room =
        let more = owed_out c.turns s is (k.history.told None tt).scripts out can.free in
        let enough = can.entries in
        omega (arith, more, enough);
  }

  tables_out : AreTables after
  tables_out = record {
    tasks = tasks_out (tables_of c) c.locks locks k.tables.tasks s out is can.free holds can.served;
    ordered = λ q has. k.tables.ordered q (scripts q has);
  }

  -- ---- accounts

  counts_then : (a count fresh : ℕ) → CountsCells c.buffer c.atoms a count fresh
      → CountsCells buffer c.atoms a count fresh
  counts_then a count fresh h = record {
    nodes = h.nodes;
    different = h.different;
    just = λ i. (
      (λ has. (((h.just i).0 has).0, dirty_then i ∙ ((h.just i).0 has).1)),
      (λ both. (h.just i).1 (both.0, sym (dirty_then i) ∙ both.1)),
    );
    cells_are = h.cells_are;
    fresh_are = h.fresh_are;
  }

  accounts_out : AreAccounts after
  accounts_out =
      let g = k.accounts in
      let more = sums_rise c.turns s is out can.free cells_for refl in
      let claims = sums_rise c.turns s is out can.free claims_for refl in
      let captures = can.captures in
      let places = can.cells in
      let enough = can.claims in
      record {
        covered = g.covered;
        same = g.same;
        counted = λ a opened. counts_then a _ _ (g.counted a opened);
        unknown = g.unknown;
        objects = g.objects;
        holds = g.holds;
        room_to_capture = omega (arith, more, captures);
        room_for_cells = omega (arith, more, places, room);
        room_to_defer = omega (arith, claims, enough);
      }

  -- ---- cells

  small : blocks_of c ≤ 2 ^ 63
  small = let le = k.cells.super40.blocks.1 in omega (arith, le)

  none_some : {a : ℕ} → None ≡ Some a → ⊥
  none_some e = cc e

  fits_by : (commit : Option Commit)
      → ((i : ℕ) (f : EntrySeen) → buffered buffer i ≡ Some f → Was c.buffer i f ⊎ Spares i commit)
      → ((x : Commit) → commit ≡ Some x → (i : ℕ) (f : EntrySeen) → Contains (numbers x.nodes) i
      → buffered buffer i ≡ Some f → Was c.buffer i f)
      → FitsCommit d c.buffer (blocks_of c) commit → FitsCommit d buffer (blocks_of c) commit
  fits_by None spares own h = tt
  fits_by (Some x) spares own h = by x.work spares (own x refl) h
    where
      by : (w : Option CommitSeen)
          → ((i : ℕ) (f : EntrySeen) → buffered buffer i ≡ Some f → Was c.buffer i f ⊎ SparesIn i w)
          → ((i : ℕ) (f : EntrySeen) → Contains (numbers x.nodes) i → buffered buffer i ≡ Some f → Was c.buffer i f)
          → IsWritingOf d c.buffer (blocks_of c) (numbers x.nodes) w
          → IsWritingOf d buffer (blocks_of c) (numbers x.nodes) w
      by None spares own h = h
      by (Some w) spares own h = record {
        fits = h.fits;
        unfinished = h.unfinished;
        within = h.within;
        super40 = h.super40;
        count = h.count;
        base = h.base;
        reads = h.reads;
        apart = λ i p f target at.
            ⊎_elim (λ was. was.dirty ∙ h.apart i p was.entry target was.is)
            (λ spared. absurd (spared p target)) (spares i f at);
        below = h.below;
        accepted = λ i f has at.
            (let was = own i f has at in
            subst (IsAccepted (blocks_of c)) (sym was.cell) (h.accepted i was.entry has was.is));
        lands = λ tells i f has at.
            (let was = own i f has at in
            ap (λ (y : CellSeen). y.block) was.cell ∙ h.lands tells i was.entry has was.is);
      }

  cells_out : AreCells d after
  cells_out =
      let g = k.cells in
      let blocks = blocks_of c in
      record {
        super40 = g.super40;
        space = g.space;
        root = later_name d c blocks c.numbers.next_name next.next_name c.tree.id.0 next_rises g.root;
        height = g.height;
        root_stands = λ high. dirty_then c.tree.id.0 ∙ g.root_stands high;
        buffered_names = λ i f at.
            ⊎_elim (λ was.
            subst (HasNames blocks next.next_name) (sym was.cell)
            (later_names d c blocks c.numbers.next_name next.next_name was.entry.cell next_rises
            (g.buffered_names i was.entry was.is)))
            (λ read. names_read d c next.next_name f.cell read.on_disk) (cases i f at);
        reached_names = λ q o x has there.
            ⊎_elim (λ here.
            met_names x (can.among x (subst (λ (y : Out). Contains (y.reads ++ y.writes) x) (sym here.1) there)))
            (λ was. later_names d c blocks c.numbers.next_name next.next_name x next_rises
            (g.reached_names q o x was.1 there))
            (out_cases c.turns s is out q o has);
        owned_names = λ i some. later_name d c blocks c.numbers.next_name next.next_name i next_rises
            (g.owned_names i some);
        named = named_on c.buffer buffer c.tree.id.0
            (names_before d c lawful met can.met_are buffer still cells small) g.named;
        given_cells = λ sound q o x has there.
            still_there d c lawful met can.met_are buffer still cells blocks x
            (⊎_elim (λ here.
            met_there d c lawful met can.met_are buffer still cells c.numbers.next_name (g.clean sound)
            g.buffered_names g.fresh x
            (can.among x (subst (λ (y : Out). Contains (y.reads ++ y.writes) x) (sym here.1) there)))
            (λ was. g.given_cells sound q o x was.1 there) (out_cases c.turns s is out q o has));
        dirty = λ i f at.
            ⊎_elim (λ was. (
              (λ yes. (g.dirty i was.entry was.is).0 (sym was.dirty ∙ yes)),
              (λ some. was.dirty ∙ (g.dirty i was.entry was.is).1 some),
            ))
            (λ read. (
              (λ yes. absurd (true≢false (sym yes ∙ read.clean))),
              (λ some. absurd (true≢false (sym
                  (subst IsSome (ap (owner_of c.atoms) (sym read.named) ∙ read.on_disk.unowned) some)))),
            )) (cases i f at);
        fresh = λ i f at high.
            ⊎_elim (λ was. was.dirty ∙ g.fresh i was.entry was.is high)
            (λ read.
            (let lt = read.on_disk.block in let named = read.named in absurd (omega (arith, lt, named, high, small))))
            (cases i f at);
        clean = λ sound. readable_then d c lawful met can.met_are buffer still cells (g.clean sound);
        nodes = g.nodes;
        commit = fits_by c.commit
            (λ i f at. ⊎_elim (λ was. inl was)
            (λ read. inr (subst (λ (j : ℕ). Spares j c.commit) read.named read.on_disk.spared)) (cases i f at))
            (λ x is i f has at. ⊎_elim (λ was. was)
            (λ read. absurd (none_some (sym (ap (owner_of c.atoms) (sym read.named) ∙ read.on_disk.unowned)
            ∙ (g.nodes x is i).0 has))) (cases i f at))
            g.commit;
      }
    where
      met_by : (x : CellSeen) → Contains met x → (o : Standing) → buffered c.buffer x.id ≡ o
          → option_map (λ (e : EntrySeen). e.cell) o ≡ Some x → HasNames (blocks_of c) next.next_name x
      met_by x there None at h = absurd (cc h)
      met_by x there (Some e) at h =
          subst (HasNames (blocks_of c) next.next_name) (cc h)
          (later_names d c (blocks_of c) c.numbers.next_name next.next_name e.cell next_rises
          (k.cells.buffered_names x.id e at))

      met_names : (x : CellSeen) → Contains met x → HasNames (blocks_of c) next.next_name x
      met_names x there = elim (cases_Bool (is_captured c.buffer x.id)) [
        | inl held ↦ met_by x there (buffered c.buffer x.id) refl ((can.met_are x there).captured held)
        | inr not ↦ names_read d c next.next_name x ((can.met_are x there).on_disk not)
      ]

  -- ---- tasks

  pins_count : (i : ℕ) → count_by (λ (n : NodeId). n.0 == i) out.pins ≡ count_by (λ (x : CellSeen). x.id == i) met
  pins_count i = ap (λ (l : List NodeId). count_by (λ (n : NodeId). n.0 == i) l) can.pins ∙ by met
    where
      by : (xs : List CellSeen) → count_by (λ (n : NodeId). n.0 == i) (names_of xs)
          ≡ count_by (λ (x : CellSeen). x.id == i) xs
      by [] = refl
      by (x ∷ xs) =
          let one = sum_by-cons (λ (n : NodeId). cond (n.0 == i) 1 0) (record { 0 = x.id }) (names_of xs) in
          let two = sum_by-cons (λ (y : CellSeen). cond (y.id == i) 1 0) x xs in
          let rest = by xs in
          omega (arith, one, two, rest)

  -- the names that were drawn are above all that were drawn before
  drawn_now : WereDrawn next.next_name out.numbers
  drawn_now = by (numbers_of (turn_at c.turns s)) refl
    where
      by : (o : Option Numbers) → numbers_of (turn_at c.turns s) ≡ o → WereDrawn next.next_name out.numbers
      by (Some n) some =
          let same = ((can.gets can.served.command can.served.next).kept n some).0 in
          let e = can.draws.kept n some in
          subst (WereDrawn next.next_name) (sym same)
          (subst (λ (m : ℕ). WereDrawn m n) (sym e) (k.tasks.drawn s n is some))
      by None none =
          let e = can.draws.drawn none in
          record { least = e.0; rise = e.2; most = e.3 }

  drawn_later : (q : ℕ) (n : Numbers) → IsScript c.turns q → numbers_of (turn_at c.turns q) ≡ Some n
      → WereDrawn next.next_name n
  drawn_later q n has is_n =
      let g = k.tasks.drawn q n has is_n in
      let most = g.most in
      record { least = g.least; rise = g.rise; most = omega (arith, most, next_rises) }

  apart_now : (q : ℕ) (n : Numbers) → IsScript c.turns q → (q ≡ s → ⊥) → numbers_of (turn_at c.turns q) ≡ Some n
      → AreApart n out.numbers
  apart_now q n has other is_n = by (numbers_of (turn_at c.turns s)) refl
    where
      by : (o : Option Numbers) → numbers_of (turn_at c.turns s) ≡ o → AreApart n out.numbers
      by (Some m) some =
          let same = ((can.gets can.served.command can.served.next).kept m some).0 in
          subst (AreApart n) (sym same) (k.tasks.apart q s n m has is other is_n some)
      by None none =
          let below = (k.tasks.drawn q n has is_n).most in
          let least = (can.draws.drawn none).1 in
          inl (omega (arith, below, least))

  flipped : (n m : Numbers) → AreApart n m → AreApart m n
  flipped n m (inl h) = inr h
  flipped n m (inr h) = inl h

  -- a name that a cell had before is none of the numbers that were drawn now
  had_before : (i : ℕ) → IsName (blocks_of c) c.numbers.next_name i → out.numbers.fresh.next ≤ i
      → numbers_of (turn_at c.turns s) ≡ None → ⊥
  had_before i (inl h) low none =
      let lt = h.0 in
      let first = (can.draws.drawn none).0 in
      absurd (omega (arith, lt, first, small, low))
  had_before i (inr h) low none =
      let lt = h.1 in
      let first = (can.draws.drawn none).1 in
      absurd (omega (arith, lt, first, low))

  unused_now : (i : ℕ) (e : EntrySeen) → buffered c.buffer i ≡ Some e → out.numbers.fresh.next ≤ i
      → i < out.numbers.fresh.end → ⊥
  unused_now i e at low high = by (numbers_of (turn_at c.turns s)) refl
    where
      by : (o : Option Numbers) → numbers_of (turn_at c.turns s) ≡ o → ⊥
      by None none =
          had_before i (subst (IsName (blocks_of c) c.numbers.next_name) (lawful.named i e at)
          (k.cells.buffered_names i e at).own) low none
      by (Some n) some =
          let same = ((can.gets can.served.command can.served.next).kept n some).0 in
          k.tasks.unused s i n e is some at (subst (λ (m : Numbers). m.fresh.next ≤ i) same low)
          (subst (λ (m : Numbers). i < m.fresh.end) same high)

  -- nor does a cell name one of them
  unnamed_now : (i : ℕ) (n : Name) → NamesAt c.buffer i n → out.numbers.fresh.next ≤ n.id
      → n.id < out.numbers.fresh.end → ⊥
  unnamed_now i n x low high = by (numbers_of (turn_at c.turns s)) refl
    where
      by : (o : Option Numbers) → numbers_of (turn_at c.turns s) ≡ o → ⊥
      by None none = had_before n.id ((k.cells.buffered_names i x.entry x.is).named n x.among) low none
      by (Some m) some =
          let same = ((can.gets can.served.command can.served.next).kept m some).0 in
          k.tasks.unnamed s i m n is some x (subst (λ (y : Numbers). y.fresh.next ≤ n.id) same low)
          (subst (λ (y : Numbers). n.id < y.fresh.end) same high)

  drawn_of : (q : ℕ) (n : Numbers) → IsScript after.turns q → numbers_of (turn_at after.turns q) ≡ Some n
      → WereDrawn next.next_name n
  drawn_of q n has is_n =
      ⊎_elim (λ here. subst (WereDrawn next.next_name) here.1 drawn_now)
      (λ other. drawn_later q n (scripts q has) other.1) (numbers_cases c.turns s is out q n has is_n)

  -- a cell that the task was given has no number of a next command
  met_unused : (q : ℕ) (n : Numbers) (x : CellSeen) → IsScript after.turns q
      → numbers_of (turn_at after.turns q) ≡ Some n → Contains met x → n.fresh.next ≤ x.id → x.id < n.fresh.end → ⊥
  met_unused q n x has is_n there low high = elim (cases_Bool (is_captured c.buffer x.id)) [
    | inl held ↦ by (buffered c.buffer x.id) refl ((can.met_are x there).captured held)
    | inr free ↦
        let lt = ((can.met_are x there).on_disk free).block in
        let first = (drawn_of q n has is_n).least in
        absurd (omega (arith, lt, first, small, low))
  ]
    where
      by : (o : Option EntrySeen) → buffered c.buffer x.id ≡ o → option_map (λ (e : EntrySeen). e.cell) o ≡ Some x → ⊥
      by None at h = absurd (cc h)
      by (Some e) at h =
          ⊎_elim (λ here.
          unused_now x.id e at (subst (λ (m : Numbers). m.fresh.next ≤ x.id) (sym here.1) low)
          (subst (λ (m : Numbers). x.id < m.fresh.end) (sym here.1) high))
          (λ other. k.tasks.unused q x.id n e (scripts q has) other.1 at low high)
          (numbers_cases c.turns s is out q n has is_n)

  -- nor has one that another task was given
  reach_unused : (p : ℕ) (o : Out) (x : CellSeen) → IsOut c.turns p o → Contains (o.reads ++ o.writes) x
      → out.numbers.fresh.next ≤ x.id → x.id < out.numbers.fresh.end → ⊥
  reach_unused p o x was there low high = by (numbers_of (turn_at c.turns s)) refl
    where
      by : (m : Option Numbers) → numbers_of (turn_at c.turns s) ≡ m → ⊥
      by None none = had_before x.id (k.cells.reached_names p o x was there).own low none
      by (Some n) some =
          let same = ((can.gets can.served.command can.served.next).kept n some).0 in
          k.tasks.unreached s p n o x is some was there (subst (λ (m : Numbers). m.fresh.next ≤ x.id) same low)
          (subst (λ (m : Numbers). x.id < m.fresh.end) same high)

  unreached_then : (q p : ℕ) (n : Numbers) (o : Out) (x : CellSeen) → IsScript after.turns q
      → numbers_of (turn_at after.turns q) ≡ Some n → IsOut after.turns p o → Contains (o.reads ++ o.writes) x
      → n.fresh.next ≤ x.id → x.id < n.fresh.end → ⊥
  unreached_then q p n o x has is_n is_out there low high =
      ⊎_elim (λ here.
      met_unused q n x has is_n
      (can.among x (subst (λ (y : Out). Contains (y.reads ++ y.writes) x) (sym here.1) there)) low high)
      (λ was.
      ⊎_elim (λ here.
      reach_unused p o x was.1 there (subst (λ (m : Numbers). m.fresh.next ≤ x.id) (sym here.1) low)
      (subst (λ (m : Numbers). x.id < m.fresh.end) (sym here.1) high))
      (λ other. k.tasks.unreached q p n o x (scripts q has) other.1 was.1 there low high)
      (numbers_cases c.turns s is out q n has is_n))
      (out_cases c.turns s is out p o is_out)

  -- nor does an atom own one
  unowned_now : (i : ℕ) → out.numbers.fresh.next ≤ i → i < out.numbers.fresh.end → owner_of c.atoms i ≡ None
  unowned_now i low high = by (numbers_of (turn_at c.turns s)) refl
    where
      by : (m : Option Numbers) → numbers_of (turn_at c.turns s) ≡ m → owner_of c.atoms i ≡ None
      by None none = go (owner_of c.atoms i) refl
        where
          go : (o : Option ℕ) → owner_of c.atoms i ≡ o → owner_of c.atoms i ≡ None
          go None at = at
          go (Some a) at = absurd (had_before i (k.cells.owned_names i (subst IsSome (sym at) refl)) low none)
      by (Some n) some =
          let same = ((can.gets can.served.command can.served.next).kept n some).0 in
          k.tasks.unowned s i n is some (subst (λ (m : Numbers). m.fresh.next ≤ i) same low)
          (subst (λ (m : Numbers). i < m.fresh.end) same high)

  unowned_then : (q i : ℕ) (n : Numbers) → IsScript after.turns q → numbers_of (turn_at after.turns q) ≡ Some n
      → n.fresh.next ≤ i → i < n.fresh.end → owner_of c.atoms i ≡ None
  unowned_then q i n has is_n low high =
      ⊎_elim (λ here.
      unowned_now i (subst (λ (m : Numbers). m.fresh.next ≤ i) (sym here.1) low)
      (subst (λ (m : Numbers). i < m.fresh.end) (sym here.1) high))
      (λ other. k.tasks.unowned q i n (scripts q has) other.1 low high) (numbers_cases c.turns s is out q n has is_n)

  given_then : (q : ℕ) (o : Out) (x : Command) → IsOut after.turns q o → next_at after.turns q ≡ Some x
      → IsGiven c.tree (with_id o.numbers.oid x) o
  given_then q o x is_out next_is =
      let was : next_at c.turns q ≡ Some x = sym (next_same c.turns s is out q) ∙ next_is in
      ⊎_elim (λ here.
      subst (λ (y : Out). IsGiven c.tree (with_id y.numbers.oid x) y) here.1
      (can.given x (ap (next_at c.turns) (sym here.0) ∙ was)))
      (λ old. k.tasks.given q o x old.1 was) (out_cases c.turns s is out q o is_out)

  unused_then : (q i : ℕ) (n : Numbers) (f : EntrySeen) → IsScript after.turns q
      → numbers_of (turn_at after.turns q) ≡ Some n → buffered buffer i ≡ Some f
      → n.fresh.next ≤ i → i < n.fresh.end → ⊥
  unused_then q i n f has is_n at low high =
      ⊎_elim (λ was.
      ⊎_elim (λ here.
      unused_now i was.entry was.is (subst (λ (m : Numbers). m.fresh.next ≤ i) (sym here.1) low)
      (subst (λ (m : Numbers). i < m.fresh.end) (sym here.1) high))
      (λ other. k.tasks.unused q i n was.entry (scripts q has) other.1 was.is low high)
      (numbers_cases c.turns s is out q n has is_n))
      (λ read.
      (let lt = read.on_disk.block in
      let named = read.named in
      let first = (drawn_of q n has is_n).least in
      absurd (omega (arith, lt, named, first, small, low))))
      (cases i f at)

  unnamed_then : (q i : ℕ) (n : Numbers) (m : Name) → IsScript after.turns q
      → numbers_of (turn_at after.turns q) ≡ Some n → NamesAt buffer i m → n.fresh.next ≤ m.id → m.id < n.fresh.end → ⊥
  unnamed_then q i n m has is_n x low high =
      let least = (drawn_of q n has is_n).least in
      let was = names_before d c lawful met can.met_are buffer still cells small i m x (omega (arith, least, low)) in
      ⊎_elim (λ here.
      unnamed_now i m was (subst (λ (y : Numbers). y.fresh.next ≤ m.id) (sym here.1) low)
      (subst (λ (y : Numbers). m.id < y.fresh.end) (sym here.1) high))
      (λ other. k.tasks.unnamed q i n m (scripts q has) other.1 was low high)
      (numbers_cases c.turns s is out q n has is_n)

  tasks_then : AreOut after
  tasks_then =
      let g = k.tasks in
      record {
        uses = λ i.
            (let more = uses_then met i (buffered c.buffer i) in
            let now = ap uses_of (cells i) in
            let sums = sums_rise c.turns s is out can.free (λ o. pins_in o i) refl in
            let pins = pins_count i in
            let le = g.uses i in
            omega (arith, more, now, sums, pins, le));
        drawn = drawn_of;
        apart = λ q p n m has also other is_n is_m.
            ⊎_elim (λ here.
            ⊎_elim (λ too. absurd (other (here.0 ∙ sym too.0)))
            (λ there.
            subst (λ (x : Numbers). AreApart x m) here.1
            (flipped m out.numbers (apart_now p m (scripts p also) there.0 there.1)))
            (numbers_cases c.turns s is out p m also is_m))
            (λ one.
            ⊎_elim (λ too. subst (AreApart n) too.1 (apart_now q n (scripts q has) one.0 one.1))
            (λ there. g.apart q p n m (scripts q has) (scripts p also) other one.1 there.1)
            (numbers_cases c.turns s is out p m also is_m))
            (numbers_cases c.turns s is out q n has is_n);
        unused = unused_then;
        unnamed = unnamed_then;
        unreached = unreached_then;
        unowned = unowned_then;
        given = given_then;
      }

  -- ---- in a run that names its beginning

  means_out : (b : Beginning) (named : IsNamed (names_in r) d.blocks b)
      → HasMeaning b (job_named r.scripts) d after (k.story b named).story
  means_out b named =
      let m = (k.story b named).means in
      record {
        reads = m.reads;
        session = m.session;
        trace = m.trace;
        owner = m.owner;
        root = m.root;
        cells = λ i f at. then_known b named i f (buffered c.buffer i) refl (subst (IsUsed met i (buffered c.buffer i))
            (sym (cells i) ∙ at) (all_used met i (buffered c.buffer i)));
        clean = λ sound i n at none. m.clean sound i n at
            (none_before d c lawful met can.met_are buffer still cells i none);
        reach = λ q o x has there.
            ⊎_elim (λ here.
            known b named x (can.among x (subst (λ (y : Out). Contains (y.reads ++ y.writes) x) (sym here.1) there)))
            (λ was. m.reach q o x was.1 there) (out_cases c.turns s is out q o has);
        owned = λ i n some at. dirty_then i ∙ m.owned i n some at;
        born = m.born;
        gone = m.gone;
        at = m.at;
      }
    where
      then_known : (b : Beginning) (named : IsNamed (names_in r) d.blocks b) (i : ℕ) (f : EntrySeen) (o : Standing)
          → buffered c.buffer i ≡ o → IsUsed met i (buffered c.buffer i) (Some f)
          → (k.story b named).story.session.memory i ≡ Some (node_of f.cell)
      then_known b named i f None at (inl like) = absurd (subst (λ (p : Standing). IsLike p (Some f)) at like)
      then_known b named i f (Some e) at (inl like) =
          let h : IsLike (Some e) (Some f) = subst (λ (p : Standing). IsLike p (Some f)) at like in
          (k.story b named).means.cells i e at ∙ ap (λ (x : CellSeen). Some (node_of x)) (sym h.cell)
      then_known b named i f o at (inr n) =
          let same : f ≡ n.entry = cc n.is in
          ap (k.story b named).story.session.memory (sym n.named) ∙ known b named n.entry.cell n.there
          ∙ ap (λ (x : EntrySeen). Some (node_of x.cell)) (sym same)

  keeps_out : IsKept r d after
  keeps_out = record {
    history = history_out;
    tables = tables_out;
    accounts = accounts_out;
    cells = cells_out;
    tasks = tasks_then;
    lender = k.lender;
    story = λ b named.
        (let h = k.story b named in
        record {
          story = h.story;
          means = means_out b named;
          durable = λ t at tells. (let g = h.durable t at tells in record { each = g.each; now = g.now });
        });
  }

  -- the same of turns that are as they are then
  pub keeps_out_by : (turns : TurnsSeen) → turns ≡ gone_out c.turns s out
      → IsKept r d (record c { turns = turns; locks = locks; buffer = buffer; numbers = next })
  keeps_out_by turns are_turns =
      subst (λ (x : TurnsSeen). IsKept r d (record c { turns = x; locks = locks; buffer = buffer; numbers = next }))
      (sym are_turns) keeps_out

  -- what the calls ask for
  pub may_take_out : HasNext c.turns s
  may_take_out = next_there c.turns s can.served.command can.served.next

  pub may_use : length met ≤ c.buffer.spare
  may_use = let enough = can.cells in omega (arith, enough)
