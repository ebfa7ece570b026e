-- An entry is told that changes no cell, and turns and transactions go on with it: what holds of a core holds still. So
-- it is where a command is answered while no task of its script is out, and where a transaction ends.
use Rattle.std.proofs.Common.{◌≡◌, inl, inr, ℕ, ◌+◌, ◌-◌, ◌≤◌, ◌==◌, false, List, ◌∷◌, Option, Some, None}
use Rattle.std.proofs.Common.{length, refl, sym, ◌∙◌, ap, subst, arith}
use Rattle.std.specs.Prelude.{IsSome, Ok, slice_get, slice_index_or, sum_by}
use Rattle.std.specs.Option.{option_map}
use Rattle.std.proofs.lemmas.Bool.{cases_eq}
use Rattle.r4_atoms.specs.Atoms.{IsOpenAtom, TxnSeen, atom_of, owner_of}
use Rattle.r4_base.specs.declared.things.ScriptNo.{ScriptNo}
use Rattle.r4_content.specs.Locality.{commands}
use Rattle.r4_content.specs.Meaning.{greatest_size}
use Rattle.r4_content.specs.declared.command.Command.{Command}
use Rattle.r4_ready.specs.r4_durable.Meaning.{Beginning, BeginsWith, IsNamed, means, start_of}
use Rattle.r4_others.specs.r4_history.Drawn.{AreDrawn, IsNoDone, numbers_in, numbers_of}
use Rattle.r4_others.specs.r4_history.Held.{IsOut, TasksTell}
use Rattle.r4_others.specs.r4_history.Serving.{AreOrdered}
use Rattle.r4_others.specs.r4_history.Tables.{next_at}
use Rattle.r4_others.specs.r4_history.Told.{IsTold}
use Rattle.r4_others.proofs.r4_history.DrawnSteps.{drawn_answered, drawn_entry, turn_other}
use Rattle.r4_others.proofs.r4_history.Places.{turn_now}
use Rattle.r4_others.proofs.r4_history.TaskSteps.{tasks_answered}
use Rattle.r4_outside.specs.Device.{State, TellsCrashes}
use Rattle.r4_script.specs.Spelling.{AreInOrder}
use Rattle.r4_script.specs.declared.job.Job.{Job}
use Rattle.r4_base.specs.Value.{Content}
use Rattle.r4_flushing.specs.r4_sets_told.Runs.{born_in, gone_in}
use Rattle.r4_trace.specs.Traced.{atom_in}
use Rattle.r4_flushing.specs.r4_sets.Atoms.{ChangesNoCell, told}
use Rattle.r4_trace.specs.Job.{IsWork}
use Rattle.r4_trace.specs.Kept.{Told}
use Rattle.r4_trace.specs.Order.{IsOrdered}
use Rattle.r4_trace.specs.declared.entry.Entry.{Entry}
use Rattle.r4_trace.specs.declared.entry.Entry.TheVariants.{Acked, Begin, Broken, Committed, Done, Ended, Fuse, Refused}
use Rattle.r4_trace.specs.declared.entry.Entry.TheVariants.{Sealed}
use Rattle.r4_trace.proofs.Safely.{safe_push}
use Rattle.r4_turns.specs.Turns.{IsScript, TurnsSeen, answered_at, answered_one, commands_at, no_script}
use Rattle.r4_turns.specs.Turns.{turn_at, with_turn}
use Rattle.r4_turns.specs.declared.out.Numbers.{Numbers}
use Rattle.r4_turns.specs.declared.out.Out.{Out}
use Rattle.r4_turns.specs.declared.turn.Turn.{Turn}
use Rattle.r4_ready.specs.r4_kept.Accounts.{AreAccounts, CountsCells, cells_for, claims_for, dones_in}
use Rattle.r4_ready.specs.r4_kept.Cells.{AreCells}
use Rattle.r4_ready.specs.r4_kept.Durable.{IsDurable}
use Rattle.r4_ready.specs.r4_kept.History.{IsHistory, owed, owed_for_commit}
use Rattle.r4_ready.specs.r4_kept.Kept.{HasStory, IsKept}
use Rattle.r4_ready.specs.r4_kept.Meaning.{HasMeaning, if_open}
use Rattle.r4_ready.specs.r4_kept.Naming.{Naming, job_named, names_in}
use Rattle.r4_ready.specs.r4_kept.Steps.{answered, with_entry}
use Rattle.r4_ready.specs.r4_kept.Story.{Story}
use Rattle.r4_ready.specs.r4_kept.Tables.{AreTables}
use Rattle.r4_ready.specs.r4_kept.TasksOut.{AreOut, pins_in}
use Rattle.r4_ready.specs.r4_kept.View.{CoreSeen, tables_of}
use Rattle.r4_ready.proofs.r4_kept.Carried.{at_told, commits_nothing, session_told}
use Rattle.r4_ready.proofs.r4_kept.Dones.{changes_none, dones_on}
use Rattle.r4_ready.proofs.r4_kept.Turning.{is_script_before, out_before, same_of, summed}

-- ---- what the turns keep

-- scripts, tasks and numbers that stand then stood before, and the tasks add up to as much
pub record TurnsGoOn (old new : TurnsSeen) : Type 0 where
  pub scripts : (q : ℕ) → IsScript new q → IsScript old q
  pub outs : (q : ℕ) (out : Out) → IsOut new q out → IsOut old q out
  pub sums : (f : Option Out → ℕ)
      → sum_by (λ (x : Turn). f x.out) new.turns ≡ sum_by (λ (x : Turn). f x.out) old.turns
  pub numbers : (q : ℕ) (n : Numbers) → IsScript new q → numbers_of (turn_at new q) ≡ Some n
      → numbers_of (turn_at old q) ≡ Some n
  -- a command that is out is the next one still
  pub nexts : (q : ℕ) (out : Out) → IsOut new q out → next_at new q ≡ next_at old q

-- the turn of a script changes, with its task and its numbers as they are
module _ (t : TurnsSeen) (s : ℕ) (is : IsScript t s) (turn : Turn) (task : turn.out ≡ (turn_at t s).out)
    (drawn : numbers_of turn ≡ numbers_of (turn_at t s)) (count : turn.answered ≡ answered_at t s) where
  pub turned_goes_on : TurnsGoOn t (with_turn t s turn)
  turned_goes_on = record {
    scripts = λ q has. is_script_before t s turn is q has;
    outs = λ q out has. out_before t s turn is task q out has;
    sums = λ f.
        (let g = λ (x : Turn). f x.out in
        let one : sum_by g (with_turn t s turn).turns + g (turn_at t s) ≡ sum_by g t.turns + g turn =
        summed t s turn is g in
        let same : f turn.out ≡ f (turn_at t s).out = ap f task in
        omega (arith, one, same));
    numbers = λ q n has is_n. sym (same_of t s turn is numbers_of drawn q) ∙ is_n;
    nexts = λ q out has. ap (slice_get (commands_at t q)) (same_of t s turn is (λ (x : Turn). x.answered) count q);
  }

-- a script's next command is answered while no task of it is out
module _ (t : TurnsSeen) (s : ℕ) (is : IsScript t s) (none : (turn_at t s).out ≡ None) where
  abbrev next : Turn
  next = record (turn_at t s) { answered = (turn_at t s).answered + 1; numbers = None }

  sums_answered : (f : Option Out → ℕ)
      → sum_by (λ (x : Turn). f x.out) (answered_one t s).turns ≡ sum_by (λ (x : Turn). f x.out) t.turns
  sums_answered f =
      let g = λ (x : Turn). f x.out in
      let one : sum_by g (answered_one t s).turns + f (turn_at t s).out ≡ sum_by g t.turns + f (turn_at t s).out =
      summed t s next is g in
      omega (arith, one)

  numbers_answered : (q : ℕ) (n : Numbers) → IsScript (answered_one t s) q
      → numbers_of (turn_at (answered_one t s) q) ≡ Some n → numbers_of (turn_at t q) ≡ Some n
  numbers_answered q n has is_n = elim (cases_eq q s) [
    | inl same ↦
        let here : numbers_of (turn_at (answered_one t s) q) ≡ None =
        ap (λ (m : ℕ). numbers_of (turn_at (answered_one t s) m)) same
        ∙ ap numbers_of (turn_now t s next is)
        ∙ ap (λ (o : Option Out). numbers_in o None) none in
        absurd (cc (sym here ∙ is_n))
    | inr other ↦ sym (ap numbers_of (turn_other t s q next is has.0 other)) ∙ is_n
  ]

  next_answered : (q : ℕ) (out : Out) → IsOut (answered_one t s) q out → next_at (answered_one t s) q ≡ next_at t q
  next_answered q out has = elim (cases_eq q s) [
    | inl same ↦
        let here : (turn_at (answered_one t s) q).out ≡ None =
        ap (λ (m : ℕ). (turn_at (answered_one t s) m).out) same
        ∙ ap (λ (x : Turn). x.out) (turn_now t s next is) ∙ none in
        absurd (cc (sym here ∙ has.is_out))
    | inr other ↦
        ap (λ (x : Turn). slice_get (commands_at t q) x.answered) (turn_other t s q next is has.is_script.0 other)
  ]

  pub answered_goes_on : TurnsGoOn t (answered_one t s)
  answered_goes_on = record {
    scripts = λ q has. is_script_before t s next is q has;
    outs = λ q out has. out_before t s next is refl q out has;
    sums = sums_answered;
    numbers = numbers_answered;
    nexts = next_answered;
  }

pub goes_on_twice : (a b c : TurnsSeen) → TurnsGoOn a b → TurnsGoOn b c → TurnsGoOn a c
goes_on_twice a b c one two = record {
  scripts = λ q has. one.scripts q (two.scripts q has);
  outs = λ q out has. one.outs q out (two.outs q out has);
  sums = λ f. two.sums f ∙ one.sums f;
  numbers = λ q n has is_n. one.numbers q n (two.scripts q has) (two.numbers q n has is_n);
  nexts = λ q out has. two.nexts q out has ∙ one.nexts q out (two.outs q out has);
}

-- ---- who has no task out

module _ {D : Type 0} (c : CoreSeen D) (k : AreTables c) (s : ℕ) (is : IsScript c.turns s) where
  by_task : (o : Option Out) → (turn_at c.turns s).out ≡ o → (n : Option Command) → next_at c.turns s ≡ n
      → ((x : Command) → n ≡ Some x → IsWork x → ⊥) → (turn_at c.turns s).out ≡ None
  by_task None at n is_n idle = at
  by_task (Some out) at n is_n idle =
      let v = k.tasks.served s out (record { is_script = is; is_out = at }) in
      absurd (idle v.command (sym is_n ∙ v.next) v.work)

  -- a command that is out is work
  pub not_out : (x : Command) → next_at c.turns s ≡ Some x → (IsWork x → ⊥) → (turn_at c.turns s).out ≡ None
  not_out x is_x idle =
      by_task (turn_at c.turns s).out refl (Some x) is_x (λ y same work. idle (subst IsWork (sym (cc same)) work))

  -- and one
  pub nothing_left : next_at c.turns s ≡ None → (turn_at c.turns s).out ≡ None
  nothing_left is_none = by_task (turn_at c.turns s).out refl None is_none (λ y same work. absurd (cc same))

  outside_by : (o : Option Out) → (turn_at c.turns s).out ≡ o → (turn_at c.turns s).transaction ≡ None
      → (turn_at c.turns s).out ≡ None
  outside_by None at outside = at
  outside_by (Some out) at outside =
      let v = k.tasks.served s out (record { is_script = is; is_out = at }) in
      absurd (cc (sym outside ∙ v.transaction))

  -- and it stands in a transaction
  pub none_outside : (turn_at c.turns s).transaction ≡ None → (turn_at c.turns s).out ≡ None
  none_outside outside = outside_by (turn_at c.turns s).out refl outside

-- ---- accounts

-- such an entry makes no object and takes none away
module _ (x : Content) (a : ℕ) (trace : List Entry) where
  born_told : (e : Entry) → ChangesNoCell e
      → born_in greatest_size x (λ t. atom_in (e ∷ trace) t == a) (e ∷ trace)
      ≡ born_in greatest_size x (λ t. atom_in trace t == a) trace
  born_told (Begin txn script) quiet = refl
  born_told (Refused txn script i reply) quiet = refl
  born_told (Ended txn) quiet = refl
  born_told (Acked script txn clock) quiet = refl
  born_told (Broken clock faults) quiet = refl
  born_told (Fuse kept gone node) quiet = absurd quiet
  born_told (Done txn script i command reply) quiet = absurd quiet
  born_told (Sealed atom) quiet = absurd quiet
  born_told (Committed atom clock) quiet = absurd quiet

  gone_told : (e : Entry) → ChangesNoCell e
      → gone_in greatest_size x (λ t. atom_in (e ∷ trace) t == a) (e ∷ trace)
      ≡ gone_in greatest_size x (λ t. atom_in trace t == a) trace
  gone_told (Begin txn script) quiet = refl
  gone_told (Refused txn script i reply) quiet = refl
  gone_told (Ended txn) quiet = refl
  gone_told (Acked script txn clock) quiet = refl
  gone_told (Broken clock faults) quiet = refl
  gone_told (Fuse kept gone node) quiet = absurd quiet
  gone_told (Done txn script i command reply) quiet = absurd quiet
  gone_told (Sealed atom) quiet = absurd quiet
  gone_told (Committed atom clock) quiet = absurd quiet

-- ---- a core

-- what does not rest on the entries
module _ {D : Type 0} (r : Naming) (d : State) (c : CoreSeen D) (k : IsKept r d c) (turns : TurnsSeen)
    (txns : List TxnSeen) (entries : Told) (on : TurnsGoOn c.turns turns)
    (owners : (i : ℕ) → owner_of (record c.atoms { txns = txns }) i ≡ owner_of c.atoms i)
    (opens : (a : ℕ) → IsOpenAtom (record c.atoms { txns = txns }) a → IsOpenAtom c.atoms a)
    (as_many : length txns ≡ length c.atoms.txns)
    (dones : (a : ℕ) → dones_in c.atoms a c.trace.entries ≤ dones_in (record c.atoms { txns = txns }) a entries.entries)
  where
    abbrev gone_on : CoreSeen D
    gone_on = record c {
      turns = turns;
      atoms = record c.atoms { txns = txns };
      trace = entries;
    }

    counts_after : (a cells fresh : ℕ) → CountsCells c.buffer c.atoms a cells fresh
        → CountsCells c.buffer (record c.atoms { txns = txns }) a cells fresh
    counts_after a cells fresh h = record {
      nodes = h.nodes;
      different = h.different;
      just = λ i. (
        (λ has. (owners i ∙ ((h.just i).0 has).0, ((h.just i).0 has).1)),
        (λ both. (h.just i).1 (sym (owners i) ∙ both.0, both.1)),
      );
      cells_are = h.cells_are;
      fresh_are = h.fresh_are;
    }

    pub accounts_after : AreAccounts gone_on
    accounts_after =
        let g = k.accounts in
        let cells = on.sums cells_for in
        let claims = on.sums claims_for in
        record {
          covered = g.covered;
          same = λ a opened. g.same a (opens a.0 opened);
          counted = λ a opened. counts_after a _ _ (g.counted a (opens a opened));
          unknown = λ a none. g.unknown a (λ was.
              (let le = was.within in none (record { some = was.some; within = omega (arith, le, as_many) })));
          objects = λ a opened.
              (let had = g.objects a (opens a opened) in
              let more = dones a in
              (omega (arith, had.0, more), omega (arith, had.1, more)));
          holds = g.holds;
          room_to_capture = omega (arith, cells, g.room_to_capture);
          room_for_cells = omega (arith, cells, g.room_for_cells);
          room_to_defer = omega (arith, claims, g.room_to_defer);
        }

    pub cells_after : AreCells d gone_on
    cells_after =
        let g = k.cells in
        record {
          super40 = g.super40;
          space = g.space;
          root = g.root;
          height = g.height;
          root_stands = g.root_stands;
          buffered_names = g.buffered_names;
          reached_names = λ q out x has. g.reached_names q out x (on.outs q out has);
          owned_names = λ i some. g.owned_names i (subst IsSome (owners i) some);
          named = g.named;
          given_cells = λ sound q out x has. g.given_cells sound q out x (on.outs q out has);
          dirty = λ i e at. (
            (λ yes. subst IsSome (sym (owners i)) ((g.dirty i e at).0 yes)),
            (λ some. (g.dirty i e at).1 (subst IsSome (owners i) some)),
          );
          fresh = g.fresh;
          clean = g.clean;
          nodes = λ x at i. (
            (λ has. owners i ∙ (g.nodes x at i).0 has),
            (λ own. (g.nodes x at i).1 (sym (owners i) ∙ own)),
          );
          commit = g.commit;
        }

    pub tasks_after : AreOut gone_on
    tasks_after =
        let g = k.tasks in
        record {
          uses = λ i.
              (let e = on.sums (λ o. pins_in o i) in
              let le = g.uses i in
              omega (arith, e, le));
          drawn = λ q n has is_n. g.drawn q n (on.scripts q has) (on.numbers q n has is_n);
          apart = λ q p n m has also other is_n is_m. g.apart q p n m (on.scripts q has) (on.scripts p also) other
              (on.numbers q n has is_n) (on.numbers p m also is_m);
          unused = λ q i n e has is_n. g.unused q i n e (on.scripts q has) (on.numbers q n has is_n);
          unnamed = λ q i n m has is_n. g.unnamed q i n m (on.scripts q has) (on.numbers q n has is_n);
          unreached = λ q p n o x has is_n out. g.unreached q p n o x (on.scripts q has) (on.numbers q n has is_n)
              (on.outs p o out);
          unowned = λ q i n has is_n low high. owners i
              ∙ g.unowned q i n (on.scripts q has) (on.numbers q n has is_n) low high;
          given = λ q o x has next. g.given q o x (on.outs q o has) (sym (on.nexts q o has) ∙ next);
        }

-- with an entry more
module _ {D : Type 0} (r : Naming) (d : State) (c : CoreSeen D) (k : IsKept r d c) (turns : TurnsSeen)
    (txns : List TxnSeen) (e : Entry) (quiet : ChangesNoCell e) (on : TurnsGoOn c.turns turns)
    (same_job : turns.job ≡ c.turns.job)
    (owners : (i : ℕ) → owner_of (record c.atoms { txns = txns }) i ≡ owner_of c.atoms i)
    (opens : (a : ℕ) → IsOpenAtom (record c.atoms { txns = txns }) a → IsOpenAtom c.atoms a)
    (as_many : length txns ≡ length c.atoms.txns)
    (same_atom : (t : ℕ) → atom_of (record c.atoms { txns = txns }) t ≡ atom_of c.atoms t)
    (tells : (o : Option Beginning) → BeginsWith (names_in r) d.blocks o
    → IsTold (commands greatest_size) (option_map start_of o) d.clock
    (record (tables_of c) { turns = turns; atoms = record c.atoms { txns = txns } }) (e ∷ c.trace.entries))
    (drawn : AreDrawn k.history.first turns c.numbers.next_oid (e ∷ c.trace.entries))
    (tasks : TasksTell (record (tables_of c) { turns = turns; atoms = record c.atoms { txns = txns } }) c.locks)
    (room : owed turns + owed_for_commit c.commit + 1 ≤ c.trace.spare) where
  abbrev pub after : CoreSeen D
  after = record c {
    turns = turns;
    atoms = record c.atoms { txns = txns };
    trace = with_entry c.trace e;
  }

  abbrev trace : List Entry
  trace = c.trace.entries

  history_after : IsHistory r d after
  history_after = record {
    told = tells;
    job = λ t is. k.history.job t is ∙ ap Ok (sym same_job);
    first = k.history.first;
    drawn = drawn;
    begins = k.history.begins;
    committed = k.history.committed;
    room = omega (arith, room);
  }

  as_many_dones : (a : ℕ) → dones_in c.atoms a trace ≤ dones_in (record c.atoms { txns = txns }) a (e ∷ trace)
  as_many_dones a =
      dones_on c.atoms (record c.atoms { txns = txns }) a trace (λ t is. same_atom t ∙ is) e (changes_none e quiet)

  ordered_after : AreOrdered turns
  ordered_after q has =
      subst (λ (j : Job). AreInOrder false (slice_index_or j.scripts (q - 1) no_script).commands) (sym same_job)
      (k.tables.ordered q (on.scripts q has))

  -- ---- in a run that names its beginning

  legal_after : IsOrdered (e ∷ trace)
  legal_after = (tells None tt).legal.order

  module _ (b : Beginning) (named : IsNamed (names_in r) d.blocks b) where
    abbrev had : HasStory r b d c
    had = k.story b named

    abbrev now : Story
    now = record { session = told had.story.session e; flush = had.story.flush }

    ordered_now : IsOrdered (e ∷ had.story.session.trace)
    ordered_now = subst (λ (l : List Entry). IsOrdered (e ∷ l)) (sym had.means.trace) legal_after

    means_after : HasMeaning b (job_named r.scripts) d after now
    means_after =
        let m = had.means in
        let still = session_told b (job_named r.scripts) had.story.session e quiet m.session in
        record {
          reads = m.reads;
          session = still;
          trace = ap (λ (l : List Entry). e ∷ l) m.trace;
          owner = λ i. m.owner i ∙ ap (if_open c.atoms) (sym (owners i));
          root = m.root;
          cells = m.cells;
          clean = m.clean;
          reach = λ q out x has. m.reach q out x (on.outs q out has);
          owned = λ i n some. m.owned i n (subst IsSome (owners i) some);
          born = λ a opened. m.born a (opens a opened) ∙ sym (born_told b.content a trace e quiet);
          gone = λ a opened. m.gone a (opens a opened) ∙ sym (gone_told b.content a trace e quiet);
          at = at_told b (job_named r.scripts) had.story.session e quiet ordered_now c.space c.volume d still
              had.story.flush c.broken c.commit m.at;
        }

    durable_after : (t : ℕ) → r.clock ≡ Some t → TellsCrashes d → IsDurable b t d after now
    durable_after t is crashes =
        let g = had.durable t is crashes in
        record {
          each = safe_push (means b) (commands greatest_size) b.content t d trace e legal_after
              (commits_nothing e quiet) g.each;
          now = g.now;
        }

  pub keeps_after : IsKept r d after
  keeps_after = record {
    history = history_after;
    tables = record { tasks = tasks; ordered = ordered_after };
    accounts = accounts_after r d c k turns txns (with_entry c.trace e) on owners opens as_many as_many_dones;
    cells = cells_after r d c k turns txns (with_entry c.trace e) on owners opens as_many as_many_dones;
    tasks = tasks_after r d c k turns txns (with_entry c.trace e) on owners opens as_many as_many_dones;
    lender = k.lender;
    story = λ b named. record {
      story = now b named;
      means = means_after b named;
      durable = durable_after b named;
    };
  }

-- ---- a command is answered, by one entry

module _ {D : Type 0} (r : Naming) (d : State) (c : CoreSeen D) (k : IsKept r d c) (s : ScriptNo) (e : Entry)
    (is : IsScript c.turns s.0) (free : (turn_at c.turns s.0).out ≡ None) (quiet : ChangesNoCell e) (plain : IsNoDone e)
    (tells : (o : Option Beginning) → BeginsWith (names_in r) d.blocks o
    → IsTold (commands greatest_size) (option_map start_of o) d.clock
    (record (tables_of c) { turns = answered_one c.turns s.0 }) (e ∷ c.trace.entries))
    (room : owed (answered_one c.turns s.0) + owed_for_commit c.commit + 1 ≤ c.trace.spare) where
  keeps_answer : IsKept r d (answered c s.0 e)
  keeps_answer =
      let trace = c.trace.entries in
      keeps_after r d c k (answered_one c.turns s.0) c.atoms.txns e quiet
      (answered_goes_on c.turns s.0 is free) refl (λ i. refl) (λ a opened. opened) refl (λ t. refl) tells
      (drawn_entry k.history.first (answered_one c.turns s.0) c.numbers.next_oid trace
      (drawn_answered k.history.first c.turns c.numbers.next_oid trace k.history.drawn s.0 is free) e plain)
      (tasks_answered (tables_of c) c.locks k.tables.tasks s.0 is free) room

  -- the same of parts that are as they are then
  pub keeps_answered : (turns : TurnsSeen) (entries : Told) → turns ≡ answered_one c.turns s.0
      → entries ≡ with_entry c.trace e → IsKept r d (record c { turns = turns; trace = entries })
  keeps_answered turns entries is_turns is_entries =
      subst (λ (x : TurnsSeen). IsKept r d (record c { turns = x; trace = entries })) (sym is_turns)
      (subst (λ (x : Told). IsKept r d (record (answered c s.0 e) { trace = x })) (sym is_entries) keeps_answer)
