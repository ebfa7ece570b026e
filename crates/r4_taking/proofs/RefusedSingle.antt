-- A single command is refused, and its transaction ends: what holds of a core holds still.
use Rattle.std.proofs.Common.{◌≡◌, ℕ, ◌+◌, ◌≤◌, ◌==◌, true, List, ◌∷◌, Some, None, refl, sym, ◌∙◌, ap, subst}
use Rattle.std.proofs.Common.{arith}
use Rattle.std.specs.Prelude.{Bool, IsSome}
use Rattle.std.specs.Option.{option_map}
use Rattle.r4_atoms.specs.Atoms.{AtomsSeen, IsBegun as IsTxn, account_of, owner_of, txn_of}
use Rattle.r4_base.specs.declared.things.ScriptNo.{ScriptNo}
use Rattle.r4_base.specs.declared.things.TxnNo.{TxnNo}
use Rattle.r4_content.specs.Locality.{commands}
use Rattle.r4_content.specs.Meaning.{greatest_size}
use Rattle.r4_content.specs.declared.reply.Reply.{Reply}
use Rattle.r4_kept.specs.r4_durable.Kept.{IsSession}
use Rattle.r4_kept.specs.r4_durable.Meaning.{Beginning, IsNamed, means, start_of}
use Rattle.r4_kept.specs.r4_history.Held.{IsOut}
use Rattle.r4_kept.specs.r4_history.Tables.{single, with_ended}
use Rattle.r4_kept.proofs.r4_history.DrawnSteps.{drawn_answered, drawn_entry, drawn_left}
use Rattle.r4_kept.proofs.r4_history.Places.{next_there}
use Rattle.r4_kept.proofs.r4_history.RunSteps.{open_in_both}
use Rattle.r4_kept.proofs.r4_history.TaskSteps.{ended_follow, tasks_answered, tasks_left}
use Rattle.r4_kept.proofs.r4_history.Told.{told_refused_single}
use Rattle.r4_outside.specs.Device.{State, TellsCrashes}
use Rattle.r4_kept.specs.r4_sets.Atoms.{told}
use Rattle.r4_kept.specs.r4_sets.Session.{Session}
use Rattle.r4_kept.specs.r4_trace.Kept.{Told}
use Rattle.r4_kept.specs.r4_trace.Order.{IsOrdered}
use Rattle.r4_kept.specs.r4_trace.declared.entry.Entry.{Entry}
use Rattle.r4_kept.specs.r4_trace.declared.entry.Entry.TheVariants.{Ended, Refused}
use Rattle.r4_kept.proofs.r4_trace.Safely.{safe_push}
use Rattle.r4_kept.specs.r4_turns.Turns.{HasNext, IsScript, TurnsSeen, answered_at, answered_one, given_back, left}
use Rattle.r4_kept.specs.r4_turns.declared.out.Out.{Out}
use Rattle.r4_kept.specs.Accounts.{AreAccounts, CountsCells, cells_for, claims_for, dones_of}
use Rattle.r4_kept.specs.Cells.{AreCells}
use Rattle.r4_kept.specs.Durable.{IsDurable}
use Rattle.r4_kept.specs.History.{IsHistory, owed, owed_for_commit}
use Rattle.r4_kept.specs.Kept.{HasStory, IsKept}
use Rattle.r4_kept.specs.Meaning.{HasMeaning, if_open}
use Rattle.r4_kept.specs.Naming.{Naming, job_named, names_in}
use Rattle.r4_kept.specs.Steps.{with_entry}
use Rattle.r4_kept.specs.Story.{Story}
use Rattle.r4_kept.specs.Tables.{AreTables}
use Rattle.r4_kept.specs.TasksOut.{AreOut, pins_in}
use Rattle.r4_kept.specs.View.{CoreSeen, tables_of}
use Rattle.r4_kept.proofs.Carried.{at_told, session_told}
use Rattle.r4_taking.specs.Refusing.{StandsSingle, refused_single}
use Rattle.r4_taking.proofs.EndedAtoms.{open_before, same_atom, same_count, same_owner}
use Rattle.r4_taking.proofs.OutTurns.{owed_back}
use Rattle.r4_taking.proofs.Turned.{TurnsStay, free_then, last_stays, owed_last, there}

module _ {D : Type 0} (r : Naming) (d : State) (c : CoreSeen D) (k : IsKept r d c) (s : ScriptNo) (u : TxnNo)
    (reply : Reply) (sound : c.broken ≡ None) (st : StandsSingle c.turns s.0 u)
    (room : owed c.turns + owed_for_commit c.commit + 2 ≤ c.trace.spare) where
  abbrev after : CoreSeen D
  after = refused_single c s u reply

  abbrev is : IsScript c.turns s.0
  is = st.stands.is_script

  abbrev trace : List Entry
  trace = c.trace.entries

  abbrev refusal : Entry
  refusal = Refused u s (answered_at c.turns s.0 + 1) reply

  on : TurnsStay c.turns after.turns
  on = last_stays c.turns s.0 is st.free

  owners : (i : ℕ) → owner_of after.atoms i ≡ owner_of c.atoms i
  owners = same_owner c.atoms u.0

  history_refused : IsHistory r d after
  history_refused =
      let o = k.history.first in
      let next = c.numbers.next_oid in
      record {
        told = λ b named. told_refused_single (commands greatest_size) (option_map start_of b) d.clock (tables_of c)
            trace (k.history.told b named) u s (answered_at c.turns s.0 + 1) st.command reply sound st.stands st.work
            refl;
        job = k.history.job;
        first = o;
        drawn =
            let answered = drawn_answered o c.turns next trace k.history.drawn s.0 is st.free in
            let away = drawn_left o (answered_one c.turns s.0) next trace answered s.0 (there c.turns s.0 is) in
            drawn_entry o after.turns next (refusal ∷ trace) (drawn_entry o after.turns next trace away refusal tt)
            (Ended u) tt;
        begins = k.history.begins;
        committed = k.history.committed;
        room = let fewer = owed_last c.turns s.0 is in omega (arith, fewer, room);
      }

  tables_refused : AreTables after
  tables_refused =
      let t = tables_of c in
      let ended = ended_follow t c.locks k.tables.tasks u.0 in
      let answered = tasks_answered (record t { atoms = with_ended c.atoms u.0 }) c.locks ended s.0 is st.free in
      record {
        tasks = tasks_left (record t { atoms = with_ended c.atoms u.0; turns = answered_one c.turns s.0 }) c.locks
            answered s.0 (there c.turns s.0 is) (free_then c.turns s.0 is st.free);
        ordered = λ q has. k.tables.ordered q (on.scripts q has);
      }

  counts : (a cells fresh : ℕ) → CountsCells c.buffer c.atoms a cells fresh
      → CountsCells c.buffer after.atoms a cells fresh
  counts a cells fresh h = record {
    nodes = h.nodes;
    different = h.different;
    just = λ i. (
      (λ has. (owners i ∙ ((h.just i).0 has).0, ((h.just i).0 has).1)),
      (λ both. (h.just i).1 (sym (owners i) ∙ both.0, both.1)),
    );
    cells_are = h.cells_are;
    fresh_are = h.fresh_are;
  }

  accounts_refused : AreAccounts after
  accounts_refused =
      let g = k.accounts in
      let cells = on.sums cells_for in
      let claims = on.sums claims_for in
      let opens = open_before c.atoms u.0 in
      record {
        covered = g.covered;
        same = λ a opened. g.same a (opens a.0 opened);
        counted = λ a opened. counts a _ _ (g.counted a (opens a opened));
        unknown = λ a none. g.unknown a (λ was.
            (let le = was.within in
            let many = same_count c.atoms u.0 in
            none (record { some = was.some; within = omega (arith, le, many) })));
        objects = λ a opened.
            subst (λ (chosen : ℕ → Bool). ((account_of c.atoms a).born ≤ dones_of chosen trace)
            × ((account_of c.atoms a).gone ≤ dones_of chosen trace))
            (λ j t. sym (same_atom c.atoms u.0 t) j == a) (g.objects a (opens a opened));
        holds = g.holds;
        room_to_capture = omega (arith, cells, g.room_to_capture);
        room_for_cells = omega (arith, cells, g.room_for_cells);
        room_to_defer = omega (arith, claims, g.room_to_defer);
      }

  cells_refused : AreCells d after
  cells_refused =
      let g = k.cells in
      record {
        super40 = g.super40;
        space = g.space;
        root = g.root;
        height = g.height;
        root_stands = g.root_stands;
        buffered_names = g.buffered_names;
        reached_names = λ q out x has. g.reached_names q out x (on.outs q out has);
        owned_names = λ i some. g.owned_names i (subst IsSome (owners i) some);
        named = g.named;
        given_cells = λ sound q out x has. g.given_cells sound q out x (on.outs q out has);
        dirty = λ i e at. (
          (λ yes. subst IsSome (sym (owners i)) ((g.dirty i e at).0 yes)),
          (λ some. (g.dirty i e at).1 (subst IsSome (owners i) some)),
        );
        fresh = g.fresh;
        clean = g.clean;
        nodes = λ x at i. (
          (λ has. owners i ∙ (g.nodes x at i).0 has),
          (λ own. (g.nodes x at i).1 (sym (owners i) ∙ own)),
        );
        commit = g.commit;
      }

  tasks_refused : AreOut after
  tasks_refused =
      let g = k.tasks in
      record {
        uses = λ i.
            (let e = on.sums (λ o. pins_in o i) in
            let le = g.uses i in
            omega (arith, e, le));
        drawn = λ q n has is_n. g.drawn q n (on.scripts q has) (on.numbers q n has is_n);
        apart = λ q p n m has also other is_n is_m. g.apart q p n m (on.scripts q has) (on.scripts p also) other
            (on.numbers q n has is_n) (on.numbers p m also is_m);
        unused = λ q i n e has is_n. g.unused q i n e (on.scripts q has) (on.numbers q n has is_n);
        unnamed = λ q i n m has is_n. g.unnamed q i n m (on.scripts q has) (on.numbers q n has is_n);
        unreached = λ q p n o x has is_n out. g.unreached q p n o x (on.scripts q has) (on.numbers q n has is_n)
            (on.outs p o out);
        unowned = λ q i n has is_n low high. owners i
            ∙ g.unowned q i n (on.scripts q has) (on.numbers q n has is_n) low high;
        given = λ q o x has next. g.given q o x (on.outs q o has) (sym (on.nexts q o has) ∙ next);
      }

  -- ---- in a run that names its beginning

  legal_last : IsOrdered (Ended u ∷ (refusal ∷ trace))
  legal_last = (history_refused.told None tt).legal.order

  legal_first : IsOrdered (refusal ∷ trace)
  legal_first = legal_last.2

  module _ (b : Beginning) (named : IsNamed (names_in r) d.blocks b) where
    abbrev had : HasStory r b d c
    had = k.story b named

    abbrev was : Session
    was = had.story.session

    abbrev now : Session
    now = told (told was refusal) (Ended u)

    abbrev story : Story
    story = record { session = now; flush = had.story.flush }

    first_session : IsSession greatest_size b (job_named r.scripts) (told was refusal)
    first_session = session_told b (job_named r.scripts) was refusal tt had.means.session

    last_session : IsSession greatest_size b (job_named r.scripts) now
    last_session = session_told b (job_named r.scripts) (told was refusal) (Ended u) tt first_session

    means_refused : HasMeaning b (job_named r.scripts) d after story
    means_refused =
        let m = had.means in
        let opens = open_before c.atoms u.0 in
        let job = job_named r.scripts in
        record {
          reads = m.reads;
          session = last_session;
          trace = ap (λ (l : List Entry). Ended u ∷ (refusal ∷ l)) m.trace;
          owner = λ i. m.owner i ∙ ap (if_open c.atoms) (sym (owners i));
          root = m.root;
          cells = m.cells;
          clean = m.clean;
          reach = λ q out x has. m.reach q out x (on.outs q out has);
          owned = λ i n some. m.owned i n (subst IsSome (owners i) some);
          born = λ a opened. m.born a (opens a opened);
          gone = λ a opened. m.gone a (opens a opened);
          at = at_told b job (told was refusal) (Ended u) tt
              (subst (λ (l : List Entry). IsOrdered (Ended u ∷ (refusal ∷ l))) (sym m.trace) legal_last) c.space
              c.volume d last_session had.story.flush c.broken c.commit
              (at_told b job was refusal tt
              (subst (λ (l : List Entry). IsOrdered (refusal ∷ l)) (sym m.trace) legal_first) c.space c.volume d
              first_session had.story.flush c.broken c.commit m.at);
        }

    durable_refused : (t : ℕ) → r.clock ≡ Some t → TellsCrashes d → IsDurable b t d after story
    durable_refused t at crashes =
        let g = had.durable t at crashes in
        let w = commands greatest_size in
        record {
          each = safe_push (means b) w b.content t d (refusal ∷ trace) (Ended u) legal_last tt
              (safe_push (means b) w b.content t d trace refusal legal_first tt g.each);
          now = g.now;
        }

  pub keeps_single : IsKept r d after
  keeps_single = record {
    history = history_refused;
    tables = tables_refused;
    accounts = accounts_refused;
    cells = cells_refused;
    tasks = tasks_refused;
    lender = k.lender;
    story = λ b named. record {
      story = story b named;
      means = means_refused b named;
      durable = durable_refused b named;
    };
  }

  -- the same of parts that are as they are then
  pub keeps_single_by : (turns : TurnsSeen) (atoms : AtomsSeen) (index : ℕ) (entries : Told)
      → turns ≡ left (answered_one c.turns s.0) s.0 → atoms ≡ with_ended c.atoms u.0
      → index ≡ answered_at c.turns s.0 + 1
      → entries ≡ with_entry (with_entry c.trace (Refused u s index reply)) (Ended u)
      → IsKept r d (record c { turns = turns; atoms = atoms; trace = entries })
  keeps_single_by turns atoms index entries are_turns are_atoms is_index are_entries =
      subst (λ (x : TurnsSeen). IsKept r d (record c { turns = x; atoms = atoms; trace = entries })) (sym are_turns)
      (subst (λ (x : AtomsSeen). IsKept r d (record after { atoms = x; trace = entries })) (sym are_atoms)
      (subst (λ (x : Told). IsKept r d (record after { trace = x }))
      (sym (are_entries
      ∙ ap (λ (n : ℕ). with_entry (with_entry c.trace (Refused u s n reply)) (Ended u)) is_index)) keeps_single))

  -- what the calls ask for
  pub may_answer : HasNext c.turns s.0
  may_answer = next_there c.turns s.0 st.command st.stands.next

  pub may_close : IsTxn c.atoms u.0 × ((txn_of c.atoms u.0).is_open ≡ true)
  may_close =
      let o = open_in_both (commands greatest_size) None d.clock (tables_of c) trace (k.history.told None tt) s.0
      (single u) is st.stands.transaction in
      (o.0, o.1)

-- Where its task is out, it is taken back first: then there is room for both entries.
pub room_back : {D : Type 0} (r : Naming) (d : State) (c : CoreSeen D) → IsKept r d c → (s : ℕ) (out : Out)
    → IsOut c.turns s out
    → owed (given_back c.turns s out.numbers) + owed_for_commit c.commit + 2 ≤ c.trace.spare
room_back r d c k s out is =
    let less = owed_back c.turns s is.is_script (k.history.told None tt).scripts out out.numbers is.is_out in
    let enough = k.history.room in
    omega (arith, less, enough)
