-- A transaction begins, by `begin` or for a single command: what holds of a core holds still.
use Rattle.std.proofs.Common.{◌≡◌, ◌⊎◌, inl, inr, ⊎_elim, ℕ, ◌+◌, ◌<◌, ◌≤◌, ◌==◌, false, cond, List, [], ◌∷◌}
use Rattle.std.proofs.Common.{Option, Some, None, length, refl, sym, ◌∙◌, ap, subst, arith}
use Rattle.std.specs.Prelude.{Bool, IsSome, nat_eq}
use Rattle.std.specs.List.{IsDistinct}
use Rattle.std.specs.Option.{option_map}
use Rattle.std.proofs.lemmas.Bool.{cond-false, ne_eqb}
use Rattle.r4_atoms.specs.Atoms.{AtomsSeen, IsBegun as IsTxn, IsOpenAtom, TxnSeen, account_of, atom_of, owner_of}
use Rattle.r4_atoms.specs.declared.things.Account.{Account}
use Rattle.r4_atoms.specs.declared.things.AtomState.{AtomState}
use Rattle.r4_base.proofs.Members.{no_member}
use Rattle.r4_base.specs.Value.{Content}
use Rattle.r4_base.specs.declared.things.ScriptNo.{ScriptNo}
use Rattle.r4_base.specs.declared.things.TxnNo.{TxnNo}
use Rattle.r4_content.specs.Locality.{commands}
use Rattle.r4_content.specs.Meaning.{greatest_size}
use Rattle.r4_content.specs.declared.command.Command.TheVariants as asks
use Rattle.r4_ready.specs.r4_durable.Meaning.{Beginning, BeginsWith, IsNamed, means, start_of}
use Rattle.r4_others.specs.r4_history.Drawn.{AreDrawn}
use Rattle.r4_others.specs.r4_history.Held.{AreOwners, TasksTell}
use Rattle.r4_others.specs.r4_history.Tables.{Begins, Stands, inside, single, with_begin, with_single}
use Rattle.r4_others.specs.r4_history.Told.{IsTold}
use Rattle.r4_others.proofs.r4_history.AtomSteps.{begun_or_new, count_after, state_after, state_before, txn_before}
use Rattle.r4_others.proofs.r4_history.DrawnSteps.{drawn_answered, drawn_entered, drawn_entry}
use Rattle.r4_others.proofs.r4_history.Places.{is_script_with, next_there, turn_now}
use Rattle.r4_others.proofs.r4_history.TaskSteps.{begun_follow, tasks_answered, tasks_entered}
use Rattle.r4_others.proofs.r4_history.RunSteps.{commit_is}
use Rattle.r4_others.proofs.r4_history.Told.{told_begin, told_single}
use Rattle.r4_outside.specs.Device.{State, TellsCrashes}
use Rattle.r4_flushing.specs.r4_sets.Atoms.{told}
use Rattle.r4_flushing.specs.r4_sets_told.Runs.{born_in, gone_in}
use Rattle.r4_space.specs.declared.things.Account.{Account as SpaceAccount}
use Rattle.r4_trace.specs.Kept.{Told}
use Rattle.r4_trace.specs.Order.{IsOrdered}
use Rattle.r4_trace.specs.Traced.{atom_in, begun_in}
use Rattle.r4_trace.specs.declared.entry.Entry.{Entry}
use Rattle.r4_trace.specs.declared.entry.Entry.TheVariants.{Begin, Done}
use Rattle.r4_trace.proofs.FirstOnes.{begun_counted}
use Rattle.r4_trace.proofs.Safely.{safe_push}
use Rattle.r4_turns.specs.Turns.{HasNext, IsScript, TurnsSeen, answered_one, entered, turn_at}
use Rattle.r4_turns.specs.declared.turn.Turn.{Turn}
use Rattle.r4_ready.specs.r4_kept.Accounts.{AreAccounts, CountsCells, cells_for, claims_for}
use Rattle.r4_ready.specs.r4_kept.Cells.{AreCells}
use Rattle.r4_ready.specs.r4_kept.Durable.{IsDurable}
use Rattle.r4_ready.specs.r4_kept.History.{IsHistory, owed, owed_for_commit}
use Rattle.r4_ready.specs.r4_kept.Kept.{HasStory, IsKept}
use Rattle.r4_ready.specs.r4_kept.Meaning.{HasMeaning, if_open}
use Rattle.r4_ready.specs.r4_kept.Naming.{Naming, job_named, names_in}
use Rattle.r4_ready.specs.r4_kept.Steps.{StandsAlone, with_entry}
use Rattle.r4_ready.specs.r4_kept.Story.{Story}
use Rattle.r4_ready.specs.r4_kept.Tables.{AreTables}
use Rattle.r4_ready.specs.r4_kept.TasksOut.{AreOut, pins_in}
use Rattle.r4_ready.specs.r4_kept.View.{CoreSeen, committing, tables_of}
use Rattle.r4_core.proofs.Answered.{TurnsGoOn, answered_goes_on, goes_on_twice, none_outside, not_out, turned_goes_on}
use Rattle.r4_ready.proofs.r4_kept.Carried.{at_told, session_told}
use Rattle.r4_ready.proofs.r4_kept.Dones.{atom_stays, dones_on}
use Rattle.r4_ready.proofs.r4_kept.Turning.{owed_answered, owed_less, same_of}

-- ---- no command of a new transaction was done

module _ (x : Content) (chosen : ℕ → Bool) where
  none_born : (trace : List Entry) → IsOrdered trace
      → ((t : ℕ) → 0 < t → t ≤ begun_in trace → chosen t ≡ false)
      → born_in greatest_size x chosen trace ≡ 0
  none_born [] legal none = refl
  none_born (Done txn script i command reply ∷ older) legal none =
      let at = begun_counted older txn.0 script.0 legal.2 legal.0.0 in
      let rest = none_born older legal.2 none in
      ap (λ (n : ℕ). n + born_in greatest_size x chosen older)
      (cond-false (chosen txn.0) _ 0 (none txn.0 at.0 at.1)) ∙ omega (arith, rest)
  none_born (Begin txn script ∷ older) legal none =
      none_born older legal.2 (λ t some le. none t some (omega (arith, le)))
  none_born (e ∷ older) legal none = none_born older legal.2 none

  none_gone : (trace : List Entry) → IsOrdered trace
      → ((t : ℕ) → 0 < t → t ≤ begun_in trace → chosen t ≡ false)
      → gone_in greatest_size x chosen trace ≡ 0
  none_gone [] legal none = refl
  none_gone (Done txn script i command reply ∷ older) legal none =
      let at = begun_counted older txn.0 script.0 legal.2 legal.0.0 in
      let rest = none_gone older legal.2 none in
      ap (λ (n : ℕ). n + gone_in greatest_size x chosen older)
      (cond-false (chosen txn.0) _ 0 (none txn.0 at.0 at.1)) ∙ omega (arith, rest)
  none_gone (Begin txn script ∷ older) legal none =
      none_gone older legal.2 (λ t some le. none t some (omega (arith, le)))
  none_gone (e ∷ older) legal none = none_gone older legal.2 none

none_twice : IsDistinct nat_eq []
unfolding IsDistinct
none_twice = tt

-- ---- a core

module _ {D : Type 0} (r : Naming) (d : State) (c : CoreSeen D) (k : IsKept r d c) (s : ScriptNo) (u : TxnNo)
    (all : List Turn) (on : TurnsGoOn c.turns (record c.turns { turns = all }))
    (fewer : owed (record c.turns { turns = all }) ≤ owed c.turns)
    (room : owed c.turns + owed_for_commit c.commit + 1 ≤ c.trace.spare) where
  abbrev trace : List Entry
  trace = c.trace.entries

  abbrev turns : TurnsSeen
  turns = record c.turns { turns = all }

  -- ---- the table of atoms

  module _ (new : AtomsSeen) (b : Begins c.atoms new s.0) (number : u.0 ≡ length c.atoms.txns + 1)
      (names : (n : ℕ) → owner_of new n ≡ owner_of c.atoms n) (spare : new.spare ≡ c.atoms.spare)
      (owners : AreOwners c.atoms) (least : (t : ℕ) → IsTxn c.atoms t → atom_of c.atoms t ≤ t)
      (tells : (o : Option Beginning) → BeginsWith (names_in r) d.blocks o
      → IsTold (commands greatest_size) (option_map start_of o) d.clock
      (record (tables_of c) { turns = turns; atoms = new }) (Begin u s ∷ trace))
      (drawn : AreDrawn k.history.first turns c.numbers.next_oid trace)
      (tasks : TasksTell (record (tables_of c) { turns = turns; atoms = new }) c.locks) where
    states : length c.atoms.atoms ≡ length c.atoms.txns
    states = (k.history.told None tt).atoms.states

    abbrev after : CoreSeen D
    after = record c {
      turns = turns;
      atoms = new;
      trace = with_entry c.trace (Begin u s);
    }

    open_or_new : (a : ℕ) → IsOpenAtom new a → IsOpenAtom c.atoms a ⊎ (a ≡ length c.atoms.txns + 1)
    open_or_new a opened =
        ⊎_elim (λ was. inl (record {
          atom = record {
            begun = was;
            own = sym (ap (λ (x : TxnSeen). x.atom) (txn_before c.atoms new s.0 b states a was)) ∙ opened.atom.own;
          };
          unsealed = sym (ap (λ (x : AtomState). x.sealed) (state_before c.atoms new s.0 b states a was))
              ∙ opened.unsealed;
        })) (λ here. inr here) (begun_or_new c.atoms new s.0 b states a opened.atom.begun)

    same_account : (a : ℕ) → IsTxn c.atoms a → account_of new a ≡ account_of c.atoms a
    same_account a was = ap (λ (x : AtomState). x.account) (state_before c.atoms new s.0 b states a was)

    new_account : (a : ℕ) → a ≡ length c.atoms.txns + 1
        → account_of new a ≡ record { cells = 0; fresh = 0; born = 0; gone = 0 }
    new_account a here = ap (λ (x : AtomState). x.account) (state_after c.atoms new s.0 b states a here)

    not_begun : (a : ℕ) → a ≡ length c.atoms.txns + 1 → IsTxn c.atoms a → ⊥
    not_begun a here was = let le = was.within in absurd (omega (arith, here, le))

    counts_named : (a cells fresh : ℕ) → CountsCells c.buffer c.atoms a cells fresh
        → CountsCells c.buffer new a cells fresh
    counts_named a cells fresh h = record {
      nodes = h.nodes;
      different = h.different;
      just = λ i. (
        (λ has. (names i ∙ ((h.just i).0 has).0, ((h.just i).0 has).1)),
        (λ both. (h.just i).1 (sym (names i) ∙ both.0, both.1)),
      );
      cells_are = h.cells_are;
      fresh_are = h.fresh_are;
    }

    counts_none : (a : ℕ) → a ≡ length c.atoms.txns + 1 → CountsCells c.buffer new a 0 0
    counts_none a here = record {
      nodes = [];
      different = none_twice;
      just = λ i. (
        (λ has. absurd (no_member i has)),
        (λ both. absurd (not_begun a here (owners i a (sym (names i) ∙ both.0)).0.begun)),
      );
      cells_are = refl;
      fresh_are = refl;
    }

    accounts_begun : AreAccounts after
    accounts_begun =
        let g = k.accounts in
        let cells = on.sums cells_for in
        let claims = on.sums claims_for in
        record {
          covered = g.covered;
          same = λ a opened.
              ⊎_elim (λ was.
              (let e = g.same a was in
              let acc = same_account a.0 was.atom.begun in (
                e.0 ∙ sym (ap (λ (x : Account). x.cells) acc),
                e.1 ∙ sym (ap (λ (x : Account). x.fresh) acc),
              )))
              (λ here.
              (let none = g.unknown a (not_begun a.0 here) in
              let acc = new_account a.0 here in (
                ap (λ (x : SpaceAccount). x.cells) none ∙ sym (ap (λ (x : Account). x.cells) acc),
                ap (λ (x : SpaceAccount). x.fresh) none ∙ sym (ap (λ (x : Account). x.fresh) acc),
              ))) (open_or_new a.0 opened);
          counted = λ a opened.
              ⊎_elim (λ was. subst (λ (x : Account). CountsCells c.buffer new a x.cells x.fresh)
              (sym (same_account a was.atom.begun)) (counts_named a _ _ (g.counted a was)))
              (λ here. subst (λ (x : Account). CountsCells c.buffer new a x.cells x.fresh)
              (sym (new_account a here)) (counts_none a here)) (open_or_new a opened);
          unknown = λ a none. g.unknown a (λ was. none (begun_still a.0 was));
          objects = λ a opened.
              ⊎_elim (λ was.
              (let had = g.objects a was in
              let acc = same_account a was.atom.begun in
              let born : (account_of new a).born ≡ (account_of c.atoms a).born = ap (λ (x : Account). x.born) acc in
              let gone : (account_of new a).gone ≡ (account_of c.atoms a).gone = ap (λ (x : Account). x.gone) acc in
              let more = dones_on c.atoms new a trace
              (λ t is. atom_stays c.atoms new s.0 b t a was.atom.begun.some is) (Begin u s) tt in
              (omega (arith, had.0, more, born), omega (arith, had.1, more, gone))))
              (λ here.
              (let acc = new_account a here in
              let born : (account_of new a).born ≡ 0 = ap (λ (x : Account). x.born) acc in
              let gone : (account_of new a).gone ≡ 0 = ap (λ (x : Account). x.gone) acc in
              (omega (arith, born), omega (arith, gone)))) (open_or_new a opened);
          holds = g.holds;
          room_to_capture = omega (arith, cells, spare, g.room_to_capture);
          room_for_cells = omega (arith, cells, g.room_for_cells);
          room_to_defer = omega (arith, claims, g.room_to_defer);
        }
      where
        begun_still : (a : ℕ) → IsTxn c.atoms a → IsTxn new a
        begun_still a was =
            let e = count_after c.atoms new s.0 b states in
            let le = was.within in
            record { some = was.some; within = omega (arith, e, le) }

    -- ---- the other groups

    history_begun : IsHistory r d after
    history_begun = record {
      told = tells;
      job = k.history.job;
      first = k.history.first;
      drawn = drawn_entry k.history.first turns c.numbers.next_oid trace drawn (Begin u s) tt;
      begins = k.history.begins;
      committed = λ x at.
          (let was = commit_is (commands greatest_size) None d.clock (tables_of c) trace (k.history.told None tt)
          x.atom.0
          (ap committing at) in
          ap (λ (y : AtomState). y.committed) (state_before c.atoms new s.0 b states x.atom.0 was.0.begun)
          ∙ k.history.committed x at);
      room = omega (arith, fewer, room);
    }

    tables_begun : AreTables after
    tables_begun = record { tasks = tasks; ordered = λ q has. k.tables.ordered q (on.scripts q has) }

    cells_begun : AreCells d after
    cells_begun =
        let g = k.cells in
        record {
          super40 = g.super40;
          space = g.space;
          root = g.root;
          height = g.height;
          root_stands = g.root_stands;
          buffered_names = g.buffered_names;
          reached_names = λ q out x has. g.reached_names q out x (on.outs q out has);
          owned_names = λ i some. g.owned_names i (subst IsSome (names i) some);
          named = g.named;
          given_cells = λ sound q out x has. g.given_cells sound q out x (on.outs q out has);
          dirty = λ i e at. (
            (λ yes. subst IsSome (sym (names i)) ((g.dirty i e at).0 yes)),
            (λ some. (g.dirty i e at).1 (subst IsSome (names i) some)),
          );
          fresh = g.fresh;
          clean = g.clean;
          nodes = λ x at i. (
            (λ has. names i ∙ (g.nodes x at i).0 has),
            (λ own. (g.nodes x at i).1 (sym (names i) ∙ own)),
          );
          commit = g.commit;
        }

    tasks_begun : AreOut after
    tasks_begun =
        let g = k.tasks in
        record {
          uses = λ i.
              (let e = on.sums (λ o. pins_in o i) in
              let le = g.uses i in
              omega (arith, e, le));
          drawn = λ q n has is_n. g.drawn q n (on.scripts q has) (on.numbers q n has is_n);
          apart = λ q p n m has also other is_n is_m. g.apart q p n m (on.scripts q has) (on.scripts p also) other
              (on.numbers q n has is_n) (on.numbers p m also is_m);
          unused = λ q i n e has is_n. g.unused q i n e (on.scripts q has) (on.numbers q n has is_n);
          unnamed = λ q i n m has is_n. g.unnamed q i n m (on.scripts q has) (on.numbers q n has is_n);
          unreached = λ q p n o x has is_n out. g.unreached q p n o x (on.scripts q has) (on.numbers q n has is_n)
              (on.outs p o out);
          unowned = λ q i n has is_n low high. names i
              ∙ g.unowned q i n (on.scripts q has) (on.numbers q n has is_n) low high;
          given = λ q o x has next. g.given q o x (on.outs q o has) (sym (on.nexts q o has) ∙ next);
        }

    -- ---- in a run that names its beginning

    same_if_open : (o : Option ℕ) → ((a : ℕ) → o ≡ Some a → IsTxn c.atoms a) → if_open new o ≡ if_open c.atoms o
    same_if_open None has = refl
    same_if_open (Some a) has =
        ap (λ (y : Bool). cond y None (Some a))
        (ap (λ (x : AtomState). x.sealed) (state_before c.atoms new s.0 b states a (has a refl)))

    other_atom : (a t : ℕ) → a ≡ length c.atoms.txns + 1 → 0 < t → t ≤ begun_in trace → (atom_in trace t == a) ≡ false
    other_atom a t here some le =
        let h = (k.history.told None tt).atoms in
        let count = h.begun in
        let was : IsTxn c.atoms t = record { some = some; within = omega (arith, le, count) } in
        let same = h.atom t was in
        let low = least t was in
        let more = was.within in
        ne_eqb (atom_in trace t) a (λ e. absurd (omega (arith, e, same, low, more, here)))

    module _ (beg : Beginning) (named : IsNamed (names_in r) d.blocks beg) where
      abbrev had : HasStory r beg d c
      had = k.story beg named

      abbrev now : Story
      now = record { session = told had.story.session (Begin u s); flush = had.story.flush }

      legal_begun : IsOrdered (Begin u s ∷ trace)
      legal_begun = (history_begun.told None tt).legal.order

      ordered_now : IsOrdered (Begin u s ∷ had.story.session.trace)
      ordered_now = subst (λ (l : List Entry). IsOrdered (Begin u s ∷ l)) (sym had.means.trace) legal_begun

      means_begun : HasMeaning beg (job_named r.scripts) d after now
      means_begun =
          let m = had.means in
          let still = session_told beg (job_named r.scripts) had.story.session (Begin u s) tt m.session in
          record {
            reads = m.reads;
            session = still;
            trace = ap (λ (l : List Entry). Begin u s ∷ l) m.trace;
            owner = λ i. m.owner i
                ∙ sym (ap (if_open new) (names i)
                ∙ same_if_open (owner_of c.atoms i) (λ a e. (owners i a e).0.begun));
            root = m.root;
            cells = m.cells;
            clean = m.clean;
            reach = λ q out x has. m.reach q out x (on.outs q out has);
            owned = λ i n some. m.owned i n (subst IsSome (names i) some);
            born = λ a opened.
                ⊎_elim (λ was. ap (λ (x : Account). x.born) (same_account a was.atom.begun) ∙ m.born a was)
                (λ here. ap (λ (x : Account). x.born) (new_account a here)
                ∙ sym (none_born beg.content (λ t. atom_in trace t == a) trace legal_begun.2
                (λ t some le. other_atom a t here some le))) (open_or_new a opened);
            gone = λ a opened.
                ⊎_elim (λ was. ap (λ (x : Account). x.gone) (same_account a was.atom.begun) ∙ m.gone a was)
                (λ here. ap (λ (x : Account). x.gone) (new_account a here)
                ∙ sym (none_gone beg.content (λ t. atom_in trace t == a) trace legal_begun.2
                (λ t some le. other_atom a t here some le))) (open_or_new a opened);
            at = at_told beg (job_named r.scripts) had.story.session (Begin u s) tt ordered_now c.space c.volume d still
                had.story.flush c.broken c.commit m.at;
          }

      durable_begun : (t : ℕ) → r.clock ≡ Some t → TellsCrashes d → IsDurable beg t d after now
      durable_begun t is crashes =
          let g = had.durable t is crashes in
          record {
            each = safe_push (means beg) (commands greatest_size) beg.content t d trace (Begin u s) legal_begun tt
                g.each;
            now = g.now;
          }

    keeps_begin : IsKept r d after
    keeps_begin = record {
      history = history_begun;
      tables = tables_begun;
      accounts = accounts_begun;
      cells = cells_begun;
      tasks = tasks_begun;
      lender = k.lender;
      story = λ beg named. record {
        story = now beg named;
        means = means_begun beg named;
        durable = durable_begun beg named;
      };
    }

    -- the same of parts that are as they are then
    keeps_begin_by : (seen : TurnsSeen) (entries : Told) → seen ≡ turns → entries ≡ with_entry c.trace (Begin u s)
        → IsKept r d (record c { turns = seen; atoms = new; trace = entries })
    keeps_begin_by seen entries are_turns are_entries =
        subst (λ (x : TurnsSeen). IsKept r d (record c { turns = x; atoms = new; trace = entries })) (sym are_turns)
        (subst (λ (x : Told). IsKept r d (record after { trace = x })) (sym are_entries) keeps_begin)

-- ---- by the `begin` that is the script's next command

module _ {D : Type 0} (r : Naming) (d : State) (c : CoreSeen D) (k : IsKept r d c) (s : ScriptNo) (u : TxnNo)
    (sound : c.broken ≡ None) (st : Stands c.turns s.0 None (Some asks.Begin))
    (room : owed c.turns + owed_for_commit c.commit + 1 ≤ c.trace.spare) where
  abbrev is : IsScript c.turns s.0
  is = st.is_script

  abbrev turn : Turn
  turn = record (turn_at c.turns s.0) { transaction = Some (inside u) }

  abbrev within : TurnsSeen
  within = entered c.turns s.0 (inside u)

  none_out : (turn_at c.turns s.0).out ≡ None
  none_out = not_out c k.tables s.0 is asks.Begin st.next (λ w. w)

  there : IsScript within s.0
  there = is_script_with c.turns s.0 turn s.0 is

  none_there : (turn_at within s.0).out ≡ None
  none_there = same_of c.turns s.0 turn is (λ (x : Turn). x.out) refl s.0 ∙ none_out

  on : TurnsGoOn c.turns (answered_one within s.0)
  on = goes_on_twice c.turns within (answered_one within s.0) (turned_goes_on c.turns s.0 is turn refl refl refl)
      (answered_goes_on within s.0 there none_there)

  fewer : owed (answered_one within s.0) ≤ owed c.turns
  fewer =
      let one = owed_less c.turns s.0 turn is (λ x. omega arith) in
      let two = owed_answered within s.0 there in
      omega (arith, one, two)

  pub may_answer_begin : HasNext within s.0
  may_answer_begin =
      let e = ap (λ (x : Turn). x.answered) (turn_now c.turns s.0 turn is) in
      let has = next_there c.turns s.0 asks.Begin st.next in
      omega (arith, e, has)

  module _ (new : AtomsSeen) (b : Begins c.atoms new s.0) (number : u.0 ≡ length c.atoms.txns + 1)
      (names : (n : ℕ) → owner_of new n ≡ owner_of c.atoms n) (spare : new.spare ≡ c.atoms.spare)
      (owners : AreOwners c.atoms) (least : (t : ℕ) → IsTxn c.atoms t → atom_of c.atoms t ≤ t) where
    tasks : TasksTell (with_begin (tables_of c) s.0 u new) c.locks
    tasks =
        let t = tables_of c in
        let one = begun_follow (commands greatest_size) None d.clock t c.trace.entries (k.history.told None tt) c.locks
        k.tables.tasks new s.0 b names in
        let two = tasks_entered (record t { atoms = new }) c.locks one s.0 (inside u) is none_out in
        tasks_answered (record t { atoms = new; turns = within }) c.locks two s.0 there none_there

    drawn : AreDrawn k.history.first (answered_one within s.0) c.numbers.next_oid c.trace.entries
    drawn = drawn_answered k.history.first within c.numbers.next_oid c.trace.entries
        (drawn_entered k.history.first c.turns c.numbers.next_oid c.trace.entries k.history.drawn s.0 (inside u) is)
        s.0 there none_there

    pub keeps_begun_by : (seen : TurnsSeen) (entries : Told) → seen ≡ answered_one within s.0
        → entries ≡ with_entry c.trace (Begin u s)
        → IsKept r d (record c { turns = seen; atoms = new; trace = entries })
    keeps_begun_by =
        keeps_begin_by r d c k s u (answered_one within s.0).turns on fewer room new b number names spare owners least
        (λ o named. told_begin (commands greatest_size) (option_map start_of o) d.clock (tables_of c) c.trace.entries
        (k.history.told o named) u s new sound st b number) drawn tasks

  -- where it does not begin, all is as before
  pub keeps_not_begun : (new : AtomsSeen) → new ≡ c.atoms → IsKept r d (record c { atoms = new })
  keeps_not_begun new same = subst (λ (x : AtomsSeen). IsKept r d (record c { atoms = x })) (sym same) k

-- ---- for a single command

module _ {D : Type 0} (r : Naming) (d : State) (c : CoreSeen D) (k : IsKept r d c) (s : ScriptNo) (u : TxnNo)
    (sound : c.broken ≡ None) (st : StandsAlone c.turns s.0)
    (room : owed c.turns + owed_for_commit c.commit + 1 ≤ c.trace.spare) where
  abbrev alone : IsScript c.turns s.0
  alone = st.stands.is_script

  abbrev in_its_own : Turn
  in_its_own = record (turn_at c.turns s.0) { transaction = Some (single u) }

  goes_alone : TurnsGoOn c.turns (entered c.turns s.0 (single u))
  goes_alone = turned_goes_on c.turns s.0 alone in_its_own refl refl refl

  module _ (new : AtomsSeen) (b : Begins c.atoms new s.0) (number : u.0 ≡ length c.atoms.txns + 1)
      (names : (n : ℕ) → owner_of new n ≡ owner_of c.atoms n) (spare : new.spare ≡ c.atoms.spare)
      (owners : AreOwners c.atoms) (least : (t : ℕ) → IsTxn c.atoms t → atom_of c.atoms t ≤ t) where
    tasks_alone : TasksTell (with_single (tables_of c) s.0 u new) c.locks
    tasks_alone =
        let t = tables_of c in
        let one = begun_follow (commands greatest_size) None d.clock t c.trace.entries (k.history.told None tt) c.locks
        k.tables.tasks new s.0 b names in
        tasks_entered (record t { atoms = new }) c.locks one s.0 (single u) alone
        (none_outside c k.tables s.0 alone st.stands.transaction)

    pub keeps_alone_by : (seen : TurnsSeen) (entries : Told) → seen ≡ entered c.turns s.0 (single u)
        → entries ≡ with_entry c.trace (Begin u s)
        → IsKept r d (record c { turns = seen; atoms = new; trace = entries })
    keeps_alone_by =
        keeps_begin_by r d c k s u (entered c.turns s.0 (single u)).turns goes_alone
        (owed_less c.turns s.0 in_its_own alone (λ x. omega arith)) room new b number names spare owners least
        (λ o named. told_single (commands greatest_size) (option_map start_of o) d.clock (tables_of c) c.trace.entries
        (k.history.told o named) u s st.command new sound st.stands st.work b number)
        (drawn_entered k.history.first c.turns c.numbers.next_oid c.trace.entries k.history.drawn s.0 (single u) alone)
        tasks_alone
