-- A task is done: what holds of a core holds still.
use Rattle.std.proofs.Common.{◌≡◌, ◌≢◌, ℕ, ◌+◌, ◌<◌, ◌≤◌, ◌==◌, true, false, cond, List, ◌∷◌}
use Rattle.std.proofs.Common.{Option, Some, None, Contains, get_or, length, option_map, ◌-◌, refl, sym, ◌∙◌, ap}
use Rattle.std.proofs.Common.{subst, arith}
use Rattle.std.specs.Option.{unwrap_or}
use Rattle.std.proofs.lemmas.Bool.{cond-true, eq-eqb}
use Rattle.r4_atoms.specs.Atoms.{AtomsSeen, TxnSeen, account_of, atom_of, is_sealed, new_atom, no_txn}
use Rattle.r4_atoms.specs.Atoms.{owner_of, state_of, with_state}
use Rattle.r4_atoms.specs.declared.things.Account.{Account}
use Rattle.r4_atoms.specs.declared.things.AtomState.{AtomState}
use Rattle.r4_base.specs.Tree.{Name}
use Rattle.r4_base.specs.declared.things.AtomNo.{AtomNo}
use Rattle.r4_base.specs.declared.things.ScriptNo.{ScriptNo}
use Rattle.r4_base.specs.declared.things.TxnNo.{TxnNo}
use Rattle.r4_taking.specs.r4_buffer.Seen.{buffered, is_dirty_by}
use Rattle.r4_taking.specs.r4_cell.Patch.{by_name, root_of_pair}
use Rattle.r4_taking.specs.r4_cell.Seen.{CellSeen}
use Rattle.r4_taking.specs.r4_cell.declared.change.Change.{Change}
use Rattle.r4_content.specs.Locality.{commands}
use Rattle.r4_content.specs.Meaning.{greatest_size, with_id}
use Rattle.r4_content.specs.declared.command.Command.{Command}
use Rattle.r4_content.specs.declared.reply.Reply.{Reply}
use Rattle.r4_taking.specs.r4_durable.Kept.{IsSession}
use Rattle.r4_taking.specs.r4_durable.Meaning.{Beginning, BeginsWith, IsNamed, means, start_of}
use Rattle.r4_taking.specs.r4_history.Drawn.{numbers_of}
use Rattle.r4_taking.specs.r4_history.Held.{IsOut, IsServed, need_of, nodes_of}
use Rattle.r4_taking.specs.r4_history.Tables.{Stands, inside, next_at, single, with_ended}
use Rattle.r4_taking.specs.r4_history.Told.{HasReply}
use Rattle.r4_taking.proofs.r4_history.RunSteps.{open_in_both}
use Rattle.r4_outside.specs.Device.{State, TellsCrashes}
use Rattle.r4_counted.specs.r4_patch.Joining.{patch_of_change}
use Rattle.r4_counted.specs.r4_patch.Part.{MeetsPart}
use Rattle.r4_taking.specs.r4_sets.Atoms.{told}
use Rattle.r4_taking.proofs.r4_trace.Safely.{safe_push}
use Rattle.r4_taking.specs.r4_trace.Folds.{content_of, everything}
use Rattle.r4_taking.specs.r4_trace.Ids.{Start}
use Rattle.r4_taking.specs.r4_trace.Order.{IsOrdered}
use Rattle.r4_taking.specs.r4_trace.Traced.{atom_in}
use Rattle.r4_taking.specs.r4_trace.declared.entry.Entry.{Entry}
use Rattle.r4_taking.specs.r4_trace.declared.entry.Entry.TheVariants.{Done, Ended}
use Rattle.r4_taking.specs.r4_turns.Turns.{IsScript, TurnsSeen, answered_at, answered_one, dropped, left, turn_at}
use Rattle.r4_taking.specs.r4_turns.declared.out.Numbers.{Numbers}
use Rattle.r4_taking.specs.r4_turns.declared.out.Out.{Out}
use Rattle.r4_taking.specs.r4_turns.declared.turn.Open.{Open}
use Rattle.r4_taking.specs.r4_kept.Cells.{NamesAt}
use Rattle.r4_taking.specs.r4_kept.Durable.{IsDurable}
use Rattle.r4_taking.specs.r4_kept.History.{IsHistory}
use Rattle.r4_taking.specs.r4_kept.Kept.{IsKept}
use Rattle.r4_taking.specs.r4_kept.Meaning.{HasMeaning}
use Rattle.r4_taking.specs.r4_kept.Naming.{Naming, job_named, names_in}
use Rattle.r4_taking.specs.r4_kept.Steps.{with_entry}
use Rattle.r4_taking.specs.r4_kept.Story.{Story}
use Rattle.r4_taking.specs.r4_kept.TasksOut.{IsGiven}
use Rattle.r4_taking.specs.r4_kept.View.{CoreSeen, tables_of}
use Rattle.r4_taking.proofs.r4_kept.Carried.{at_told, session_told}
use Rattle.r4_taking.proofs.r4_kept.States.{state_others, state_same, state_there}
pub use Rattle.r4_done.specs.Right.{IsRight}
use Rattle.r4_done.specs.Doing.{HasCaptured}
use Rattle.r4_done.specs.Done.{CanBeDone, HasDone, HasDoneSingle, HasPut, IsChangeOf}
use Rattle.r4_taking.proofs.EndedAtoms.{open_before, same_atom, same_count, same_owner}
use Rattle.r4_done.proofs.Beginning.{begins_at}
use Rattle.r4_done.proofs.DoneAccounts.{accounts_done}
use Rattle.r4_done.proofs.DoneCells.{cells_done}
use Rattle.r4_done.proofs.DoneHistory.{history_done, history_single}
use Rattle.r4_done.proofs.DoneMeaning.{durable_done, meaning_done, story_done}
use Rattle.r4_done.proofs.DoneOnce.{given_done, unnamed_done}
use Rattle.r4_done.proofs.DoneTables.{is_touched, tells_inside, tells_single, untouched}
use Rattle.r4_done.proofs.DoneTasks.{tasks_done}
use Rattle.r4_done.proofs.Doable.{given_it, is_served, once, own_task, touched_owned}
use Rattle.r4_done.proofs.Dropped.{TurnsDrop, done_drops, last_drops}

-- ---- a core

module _ {D : Type 0} (r : Naming) (d : State) (c : CoreSeen D) (k : IsKept r d c) (s : ScriptNo)
    (within : Open) (out : Out) (x : Command) (reply : Reply) (change : Change) (a : AtomNo) (account : Account)
    (can : CanBeDone c s within out x a) (of_it : IsChangeOf c out x change)
    (levels : (y : CellSeen) → Contains change.new y → y.level ≤ 8) (new : CoreSeen D) (atoms : AtomsSeen)
    (put : HasPut c new atoms out change a account)
    (right : (b : Beginning) (named : IsNamed (names_in r) d.blocks b)
    → IsRight r d c new k s within.txn x reply change a account b named) where
  abbrev trace : List Entry
  trace = c.trace.entries

  abbrev u : TxnNo
  u = within.txn

  abbrev e : Entry
  e = Done u s (answered_at c.turns s.0 + 1) x reply

  served : IsServed (tables_of c) s.0 out
  served = is_served r d c k s within out x change a can of_it

  -- what its task was given
  was_given : IsGiven c.tree x out
  was_given = given_it r d c k s within out x change a can of_it

  own_out : atom_of c.atoms out.txn.0 ≡ a.0
  own_out = own_task r d c k s within out x change a can of_it

  own_dirty : (i : ℕ) → is_touched change.old change.new i ≡ true → is_dirty_by (buffered c.buffer i) ≡ true
      → owner_of c.atoms i ≡ Some a.0
  own_dirty = touched_owned r d c k s within out x change a can of_it

  own_in : atom_in trace u.0 ≡ a.0
  own_in =
      let is_open = open_in_both (commands greatest_size) None d.clock (tables_of c) trace (k.history.told None tt) s.0
      within can.out_is.is_script can.stands.transaction in
      sym ((k.history.told None tt).atoms.atom u.0 is_open.0) ∙ can.own

  -- ---- the reply

  replies : (o : Option Beginning) → BeginsWith (names_in r) d.blocks o
      → HasReply (commands greatest_size) (option_map start_of o) trace x reply
  replies None named = λ b is. absurd (cc is)
  replies (Some b) named = λ y is.
      (let m = (k.story b named).means in
      let w = commands greatest_size in
      let same : start_of b ≡ y = cc is in
      (right b named).built.reply_is
      ∙ ap (λ z. w.reply x (content_of w z everything (k.story b named).story.session.trace)) m.session.start
      ∙ ap (λ (l : List Entry). w.reply x (content_of w b.content everything l)) m.trace
      ∙ ap (λ (z : Start). w.reply x (content_of w z.content everything trace)) same)

  -- ---- owners

  seals : (n : ℕ) → is_sealed atoms n ≡ is_sealed c.atoms n
  seals n =
      ap (λ (l : List AtomState). (get_or l (n - 1) new_atom).sealed) put.states
      ∙ state_same c.atoms a.0 (record (state_of c.atoms a.0) { account = account }) (λ (y : AtomState). y.sealed) refl
      n

  -- the atom has its account then, and what the change touches
  abbrev given : AtomState
  given = record (state_of c.atoms a.0) { account = account }

  account_then : (n : ℕ) → account_of atoms n ≡ account_of (with_state c.atoms a.0 given) n
  account_then n = ap (λ (l : List AtomState). (get_or l (n - 1) new_atom).account) put.states

  atom_then : (t : ℕ) → atom_of atoms t ≡ atom_of c.atoms t
  atom_then t = ap (λ (l : List TxnSeen). (get_or l (t - 1) no_txn).atom) put.txns

  count_then : length atoms.txns ≡ length c.atoms.txns
  count_then = ap (λ (l : List TxnSeen). length l) put.txns

  captured : HasCaptured c.atoms atoms a.0 (is_touched change.old change.new) account out.cells
  captured = record {
    owners = put.owners;
    own = account_then a.0
        ∙ ap (λ (y : AtomState). y.account)
        (state_there c.atoms a.0 given can.opened.atom.begun (k.history.told None tt).atoms.states);
    others = λ n is other.
        account_then n
        ∙ ap (λ (y : AtomState). y.account)
        (state_others c.atoms a.0 given can.opened.atom.begun n is.some other);
    atoms = atom_then;
    opens = λ n is. record {
      atom = record {
        begun =
            let e = count_then in
            record { some = is.atom.begun.some; within = omega (arith, is.atom.begun.within, e) };
        own = sym (atom_then n) ∙ is.atom.own;
      };
      unsealed = sym (seals n) ∙ is.unsealed;
    };
    count = count_then;
    spare = put.captures;
  }

  spared : (q : ℕ) (o : Out) → q ≢ s.0 → IsOut c.turns q o → (node : ℕ) → Contains (nodes_of (need_of o)) node
      → is_touched change.old change.new node ≡ false
  spared =
      untouched r d c k s.0 out can.out_is change.old change.new of_it.reached of_it.numbered can.holds new.locks
      put.gone put.others a.0 atoms put.txns captured.owners

  -- ---- what is named, and what other tasks were given

  meets : MeetsPart (patch_of_change change) (by_name was_given.met) (root_of_pair was_given.root)
  meets = of_it.meets was_given

  module _ (turns : TurnsSeen) (on : TurnsDrop c.turns turns s.0 out) where
    unnamed_then : (q i : ℕ) (n : Numbers) (m : Name) → IsScript turns q → numbers_of (turn_at turns q) ≡ Some n
        → NamesAt new.buffer i m → n.fresh.next ≤ m.id → m.id < n.fresh.end → ⊥
    unnamed_then =
        unnamed_done r d c k s.0 out can.out_is change.old change.new change.root of_it.is of_it.reached of_it.numbered
        can.sound x was_given meets new.buffer put.cells turns on

    given_then : (q : ℕ) (o : Out) (y : Command) → IsOut turns q o → next_at turns q ≡ Some y
        → IsGiven (unwrap_or change.root c.tree) (with_id o.numbers.oid y) o
    given_then =
        given_done r d c k s.0 out can.out_is change.old change.new change.root of_it.is of_it.reached of_it.numbered
        can.sound x was_given meets new.buffer put.cells turns on spared

  one_more : (n : ℕ) → n + 1 ≤ cond {A = ℕ} (atom_of c.atoms u.0 == a.0) 1 0 + n
  one_more n =
      let one = cond-true {A = ℕ} (atom_of c.atoms u.0 == a.0) 1 0 (eq-eqb (atom_of c.atoms u.0) a.0 can.own) in
      omega (arith, one)

  -- ---- inside of a transaction

  module _ (inner : within ≡ inside u) where
    abbrev turns : TurnsSeen
    turns = answered_one (dropped c.turns s.0) s.0

    abbrev after : CoreSeen D
    after = record c {
      turns = turns;
      locks = new.locks;
      atoms = atoms;
      buffer = new.buffer;
      space = new.space;
      tree = unwrap_or change.root c.tree;
      trace = with_entry c.trace e;
    }

    on : TurnsDrop c.turns turns s.0 out
    on = done_drops c.turns s.0 can.out_is.is_script out can.out_is.is_out

    history_then : IsHistory r d after
    history_then =
        history_done r d c k s u out can.out_is can.sound can.command x can.work can.made reply replies
        (begins_at r d c k) a.0 account atoms put.txns put.states
        (subst (λ (o : Open). Stands c.turns s.0 (Some o) (Some can.command)) inner can.stands) after refl

    legal : IsOrdered (e ∷ trace)
    legal = (history_then.told None tt).legal.order

    keeps_inside : IsKept r d after
    keeps_inside = record {
      history = history_then;
      tables = record {
        tasks = tells_inside r d c k s.0 out can.out_is change.old change.new of_it.reached of_it.numbered can.holds
            new.locks put.gone put.others a.0 atoms put.txns captured.owners;
        ordered = λ q there. k.tables.ordered q (on.scripts q there);
      };
      accounts = accounts_done r d c k s.0 out turns on a can.opened change.old change.new
          (once change.old of_it.is.old_names) (once change.new of_it.is.new_names) own_dirty new.buffer put.cells
          put.places account atoms captured new.space put.charged put.counts (e ∷ trace) (λ n. omega arith)
          (one_more _) put.one_made put.one_gone after refl;
      cells = cells_done r d c k s.0 out can.out_is change.old change.new change.root of_it.is of_it.reached
          of_it.numbered turns on a can.opened own_out atoms captured.owners new.buffer can.lawful put.cells
          can.sound x was_given meets levels spared new.space put.count after refl;
      tasks = tasks_done r d c k s.0 out can.out_is change.old change.new of_it.reached of_it.numbered turns on
          new.buffer put.cells (unwrap_or change.root c.tree) atoms a.0 captured.owners (unnamed_then turns on)
          (given_then turns on) after refl;
      lender = k.lender;
      story = λ b named.
          (let y = right b named in
          record {
            story = story_done r d c k s out change.old change.new change.root of_it.is turns on u
                (answered_at c.turns s.0 + 1) x reply a can.opened own_in account atoms captured seals new.buffer
                put.cells spared new.space legal b named y.built y.made y.took;
            means = meaning_done r d c k s out change.old change.new change.root of_it.is turns on u
                (answered_at c.turns s.0 + 1) x reply a can.opened own_in account atoms captured seals new.buffer
                put.cells spared new.space legal b named y.built y.made y.took after refl;
            durable = λ t clock crashes. durable_done r d c k s out change.old change.new change.root of_it.is turns on
                u (answered_at c.turns s.0 + 1) x reply a can.opened own_in account atoms captured seals new.buffer
                put.cells spared new.space legal b named y.built y.made y.took t clock crashes after refl;
          });
    }

  -- ---- a single command

  module _ (outer : within ≡ single u) where
    abbrev last : TurnsSeen
    last = left (answered_one (dropped c.turns s.0) s.0) s.0

    abbrev ended : AtomsSeen
    ended = with_ended atoms u.0

    -- once it is done, and once its transaction has ended
    abbrev mid : CoreSeen D
    mid = record c {
      turns = last;
      locks = new.locks;
      atoms = ended;
      buffer = new.buffer;
      space = new.space;
      tree = unwrap_or change.root c.tree;
      trace = with_entry c.trace e;
    }

    abbrev end : CoreSeen D
    end = record mid { trace = with_entry (with_entry c.trace e) (Ended u) }

    leaves : TurnsDrop c.turns last s.0 out
    leaves = last_drops c.turns s.0 can.out_is.is_script out can.out_is.is_out

    captured_end : HasCaptured c.atoms ended a.0 (is_touched change.old change.new) account out.cells
    captured_end = record {
      owners = λ n. same_owner atoms u.0 n ∙ captured.owners n;
      own = captured.own;
      others = captured.others;
      atoms = λ t. same_atom atoms u.0 t ∙ captured.atoms t;
      opens = λ n is. captured.opens n (open_before atoms u.0 n is);
      count = same_count atoms u.0 ∙ captured.count;
      spare = captured.spare;
    }

    history_last : IsHistory r d end
    history_last =
        history_single r d c k s u out can.out_is can.sound can.command x can.work can.made reply replies
        (begins_at r d c k) a.0 account atoms put.txns put.states
        (subst (λ (o : Open). Stands c.turns s.0 (Some o) (Some can.command)) outer can.stands) end refl

    legal_last : IsOrdered (Ended u ∷ (e ∷ trace))
    legal_last = (history_last.told None tt).legal.order

    legal_first : IsOrdered (e ∷ trace)
    legal_first = legal_last.2

    module _ (b : Beginning) (named : IsNamed (names_in r) d.blocks b) where
      abbrev y : IsRight r d c new k s u x reply change a account b named
      y = right b named

      abbrev first : Story
      first = story_done r d c k s out change.old change.new change.root of_it.is last leaves u
          (answered_at c.turns s.0 + 1) x reply a can.opened own_in account ended captured_end seals new.buffer
          put.cells spared new.space legal_first b named y.built y.made y.took

      means_first : HasMeaning b (job_named r.scripts) d mid first
      means_first = meaning_done r d c k s out change.old change.new change.root of_it.is last leaves u
          (answered_at c.turns s.0 + 1) x reply a can.opened own_in account ended captured_end seals new.buffer
          put.cells spared new.space legal_first b named y.built y.made y.took mid refl

      abbrev story_end : Story
      story_end = record { session = told first.session (Ended u); flush = first.flush }

      session_end : IsSession greatest_size b (job_named r.scripts) story_end.session
      session_end = session_told b (job_named r.scripts) first.session (Ended u) tt means_first.session

      means_end : HasMeaning b (job_named r.scripts) d end story_end
      means_end =
          let m = means_first in
          record {
            reads = m.reads;
            session = session_end;
            trace = ap (λ (l : List Entry). Ended u ∷ l) m.trace;
            owner = m.owner;
            root = m.root;
            cells = m.cells;
            clean = m.clean;
            reach = m.reach;
            owned = m.owned;
            born = m.born;
            gone = m.gone;
            at = at_told b (job_named r.scripts) first.session (Ended u) tt
                (subst (λ (l : List Entry). IsOrdered (Ended u ∷ l)) (sym m.trace) legal_last) new.space c.volume d
                session_end first.flush c.broken c.commit m.at;
          }

      durable_end : (t : ℕ) → r.clock ≡ Some t → TellsCrashes d → IsDurable b t d end story_end
      durable_end t clock crashes =
          let g = durable_done r d c k s out change.old change.new change.root of_it.is last leaves u
          (answered_at c.turns s.0 + 1) x reply a can.opened own_in account ended captured_end seals new.buffer
          put.cells spared new.space legal_first b named y.built y.made y.took t clock crashes mid refl in
          record {
            each = safe_push (means b) (commands greatest_size) b.content t d (e ∷ trace) (Ended u) legal_last tt
                g.each;
            now = g.now;
          }

    keeps_single : IsKept r d end
    keeps_single = record {
      history = history_last;
      tables = record {
        tasks = tells_single r d c k s.0 out can.out_is change.old change.new of_it.reached of_it.numbered can.holds
            new.locks put.gone put.others a.0 atoms put.txns captured.owners u.0;
        ordered = λ q there. k.tables.ordered q (leaves.scripts q there);
      };
      accounts = accounts_done r d c k s.0 out last leaves a can.opened change.old change.new
          (once change.old of_it.is.old_names) (once change.new of_it.is.new_names) own_dirty new.buffer put.cells
          put.places account ended captured_end new.space put.charged put.counts (Ended u ∷ (e ∷ trace))
          (λ n. omega arith) (one_more _) put.one_made put.one_gone end refl;
      cells = cells_done r d c k s.0 out can.out_is change.old change.new change.root of_it.is of_it.reached
          of_it.numbered last leaves a can.opened own_out ended captured_end.owners new.buffer can.lawful put.cells
          can.sound x was_given meets levels spared new.space put.count end refl;
      tasks = tasks_done r d c k s.0 out can.out_is change.old change.new of_it.reached of_it.numbered last leaves
          new.buffer put.cells (unwrap_or change.root c.tree) ended a.0 captured_end.owners
          (unnamed_then last leaves) (given_then last leaves) end refl;
      lender = k.lender;
      story = λ b named. record {
        story = story_end b named;
        means = means_end b named;
        durable = durable_end b named;
      };
    }

module _ {D : Type 0} (r : Naming) (d : State) (c : CoreSeen D) (k : IsKept r d c) (s : ScriptNo) (u : TxnNo)
    (out : Out) (x : Command) (reply : Reply) (change : Change) (a : AtomNo) (account : Account)
    (of_it : IsChangeOf c out x change) (levels : (y : CellSeen) → Contains change.new y → y.level ≤ 8)
    (new : CoreSeen D)
    (right : (b : Beginning) (named : IsNamed (names_in r) d.blocks b)
    → IsRight r d c new k s u x reply change a account b named) where
  pub keeps_done : CanBeDone c s (inside u) out x a → HasDone c new s u out x reply change a account → IsKept r d new
  keeps_done can has =
      subst (IsKept r d) (sym has.same)
      (keeps_inside r d c k s (inside u) out x reply change a account can of_it levels new new.atoms has.put right refl)

  pub keeps_done_single : CanBeDone c s (single u) out x a → HasDoneSingle c new s u out x reply change a account
      → IsKept r d new
  keeps_done_single can has =
      subst (IsKept r d) (sym has.same)
      (keeps_single r d c k s (single u) out x reply change a account can of_it levels new has.atoms has.put right refl)
