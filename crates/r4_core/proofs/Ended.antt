-- A transaction ends, by the `end` that is its script's next command or because its script has no further one: what
-- holds of a core holds still.
use Rattle.std.proofs.Common.{◌≡◌, ℕ, ◌+◌, ◌-◌, ◌≤◌, true, false, cond, List, Option, Some, None}
use Rattle.std.proofs.Common.{length, refl, sym, ◌∙◌, ap, subst, arith}
use Rattle.std.specs.Option.{option_map}
use Rattle.std.proofs.lemmas.List.{length-set}
use Rattle.r4_atoms.specs.Atoms.{AtomsSeen, IsBegun as IsTxn, IsOpenAtom, TxnSeen, atom_of, is_cleaned, no_txn}
use Rattle.r4_atoms.specs.Atoms.{owner_by, owner_of, txn_of}
use Rattle.r4_atoms.specs.Owned.{label_of}
use Rattle.r4_base.specs.declared.things.ScriptNo.{ScriptNo}
use Rattle.r4_base.specs.declared.things.TxnNo.{TxnNo}
use Rattle.r4_content.specs.Locality.{commands}
use Rattle.r4_content.specs.Meaning.{greatest_size}
use Rattle.r4_content.specs.declared.command.Command.TheVariants as asks
use Rattle.r4_ready.specs.r4_durable.Meaning.{start_of}
use Rattle.r4_others.specs.r4_history.Held.{TasksTell}
use Rattle.r4_others.specs.r4_history.Tables.{Stands, inside, with_ended}
use Rattle.r4_others.proofs.r4_history.AtomSteps.{kept_by_set}
use Rattle.r4_others.proofs.r4_history.DrawnSteps.{drawn_answered, drawn_entry, drawn_left}
use Rattle.r4_others.proofs.r4_history.Places.{is_script_with, next_there, turn_now}
use Rattle.r4_others.proofs.r4_history.RunSteps.{open_in_both}
use Rattle.r4_others.proofs.r4_history.TaskSteps.{ended_follow, tasks_answered, tasks_left}
use Rattle.r4_others.proofs.r4_history.Told.{told_end, told_last}
use Rattle.r4_outside.specs.Device.{State}
use Rattle.r4_trace.specs.Kept.{Told}
use Rattle.r4_trace.specs.declared.entry.Entry.{Entry}
use Rattle.r4_trace.specs.declared.entry.Entry.TheVariants.{Ended}
use Rattle.r4_turns.specs.Turns.{HasNext, IsScript, TurnsSeen, answered_one, left, turn_at}
use Rattle.r4_turns.specs.declared.turn.Turn.{Turn}
use Rattle.r4_ready.specs.r4_kept.History.{owed, owed_for_commit}
use Rattle.r4_ready.specs.r4_kept.Kept.{IsKept}
use Rattle.r4_ready.specs.r4_kept.Naming.{Naming}
use Rattle.r4_ready.specs.r4_kept.Steps.{ended, ended_last, with_entry}
use Rattle.r4_ready.specs.r4_kept.View.{CoreSeen, tables_of}
use Rattle.r4_core.proofs.Answered.{TurnsGoOn, answered_goes_on, goes_on_twice, keeps_after, not_out, nothing_left}
use Rattle.r4_core.proofs.Answered.{turned_goes_on}
use Rattle.r4_ready.proofs.r4_kept.Turning.{owed_answered, owed_less, same_of}

-- ---- the table of atoms

module _ (s : AtomsSeen) (t : ℕ) where
  same_atom : (n : ℕ) → atom_of (with_ended s t) n ≡ atom_of s n
  same_atom n = kept_by_set (λ (x : TxnSeen). x.atom) s.txns (t - 1) (record (txn_of s t) { is_open = false }) no_txn
      refl (n - 1)

  pub same_owner : (n : ℕ) → owner_of (with_ended s t) n ≡ owner_of s n
  same_owner n = by (label_of n s.captured)
    where
      by : (o : Option ℕ) → owner_by (with_ended s t) o ≡ owner_by s o
      by None = refl
      by (Some x) = ap (λ (a : ℕ). cond (is_cleaned s a) None (Some a)) (same_atom x)

  pub same_count : length (with_ended s t).txns ≡ length s.txns
  same_count = length-set s.txns (t - 1) (record (txn_of s t) { is_open = false })

  pub open_before : (a : ℕ) → IsOpenAtom (with_ended s t) a → IsOpenAtom s a
  open_before a is = record {
    atom = record {
      begun =
          let e = length-set s.txns (t - 1) (record (txn_of s t) { is_open = false }) in
          record { some = is.atom.begun.some; within = omega (arith, is.atom.begun.within, e) };
      own = sym (same_atom a) ∙ is.atom.own;
    };
    unsealed = is.unsealed;
  }

-- ---- the turns

module _ (t : TurnsSeen) (s : ℕ) (is : IsScript t s) where
  abbrev without : Turn
  without = record (turn_at t s) { transaction = None }

  abbrev away : TurnsSeen
  away = left t s

  pub there : IsScript away s
  there = is_script_with t s without s is

  pub left_goes_on : TurnsGoOn t away
  left_goes_on = turned_goes_on t s is without refl refl refl

  pub owed_left : owed away ≤ owed t
  owed_left = owed_less t s without is (λ x. omega arith)

  pub owed_stays : owed (answered_one away s) ≤ owed t
  owed_stays = let less = owed_answered away s there in omega (arith, owed_left, less)

  -- without a task out it has none then
  pub none_away : (turn_at t s).out ≡ None → (turn_at away s).out ≡ None
  none_away none = same_of t s without is (λ (x : Turn). x.out) refl s ∙ none

-- ---- a core

module _ {D : Type 0} (r : Naming) (d : State) (c : CoreSeen D) (k : IsKept r d c) (s : ScriptNo) (u : TxnNo)
    (sound : c.broken ≡ None) (room : owed c.turns + owed_for_commit c.commit + 1 ≤ c.trace.spare) where
  abbrev trace : List Entry
  trace = c.trace.entries

  -- what tasks hold once its transaction has ended
  ended_tasks : (is : IsScript c.turns s.0) → (turn_at c.turns s.0).out ≡ None
      → TasksTell (record (tables_of c) { turns = left c.turns s.0; atoms = with_ended c.atoms u.0 }) c.locks
  ended_tasks is none =
      let t = tables_of c in
      tasks_left (record t { atoms = with_ended c.atoms u.0 }) c.locks (ended_follow t c.locks k.tables.tasks u.0)
      s.0 is none

  -- ---- by `end`

  module _ (st : Stands c.turns s.0 (Some (inside u)) (Some asks.End)) where
    abbrev is : IsScript c.turns s.0
    is = st.is_script

    none_out : (turn_at c.turns s.0).out ≡ None
    none_out = not_out c k.tables s.0 is asks.End st.next (λ w. w)

    keeps_end : IsKept r d (ended c s.0 u)
    keeps_end =
        let none = none_away c.turns s.0 is none_out in
        keeps_after r d c k (answered_one (left c.turns s.0) s.0) (with_ended c.atoms u.0).txns (Ended u) tt
        (goes_on_twice c.turns (left c.turns s.0) (answered_one (left c.turns s.0) s.0) (left_goes_on c.turns s.0 is)
        (answered_goes_on (left c.turns s.0) s.0 (there c.turns s.0 is) none)) refl
        (same_owner c.atoms u.0) (open_before c.atoms u.0) (same_count c.atoms u.0) (same_atom c.atoms u.0)
        (λ o named. told_end (commands greatest_size) (option_map start_of o) d.clock (tables_of c) trace
        (k.history.told o named) u s sound st)
        (drawn_entry k.history.first (answered_one (left c.turns s.0) s.0) c.numbers.next_oid trace
        (drawn_answered k.history.first (left c.turns s.0) c.numbers.next_oid trace
        (drawn_left k.history.first c.turns c.numbers.next_oid trace k.history.drawn s.0 is)
        s.0 (there c.turns s.0 is) none) (Ended u) tt)
        (tasks_answered (record (tables_of c) { atoms = with_ended c.atoms u.0; turns = left c.turns s.0 }) c.locks
        (ended_tasks is none_out) s.0 (there c.turns s.0 is) none)
        (let fewer = owed_stays c.turns s.0 is in omega (arith, fewer, room))

    -- the same of parts that are as they are then
    pub keeps_ended : (turns : TurnsSeen) (atoms : AtomsSeen) (entries : Told)
        → turns ≡ answered_one (left c.turns s.0) s.0 → atoms ≡ with_ended c.atoms u.0
        → entries ≡ with_entry c.trace (Ended u)
        → IsKept r d (record c { turns = turns; atoms = atoms; trace = entries })
    keeps_ended turns atoms entries is_turns is_atoms is_entries =
        subst (λ (x : TurnsSeen). IsKept r d (record c { turns = x; atoms = atoms; trace = entries })) (sym is_turns)
        (subst (λ (x : AtomsSeen). IsKept r d (record (ended c s.0 u) { atoms = x; trace = entries })) (sym is_atoms)
        (subst (λ (x : Told). IsKept r d (record (ended c s.0 u) { trace = x })) (sym is_entries) keeps_end))

    -- what the calls ask for
    pub may_close : IsTxn c.atoms u.0 × ((txn_of c.atoms u.0).is_open ≡ true)
    may_close =
        let o = open_in_both (commands greatest_size) None d.clock (tables_of c) trace (k.history.told None tt) s.0
        (inside u) is st.transaction in
        (o.0, o.1)

    pub may_answer : HasNext (left c.turns s.0) s.0
    may_answer =
        let e = ap (λ (x : Turn). x.answered) (turn_now c.turns s.0 (without c.turns s.0 is) is) in
        let has = next_there c.turns s.0 asks.End st.next in
        omega (arith, e, has)

  -- ---- at the end of its script

  module _ (st : Stands c.turns s.0 (Some (inside u)) None) where
    none_left : (turn_at c.turns s.0).out ≡ None
    none_left = nothing_left c k.tables s.0 st.is_script st.next

    keeps_last : IsKept r d (ended_last c s.0 u)
    keeps_last =
        keeps_after r d c k (left c.turns s.0) (with_ended c.atoms u.0).txns (Ended u) tt
        (left_goes_on c.turns s.0 st.is_script) refl (same_owner c.atoms u.0) (open_before c.atoms u.0)
        (same_count c.atoms u.0) (same_atom c.atoms u.0)
        (λ o named. told_last (commands greatest_size) (option_map start_of o) d.clock (tables_of c) trace
        (k.history.told o named) u s sound st)
        (drawn_entry k.history.first (left c.turns s.0) c.numbers.next_oid trace
        (drawn_left k.history.first c.turns c.numbers.next_oid trace k.history.drawn s.0 st.is_script) (Ended u) tt)
        (ended_tasks st.is_script none_left)
        (let fewer = owed_left c.turns s.0 st.is_script in omega (arith, fewer, room))

    pub keeps_left : (turns : TurnsSeen) (atoms : AtomsSeen) (entries : Told)
        → turns ≡ left c.turns s.0 → atoms ≡ with_ended c.atoms u.0 → entries ≡ with_entry c.trace (Ended u)
        → IsKept r d (record c { turns = turns; atoms = atoms; trace = entries })
    keeps_left turns atoms entries is_turns is_atoms is_entries =
        subst (λ (x : TurnsSeen). IsKept r d (record c { turns = x; atoms = atoms; trace = entries })) (sym is_turns)
        (subst (λ (x : AtomsSeen). IsKept r d (record (ended_last c s.0 u) { atoms = x; trace = entries }))
        (sym is_atoms)
        (subst (λ (x : Told). IsKept r d (record (ended_last c s.0 u) { trace = x })) (sym is_entries) keeps_last))

    pub may_leave : IsTxn c.atoms u.0 × ((txn_of c.atoms u.0).is_open ≡ true)
    may_leave =
        let o = open_in_both (commands greatest_size) None d.clock (tables_of c) trace (k.history.told None tt) s.0
        (inside u) st.is_script st.transaction in
        (o.0, o.1)
