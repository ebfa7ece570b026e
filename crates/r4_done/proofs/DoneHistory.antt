-- A task is done: the trace, and what the tables tell of it.
use Rattle.std.proofs.Common.{◌≡◌, ◌-◌, get_or, refl, ℕ, ◌+◌, ◌≤◌, ◌∷◌, List, Option, Some, None, sym, ◌∙◌, ap, subst}
use Rattle.std.proofs.Common.{arith}
use Rattle.std.specs.Prelude.{slice_get}
use Rattle.std.specs.Option.{option_map}
use Rattle.r4_atoms.specs.Atoms.{AtomsSeen, is_committed, new_atom, state_of, with_state}
use Rattle.r4_atoms.specs.declared.things.AtomState.{AtomState}
use Rattle.r4_atoms.specs.declared.things.Account.{Account}
use Rattle.r4_base.specs.declared.things.ScriptNo.{ScriptNo}
use Rattle.r4_base.specs.declared.things.TxnNo.{TxnNo}
use Rattle.r4_content.specs.Locality.{commands}
use Rattle.r4_content.specs.Meaning.{greatest_size, with_id}
use Rattle.r4_content.specs.declared.command.Command.{Command}
use Rattle.r4_content.specs.declared.reply.Reply.{Reply}
use Rattle.r4_taking.specs.r4_durable.Meaning.{Beginning, BeginsWith, start_of}
use Rattle.r4_taking.specs.r4_history.Drawn.{AreDrawn, BeginsAt}
use Rattle.r4_taking.specs.r4_history.Held.{IsOut}
use Rattle.r4_taking.specs.r4_history.Tables.{Stands, Tables, asked, inside, single, with_ended}
use Rattle.r4_taking.specs.r4_history.Told.{HasNewId, HasReply, IsTold}
use Rattle.r4_taking.proofs.r4_history.AtomSteps.{state_kept}
use Rattle.r4_taking.proofs.r4_history.DrawnSteps.{drawn_done, drawn_entry, drawn_for, drawn_left}
use Rattle.r4_taking.proofs.r4_history.Places.{is_script_with, turn_now}
use Rattle.r4_taking.proofs.r4_history.RunSteps.{told_charged, told_dropped, told_owners}
use Rattle.r4_taking.proofs.r4_history.Told.{told_done, told_done_single, without_same}
use Rattle.r4_outside.specs.Device.{State}
use Rattle.r4_taking.specs.r4_trace.Job.{IsWork}
use Rattle.r4_taking.specs.r4_trace.declared.entry.Entry.{Entry}
use Rattle.r4_taking.specs.r4_trace.declared.entry.Entry.TheVariants.{Done, Ended}
use Rattle.r4_taking.specs.r4_turns.Turns.{IsScript, TurnsSeen, answered_at, answered_one, commands_at, dropped, left, turn_at}
use Rattle.r4_taking.specs.r4_turns.declared.out.Out.{Out}
use Rattle.r4_taking.specs.r4_turns.declared.turn.Open.{Open}
use Rattle.r4_taking.specs.r4_turns.declared.turn.Turn.{Turn}
use Rattle.r4_taking.specs.r4_kept.History.{IsHistory, is_headed, owed}
use Rattle.r4_taking.specs.r4_kept.Kept.{IsKept}
use Rattle.r4_taking.specs.r4_kept.Naming.{Naming, names_in}
use Rattle.r4_taking.specs.r4_kept.Steps.{with_entry}
use Rattle.r4_taking.specs.r4_kept.View.{CoreSeen, tables_of}
use Rattle.r4_taking.specs.r4_kept.declared.parts.Commit.{Commit}
use Rattle.r4_taking.proofs.r4_kept.Turning.{owed_answered}
use Rattle.r4_taking.proofs.OutTurns.{owed_dropped}
use Rattle.r4_taking.proofs.Turned.{owed_last, there}

module _ {D : Type 0} (r : Naming) (d : State) (c : CoreSeen D) (k : IsKept r d c) (s : ScriptNo) (u : TxnNo)
    (out : Out) (here : IsOut c.turns s.0 out) (sound : c.broken ≡ None) (had x : Command) (work : IsWork had)
    (made : x ≡ with_id out.numbers.oid had) (reply : Reply)
    (replies : (o : Option Beginning) → BeginsWith (names_in r) d.blocks o
    → HasReply (commands greatest_size) (option_map start_of o) c.trace.entries x reply)
    (begins : (o : Option Beginning) → BeginsWith (names_in r) d.blocks o
    → BeginsAt k.history.first (option_map start_of o))
    (atom : ℕ) (account : Account) (atoms : AtomsSeen) (txns : atoms.txns ≡ c.atoms.txns)
    (states : atoms.atoms
    ≡ (with_state c.atoms atom (record (state_of c.atoms atom) { account = account })).atoms) where
  abbrev trace : List Entry
  trace = c.trace.entries

  abbrev is : IsScript c.turns s.0
  is = here.is_script

  abbrev without : Turn
  without = record (turn_at c.turns s.0) { out = None }

  abbrev away : TurnsSeen
  away = dropped c.turns s.0

  abbrev done : Entry
  done = Done u s (answered_at c.turns s.0 + 1) x reply

  away_there : IsScript away s.0
  away_there = is_script_with c.turns s.0 without s.0 is

  abbrev before : Tables
  before = record (tables_of c) { turns = away; atoms = atoms }

  tells_before : (o : Option Beginning) → BeginsWith (names_in r) d.blocks o
      → IsTold (commands greatest_size) (option_map start_of o) d.clock before trace
  tells_before o named =
      let w = commands greatest_size in
      let start = option_map start_of o in
      let t = record (tables_of c) { turns = away } in
      let h = told_dropped w start d.clock (tables_of c) trace (k.history.told o named) s.0 is in
      let charged = told_charged w start d.clock t trace h atom account in
      told_owners w start d.clock
      (record t { atoms = with_state c.atoms atom (record (state_of c.atoms atom) { account = account }) }) trace
      charged atoms txns states

  stands_away : (o : Option Open) → Stands c.turns s.0 o (Some had) → Stands away s.0 o (Some had)
  stands_away o st =
      let now = turn_now c.turns s.0 without is in
      record {
        is_script = away_there;
        transaction = ap (λ (y : Turn). y.transaction) now ∙ st.transaction;
        next = ap (λ (y : Turn). slice_get (commands_at c.turns s.0) y.answered) now ∙ st.next;
      }

  index : answered_at c.turns s.0 + 1 ≡ answered_at away s.0 + 1
  index = ap (λ (y : Turn). y.answered + 1) (sym (turn_now c.turns s.0 without is))

  fewer : owed (answered_one away s.0) + 2 ≤ owed c.turns
  fewer =
      let one = owed_answered away s.0 away_there in
      let two = owed_dropped c.turns s.0 is (k.history.told None tt).scripts out here.is_out in
      omega (arith, one, two)

  fewer_last : owed (left (answered_one away s.0) s.0) + 2 ≤ owed c.turns
  fewer_last =
      let one = owed_last away s.0 away_there in
      let two = owed_dropped c.turns s.0 is (k.history.told None tt).scripts out here.is_out in
      omega (arith, one, two)

  -- whether the atom under way is committed
  committed_then : (y : Commit) → c.commit ≡ Some y → is_committed atoms y.atom.0 ≡ is_headed y.work
  committed_then y at =
      ap (λ (l : List AtomState). (get_or l (y.atom.0 - 1) new_atom).committed) states
      ∙ state_kept c.atoms atom (record (state_of c.atoms atom) { account = account })
      (λ (z : AtomState). z.committed) refl y.atom.0
      ∙ k.history.committed y at

  module _ (within : Open) (st : Stands c.turns s.0 (Some within) (Some had)) where
    new_id : (o : Option Beginning) → BeginsWith (names_in r) d.blocks o
        → HasNewId (option_map start_of o) (asked c.turns.job) trace x
    new_id o named =
        drawn_for k.history.first c.turns c.numbers.next_oid trace k.history.drawn (option_map start_of o) s.0 had x out
        (begins o named) is st.next here.is_out made

    drawn_then : AreDrawn k.history.first (answered_one away s.0) c.numbers.next_oid (done ∷ trace)
    drawn_then =
        drawn_done k.history.first c.turns c.numbers.next_oid trace k.history.drawn u s (answered_at c.turns s.0 + 1) x
        had reply out is st.next here.is_out made

  -- inside of a transaction
  pub history_done : Stands c.turns s.0 (Some (inside u)) (Some had) → (after : CoreSeen D) → after ≡ record after {
    turns = answered_one away s.0;
    atoms = atoms;
    numbers = c.numbers;
    commit = c.commit;
    broken = c.broken;
    trace = with_entry c.trace done;
  } → IsHistory r d after
  history_done st after same =
      subst (IsHistory r d) (sym same) (record {
        told = λ o named. told_done (commands greatest_size) (option_map start_of o) d.clock before trace
            (tells_before o named) u s (answered_at c.turns s.0 + 1) x had reply sound
            (stands_away (Some (inside u)) st) work (without_same out.numbers.oid had x made) index (replies o named)
            (new_id (inside u) st o named);
        job = k.history.job;
        first = k.history.first;
        drawn = drawn_then (inside u) st;
        begins = k.history.begins;
        committed = committed_then;
        room =
            let less = fewer in
            let enough = k.history.room in
            omega (arith, less, enough);
      })

  -- and as a single command's transaction ends
  pub history_single : Stands c.turns s.0 (Some (single u)) (Some had) → (after : CoreSeen D) → after ≡ record after {
    turns = left (answered_one away s.0) s.0;
    atoms = with_ended atoms u.0;
    numbers = c.numbers;
    commit = c.commit;
    broken = c.broken;
    trace = with_entry (with_entry c.trace done) (Ended u);
  } → IsHistory r d after
  history_single st after same =
      let o = k.history.first in
      let next = c.numbers.next_oid in
      subst (IsHistory r d) (sym same) (record {
        told = λ b named. told_done_single (commands greatest_size) (option_map start_of b) d.clock before trace
            (tells_before b named) u s (answered_at c.turns s.0 + 1) x had reply sound
            (stands_away (Some (single u)) st) work (without_same out.numbers.oid had x made) index (replies b named)
            (new_id (single u) st b named);
        job = k.history.job;
        first = o;
        drawn = drawn_entry o (left (answered_one away s.0) s.0) next (done ∷ trace)
            (drawn_left o (answered_one away s.0) next (done ∷ trace) (drawn_then (single u) st) s.0
            (there away s.0 away_there)) (Ended u) tt;
        begins = k.history.begins;
        committed = committed_then;
        room =
            let less = fewer_last in
            let enough = k.history.room in
            omega (arith, less, enough);
      })
