-- A task is done: what tasks hold that are still out, and what the tables tell.
use Rattle.std.proofs.Common.{◌≡◌, ◌≢◌, ⊎_elim, ℕ, ◌||◌, Bool, false, cond, List}
use Rattle.std.proofs.Common.{◌-◌, get_or, Option, Some, None, Contains, refl, sym, ◌∙◌, ap, subst, arith}
use Rattle.std.proofs.lemmas.Bool.{cond-false, false_from_ne_true, or_cases}
use Rattle.r4_atoms.specs.Atoms.{AtomsSeen, TxnSeen, no_txn, numbers, owner_of}
use Rattle.r4_taking.specs.r4_buffer.Changed.{has_name}
use Rattle.r4_taking.specs.r4_cell.Seen.{CellSeen}
use Rattle.r4_taking.specs.r4_history.Drawn.{numbers_in}
use Rattle.r4_taking.specs.r4_history.Held.{IsOut, OwnersFollow, TasksTell, names_of, need_of, nodes_of}
use Rattle.r4_taking.specs.r4_history.Tables.{Tables, with_ended}
use Rattle.r4_taking.proofs.r4_history.TaskSteps.{ended_follow, held_apart, tasks_answered, tasks_dropped, tasks_left}
use Rattle.r4_taking.proofs.r4_history.TaskSteps.{tasks_owned}
use Rattle.r4_taking.proofs.r4_history.Places.{is_script_with, turn_now}
use Rattle.r4_taking.specs.r4_locks.Locks.{AreHolds, LocksSeen, OthersAsBefore, task_at}
use Rattle.r4_outside.specs.Device.{State}
use Rattle.r4_taking.specs.r4_turns.Turns.{IsScript, answered_one, dropped, left, turn_at}
use Rattle.r4_taking.specs.r4_turns.declared.out.Out.{Out}
use Rattle.r4_taking.specs.r4_turns.declared.turn.Turn.{Turn}
use Rattle.r4_taking.specs.r4_kept.Kept.{IsKept}
use Rattle.r4_taking.specs.r4_kept.Naming.{Naming}
use Rattle.r4_taking.specs.r4_kept.View.{CoreSeen, tables_of}
use Rattle.r4_done.proofs.DoneTasks.{AreNumbered}
use Rattle.r4_taking.proofs.Turned.{free_then, there}
use Rattle.r4_done.proofs.Dropped.{outs_before}
use Rattle.r4_done.proofs.Named.{number_of, one_named, one_of_ids, reached_one}

-- whether a change has an old or a new cell of this name
abbrev pub is_touched : (old new : List CellSeen) → ℕ → Bool
is_touched old new i = has_name old i || has_name new i

module _ {D : Type 0} (r : Naming) (d : State) (c : CoreSeen D) (k : IsKept r d c) (s : ℕ) (out : Out)
    (here : IsOut c.turns s out) (old new : List CellSeen) (reached : (x : CellSeen) → Contains old x
    → Contains out.writes x)
    (numbered : AreNumbered old new out.numbers) (apart : AreHolds c.locks)
    (locks : LocksSeen) (gone : task_at locks out.task.0 ≡ None) (others : OthersAsBefore c.locks locks out.task.0)
    (atom : ℕ) (atoms : AtomsSeen) (txns : atoms.txns ≡ c.atoms.txns)
    (owners : (n : ℕ) → owner_of atoms n ≡ cond (is_touched old new n) (Some atom) (owner_of c.atoms n)) where
  -- no other task reaches what the change touches
  old_apart : (q : ℕ) (o : Out) → q ≢ s → IsOut c.turns q o → (node : ℕ) → Contains (nodes_of (need_of o)) node
      → (x : CellSeen) → Contains old x → x.id ≡ node → ⊥
  old_apart q o other is_out node there x has named =
      held_apart (tables_of c) c.locks k.tables.tasks apart s q out o node here is_out (λ e. other (sym e))
      (subst (Contains (numbers (names_of out.writes))) named (number_of out.writes x (reached x has))) there

  new_apart : (q : ℕ) (o : Out) → q ≢ s → IsOut c.turns q o → (node : ℕ) → Contains (nodes_of (need_of o)) node
      → (x : CellSeen) → Contains new x → x.id ≡ node → ⊥
  new_apart q o other is_out node there x has named =
      ⊎_elim (λ of_old.
      (let y = one_of_ids old x.id of_old in
      old_apart q o other is_out node there y.0 y.1 (y.2 ∙ named)))
      (λ fresh.
      (let z = reached_one o node there in
      let from = fresh.0 in
      let to = fresh.1 in
      let same : z.0.id ≡ x.id = z.2 ∙ sym named in
      k.tasks.unreached s q out.numbers o z.0 here.is_script
      (ap (λ (y : Option Out). numbers_in y (turn_at c.turns s).numbers) here.is_out) is_out z.1
      (omega (arith, from, same)) (omega (arith, to, same)))) (numbered x has)

  pub untouched : (q : ℕ) (o : Out) → q ≢ s → IsOut c.turns q o → (node : ℕ) → Contains (nodes_of (need_of o)) node
      → is_touched old new node ≡ false
  untouched q o other is_out node there =
      false_from_ne_true (is_touched old new node) (λ touched.
      ⊎_elim (λ one. (let x = one_named old node one in old_apart q o other is_out node there x.0 x.1 x.2))
      (λ two. (let x = one_named new node two in new_apart q o other is_out node there x.0 x.1 x.2))
      (or_cases (has_name old node) (has_name new node) touched))

  abbrev before : Tables
  before = record (tables_of c) { turns = dropped c.turns s }

  dropped_outs : (q : ℕ) (o : Out) → IsOut (dropped c.turns s) q o → (q ≢ s) × IsOut c.turns q o
  dropped_outs q o has = outs_before c.turns s here.is_script out here.is_out
      (record (turn_at c.turns s) { out = None }) refl q o has

  follow : OwnersFollow before atoms
  follow q o node a has there owned =
      let was = dropped_outs q o has in
      let not = untouched q o was.0 was.1 node there in
      let same : owner_of atoms node ≡ owner_of c.atoms node =
      owners node ∙ cond-false (is_touched old new node) (Some atom) (owner_of c.atoms node) not in
      (a, sym same ∙ owned, λ e. ap (λ (l : List TxnSeen). (get_or l (o.txn.0 - 1) no_txn).atom) txns ∙ e)

  owned_then : TasksTell (record before { atoms = atoms }) locks
  owned_then =
      tasks_owned before locks (tasks_dropped (tables_of c) c.locks locks k.tables.tasks s out here gone others) atoms
      follow

  there_still : IsScript (dropped c.turns s) s
  there_still = is_script_with c.turns s (record (turn_at c.turns s) { out = None }) s here.is_script

  free : (turn_at (dropped c.turns s) s).out ≡ None
  free = ap (λ (x : Turn). x.out) (turn_now c.turns s (record (turn_at c.turns s) { out = None }) here.is_script)

  -- inside of a transaction
  pub tells_inside : TasksTell (record (tables_of c) {
    turns = answered_one (dropped c.turns s) s;
    atoms = atoms;
  }) locks
  tells_inside = tasks_answered (record before { atoms = atoms }) locks owned_then s there_still free

  -- and as a single command's transaction ends
  pub tells_single : (u : ℕ) → TasksTell (record (tables_of c) {
    turns = left (answered_one (dropped c.turns s) s) s;
    atoms = with_ended atoms u;
  }) locks
  tells_single u =
      let t = record (tables_of c) { turns = answered_one (dropped c.turns s) s; atoms = atoms } in
      let ended = ended_follow t locks tells_inside u in
      tasks_left (record t { atoms = with_ended atoms u }) locks ended s (there (dropped c.turns s) s there_still)
      (free_then (dropped c.turns s) s there_still free)
