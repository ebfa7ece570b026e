-- A worked task, by the laws.
use Rattle.std.proofs.Common.{◌≡◌, ◌≢◌, ⊎_elim, inl, inr, ℕ, zero, suc, ◌==◌, ◌||◌, false, [], ◌∷◌, get_or, Some, None, refl, sym, ◌∙◌, subst, arith}
use Rattle.std.proofs.lemmas.Bool.{cases_eq, cond-false, cond-true, eq-eqb, ne_eqb, or_from, or_left}
use Rattle.std.specs.Global.{Global}
use Rattle.std.specs.declared.sync.Arc.{Arc}
use Rattle.r4_base.specs.declared.key.Key.{Key}
use Rattle.r4_content.specs.Locality.{Meaning}
use Rattle.r4_content.specs.declared.command.Command.{Command}
use Rattle.r4_content.specs.declared.reply.Reply.{Reply}
use Rattle.r4_content.specs.declared.seen.Seen.{Seen}
use Rattle.r4_atoms.specs.Atoms.{AtomsSeen, new_atom, new_txn}
use Rattle.r4_locks.specs.Locks.{LocksSeen, TaskSeen, mode_of, mode_with}
use Rattle.r4_locks.specs.declared.things.Mode.TheVariants.{Reads, Writes}
use Rattle.r4_turns.specs.Turns.{IsBefore, IsScript, started}
use Rattle.r4_trace.specs.declared.entry.Entry.TheVariants.{Begin}
use Rattle.r4_history.specs.Drawn.{AreDrawn}
use Rattle.r4_history.specs.Held.{HoldsNew, IsServed, TasksTell, need_of}
use Rattle.r4_history.specs.Serving.{IsInTheWay, IsPassedOver, IsWaiting}
use Rattle.r4_history.specs.declared.why.Why.TheVariants.{Held, Out}
use Rattle.r4_history.specs.Tables.{IsFinished, Tables, opened, single, with_single}
use Rattle.r4_history.specs.Told.{IsTold}
use Rattle.r4_history.specs.Worked.{first_script, first_txn, make, make_job, make_locks, make_tables, make_task, reads_five, trace_begun}
use Rattle.r4_history.proofs.DrawnSteps.{drawn_entered, drawn_entry, drawn_first, drawn_out}
use Rattle.r4_history.proofs.RunSteps.{told_first, told_out}
use Rattle.r4_history.proofs.TaskSteps.{begun_follow, tasks_entered, tasks_first, tasks_out}
use Rattle.r4_history.proofs.Told.{told_single}

abbrev one_begun : AtomsSeen
one_begun = record { txns = new_txn 1 1 ∷ []; atoms = new_atom ∷ []; captured = []; spare = 0; txn_spare = 0 }

abbrev at_first : Tables
at_first = opened make_job 0 0

abbrev begun : Tables
begun = with_single at_first 1 first_txn one_begun

abbrev no_locks : LocksSeen
no_locks = record { tasks = []; spare = 0; lets_in = false }

holds_five : (k : Key) (y : Arc Seen Global) (n : ℕ) → mode_of make_locks 0 n
    ≡ mode_with Reads (need_of (make_task k y)).reads n (mode_with Writes (need_of (make_task k y)).writes n None)
holds_five k y n = elim (cases_eq n 5) [
  | inl same ↦
      cond-true (n == 5) (Some Writes) None (eq-eqb n 5 same)
      ∙ sym (cond-true ((5 == n) || false) (Some Writes) None (or_left (5 == n) false (eq-eqb 5 n (sym same))))
  | inr other ↦
      cond-false (n == 5) (Some Writes) None (ne_eqb n 5 other)
      ∙ sym (cond-false ((5 == n) || false) (Some Writes) None
      (or_from (5 == n) false (ne_eqb 5 n (λ same. other (sym same))) refl))
]

not_zero : (j : ℕ) → j ≢ 0 → (x : TaskSeen) → get_or (Some x ∷ []) j None ≡ get_or [] j None
not_zero zero other x = absurd (other refl)
not_zero (suc j) other x = refl

new : (k : Key) (y : Arc Seen Global) → HoldsNew no_locks make_locks (make_task k y)
new k y = record {
  unused = refl;
  holds = record { stands = refl; modes = holds_five k y };
  others = λ j other. not_zero j other (record { holds = (5, Writes) ∷ []; room = 0 });
}

served : (k : Key) (y : Arc Seen Global) → IsServed begun 1 (make_task k y)
served k y = record {
  within = single first_txn;
  transaction = refl;
  txn = refl;
  command = make;
  next = refl;
  work = tt;
  owners = λ node a reached owned. absurd (cc owned);
}

pub worked_task : (w : Meaning Command Reply) (clock : ℕ) (k : Key) (y : Arc Seen Global)
    → IsTold w None clock (make_tables k y) trace_begun × TasksTell (make_tables k y) make_locks
    × AreDrawn 65536 (make_tables k y).turns 65537 trace_begun
worked_task w clock k y =
    let t0 = told_first w None clock make_job 0 0 in
    let t1 =
    told_single w None clock at_first [] t0 first_txn first_script make one_begun refl
    (record { is_script = (omega arith, omega arith); transaction = refl; next = refl }) tt
    (record { txns = refl; atoms = refl }) refl in
    let h0 = tasks_first make_job 0 0 no_locks refl in
    let h1 =
    begun_follow w None clock at_first [] t0 no_locks h0 one_begun 1 (record { txns = refl; atoms = refl })
    (λ n. refl) in
    let h2 = tasks_entered (record at_first { atoms = one_begun }) no_locks h1 1 (single first_txn)
    (omega arith, omega arith) refl in
    let d0 = drawn_first 65536 make_job (omega arith) in
    let d1 = drawn_entered 65536 (started make_job) 65536 [] d0 1 (single first_txn) (omega arith, omega arith) in
    let d2 = drawn_entry 65536 begun.turns 65536 [] d1 (Begin first_txn first_script) tt in (
      told_out w None clock begun trace_begun t1 1 (make_task k y) (omega arith, omega arith),
      tasks_out begun no_locks make_locks h2 1 (make_task k y) (omega arith, omega arith) refl (new k y) (served k y),
      drawn_out 65536 begun.turns 65536 trace_begun d2 1 make (make_task k y) 65537 (omega arith, omega arith) refl refl
          (record { kept = λ n is. absurd (cc is); drawn = λ none. (refl, λ makes. refl) }),
    )

-- while it is out its script waits for it
unfinished : (k : Key) (y : Arc Seen Global) → IsFinished (make_tables k y) 1 → ⊥
unfinished k y is = let e : 0 ≡ 2 = is.answered in omega (arith, e)

pub out_is_waited_for : (k : Key) (y : Arc Seen Global)
    → IsWaiting (make_tables k y) make_locks (λ s. None) (Out (record { 0 = 0 }))
out_is_waited_for k y = record {
  script = 1;
  is_script = (omega arith, omega arith);
  unfinished = unfinished k y;
  first = λ q is before.
      ⊎_elim (λ less. absurd (omega (arith, less, one q is)))
      (λ same. (let lt = same.1 in absurd (omega (arith, lt, one q is))))
      (subst (λ (x : ℕ). IsBefore (make_tables k y).turns x 1) (one q is) before);
  reason = refl;
  all = λ q is.
      subst (IsPassedOver (make_tables k y) make_locks (λ s. None)) (sym (one q is))
      (inr (inl (make_task k y, record { is_script = (omega arith, omega arith); is_out = refl })));
}
  where
    one : (q : ℕ) → IsScript (make_tables k y).turns q → q ≡ 1
    one q is = omega (arith, is.0, is.1)

-- who wants to read its node waits for its hold
pub hold_is_in_the_way : (k : Key) (y : Arc Seen Global)
    → IsInTheWay (make_tables k y).atoms make_locks reads_five (Held (record { 0 = 5 }) (record { 0 = 0 }))
hold_is_in_the_way k y = (λ a is. cc is.owner, refl)
