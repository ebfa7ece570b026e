-- A worked run, by the laws.
use Rattle.std.proofs.Common.{◌≡◌, ⊎_elim, ℕ, true≢false, [], ◌∷◌, length, Some, None, refl, sym, ◌∙◌, ap, subst, arith, Contains}
use Rattle.std.proofs.lemmas.Bool.{false≢true}
use Rattle.r4_atoms.specs.Atoms.{AtomsSeen, IsBegun as IsTxn, IsOpenAtom, atom_of, is_committed, is_sealed, new_atom, new_txn, owner_of, txn_of}
use Rattle.r4_content.specs.Locality.{Meaning}
use Rattle.r4_content.specs.declared.command.Command.{Command}
use Rattle.r4_content.specs.declared.reply.Reply.{Reply}
use Rattle.r4_trace.specs.declared.entry.Entry.TheVariants.{Sealed}
use Rattle.r4_turns.specs.Turns.{entered}
use Rattle.r4_history.specs.Held.{nodes_of}
use Rattle.r4_history.specs.Serving.{AreOthers, IsLeastOwned}
use Rattle.r4_history.specs.Tables.{IsFinished, IsLastOf, IsOver, Tables, opened, single, with_answer, with_cleaned, with_committed, with_last_answer, with_sealed}
use Rattle.r4_history.specs.Told.{IsTold}
use Rattle.r4_history.specs.Worked.{first_atom, first_script, first_txn, look, one_job, one_trace, reads_five, trace_begun, trace_committed, trace_done, two_atoms}
use Rattle.r4_history.proofs.RunSteps.{told_first}
use Rattle.r4_history.proofs.ServingSteps.{cons_cases, cons_here}
use Rattle.r4_history.proofs.Told.{told_acked, told_committed, told_done_single, told_sealed, told_settled, told_single}

-- the tables after each step
abbrev at_first : Tables
at_first = opened one_job 0 0

abbrev after_begin : Tables
after_begin = record at_first {
  atoms = record { txns = new_txn 1 1 ∷ []; atoms = new_atom ∷ []; captured = []; spare = 0; txn_spare = 0 };
  turns = entered at_first.turns 1 (single first_txn);
}

abbrev after_done : Tables
after_done = with_last_answer after_begin 1 1

abbrev after_sealed : Tables
after_sealed = record after_done { atoms = with_sealed after_done.atoms 1; commit = Some 1 }

abbrev after_committed : Tables
after_committed = record after_sealed { atoms = with_committed after_sealed.atoms 1 }

abbrev after_settled : Tables
after_settled = record after_committed { atoms = with_cleaned after_committed.atoms 1; commit = None }

abbrev after_acked : Tables
after_acked = with_answer after_settled 1

-- there is one transaction
only_one : (s : AtomsSeen) → length s.txns ≡ 1 → (n : ℕ) → IsTxn s n → n ≡ 1
only_one s count n is = omega (arith, count, is.some, is.within)

pub worked : (w : Meaning Command Reply) (clock : ℕ) (r : Reply)
    → (t : Tables) × IsTold w None clock t (one_trace r clock) × IsOver t
worked w clock r =
    let t0 = told_first w None clock one_job 0 0 in
    let t1 =
    told_single w None clock at_first [] t0 first_txn first_script look after_begin.atoms refl
    (record { is_script = (omega arith, omega arith); transaction = refl; next = refl }) tt
    (record { txns = refl; atoms = refl }) refl in
    let t2 =
    told_done_single w None clock after_begin trace_begun t1 first_txn first_script 1 look look r refl
    (record { is_script = (omega arith, omega arith); transaction = refl; next = refl }) tt refl refl
    (λ b is. absurd (cc is)) (λ x is. absurd (cc is)) in
    let own : IsOpenAtom after_done.atoms 1 = record {
      atom = record { begun = record { some = omega arith; within = omega arith }; own = refl };
      unsealed = refl;
    } in
    let t3 =
    told_sealed w None clock after_done (trace_done r) t2 first_atom refl refl own
    (λ n is.
    false≢true (ap (λ (k : ℕ). (txn_of after_done.atoms k).is_open) (sym (only_one after_done.atoms refl n is.begun))
    ∙ is.opened)) in
    let t4 =
    told_committed w None clock after_sealed (Sealed first_atom ∷ trace_done r) t3 first_atom clock refl refl refl
    (omega arith) in
    let t5 = told_settled w None clock after_committed (trace_committed r clock) t4 1 refl refl refl in
    let last : IsLastOf after_settled.atoms 1 1 = record {
      is_one = λ other. (record { some = omega arith; within = omega arith }, refl);
      no_later = λ n is mine. (let e = only_one after_settled.atoms refl n is in omega (arith, e));
    } in
    let t6 =
    told_acked w None clock after_settled (trace_committed r clock) t5 first_script first_txn refl
    (record { is_script = (omega arith, omega arith); transaction = refl; next = refl }) last
    (λ n is mine.
    ap (λ (k : ℕ). is_committed after_settled.atoms (atom_of after_settled.atoms k))
    (only_one after_settled.atoms refl n is)) in (
      after_acked,
      t6,
      record {
        finished = λ s is. finished s (omega (arith, is.0, is.1));
        no_atom = λ a is.
            (let e = only_one after_acked.atoms refl a is.unsealed.atom.begun in
            true≢false (ap (is_sealed after_acked.atoms) (sym e) ∙ is.unsealed.unsealed));
        no_commit = refl;
        sound = refl;
      },
    )
  where
    finished : (s : ℕ) → s ≡ 1 → IsFinished after_acked s
    finished s e = subst (IsFinished after_acked) (sym e) (record { answered = refl; closed = λ q. refl })

-- ---- two atoms

five_alone : (node : ℕ) → Contains (nodes_of reads_five) node → node ≡ 5
five_alone node c =
    ⊎_elim (λ here. sym here) (λ later. (let lt = later.1 in absurd (omega (arith, lt)))) (cons_cases 5 [] node c)

pub five_is_read : AreOthers two_atoms 1 reads_five ((2, 5) ∷ [])
five_is_read = record {
  rise = ((λ q there. (let lt = there.1 in absurd (omega (arith, lt)))), tt);
  each = λ a node. (
    λ there. ⊎_elim
        (λ here.
        (let e : 2 ≡ a = ap (λ (p : ℕ × ℕ). p.0) here in
        let n : 5 ≡ node = ap (λ (p : ℕ × ℕ). p.1) here in
        subst (λ (x : ℕ). IsLeastOwned two_atoms 1 reads_five x node) e
        (subst (IsLeastOwned two_atoms 1 reads_five 2) n least)))
        (λ later. (let lt = later.1 in absurd (omega (arith, lt))))
        (cons_cases {X = ℕ × ℕ} (2, 5) [] (a, node) there),
    λ is.
        (let e = five_alone node is.is_one.reached in
        let owned : owner_of two_atoms 5 ≡ Some a = ap (owner_of two_atoms) (sym e) ∙ is.is_one.owner.owns in
        let n : 2 ≡ a = cc owned in
        subst (λ (x : ℕ). Contains {X = ℕ × ℕ} ((2, 5) ∷ []) (x, node)) n
        (subst (λ (x : ℕ). Contains {X = ℕ × ℕ} ((2, 5) ∷ []) (2, x)) (sym e) (cons_here {X = ℕ × ℕ} (2, 5) []))),
  );
}
  where
    least : IsLeastOwned two_atoms 1 reads_five 2 5
    least = record {
      is_one = record {
        reached = cons_here 5 [];
        owner = record { owns = refl; other = λ is. omega (arith, is); unsealed = refl };
      };
      least = λ n one. (let e = five_alone n one.reached in omega (arith, e));
    }
