-- Tasks that go out and come back, and the owners of what they reach.
use Rattle.std.proofs.Common.{◌≡◌, ◌≢◌, ◌⊎◌, inl, inr, ⊎_elim, ℕ, zero, suc, ◌+◌, ◌-◌, ◌<◌, ◌==◌, Bool, true, false, true≢false, cond, List, [], ◌∷◌, ◌++◌, length, replicate, get_or, slice_get, Option, Some, None, IsSome, refl, sym, ◌∙◌, ap, subst, arith, Contains}
use Rattle.std.specs.Option.{option_map}
use Rattle.std.proofs.lemmas.Bool.{cases_Bool, cases_eq, cond-false, cond-true, eq-eqb, false_from_ne_true, ne_eqb, or_left, or_right}
use Rattle.std.proofs.lemmas.List.{length-set}
use Rattle.std.proofs.lemmas.List.Elements.{Contains-append_cases}
use Rattle.r4_atoms.specs.Atoms.{atom_of, AtomsSeen, is_cleaned, is_sealed, IsBegun as IsTxn, IsFreeFor, IsOpenAtom, no_txn, numbers, owner_by, owner_of, state_of, txn_of, TxnSeen, with_state, without_owner}
use Rattle.r4_atoms.specs.Names.{renamed}
use Rattle.r4_atoms.specs.Owned.{label_of}
use Rattle.r4_atoms.specs.declared.things.AtomState.{AtomState}
use Rattle.r4_base.specs.declared.things.NodeId.{NodeId}
use Rattle.r4_content.specs.Locality.{Meaning}
use Rattle.r4_content.specs.declared.command.Command.{Command}
use Rattle.r4_content.specs.declared.reply.Reply.{Reply}
use Rattle.r4_trace.specs.Ids.{Start}
use Rattle.r4_trace.specs.declared.entry.Entry.{Entry}
use Rattle.r4_base.specs.declared.things.TxnNo.{TxnNo}
use Rattle.r4_locks.specs.Locks.{AreHolds, IsNew, IsTask, LocksSeen, OthersAsBefore, Takes, TaskSeen, is_named, mode_in, mode_with, task_at}
use Rattle.r4_locks.specs.Modes.{joined}
use Rattle.r4_locks.specs.declared.things.Mode.{Mode}
use Rattle.r4_locks.specs.declared.things.Mode.TheVariants.{Reads, Writes}
use Rattle.r4_turns.specs.r4_script.declared.job.Job.{Job}
use Rattle.r4_turns.specs.Turns.{IsScript, answered_at, answered_one, dropped, entered, given_back, gone_out, left, start as no_turn, started, turn_at, with_command, with_turn, commands_at}
use Rattle.r4_turns.specs.declared.out.Out.{Out}
use Rattle.r4_turns.specs.declared.turn.Open.{Open}
use Rattle.r4_turns.specs.declared.turn.Turn.{Turn}
use Rattle.r4_history.specs.Held.{HoldsNew, Holds, IsOut, IsServed, OwnersFollow, TasksTell, need_of, nodes_of}
use Rattle.r4_history.specs.Tables.{Begins, Fuses, Tables, opened, with_ended}
use Rattle.r4_history.specs.Told.{IsTold}
use Rattle.r4_history.proofs.AtomSteps.{fused_txn, kept_by_set, state_kept, txn_before}
use Rattle.r4_history.proofs.DrawnSteps.{turn_other}
use Rattle.r4_history.proofs.Places.{next_pushed, next_there, turn_now}
use Rattle.r4_history.proofs.RunSteps.{open_in_both}
use Rattle.r4_history.proofs.ServingSteps.{cons_cases}
use Rattle.r4_trace.specs.Traced.{IsOpen, IsSealed}
use Rattle.r4_trace.proofs.FirstOnes.{open_unsealed}
use Rattle.r4_history.proofs.Told.{atom_named}

-- where no task stands
none_stands : (o : Option TaskSeen) → o ≡ None → IsSome o → ⊥
none_stands o e is = true≢false (sym (subst IsSome e is))

-- ---- holds of others

others_hold : (before after : LocksSeen) (k : ℕ) (o : Out) → OthersAsBefore before after k → o.task.0 ≢ k
    → Holds before o → Holds after o
others_hold before after k o same other h =
    let e = same o.task.0 other in
    record {
      stands = subst IsSome (sym e) h.stands;
      modes = λ node. ap (λ (x : Option TaskSeen). mode_in x node) e ∙ h.modes node;
    }

module _ (t : Tables) (s : ℕ) (turn : Turn) (is : IsScript t.turns s) where
  out_cases : (q : ℕ) (o : Out) → IsOut (with_turn t.turns s turn) q o
      → ((q ≡ s) × (turn.out ≡ Some o)) ⊎ ((q ≢ s) × IsOut t.turns q o)
  out_cases q o has =
      let count = length-set t.turns.turns (s - 1) turn in
      elim (cases_eq q s) [
        | inl same ↦
            inl (
              same,
              ap (λ (x : Turn). x.out) (sym (turn_now t.turns s turn is))
                  ∙ ap (λ (k : ℕ). (turn_at (with_turn t.turns s turn) k).out) (sym same) ∙ has.is_out,
            )
        | inr other ↦
            inr (
              other,
              record {
                is_script = (has.is_script.0, (let le = has.is_script.1 in omega (arith, le, count)));
                is_out = ap (λ (x : Turn). x.out) (sym (turn_other t.turns s q turn is has.is_script.0 other))
                    ∙ has.is_out;
              },
            )
      ]

  out_still : (q : ℕ) (o : Out) → q ≢ s → IsOut t.turns q o → IsOut (with_turn t.turns s turn) q o
  out_still q o other has =
      let count = length-set t.turns.turns (s - 1) turn in
      record {
        is_script = (has.is_script.0, (let le = has.is_script.1 in omega (arith, le, count)));
        is_out = ap (λ (x : Turn). x.out) (turn_other t.turns s q turn is has.is_script.0 other) ∙ has.is_out;
      }

  served_other : (q : ℕ) (o : Out) → q ≢ s → 0 < q → IsServed t q o
      → IsServed (record t { turns = with_turn t.turns s turn }) q o
  served_other q o other some h =
      let e = turn_other t.turns s q turn is some other in
      record {
        within = h.within;
        transaction = ap (λ (x : Turn). x.transaction) e ∙ h.transaction;
        txn = h.txn;
        command = h.command;
        next = ap (λ (x : Turn). slice_get (commands_at t.turns q) x.answered) e ∙ h.next;
        work = h.work;
        owners = h.owners;
      }

  served_here : (o : Out) → turn.transaction ≡ (turn_at t.turns s).transaction
      → turn.answered ≡ answered_at t.turns s → IsServed t s o
      → IsServed (record t { turns = with_turn t.turns s turn }) s o
  served_here o open_one count h =
      let e = turn_now t.turns s turn is in
      record {
        within = h.within;
        transaction = ap (λ (x : Turn). x.transaction) e ∙ open_one ∙ h.transaction;
        txn = h.txn;
        command = h.command;
        next =
            ap (λ (x : Turn). slice_get (commands_at t.turns s) x.answered) e
            ∙ ap (slice_get (commands_at t.turns s)) count ∙ h.next;
        work = h.work;
        owners = h.owners;
      }

-- ---- a task goes out

pub tasks_out : (t : Tables) (locks after : LocksSeen) → TasksTell t locks → (s : ℕ) (out : Out) → IsScript t.turns s
    → (turn_at t.turns s).out ≡ None
    → HoldsNew locks after out → IsServed t s out → TasksTell (record t { turns = gone_out t.turns s out }) after
tasks_out t locks after h s out is free new served = record {
  held = record {
    holds = λ q o has. ⊎_elim
        (λ here. subst (Holds after) (cc here.1) new.holds)
        (λ there. old_holds q o there.1)
        (out_cases t s turn is q o has);
    tasks = λ k stands. elim (cases_eq k out.task.0) [
      | inl same ↦ (s, out, here_out, sym same)
      | inr other ↦
          let was = h.held.tasks k (subst IsSome (new.others k other) stands) in (
            was.0,
            was.1,
            out_still t s turn is was.0 was.1
                (λ same. absurd (cc (
                  sym (was.2.is_out)
                      ∙ ap (λ (x : ℕ). (turn_at t.turns x).out) same,
                  free,
                ))) was.2,
            was.3,
          )
    ];
    apart = λ q p a b has_a has_b same. apart q p a b (out_cases t s turn is q a has_a)
        (out_cases t s turn is p b has_b) same;
  };
  served = λ q o has. ⊎_elim
      (λ here.
      (let e : out ≡ o = cc here.1 in
      subst (λ (x : ℕ). IsServed (record t { turns = with_turn t.turns s turn }) x o) (sym here.0)
      (subst (IsServed (record t { turns = with_turn t.turns s turn }) s) e
      (served_here t s turn is out refl refl served))))
      (λ there. served_other t s turn is q o there.0 there.1.is_script.0 (h.served q o there.1))
      (out_cases t s turn is q o has);
}
  where
    turn : Turn
    turn = record (turn_at t.turns s) { out = Some out }

    here_out : IsOut (gone_out t.turns s out) s out
    here_out =
        let count = length-set t.turns.turns (s - 1) turn in
        record {
          is_script = (is.0, (let le = is.1 in omega (arith, le, count)));
          is_out = ap (λ (x : Turn). x.out)
              (turn_now t.turns s turn is);
        }

    unlike : (q : ℕ) (o : Out) → IsOut t.turns q o → o.task.0 ≢ out.task.0
    unlike q o has same =
        let stands = (h.held.holds q o has).stands in
        none_stands (task_at locks o.task.0) (ap (task_at locks) same ∙ new.unused) stands

    old_holds : (q : ℕ) (o : Out) → IsOut t.turns q o → Holds after o
    old_holds q o has = others_hold locks after out.task.0 o new.others (unlike q o has) (h.held.holds q o has)

    apart : (q p : ℕ) (a b : Out) → ((q ≡ s) × (turn.out ≡ Some a)) ⊎ ((q ≢ s) × IsOut t.turns q a)
        → ((p ≡ s) × (turn.out ≡ Some b)) ⊎ ((p ≢ s) × IsOut t.turns p b)
        → a.task.0 ≡ b.task.0 → q ≡ p
    apart q p a b (inl x) (inl y) same = x.0 ∙ sym y.0
    apart q p a b (inl x) (inr y) same = let e : out ≡ a = cc x.1 in absurd
        (unlike p b y.1 (sym same ∙ ap (λ (o : Out). o.task.0) (sym e)))
    apart q p a b (inr x) (inl y) same = let e : out ≡ b = cc y.1 in absurd
        (unlike q a x.1 (same ∙ ap (λ (o : Out). o.task.0) (sym e)))
    apart q p a b (inr x) (inr y) same = h.held.apart q p a b x.1 y.1 same

-- ---- a task is out no more

module _ (t : Tables) (locks after : LocksSeen) (h : TasksTell t locks) (s : ℕ) (turn : Turn)
    (is : IsScript t.turns s) (free : turn.out ≡ None) where
  there_now : (q : ℕ) (o : Out) → IsOut (with_turn t.turns s turn) q o → (q ≢ s) × IsOut t.turns q o
  there_now q o has = ⊎_elim (λ here. absurd (cc (free, here.1))) (λ there. there) (out_cases t s turn is q o has)

  served_now : (q : ℕ) (o : Out) → IsOut (with_turn t.turns s turn) q o
      → IsServed (record t { turns = with_turn t.turns s turn }) q o
  served_now q o has = let there = there_now q o has in served_other t s turn is q o there.0 there.1.is_script.0
      (h.served q o there.1)

  tasks_gone : (out : Out) → (turn_at t.turns s).out ≡ Some out → task_at after out.task.0 ≡ None
      → OthersAsBefore locks after out.task.0
      → TasksTell (record t { turns = with_turn t.turns s turn }) after
  tasks_gone out was gone others = record {
    held = record {
      holds = λ q o has. (let there = there_now q o has in
          others_hold locks after out.task.0 o others
          (λ same. there.0 (h.held.apart q s o out there.1 (record { is_script = is; is_out = was }) same))
          (h.held.holds q o there.1));
      tasks = λ k stands. elim (cases_eq k out.task.0) [
        | inl same ↦ absurd (none_stands (task_at after k) (ap (task_at after) same ∙ gone) stands)
        | inr other ↦
            let had = h.held.tasks k (subst IsSome (others k other) stands) in (
              had.0,
              had.1,
              out_still t s turn is had.0 had.1
                  (λ same. (let e : had.1 ≡ out = cc
                  (sym had.2.is_out ∙ ap (λ (x : ℕ). (turn_at t.turns x).out) same ∙ was) in
                  absurd (other (sym had.3 ∙ ap (λ (o : Out). o.task.0) e)))) had.2,
              had.3,
            )
      ];
      apart = λ q p a b x y same. h.held.apart q p a b (there_now q a x).1 (there_now p b y).1 same;
    };
    served = served_now;
  }

  -- none was out
  tasks_kept : (turn_at t.turns s).out ≡ None → TasksTell (record t { turns = with_turn t.turns s turn }) locks
  tasks_kept was = record {
    held = record {
      holds = λ q o has. h.held.holds q o (there_now q o has).1;
      tasks = λ k stands.
          (let had = h.held.tasks k stands in (
            had.0,
            had.1,
            out_still t s turn is had.0 had.1
                (λ same. absurd (cc (sym had.2.is_out ∙ ap (λ (x : ℕ). (turn_at t.turns x).out) same, was))) had.2,
            had.3,
          ));
      apart = λ q p a b x y same. h.held.apart q p a b (there_now q a x).1 (there_now p b y).1 same;
    };
    served = served_now;
  }

pub tasks_back : (t : Tables) (locks after : LocksSeen) → TasksTell t locks → (s : ℕ) (out : Out)
    → IsOut t.turns s out → task_at after out.task.0 ≡ None
    → OthersAsBefore locks after out.task.0 → TasksTell (record t { turns = given_back t.turns s out.numbers }) after
tasks_back t locks after h s out is gone others =
    tasks_gone t locks after h s
    (record (turn_at t.turns s) {
      out = None;
      numbers =
          Some out.numbers;
    }) is.is_script refl out is.is_out gone others

pub tasks_dropped : (t : Tables) (locks after : LocksSeen) → TasksTell t locks → (s : ℕ) (out : Out)
    → IsOut t.turns s out → task_at after out.task.0 ≡ None
    → OthersAsBefore locks after out.task.0 → TasksTell (record t { turns = dropped t.turns s }) after
tasks_dropped t locks after h s out is gone others =
    tasks_gone t locks after h s (record (turn_at t.turns s) { out = None }) is.is_script refl out is.is_out gone others

pub tasks_entered : (t : Tables) (locks : LocksSeen) → TasksTell t locks → (s : ℕ) (x : Open) → IsScript t.turns s
    → (turn_at t.turns s).out ≡ None
    → TasksTell (record t { turns = entered t.turns s x }) locks
tasks_entered t locks h s x is free = tasks_kept t locks locks h s
    (record (turn_at t.turns s) { transaction = Some x }) is free free

pub tasks_left : (t : Tables) (locks : LocksSeen) → TasksTell t locks → (s : ℕ) → IsScript t.turns s
    → (turn_at t.turns s).out ≡ None
    → TasksTell (record t { turns = left t.turns s }) locks
tasks_left t locks h s is free = tasks_kept t locks locks h s
    (record (turn_at t.turns s) { transaction = None }) is free free

pub tasks_answered : (t : Tables) (locks : LocksSeen) → TasksTell t locks → (s : ℕ) → IsScript t.turns s
    → (turn_at t.turns s).out ≡ None
    → TasksTell (record t { turns = answered_one t.turns s }) locks
tasks_answered t locks h s is free =
    tasks_kept t locks locks h s
    (record (turn_at t.turns s) { answered = answered_at t.turns s + 1; numbers = None }) is free free

-- ---- owners

pub tasks_owned : (t : Tables) (locks : LocksSeen) → TasksTell t locks → (atoms : AtomsSeen) → OwnersFollow t atoms
    → TasksTell (record t { atoms = atoms }) locks
tasks_owned t locks h atoms follow = record {
  held = h.held;
  served = λ s o has.
      (let v = h.served s o has in
      record {
        within = v.within;
        transaction = v.transaction;
        txn = v.txn;
        command = v.command;
        next = v.next;
        work = v.work;
        owners = λ node a reached owned.
            (let was = follow s o node a has reached owned in
            sym (was.2 (sym (v.owners node was.0 reached was.1))));
      });
}

pub tasks_other : (t : Tables) (locks : LocksSeen) → TasksTell t locks → (commit broken : Option ℕ)
    → TasksTell (record t { commit = commit; broken = broken }) locks
tasks_other t locks h commit broken = record {
  held = h.held;
  served = λ s o has.
      (let v = h.served s o has in
      record {
        within = v.within;
        transaction = v.transaction;
        txn = v.txn;
        command = v.command;
        next =
            v.next;
        work = v.work;
        owners = v.owners;
      });
}

pub tasks_pushed : (t : Tables) (locks : LocksSeen) → TasksTell t locks → (s : ℕ) (c : Command) → IsScript t.turns s
    → length t.turns.turns ≡ length t.turns.job.scripts
    → TasksTell (record t { turns = with_command t.turns s c }) locks
tasks_pushed t locks h s c is scripts = record {
  held = record {
    holds = λ q o has. h.held.holds q o (was q o has);
    tasks = λ k stands. (let had = h.held.tasks k stands in
        (had.0, had.1, record { is_script = had.2.is_script; is_out = had.2.is_out }, had.3));
    apart = λ q p a b x y same. h.held.apart q p a b (was q a x) (was p b y) same;
  };
  served = λ q o has.
      (let v = h.served q o (was q o has) in
      record {
        within = v.within;
        transaction = v.transaction;
        txn = v.txn;
        command = v.command;
        next = next_pushed t.turns s c is scripts q (next_there t.turns q v.command v.next) ∙ v.next;
        work = v.work;
        owners = v.owners;
      });
}
  where
    was : (q : ℕ) (o : Out) → IsOut (with_command t.turns s c) q o → IsOut t.turns q o
    was q o has = record { is_script = has.is_script; is_out = has.is_out }

-- a new task that takes what it was given
pub holds_new : (before mid after : LocksSeen) (out : Out) → task_at before out.task.0 ≡ None
    → OthersAsBefore before mid out.task.0 → IsNew mid out.task.0
    → Takes mid after out.task.0 (need_of out).reads (need_of out).writes → IsTask after out.task.0
    → OthersAsBefore mid after out.task.0 → HoldsNew before after out
holds_new before mid after out unused first new takes stands second = record {
  unused = unused;
  holds = record {
    stands = stands;
    modes = λ node. takes node
        ∙ ap (λ (m : Option Mode). mode_with Reads (need_of out).reads node
        (mode_with Writes (need_of out).writes node m)) (new.empty node);
  };
  others = λ k other. second k other ∙ first k other;
}

nothing_out : (n i : ℕ) → get_or (replicate n no_turn) i no_turn ≡ no_turn
nothing_out zero i = refl
nothing_out (suc n) zero = refl
nothing_out (suc n) (suc i) = nothing_out n i

pub tasks_first : (job : Job) (spare txn_spare : ℕ) (locks : LocksSeen) → locks.tasks ≡ []
    → TasksTell (opened job spare txn_spare) locks
tasks_first job spare txn_spare locks none = record {
  held = record {
    holds = λ s o is. absurd (never s o is);
    tasks = λ k stands. absurd (no_task k stands);
    apart = λ s q a b is. absurd (never s a is);
  };
  served = λ s o is. absurd (never s o is);
}
  where
    never : (s : ℕ) (o : Out) → IsOut (started job) s o → ⊥
    never s o is = cc (sym is.is_out ∙ ap (λ (x : Turn). x.out) (nothing_out (length job.scripts) (s - 1)))

    no_task : (k : ℕ) → IsTask locks k → ⊥
    no_task k stands = true≢false
        (sym (subst IsSome (ap (λ (l : List (Option TaskSeen)). get_or l k None) none) stands))

-- ---- holds keep tasks apart

named_there : (names : List NodeId) (node : ℕ) → Contains (numbers names) node → is_named names node ≡ true
named_there [] node c = let lt = c.1 in absurd (omega (arith, lt))
named_there (x ∷ names) node c =
    ⊎_elim (λ here. or_left (x.0 == node) (is_named names node) (eq-eqb x.0 node here))
    (λ later. or_right (x.0 == node) (is_named names node) (named_there names node later))
    (cons_cases x.0 (numbers names) node c)

written_mode : (reads writes : List NodeId) (node : ℕ) → Contains (numbers writes) node
    → mode_with Reads reads node (mode_with Writes writes node None) ≡ Some Writes
written_mode reads writes node there =
    let e = cond-true (is_named writes node) (Some (joined None Writes)) None (named_there writes node there) in
    ap (mode_with Reads reads node) e ∙ both (is_named reads node)
  where
    both : (b : Bool) → cond b (Some (joined (Some Writes) Reads)) (Some Writes) ≡ Some Writes
    both true = refl
    both false = refl

some_mode : (reads writes : List NodeId) (node : ℕ) → Contains (numbers reads ++ numbers writes) node
    → mode_with Reads reads node (mode_with Writes writes node None) ≡ None → ⊥
some_mode reads writes node there none =
    ⊎_elim
    (λ read.
    cc (sym (cond-true (is_named reads node) (Some (joined (mode_with Writes writes node None) Reads))
    (mode_with Writes writes node None) (named_there reads node read)) ∙ none))
    (λ written. cc (sym (written_mode reads writes node written) ∙ none))
    (Contains-append_cases (numbers reads) (numbers writes) node there)

pub held_apart : (t : Tables) (locks : LocksSeen) → TasksTell t locks → AreHolds locks
    → (s q : ℕ) (a b : Out) (node : ℕ) → IsOut t.turns s a → IsOut t.turns q b → s ≢ q
    → Contains (numbers (need_of a).writes) node → Contains (nodes_of (need_of b)) node → ⊥
held_apart t locks h holds s q a b node is_a is_b other written reached =
    let one = (h.held.holds s a is_a).modes node ∙ written_mode (need_of a).reads (need_of a).writes node written in
    let none = holds node a.task.0 b.task.0 (λ same. other (h.held.apart s q a b is_a is_b same)) one in
    some_mode (need_of b).reads (need_of b).writes node reached (sym ((h.held.holds q b is_b).modes node) ∙ none)

-- ---- what the calls of the table of atoms do to owners

module _ (t : Tables) (locks : LocksSeen) (tells : TasksTell t locks) where
  same_txns : (atoms : AtomsSeen) → atoms.txns ≡ t.atoms.txns → (n : ℕ) → atom_of atoms n ≡ atom_of t.atoms n
  same_txns atoms same n = ap (λ (l : List TxnSeen). (get_or l (n - 1) no_txn).atom) same

  pub ended_follow : (txn : ℕ) → TasksTell (record t { atoms = with_ended t.atoms txn }) locks
  ended_follow txn =
      tasks_owned t locks tells (with_ended t.atoms txn)
      (λ s out node a is reached owned.
      (a, sym (same (label_of node t.atoms.captured)) ∙ owned, λ e. atom out.txn.0 ∙ e))
    where
      atom : (n : ℕ) → atom_of (with_ended t.atoms txn) n ≡ atom_of t.atoms n
      atom n = kept_by_set (λ (x : TxnSeen). x.atom) t.atoms.txns (txn - 1)
          (record (txn_of t.atoms txn) { is_open = false }) no_txn refl (n - 1)

      same : (o : Option ℕ) → owner_by (with_ended t.atoms txn) o ≡ owner_by t.atoms o
      same None = refl
      same (Some n) = ap (λ (a : ℕ). cond (is_cleaned t.atoms a) None (Some a)) (atom n)

  -- a state that keeps whether nodes are clean
  pub state_follow : (a : ℕ) (x : AtomState) → x.cleaned ≡ (state_of t.atoms a).cleaned
      → TasksTell (record t { atoms = with_state t.atoms a x }) locks
  state_follow a x clean =
      tasks_owned t locks tells (with_state t.atoms a x)
      (λ s out node b is reached owned. (b, sym (same (label_of node t.atoms.captured)) ∙ owned, λ e. e))
    where
      same : (o : Option ℕ) → owner_by (with_state t.atoms a x) o ≡ owner_by t.atoms o
      same None = refl
      same (Some n) = ap (λ (c : Bool). cond c None (Some (atom_of t.atoms n)))
          (state_kept t.atoms a x (λ (y : AtomState). y.cleaned) clean (atom_of t.atoms n))

  pub cleaned_follow : (atoms : AtomsSeen) (atom : ℕ) → atoms.txns ≡ t.atoms.txns
      → ((n : ℕ) → owner_of atoms n ≡ without_owner atom (owner_of t.atoms n))
      → TasksTell (record t { atoms = atoms }) locks
  cleaned_follow atoms atom txns owners =
      tasks_owned t locks tells atoms
      (λ s out node a is reached owned.
      (a, by (owner_of t.atoms node) a (sym (owners node) ∙ owned), λ e. same_txns atoms txns out.txn.0 ∙ e))
    where
      by : (o : Option ℕ) (a : ℕ) → without_owner atom o ≡ Some a → o ≡ Some a
      by None a e = absurd (cc e)
      by (Some b) a e = elim (cases_Bool (b == atom)) [
        | inl is ↦ absurd (cc (sym (cond-true (b == atom) None (Some b) is) ∙ e))
        | inr not ↦ sym (cond-false (b == atom) None (Some b) not) ∙ e
      ]

  pub captured_follow : (atoms : AtomsSeen) (atom node : ℕ) → atoms.txns ≡ t.atoms.txns
      → ((n : ℕ) → owner_of atoms n ≡ cond (node == n) (Some atom) (owner_of t.atoms n))
      → ((s : ℕ) (out : Out) → IsOut t.turns s out → Contains (nodes_of (need_of out)) node → ⊥)
      → TasksTell (record t { atoms = atoms }) locks
  captured_follow atoms atom node txns owners apart =
      tasks_owned t locks tells atoms
      (λ s out n a is reached owned.
      (let other : node ≢ n = λ same. apart s out is (subst (Contains (nodes_of (need_of out))) (sym same) reached) in (
        a,
        sym (owners n ∙ cond-false (node == n) (Some atom) (owner_of t.atoms n) (ne_eqb node n other))
            ∙ owned,
        λ e. same_txns atoms txns out.txn.0 ∙ e,
      )))

  pub renamed_follow : (atoms : AtomsSeen) (from to : ℕ) → atoms.txns ≡ t.atoms.txns → owner_of atoms from ≡ None
      → ((n : ℕ) → n ≢ from → n ≢ to → owner_of atoms n ≡ owner_of t.atoms n)
      → ((s : ℕ) (out : Out) → IsOut t.turns s out → Contains (nodes_of (need_of out)) to → ⊥)
      → TasksTell (record t { atoms = atoms }) locks
  renamed_follow atoms from to txns none others apart =
      tasks_owned t locks tells atoms
      (λ s out n a is reached owned.
      (let not_to : n ≢ to = λ same. apart s out is (subst (Contains (nodes_of (need_of out))) same reached) in
      let not_from : n ≢ from = λ same. cc (sym none ∙ ap (owner_of atoms) (sym same) ∙ owned) in
      (a, sym (others n not_from not_to) ∙ owned, λ e. same_txns atoms txns out.txn.0 ∙ e)))

module _ (w : Meaning Command Reply) (start : Option Start) (clock : ℕ) (t : Tables) (trace : List Entry)
    (h : IsTold w start clock t trace) (locks : LocksSeen) (tells : TasksTell t locks) where
  -- the transaction of a task was begun
  txn_served : (s : ℕ) (out : Out) → IsOut t.turns s out → IsTxn t.atoms out.txn.0
  txn_served s out is =
      let v = tells.served s out is in
      subst (λ (x : TxnNo). IsTxn t.atoms x.0) v.txn
      (open_in_both w start clock t trace h s v.within is.is_script v.transaction).0

  pub begun_follow : (atoms : AtomsSeen) (script : ℕ) → Begins t.atoms atoms script
      → ((n : ℕ) → owner_of atoms n ≡ owner_of t.atoms n)
      → TasksTell (record t { atoms = atoms }) locks
  begun_follow atoms script b same =
      tasks_owned t locks tells atoms
      (λ s out node a is reached owned. (
        a,
        sym (same node) ∙ owned,
        λ e. ap (λ (x : TxnSeen). x.atom)
            (txn_before t.atoms atoms script b h.atoms.states out.txn.0 (txn_served s out is)) ∙ e,
      ))

  pub fused_follow : (atoms : AtomsSeen) (kept gone : ℕ) → Fuses t.atoms atoms kept gone
      → ((n : ℕ) → owner_of atoms n ≡ option_map (renamed kept gone) (owner_of t.atoms n))
      → TasksTell (record t { atoms = atoms }) locks
  fused_follow atoms kept gone f owners =
      tasks_owned t locks tells atoms
      (λ s out node a is reached owned. by s out is node (owner_of t.atoms node) refl a
      (sym (owners node) ∙ owned))
    where
      by : (s : ℕ) (out : Out) → IsOut t.turns s out → (node : ℕ) (o : Option ℕ) → owner_of t.atoms node ≡ o → (a : ℕ)
          → option_map (renamed kept gone) (owner_of t.atoms node) ≡ Some a
          → (b : ℕ) × (owner_of t.atoms node ≡ Some b) × (atom_of t.atoms out.txn.0 ≡ b → atom_of atoms out.txn.0 ≡ a)
      by s out is node None none a e = absurd (cc (sym (ap (option_map (renamed kept gone)) none) ∙ e))
      by s out is node (Some b) had a e =
          let now : renamed kept gone b ≡ a = cc (sym (ap (option_map (renamed kept gone)) had) ∙ e) in (
            b,
            had,
            λ same.
                ap (λ (x : TxnSeen). x.atom) (fused_txn t.atoms atoms kept gone f out.txn.0 (txn_served s out is))
                ∙ ap (renamed kept gone) same ∙ now,
          )

  -- its atom is open
  pub atom_open : (s : ℕ) (out : Out) → IsOut t.turns s out → IsOpenAtom t.atoms (atom_of t.atoms out.txn.0)
  atom_open s out is =
      let v = tells.served s out is in
      let both = open_in_both w start clock t trace h s v.within is.is_script v.transaction in
      let begun = txn_served s out is in
      let n = out.txn.0 in
      let a = atom_of t.atoms n in
      let script = (txn_of t.atoms n).script in
      let begins = h.atoms.script n begun in
      let same = h.atoms.atom n begun in
      let opened : (txn_of t.atoms n).is_open ≡ true =
      subst (λ (x : TxnNo). (txn_of t.atoms x.0).is_open ≡ true) v.txn both.1 in
      let opn : IsOpen trace n script = (begins, λ ends. true≢false (sym opened ∙ (h.atoms.ended n begun).1 ends)) in
      let atom = atom_named w start clock t trace h n begun in
      record {
        atom = atom;
        unsealed = false_from_ne_true (is_sealed t.atoms a)
            (λ sealed.
            open_unsealed trace n script h.legal.order opn
            (subst (IsSealed trace) same ((h.atoms.sealed a atom.begun).0 sealed)));
      }

-- no other open atom owns what it reaches
pub reach_free : (t : Tables) (locks : LocksSeen) → TasksTell t locks → (s : ℕ) (out : Out) (node : ℕ)
    → IsOut t.turns s out → Contains (nodes_of (need_of out)) node
    → IsFreeFor t.atoms (atom_of t.atoms out.txn.0) node
reach_free t locks tells s out node is reached by owned other =
    absurd (other ((tells.served s out is).owners node by reached owned))
