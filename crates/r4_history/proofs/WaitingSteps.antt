-- What a script waits for.
use Rattle.std.proofs.Common.{◌≡◌, ◌⊎◌, inl, inr, ⊎_elim, ℕ, zero, suc, ◌-◌, ◌<◌, ◌==◌, Bool, true, false, not, true≢false, cond, List, [], ◌∷◌, ◌++◌, drop, length, get_or, slice_get, Option, Some, None, IsSome, refl, sym, ◌∙◌, ap, subst, arith}
use Rattle.std.specs.Option.{option_or}
use Rattle.std.proofs.lemmas.Bool.{and_from, and_parts, cases_Bool, cases_lt, eq-eqb, eqb-true, false≢true, not-true, not_from_false}
use Rattle.std.proofs.lemmas.List.{get_or_past}
use Rattle.r4_atoms.specs.Atoms.{AllCommitted, atom_of, is_pending, is_pending_as, is_sealed, IsBegun as IsTxn, IsClosedAtom, IsSmallestAtom, IsSmallestOpen, IsUncommittedOf, open_count, txn_of}
use Rattle.r4_atoms.specs.declared.things.Uncommitted.TheVariants as uncommitted
use Rattle.r4_base.specs.declared.things.AtomNo.{AtomNo}
use Rattle.r4_base.specs.declared.things.NodeId.{NodeId}
use Rattle.r4_base.specs.declared.things.TaskId.{TaskId}
use Rattle.r4_content.specs.Locality.{Meaning}
use Rattle.r4_content.specs.declared.command.Command.{Command}
use Rattle.r4_content.specs.declared.command.Command.TheVariants as commands
use Rattle.r4_content.specs.declared.reply.Reply.{Reply}
use Rattle.r4_locks.specs.Locks.{IsTask, LocksSeen, TaskSeen, conflict_of, first_conflict, mode_in, task_at}
use Rattle.r4_locks.specs.Modes.{conflicts}
use Rattle.r4_locks.specs.declared.things.Mode.{Mode}
use Rattle.r4_locks.specs.declared.things.Mode.TheVariants.{Reads, Writes}
use Rattle.r4_locks.proofs.ConflictLaws.{first_is}
use Rattle.r4_turns.specs.r4_script.Grammar.{Turns}
use Rattle.r4_turns.specs.r4_script.Spelling.{AreInOrder, AreScripts, IsScript as IsTextScript}
use Rattle.r4_turns.specs.r4_script.declared.job.Script.{Script}
use Rattle.std.specs.List.{AllByRecursion}
use Rattle.r4_trace.specs.Ids.{Start}
use Rattle.r4_trace.specs.Job.{HasNoBegin, Inside, IsWork, Outside, Place, Single, commands_of, txn_in}
use Rattle.r4_trace.specs.Traced.{IsOpen}
use Rattle.r4_trace.specs.declared.entry.Entry.{Entry}
use Rattle.r4_trace.proofs.FirstOnes.{sealed_committed}
use Rattle.r4_trace.proofs.Places.{open_place}
use Rattle.r4_turns.specs.Turns.{IsScript, TurnsSeen, answered_at as count_at, commands_at, no_script, start as no_turn, turn_at, with_command}
use Rattle.r4_turns.specs.declared.out.Out.{Out as Task}
use Rattle.r4_turns.specs.declared.turn.Open.{Open as OpenTxn}
use Rattle.r4_turns.specs.declared.turn.Turn.{Turn}
use Rattle.r4_history.specs.declared.why.Why.{Why}
use Rattle.r4_history.specs.declared.why.Why.TheVariants.{Held, Open, Sealed}
use Rattle.r4_history.specs.Held.{AreOwners, IsOut, Need, TasksTell}
use Rattle.r4_history.specs.Serving.{AreOrdered, AsksForFlush, IsAtWork, IsHeldUp, IsInTheWay, IsInTheWayOf, IsInTheWayOfCommit, IsPassedOver, IsReason, IsSealedOwner, IsServedNext, IsWaiting, Suits, WaitsFor}
use Rattle.r4_history.specs.Tables.{Stands, Tables, asked, next_at, place_at, within_of}
use Rattle.r4_history.specs.Told.{IsCommitting, IsTold}
use Rattle.r4_history.proofs.Ordered.{Fits, fits, in_order_next, in_order_pushed, IsSingleWork}
use Rattle.r4_history.proofs.ServingSteps.{one_first}
use Rattle.r4_history.proofs.Places.{commands_are, commands_pushed, stood}
use Rattle.r4_history.proofs.Told.{at as place_now, atom_is, atom_named}
use mathlib.Core.Bool.{beq}

-- a holder that stands in the way is a task
holds_there : (o : Option TaskSeen) (wanted : Mode) (node : ℕ) → conflicts wanted (mode_in o node) ≡ true → IsSome o
holds_there None wanted node is = absurd (false≢true is)
holds_there (Some task) wanted node is = refl

pub holder_stands : (locks : LocksSeen) (reads writes : List NodeId) (node : NodeId) (holder : TaskId)
    → conflict_of locks None reads writes ≡ Some (node, holder) → IsTask locks holder.0
holder_stands locks reads writes node holder is = by (first_conflict locks None Writes writes) refl
  where
    by : (o : Option (NodeId × TaskId)) → first_conflict locks None Writes writes ≡ o → IsTask locks holder.0
    by (Some x) e =
        let found = first_is locks None Writes writes node holder
        (e ∙ sym (ap (λ (o : Option (NodeId × TaskId)). option_or o (first_conflict locks None Reads reads)) e) ∙ is) in
        holds_there (task_at locks holder.0) Writes node.0 found.holds.holds.holds
    by None e =
        let found = first_is locks None Reads reads node holder
        (sym (ap (λ (o : Option (NodeId × TaskId)). option_or o (first_conflict locks None Reads reads)) e) ∙ is) in
        holds_there (task_at locks holder.0) Reads node.0 found.holds.holds.holds

-- ---- scripts of a text

every : (l : List Script) → AllByRecursion IsTextScript l → (i : ℕ) → i < length l → IsTextScript (get_or l i no_script)
every [] all i lt = absurd (omega (arith, lt))
every (x ∷ l) all zero lt = all.0
every (x ∷ l) all (suc i) lt = every l all.1 i (omega (arith, lt))

pub text_ordered : (t : TurnsSeen) → length t.turns ≡ length t.job.scripts → AreScripts t.job.scripts → AreOrdered t
text_ordered t scripts all s is = (every t.job.scripts all.each (s - 1) (omega (arith, is.0, is.1, scripts))).1

pub pushed_ordered : (t : TurnsSeen) (s : ℕ) (c : Command) → IsScript t s → length t.turns ≡ length t.job.scripts
    → HasNoBegin (commands_at t s)
    → IsWork c ⊎ (c ≡ commands.Commit) → AreOrdered t → AreOrdered (with_command t s c)
pushed_ordered t s c is scripts none plain ok q there =
    ⊎_elim (λ same. subst (AreInOrder false) (sym same) (ok q there))
    (λ more.
    (let e : q ≡ s = (let some = is.0 in let also = there.0 in let same = more.0 in omega
    (arith, same, some, also)) in
    subst (AreInOrder false) (sym (more.1 ∙ ap (λ (k : ℕ). commands_at t k ++ c ∷ []) e))
    (in_order_pushed (commands_at t s) c none plain (ok s is))))
    (commands_pushed t s c is scripts q)

module _ (w : Meaning Command Reply) (start : Option Start) (clock : ℕ) (t : Tables) (trace : List Entry)
    (h : IsTold w start clock t trace) where
  -- the commit of a sealed atom that owns a node is under way
  pub owner_commits : (need : Need) (a : ℕ) → AreOwners t.atoms → t.broken ≡ None → IsSealedOwner t.atoms need a
      → t.commit ≡ Some a
  owner_commits need a owners none is =
      let o = owners is.node a is.owner in
      h.commit.one a none o.0.begun is.sealed o.1

  -- what comes next in a script suits its transaction
  stands_fits : (s : ℕ) (o : Option OpenTxn) (c : Option Command) → AreOrdered t.turns → t.broken ≡ None
      → Stands t.turns s o c → Fits (commands_of (asked t.turns.job) s) (stood (count_at t.turns s) o)
  stands_fits s o c ordered none st =
      let is = st.is_script in
      subst (Fits (commands_of (asked t.turns.job) s)) (place_now w start clock t trace h s o c st)
      (fits (asked t.turns.job) s
      (subst (AreInOrder false) (sym (commands_are t.turns s is.0)) (ordered s is)) trace h.legal.order h.legal.answers
      (sym h.broken ∙ none))

  following : (s : ℕ) (o : Option OpenTxn) (c : Option Command) → Stands t.turns s o c
      → slice_get (commands_of (asked t.turns.job) s) (count_at t.turns s) ≡ c
  following s o c st =
      ap (λ (l : List Command). slice_get l (count_at t.turns s)) (commands_are t.turns s st.is_script.0) ∙ st.next

  turned : (s : ℕ) (b : Bool) (c : Command) → AreInOrder b (drop (count_at t.turns s) (commands_of (asked t.turns.job) s))
      → slice_get (commands_of (asked t.turns.job) s) (count_at t.turns s) ≡ Some c
      → (now : Bool) × Turns c b now
  turned s b c ok at =
      let step = in_order_next b (commands_of (asked t.turns.job) s) (count_at t.turns s) c ok at in
      (step.0, step.1)

  suits_in : (s : ℕ) (single : Bool) (m : ℕ) (c : Option Command)
      → Fits (commands_of (asked t.turns.job) s)
      (record { answered = count_at t.turns s; within = cond single (Single m) (Inside m) })
      → slice_get (commands_of (asked t.turns.job) s) (count_at t.turns s) ≡ c
      → (o : OpenTxn) → o.single ≡ single → Suits (Some o) c
  suits_in s true m None ok at o is = absurd (subst (IsSingleWork (Single m)) at ok.1)
  suits_in s true m (Some commands.Begin) ok at o is = absurd (subst (IsSingleWork (Single m)) at ok.1)
  suits_in s true m (Some commands.End) ok at o is = absurd (subst (IsSingleWork (Single m)) at ok.1)
  suits_in s true m (Some commands.Commit) ok at o is = absurd (subst (IsSingleWork (Single m)) at ok.1)
  suits_in s false m None ok at o is = is
  suits_in s false m (Some commands.End) ok at o is = is
  suits_in s false m (Some commands.Begin) ok at o is =
      absurd (true≢false (turned s true commands.Begin ok.0 at).1.0)
  suits_in s false m (Some commands.Commit) ok at o is =
      absurd (true≢false (turned s true commands.Commit ok.0 at).1.0)
  suits_in s single m (Some c) ok at o is = tt

  suits_out : (s : ℕ) (c : Option Command) → Fits (commands_of (asked t.turns.job) s)
      (record { answered = count_at t.turns s; within = Outside })
      → slice_get (commands_of (asked t.turns.job) s) (count_at t.turns s) ≡ c → Suits None c
  suits_out s (Some commands.End) ok at = absurd (false≢true (turned s false commands.End ok.0 at).1.0)
  suits_out s c ok at = tt

  pub next_suits : (s : ℕ) (o : Option OpenTxn) (c : Option Command) → AreOrdered t.turns → t.broken ≡ None
      → Stands t.turns s o c → Suits o c
  next_suits s None c ordered none st =
      suits_out s c (stands_fits s None c ordered none st) (following s None c st)
  next_suits s (Some o) c ordered none st =
      suits_in s o.single o.txn.0 c (stands_fits s (Some o) c ordered none st) (following s (Some o) c st) o refl

  -- no `commit` stands inside of a transaction
  pub no_commit_inside : (s : ℕ) (x : OpenTxn) → AreOrdered t.turns → IsScript t.turns s → t.broken ≡ None
      → (turn_at t.turns s).transaction ≡ Some x
      → next_at t.turns s ≡ Some commands.Commit → ⊥
  no_commit_inside s x ordered is none some next = by x.single x.txn.0 there
    where
      cs : List Command
      cs = commands_of (asked t.turns.job) s

      n : ℕ
      n = count_at t.turns s

      st : Stands t.turns s (Some x) (Some commands.Commit)
      st = record { is_script = is; transaction = some; next = next }

      following : slice_get (commands_of (asked t.turns.job) s) (count_at t.turns s) ≡ Some commands.Commit
      following = ap (λ (l : List Command). slice_get l (count_at t.turns s)) (commands_are t.turns s is.0) ∙ next

      there : Fits (commands_of (asked t.turns.job) s) (stood (count_at t.turns s) (Some x))
      there =
          subst (Fits (commands_of (asked t.turns.job) s))
          (place_now w start clock t trace h s (Some x) (Some commands.Commit) st)
          (fits (asked t.turns.job) s
          (subst (AreInOrder false) (sym (commands_are t.turns s is.0))
          (ordered s is)) trace h.legal.order h.legal.answers
          (sym h.broken ∙ none))

      by : (b : Bool) (m : ℕ) → Fits (commands_of (asked t.turns.job) s)
          (record { answered = count_at t.turns s; within = cond b (Single m) (Inside m) }) → ⊥
      by true m ok = subst (λ (o : Option Command). IsSingleWork
          (Single m) o) following ok.1
      by false m ok =
          let step = in_order_next true (commands_of (asked t.turns.job) s)
          (count_at t.turns s) commands.Commit ok.0 following in
          true≢false step.1.0

  script_there : (q n : ℕ) → txn_in (place_at t.turns.turns q).within ≡ Some n
      → IsScript t.turns q × ((x : OpenTxn) × ((turn_at t.turns q).transaction ≡ Some x))
  script_there zero n is = absurd (cc is)
  script_there (suc i) n is = elim (cases_lt i (length t.turns.turns)) [
    | inl lt ↦
        let e : i ≡ suc i - 1 = omega arith in
        let x = some_there (get_or t.turns.turns i no_turn).transaction is in (
          (omega arith, omega (arith, lt)),
          (x.0, ap (λ (k : ℕ). (get_or t.turns.turns k no_turn).transaction) (sym e) ∙ x.1),
        )
    | inr past ↦ absurd (cc (sym is
        ∙ ap (λ (x : Turn). txn_in (within_of x.transaction)) (get_or_past t.turns.turns i no_turn past)))
  ]
    where
      some_there : (o : Option OpenTxn) → txn_in (within_of o) ≡ Some n → (x : OpenTxn) × (o ≡ Some x)
      some_there None e = absurd (cc e)
      some_there (Some x) e = (x, refl)

  module _ (locks : LocksSeen) (needs : ℕ → Option Need) (tells : TasksTell t locks) (owners : AreOwners t.atoms)
      (ordered : AreOrdered t.turns) where
    abbrev SomeOut : Type 0
    SomeOut = (s : ℕ) × (out : Task) × IsOut t.turns s out

    by_need : (need : Option Need) (why : Why) → t.broken ≡ None → t.commit ≡ None
        → IsInTheWayOf t.atoms locks need why → SomeOut
    by_need None why none rest is = absurd is
    by_need (Some need) (Sealed atom) none rest is = absurd (cc (owner_commits need atom.0 owners none is, rest))
    by_need (Some need) (Held node holder) none rest is =
        let task = tells.held.tasks holder.0 (holder_stands locks need.reads need.writes node holder is.1) in
        (task.0, task.1, task.2)
    by_need (Some need) why none rest is = absurd is

    by_inside : (s : ℕ) (x : OpenTxn) (o : Option Command) (why : Why) → IsScript t.turns s
        → (turn_at t.turns s).transaction ≡ Some x → next_at t.turns s ≡ o
        → t.broken ≡ None → t.commit ≡ None → IsHeldUp t locks (needs s) s o why → SomeOut
    by_inside s x None why is some at none rest held = absurd held
    by_inside s x (Some commands.Begin) why is some at none rest held = absurd held
    by_inside s x (Some commands.End) why is some at none rest held = absurd held
    by_inside s x (Some commands.Commit) why is some at none rest held = absurd
        (no_commit_inside s x ordered is none some at)
    by_inside s x (Some c) why is some at none rest held = by_need (needs s) why none rest held

    -- the script of an open transaction
    by_open : (txn : ℕ) → IsTxn t.atoms txn → (txn_of t.atoms txn).is_open ≡ true → t.broken ≡ None → t.commit ≡ None
        → ((q : ℕ) → IsScript t.turns q → IsPassedOver t locks needs q) → SomeOut
    by_open txn begun opened none rest all =
        let q = (txn_of t.atoms txn).script in
        let opn : IsOpen trace txn q =
        (h.atoms.script txn begun, λ ends. true≢false (sym opened ∙ (h.atoms.ended txn begun).1 ends)) in
        let has = ap (λ (p : Place). txn_in p.within) (h.places q)
        ∙ open_place (commands_of (asked t.turns.job) q) trace txn q h.legal.order opn in
        let there = script_there q txn has in
        ⊎_elim
        (λ finished. absurd (cc (finished.closed none, there.1.1)))
        (λ d. ⊎_elim (λ out. (q, out.0, out.1))
        (λ waits. by_inside q there.1.0
        (next_at t.turns q) waits.0 there.0 there.1.1 refl none rest waits.1.held_up) d)
        (all q there.0)

    by_next : (s : ℕ) (o : Option Command) (why : Why) → t.broken ≡ None → t.commit ≡ None
        → ((q : ℕ) → IsScript t.turns q → IsPassedOver t locks needs q)
        → IsHeldUp t locks (needs s) s o why → SomeOut
    by_next s None why none rest all held = absurd held
    by_next s (Some commands.Begin) why none rest all held = absurd held
    by_next s (Some commands.End) why none rest all held = absurd held
    by_next s (Some commands.Commit) (Sealed atom) none rest all held = absurd (cc (held.1, rest))
    by_next s (Some commands.Commit) (Open atom txn) none rest all held =
        let small = held.1.1.2 in
        by_open txn.0 small.is.begun small.is.opened none rest all
    by_next s (Some commands.Commit) why none rest all held = absurd held.1
    by_next s (Some c) why none rest all held = by_need (needs s) why none rest held

    pub waits_for_something : (why : Why) → IsWaiting t locks needs why → IsAtWork t
    waits_for_something why is = by_commit t.commit refl
      where
        by_out : (o : Option Task) → (turn_at t.turns is.script).out ≡ o → t.commit ≡ None
            → IsReason t locks (needs is.script) is.script o why → SomeOut
        by_out (Some out) some rest reason = (is.script, out, record { is_script = is.is_script; is_out = some })
        by_out None free rest reason = by_next is.script
            (next_at t.turns is.script) why reason.sound rest is.all reason.held_up

        by_commit : (o : Option ℕ) → t.commit ≡ o → IsAtWork t
        by_commit (Some a) some = inr (subst IsSome (sym some) refl)
        by_commit None rest = inl (by_out (turn_at t.turns is.script).out refl rest is.reason)

  -- ---- one reason

  module _ (locks : LocksSeen) (need : Option Need) (owners : AreOwners t.atoms) (none : t.broken ≡ None) where
    same_sealed : (a b : AtomNo) → t.commit ≡ Some a.0 → t.commit ≡ Some b.0 → Sealed a ≡ Sealed b
    same_sealed a b one two = let e : a.0 ≡ b.0 = cc (one, two) in ap (λ (n : ℕ). Sealed (record { 0 = n })) e

    same_in_way : (n : Need) (x y : Why) → IsInTheWay t.atoms locks n x → IsInTheWay t.atoms locks n y → x ≡ y
    same_in_way n (Sealed a) (Sealed b) one two = same_sealed a b (owner_commits n a.0 owners none one)
        (owner_commits n b.0 owners none two)
    same_in_way n (Held i k) (Held j l) one two =
        let e : (i, k) ≡ (j, l) = cc (one.1, two.1) in
        ap (λ (p : NodeId × TaskId). Held p.0 p.1) e
    same_in_way n (Sealed a) (Held j l) one two = absurd (two.0 a.0 one)
    same_in_way n (Held i k) (Sealed b) one two = absurd (one.0 b.0 two)
    same_in_way n (Sealed a) y one two = absurd two
    same_in_way n (Held i k) y one two = absurd two
    same_in_way n x y one two = absurd one

    same_of : (n : Option Need) (x y : Why) → IsInTheWayOf t.atoms locks n x → IsInTheWayOf t.atoms locks n y → x ≡ y
    same_of None x y one two = absurd one
    same_of (Some n) x y one two = same_in_way n x y one two

    same_atom : (test : ℕ → Bool) (a b : ℕ) → IsSmallestAtom t.atoms test a → IsSmallestAtom t.atoms test b → a ≡ b
    same_atom test a b one two =
        let p = one.passes in
        let q = two.passes in
        let le = one.smallest q.0 q.1 q.2 in
        let ge = two.smallest p.0 p.1 p.2 in
        let ea = p.3 in
        let eb = q.3 in
        omega (arith, le, ge, ea, eb)

    same_open : (a m n : ℕ) → IsSmallestOpen t.atoms a m → IsSmallestOpen t.atoms a n → m ≡ n
    same_open a m n one two =
        let le = one.smallest n two.is in
        let ge = two.smallest m one.is in
        omega (arith, le, ge)

    same_of_commit : (s : ℕ) (x y : Why) → IsInTheWayOfCommit t s x → IsInTheWayOfCommit t s y → x ≡ y
    same_of_commit s (Sealed a) (Sealed b) one two = same_sealed a b one two
    same_of_commit s (Open a m) (Open b n) one two =
        let ea = same_atom (is_pending_as t.atoms s false) a.0 b.0 one.1.1 two.1.1 in
        let en = same_open b.0 m.0 n.0 (subst (λ (k : ℕ). IsSmallestOpen t.atoms k m.0) ea one.1.2) two.1.2 in
        ap (λ (k : ℕ). Open (record { 0 = k }) m) ea ∙ ap (λ (k : ℕ). Open b (record { 0 = k })) en
    same_of_commit s (Sealed a) (Open b n) one two = absurd (cc (one, two.0))
    same_of_commit s (Open a m) (Sealed b) one two = absurd (cc (two, one.0))
    same_of_commit s (Sealed a) y one two = absurd two
    same_of_commit s (Open a m) y one two = absurd two
    same_of_commit s x y one two = absurd one

    same_held : (s : ℕ) (o : Option Command) (x y : Why) → IsHeldUp t locks need s o x → IsHeldUp t locks need s o y
        → x ≡ y
    same_held s None x y one two = absurd one
    same_held s (Some commands.Begin) x y one two = absurd one
    same_held s (Some commands.End) x y one two = absurd one
    same_held s (Some commands.Commit) x y one two = same_of_commit s x y one.1 two.1
    same_held s (Some c) x y one two = same_of need x y one two

  pub one_reason : (locks : LocksSeen) (need : Option Need) (s : ℕ) (x y : Why) → AreOwners t.atoms
      → WaitsFor t locks need s x → WaitsFor t locks need s y → x ≡ y
  one_reason locks need s x y owners one two =
      same_held locks need owners one.sound s (next_at t.turns s) x y one.held_up two.held_up

  -- ---- what a `commit` finds

  pub all_committed : (s : ℕ) → t.broken ≡ None → t.commit ≡ None → IsUncommittedOf t.atoms s uncommitted.None
      → AllCommitted t.atoms s
  all_committed s none rest nothing n begun mine = elim (cases_Bool (is_sealed t.atoms (atom_of t.atoms n))) [
    | inl sealed ↦
        let there = atom_is w start clock t trace h n (txn_of t.atoms n).script (h.atoms.script n begun) in
        let even = subst (λ (o : Option ℕ). IsCommitting t.atoms o trace) rest (h.commit.under_way none) in
        (h.atoms.committed (atom_of t.atoms n) there).1
        (⊎_elim (λ c. c) (λ late. absurd (omega (arith, late.1, even)))
        (sealed_committed trace (atom_of t.atoms n) h.legal.order
        ((h.atoms.sealed (atom_of t.atoms n) there).0 sealed)))
    | inr un ↦
        absurd (true≢false
        (sym (and_from ((txn_of t.atoms n).script == s) (not (is_sealed t.atoms (atom_of t.atoms n)))
        (eq-eqb (txn_of t.atoms n).script s mine)
        (not_from_false (is_sealed t.atoms (atom_of t.atoms n)) un)) ∙ nothing n begun))
  ]

  -- ---- one answer

  pub one_wait : (locks : LocksSeen) (needs : ℕ → Option Need) (x y : Why) → AreOwners t.atoms
      → IsWaiting t locks needs x → IsWaiting t locks needs y → x ≡ y
  one_wait locks needs x y owners one two =
      same_reason two.script (turn_at t.turns two.script).out
      (subst (λ (s : ℕ). IsReason t locks (needs s) s (turn_at t.turns s).out x) same_script one.reason) two.reason
    where
      same_script : one.script ≡ two.script
      same_script =
          ⊎_elim (λ e. e)
          (λ d. ⊎_elim (λ before. absurd (one.unfinished (two.first one.script one.is_script before)))
          (λ before. absurd (two.unfinished (one.first two.script two.is_script before))) d)
          (one_first t one.script two.script)

      same_reason : (s : ℕ) (o : Option Task) → IsReason t locks (needs s) s o x → IsReason t locks (needs s) s o y
          → x ≡ y
      same_reason s (Some out) p q = p ∙ sym q
      same_reason s None p q = one_reason locks (needs s) s x y owners p q

  -- the atom that is asked for can be sealed
  pub flush_is_closed : (s : ℕ) (atom : AtomNo) → AsksForFlush t s atom → IsClosedAtom t.atoms atom.0
  flush_is_closed s atom asks =
      let one = asks.smallest.passes in
      let n = one.0 in
      let both = and_parts (is_pending t.atoms s n) (beq true (open_count t.atoms (atom_of t.atoms n) == 0)) one.2 in
      let pending = and_parts ((txn_of t.atoms n).script == s) (not (is_sealed t.atoms (atom_of t.atoms n))) both.0 in
      let closed : IsClosedAtom t.atoms (atom_of t.atoms n) = record {
        unsealed = record {
          atom = atom_named w start clock t trace h n one.1;
          unsealed = not-true (is_sealed t.atoms (atom_of t.atoms n)) pending.1;
        };
        none = eqb-true (open_count t.atoms (atom_of t.atoms n)) 0
            (is_true (open_count t.atoms (atom_of t.atoms n) == 0) both.1);
      } in
      subst (IsClosedAtom t.atoms) one.3 closed
    where
      is_true : (b : Bool) → beq true b ≡ true → b ≡ true
      is_true true e = refl
      is_true false e = e

-- where one can be served, none waits
pub served_or_waits : (t : Tables) (locks : LocksSeen) (needs : ℕ → Option Need) (s : ℕ) (why : Why)
    → IsServedNext t locks needs s → IsWaiting t locks needs why → ⊥
served_or_waits t locks needs s why served waits = served.goes_on (waits.all s served.is_script)
