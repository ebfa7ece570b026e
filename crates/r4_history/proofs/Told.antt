-- Each entry keeps what the tables say of the trace.
use Rattle.std.proofs.Common.{◌≡◌, Bool, ◌⊎◌, inl, inr, ⊎_elim, ℕ, ◌+◌, ◌-◌, ◌<◌, ◌≤◌, ◌==◌, true, false, true≢false, cond, List, ◌∷◌, length, slice_get, Option, Some, None, refl, sym, ◌∙◌, ap, subst, arith}
use Rattle.std.proofs.lemmas.Bool.{cases_eq, cond-true, cond-false, eq-eqb, false_from_ne_true, ne_eqb, true_from_ne_false}
use Rattle.r4_atoms.specs.Atoms.{AllCommitted, atom_of, AtomsSeen, is_committed, IsAtom, IsBegun as IsTxn, IsOpenAtom, IsOpenIn, state_of, txn_of}
use Rattle.r4_atoms.specs.declared.things.AtomState.{AtomState}
use Rattle.r4_base.specs.Value.{Content}
use Rattle.r4_base.specs.declared.things.AtomNo.{AtomNo}
use Rattle.r4_base.specs.declared.things.NodeId.{NodeId}
use Rattle.r4_base.specs.declared.things.Oid.{Oid}
use Rattle.r4_base.specs.declared.things.ScriptNo.{ScriptNo}
use Rattle.r4_base.specs.declared.things.TxnNo.{TxnNo}
use Rattle.r4_content.specs.Locality.{Meaning}
use Rattle.r4_content.specs.Meaning.{with_id, without_id}
use Rattle.r4_content.specs.declared.command.Command.{Command}
use Rattle.r4_content.specs.declared.command.Command.TheVariants as commands
use Rattle.r4_content.specs.declared.reply.Reply.{Reply}
use Rattle.r4_content.specs.declared.reply.Reply.TheVariants.{Reopen}
use Rattle.r4_trace.specs.Folds.{HasItsReplies, content_of, everything}
use Rattle.r4_trace.specs.Ids.{HasNewIds, IsNewId, Start, id_of}
use Rattle.r4_trace.specs.Job.{Answered, Answers, Asked, DoneIn, EndsOf, Inside, IsWork, MayBeDone, MayBeRefused, MayBegin, MayEnd, Outside, Place, Single, answered_at, begun_at, begun_for, commands_of, ended_at, end_of, next_of, place, refused_at, txn_in, RefusedIn}
use Rattle.r4_trace.specs.Legal.{IsLegalSoFar, RepliesFrom}
use Rattle.r4_trace.specs.Order.{IsOrdered, MayComeNow, MayFollow}
use Rattle.r4_trace.specs.Traced.{IsBegun, IsCommitted, IsOpen, IsUnsealed, atom_in, broken_at, committed_in, last_of, latest, sealed_in}
use Rattle.r4_trace.specs.declared.entry.Entry.{Entry}
use Rattle.r4_trace.specs.declared.entry.Entry.TheVariants.{Begin, Fuse, Done, Refused, Ended, Sealed, Committed, Acked, Broken}
use Rattle.r4_trace.proofs.FirstOnes.{begun_counted}
use Rattle.r4_trace.proofs.Places.{place_open}
use Rattle.r4_trace.proofs.Stepping.{begin_follows, done_follows, ended_follows, one_script, others_stay, refused_follows}
use Rattle.r4_turns.specs.Turns.{answered_at as count_at, answered_one, entered, left, turn_at}
use Rattle.r4_turns.specs.declared.turn.Open.{Open}
use Rattle.r4_turns.specs.declared.turn.Turn.{Turn}
use Rattle.r4_history.specs.Tables.{Begins, Fuses, IsLastOf, Stands, Tables, asked, place_at, with_cleaned, with_committed, with_ended, with_sealed, within_of}
use Rattle.r4_history.specs.Told.{AtomsTell, CommitTells, IsCommitting, IsTold, IsUnderWay}
use Rattle.r4_history.proofs.AtomSteps.{atom_begun, committed_sealed, count_after, flags_begin, flags_ended, flags_fuse, fused_count, last_begun, last_greatest, own_name, same_flags, state_kept, state_other, state_set, tell_acked, tell_begin, tell_broken, tell_cleaned, tell_committed, tell_done, tell_ended, tell_fuse, tell_refused, tell_sealed, txn_by}
use Rattle.r4_history.proofs.CommitSteps.{SameSeals, commit_on}
use Rattle.r4_history.proofs.Places.{Moved, commands_are, moved_answered, moved_answered_left, moved_begun, moved_entered, moved_left, moved_left_answered, place_is, stood}
use Rattle.std.proofs.lemmas.List.{length-set}

-- ---- one legal entry more

module _ (w : Meaning Command Reply) (start : Option Start) (job : Asked) where
  same_replies : (e : Entry) (older : List Entry)
      → ((b : Content) → HasItsReplies w b everything older → HasItsReplies w b everything (e ∷ older))
      → (o : Option Start) → RepliesFrom w o older → RepliesFrom w o (e ∷ older)
  same_replies e older more None r = tt
  same_replies e older more (Some b) r = more b.content r

  pub legal_on : (older : List Entry) → IsLegalSoFar w start (Some job) older → (e : Entry) → MayFollow older e
      → MayComeNow (broken_at older) e
      → Answers job older e → ((b : Content) → HasItsReplies w b everything older
      → HasItsReplies w b everything (e ∷ older))
      → (HasNewIds start (Some job) older → HasNewIds start (Some job) (e ∷ older))
      → IsLegalSoFar w start (Some job) (e ∷ older)
  legal_on older h e follows now answers replies ids = record {
    order = (follows, now, h.order);
    replies = same_replies e older replies start h.replies;
    ids = ids h.ids;
    answers = (answers, h.answers);
  }

  pub legal_done : (older : List Entry) → IsLegalSoFar w start (Some job) older
      → (u : TxnNo) (s : ScriptNo) (i : ℕ) (c : Command) (r : Reply)
      → broken_at older ≡ None → Answers job older (Done u s i c r)
      → ((b : Start) → start ≡ Some b → r ≡ w.reply c (content_of w b.content everything older))
      → ((x : ℕ) → id_of c ≡ Some x → IsNewId start (Some job) older x)
      → IsLegalSoFar w start (Some job) (Done u s i c r ∷ older)
  legal_done older h u s i c r sound answers reply ids = record {
    order = (
      done_follows job older h.order u s i c r answers,
      subst
          (λ (o : Option ℕ). MayComeNow o (Done u s i c r)) (sym sound) tt,
      h.order,
    );
    replies = by_start start reply h.replies;
    ids = (ids, h.ids);
    answers = (answers, h.answers);
  }
    where
      by_start : (o : Option Start)
          → ((b : Start) → o ≡ Some b → r ≡ w.reply c (content_of w b.content everything older))
          → RepliesFrom w o older → RepliesFrom w o (Done u s i c r ∷ older)
      by_start None is old = tt
      by_start (Some b) is old = (λ chosen. is b refl, old)

  pub legal_ended : (older : List Entry) → IsLegalSoFar w start (Some job) older → (u : TxnNo) (s : ℕ)
      → broken_at older ≡ None
      → EndsOf (commands_of job s) older s u.0 → IsLegalSoFar w start (Some job) (Ended u ∷ older)
  legal_ended older h u s sound ends =
      let answers : Answers job older (Ended u) = (s, ends) in
      legal_on older h (Ended u) (ended_follows job older h.order u answers)
      (subst (λ (o : Option ℕ). MayComeNow o (Ended u)) (sym sound) tt) answers (λ b x. x) (λ x. x)

-- ---- commands

work_begins : (c : Command) → IsWork c → MayBegin (Some c)
work_begins commands.Begin is = tt
work_begins commands.End is = absurd is
work_begins commands.Commit is = absurd is
work_begins c is = tt

work_is_single : (c : Command) (t n : ℕ) → IsWork c
    → begun_for (Some c) t n ≡ record { answered = n; within = Single t }
work_is_single commands.Begin t n is = absurd is
work_is_single c t n is = refl

ids_apart : (id : Oid) (c : Command) → without_id (with_id id c) ≡ without_id c
ids_apart id (commands.Create path old) = refl
ids_apart id (commands.Mkdir path old) = refl
ids_apart id c = refl

pub without_same : (id : Oid) (had c : Command) → c ≡ with_id id had → without_id c ≡ without_id had
without_same id had c same = ap without_id same ∙ ids_apart id had

module _ (w : Meaning Command Reply) (start : Option Start) (clock : ℕ) (t : Tables) (trace : List Entry)
    (h : IsTold w start clock t trace) where
  abbrev job : Asked
  job = asked t.turns.job

  abbrev cs : ℕ → List Command
  cs s = commands_of job s

  pub at : (s : ℕ) (o : Option Open) (c : Option Command) → Stands t.turns s o c
      → place (cs s) trace s ≡ stood (count_at t.turns s) o
  at s o c st = sym (h.places s) ∙ place_is t.turns.turns s st.is_script.0
      ∙ ap (stood (count_at t.turns s)) st.transaction

  pub next : (s : ℕ) (o : Option Open) (c : Option Command) → Stands t.turns s o c
      → next_of (cs s) (place (cs s) trace s) ≡ c
  next s o c st =
      ap (next_of (cs s)) (at s o c st)
      ∙ ap (λ (xs : List Command). slice_get xs (count_at t.turns s)) (commands_are t.turns s st.is_script.0)
      ∙ st.next

  now : t.broken ≡ None → (e : Entry) → MayComeNow (broken_at trace) e
  now none e = subst (λ (o : Option ℕ). MayComeNow o e) (sym none ∙ h.broken) tt

  sound : t.broken ≡ None → broken_at trace ≡ None
  sound none = sym h.broken ∙ none

  -- the place of a script after an entry that speaks of it alone
  placed_on : (new : List Turn) (s : ℕ) (p : Place) (f : List Command → Place → Place) → Moved t.turns.turns new s p
      → p ≡ f (cs s) (place (cs s) trace s) → (q : ℕ)
      → place_at new q ≡ cond (q == s) (f (cs q) (place (cs q) trace q)) (place (cs q) trace q)
  placed_on new s p f m e q = elim (cases_eq q s) [
    | inl same ↦
        m.placed q ∙ cond-true (q == s) p (place_at t.turns.turns q) (eq-eqb q s same) ∙ e
        ∙ ap (λ (x : ℕ). f (cs x) (place (cs x) trace x)) (sym same)
        ∙ sym (cond-true (q == s) (f (cs q) (place (cs q) trace q)) (place (cs q) trace q) (eq-eqb q s same))
    | inr other ↦
        m.placed q ∙ cond-false (q == s) p (place_at t.turns.turns q) (ne_eqb q s other) ∙ h.places q
        ∙ sym (cond-false (q == s) (f (cs q) (place (cs q) trace q)) (place (cs q) trace q) (ne_eqb q s other))
  ]

  -- a script leaves its transaction, behind entries that speak of it alone
  placed_ended : (new : List Turn) (older : List Entry) (u : TxnNo) (s : ℕ) (p : Place) → IsOrdered older
      → Moved t.turns.turns new s p
      → txn_in (place (cs s) older s).within ≡ Some u.0 → p ≡ ended_at (cs s) u.0 (place (cs s) older s)
      → ((q : ℕ) → (q ≡ s → ⊥) → place (cs q) older q ≡ place (cs q) trace q) → (q : ℕ)
      → place_at new q ≡ place (cs q) (Ended u ∷ older) q
  placed_ended new older u s p legal m has e others q = elim (cases_eq q s) [
    | inl same ↦
        m.placed q ∙ cond-true (q == s) p (place_at t.turns.turns q) (eq-eqb q s same) ∙ e
        ∙ ap (λ (x : ℕ). ended_at (cs x) u.0 (place (cs x) older x)) (sym same)
    | inr other ↦
        m.placed q ∙ cond-false (q == s) p (place_at t.turns.turns q) (ne_eqb q s other) ∙ h.places q
        ∙ sym (others q other) ∙ sym (others_stay job older u s q legal has other)
  ]

  -- the script of a transaction that it has open
  pub open_is : (s : ℕ) (o : Open) (c : Option Command) → Stands t.turns s (Some o) c
      → txn_in (within_of (Some o)) ≡ Some o.txn.0 → IsOpen trace o.txn.0 s
  open_is s o c st is = place_open (cs s) trace o.txn.0 s h.legal.order
      (ap (λ (p : Place). txn_in p.within) (at s (Some o) c st) ∙ is)

  -- it is in the table of atoms
  pub txn_is : (u s : ℕ) → IsOpen trace u s → IsTxn t.atoms u
  txn_is u s opn = let b = begun_counted trace u s h.legal.order opn.0 in
      record { some = b.0; within = omega (arith, b.1, h.atoms.begun) }

  -- ---- begin

  told_begun : (u : TxnNo) (s : ScriptNo) (new : List Turn) (atoms : AtomsSeen) (c : Command) (p : Place)
      → t.broken ≡ None
      → Stands t.turns s.0 None (Some c) → MayBegin (Some c) → Begins t.atoms atoms s.0 → u.0 ≡ length t.atoms.txns + 1
      → Moved t.turns.turns new s.0 p → p ≡ begun_for (Some c) u.0 (count_at t.turns s.0)
      → IsTold w start clock (record t { atoms = atoms; turns = record t.turns { turns = new } }) (Begin u s ∷ trace)
  told_begun u s new atoms c p none st may b number m e =
      let where_is = at s.0 None (Some c) st in
      let is_next = next s.0 None (Some c) st in
      let answers : Answers job trace (Begin u s) =
      (ap (λ (x : Place). x.within) where_is, subst MayBegin (sym is_next) may) in
      let moved : p ≡ begun_at (cs s.0) u.0 (place (cs s.0) trace s.0) =
      e ∙ ap (λ (x : Option Command). begun_for x u.0 (count_at t.turns s.0)) (sym is_next)
      ∙ ap (λ (x : Place). begun_for (next_of (cs s.0) (place (cs s.0) trace s.0)) u.0 x.answered) (sym where_is) in
      let flags = flags_begin t.atoms atoms s.0 b h.atoms.states in
      let count = count_after t.atoms atoms s.0 b h.atoms.states in
      record {
        legal = legal_on w start job trace h.legal (Begin u s)
            (begin_follows job trace h.legal.order u s answers (number ∙ ap (λ (n : ℕ). n + 1) h.atoms.begun))
            (now none (Begin u s)) answers (λ x y. y) (λ y. y);
        time = h.time;
        scripts = m.count ∙ h.scripts;
        places = placed_on new s.0 p (λ xs x. begun_at xs u.0 x) m moved;
        atoms = tell_begin t.atoms atoms trace u s h.atoms h.legal.order b number;
        commit = commit_on t.atoms atoms trace (Begin u s ∷ trace) flags
            (λ a is. record { some = is.some; within = omega (arith, is.within, count) })
            (record { sealed = refl; committed = refl; last = refl }) t.commit t.broken h.commit;
        broken = h.broken;
      }

  pub told_begin : (u : TxnNo) (s : ScriptNo) (atoms : AtomsSeen) → t.broken ≡ None
      → Stands t.turns s.0 None (Some commands.Begin)
      → Begins t.atoms atoms s.0 → u.0 ≡ length t.atoms.txns + 1
      → IsTold w start clock (record t {
        atoms = atoms;
        turns = answered_one
            (entered t.turns s.0 (record { txn = u; single = false })) s.0;
      }) (Begin u s ∷ trace)
  told_begin u s atoms none st b number =
      let o : Open = record { txn = u; single = false } in
      told_begun u s (answered_one (entered t.turns s.0 o) s.0).turns atoms commands.Begin
      (stood (count_at t.turns s.0 + 1) (Some o)) none st tt b number
      (moved_begun t.turns s.0 st.is_script o) refl

  pub told_single : (u : TxnNo) (s : ScriptNo) (c : Command) (atoms : AtomsSeen) → t.broken ≡ None
      → Stands t.turns s.0 None (Some c) → IsWork c
      → Begins t.atoms atoms s.0 → u.0 ≡ length t.atoms.txns + 1
      → IsTold w start clock (record t {
        atoms = atoms;
        turns = entered t.turns s.0
            (record { txn = u; single = true });
      }) (Begin u s ∷ trace)
  told_single u s c atoms none st work b number =
      let o : Open = record { txn = u; single = true } in
      told_begun u s (entered t.turns s.0 o).turns atoms c (stood (count_at t.turns s.0) (Some o)) none st
      (work_begins c work) b number
      (moved_entered t.turns s.0 st.is_script o) (sym (work_is_single c u.0 (count_at t.turns s.0) work))

  -- ---- commands are answered

  done_answers : (u : TxnNo) (s : ScriptNo) (i : ℕ) (c had : Command) (r : Reply) (o : Open)
      → Stands t.turns s.0 (Some o) (Some had)
      → IsWork had → without_id c ≡ without_id had → i ≡ count_at t.turns s.0 + 1 → DoneIn (within_of (Some o)) u.0
      → Answers job trace (Done u s i c r)
  done_answers u s i c had r o st work same index is =
      let where_is = at s.0 (Some o) (Some had) st in (
        index ∙ ap (λ (x : Place). x.answered + 1) (sym where_is),
        subst (λ (x : Option Command). MayBeDone x c) (sym (next s.0 (Some o) (Some had) st)) (work, same),
        subst (λ (x : Place). DoneIn x.within u.0) (sym where_is) is,
      )

  commit_same : (e : Entry) → SameSeals trace (e ∷ trace) → CommitTells t.atoms t.commit t.broken (e ∷ trace)
  commit_same e same = commit_on t.atoms t.atoms trace (e ∷ trace) (same_flags t.atoms)
      (λ a is. is) same t.commit t.broken h.commit

  -- the place of what is answered outside of single commands
  answered_place : (s : ℕ) (o : Option Open) (c : Option Command) → Stands t.turns s o c
      → answered_at (stood (count_at t.turns s) o) ≡ stood (count_at t.turns s + 1) o
      → stood (count_at t.turns s + 1) (turn_at t.turns s).transaction ≡ answered_at (place (cs s) trace s)
  answered_place s o c st same =
      ap (stood (count_at t.turns s + 1)) st.transaction ∙ sym same ∙ ap answered_at (sym (at s o c st))

  pub told_done : (u : TxnNo) (s : ScriptNo) (i : ℕ) (c had : Command) (r : Reply) → t.broken ≡ None
      → Stands t.turns s.0 (Some (record { txn = u; single = false })) (Some had) → IsWork had
      → without_id c ≡ without_id had
      → i ≡ count_at t.turns s.0 + 1
      → ((b : Start) → start ≡ Some b → r ≡ w.reply c (content_of w b.content everything trace))
      → ((x : ℕ) → id_of c ≡ Some x → IsNewId start (Some (asked t.turns.job)) trace x)
      → IsTold w start clock (record t { turns = answered_one t.turns s.0 }) (Done u s i c r ∷ trace)
  told_done u s i c had r none st work same index reply ids =
      let o : Open = record { txn = u; single = false } in
      let m = moved_answered t.turns s.0 st.is_script in
      record {
        legal = legal_done w start job trace h.legal u s i c r (sound none)
            (done_answers u s i c had r o st work same index refl) reply ids;
        time = h.time;
        scripts = m.count ∙ h.scripts;
        places = placed_on (answered_one t.turns s.0).turns s.0
            (stood (count_at t.turns s.0 + 1) (turn_at t.turns s.0).transaction) (λ xs x. answered_at x) m
            (answered_place s.0 (Some o) (Some had) st refl);
        atoms = tell_done t.atoms trace u s i c r h.atoms;
        commit = commit_same (Done u s i c r) (record { sealed = refl; committed = refl; last = refl });
        broken = h.broken;
      }

  -- the transaction of a single command ends behind its answer
  told_ends : (e : Entry) (u : TxnNo) (s : ScriptNo) (c : Option Command) → t.broken ≡ None
      → Stands t.turns s.0 (Some (record { txn = u; single = true })) c
      → IsLegalSoFar w start (Some job) (e ∷ trace) → broken_at (e ∷ trace) ≡ None
      → ((q : ℕ) → place (cs q) (e ∷ trace) q ≡ cond (q == s.0) (answered_at (place (cs q) trace q))
      (place (cs q) trace q))
      → AtomsTell t.atoms (e ∷ trace) → SameSeals trace (Ended u ∷ e ∷ trace) → latest (e ∷ trace) ≤ clock
      → IsTold w start clock (record t {
        turns = left
            (answered_one t.turns s.0) s.0;
        atoms = with_ended t.atoms u.0;
      }) (Ended u ∷ e ∷ trace)
  told_ends e u s c none st legal no_break pl tells seals late =
      let o : Open = record { txn = u; single = true } in
      let older : List Entry = e ∷ trace in
      let n = count_at t.turns s.0 in
      let answered : Place = record { answered = n + 1; within = Answered u.0 } in
      let out : Place = record { answered = n + 1; within = Outside } in
      let here : place (cs s.0) older s.0 ≡ answered =
      pl s.0 ∙ cond-true (s.0 == s.0) (answered_at (place (cs s.0) trace s.0)) (place (cs s.0) trace s.0)
      (eq-eqb s.0 s.0 refl)
      ∙ ap answered_at (at s.0 (Some o) c st) in
      let m = moved_answered_left t.turns s.0 st.is_script in
      let ends : EndsOf (cs s.0) older s.0 u.0 = subst (λ (x : Place). MayEnd (next_of (cs s.0) x) x.within u.0)
      (sym here) refl in
      record {
        legal = legal_ended w start job older legal u s.0 no_break ends;
        time = late;
        scripts = m.count ∙ h.scripts;
        places = placed_ended (left (answered_one t.turns s.0) s.0).turns older u s.0 (stood (n + 1) None) legal.order m
            (ap (λ (x : Place). txn_in x.within) here)
            (sym (cond-true (u.0 == u.0) out answered (eq-eqb u.0 u.0 refl)) ∙ ap (ended_at (cs s.0) u.0) (sym here))
            (λ q other. pl q ∙ cond-false (q == s.0) (answered_at (place (cs q) trace q)) (place (cs q) trace q)
            (ne_eqb q s.0 other));
        atoms = tell_ended t.atoms older u tells (txn_is u.0 s.0 (open_is s.0 o c st refl));
        commit = commit_on t.atoms (with_ended t.atoms u.0) trace (Ended u ∷ older) (flags_ended t.atoms u.0)
            (λ a is. txn_by (with_ended t.atoms u.0) t.atoms
            (sym (ended_count u.0)) a is) seals t.commit t.broken h.commit;
        broken = none ∙ sym no_break;
      }
    where
      ended_count : (n : ℕ) → length (with_ended t.atoms n).txns ≡ length t.atoms.txns
      ended_count n = length-set t.atoms.txns (n - 1)
          (record (txn_of t.atoms n) { is_open = false })

  pub told_done_single : (u : TxnNo) (s : ScriptNo) (i : ℕ) (c had : Command) (r : Reply) → t.broken ≡ None
      → Stands t.turns s.0 (Some (record { txn = u; single = true })) (Some had) → IsWork had
      → without_id c ≡ without_id had
      → i ≡ count_at t.turns s.0 + 1
      → ((b : Start) → start ≡ Some b → r ≡ w.reply c (content_of w b.content everything trace))
      → ((x : ℕ) → id_of c ≡ Some x → IsNewId start (Some (asked t.turns.job)) trace x)
      → IsTold w start clock (record t {
        turns = left
            (answered_one t.turns s.0) s.0;
        atoms = with_ended t.atoms u.0;
      }) (Ended u ∷ Done u s i c r ∷ trace)
  told_done_single u s i c had r none st work same index reply ids =
      let o : Open = record { txn = u; single = true } in
      told_ends (Done u s i c r) u s (Some had) none st
      (legal_done w start job trace h.legal u s i c r (sound none)
      (done_answers u s i c had r o st work same index refl) reply ids)
      (sound none) (λ q. refl) (tell_done t.atoms trace u s i c r h.atoms)
      (record { sealed = refl; committed = refl; last = refl }) h.time

  -- ---- commands are refused

  refused_legal : (u : TxnNo) (s : ScriptNo) (i : ℕ) (r : Reply) (o : Option Open) (c : Command)
      → Stands t.turns s.0 o (Some c)
      → i ≡ count_at t.turns s.0 + 1 → MayBeRefused t.broken (Some c) (within_of o) u.0
      → ((clk : ℕ) → t.broken ≡ Some clk → (u.0 ≡ 0) × (r ≡ Reopen clk))
      → IsLegalSoFar w start (Some job) (Refused u s i r ∷ trace)
  refused_legal u s i r o c st index may reopens =
      let where_is = at s.0 o (Some c) st in
      let one = subst (λ (x : Option ℕ). MayBeRefused x (Some c) (within_of o) u.0) h.broken may in
      let two = subst (λ (x : Option Command). MayBeRefused (broken_at trace) x (within_of o) u.0)
      (sym (next s.0 o (Some c) st)) one in
      let three = subst (λ (x : Place). MayBeRefused (broken_at trace)
      (next_of (cs s.0) (place (cs s.0) trace s.0)) x.within u.0) (sym where_is) two in
      let answers : Answers job trace (Refused u s i r) =
      (index ∙ ap (λ (x : Place). x.answered + 1) (sym where_is), three) in
      legal_on w start job trace h.legal (Refused u s i r) (refused_follows job trace h.legal.order u s i r answers)
      (by_broken (broken_at trace) (λ clk is. reopens clk (h.broken ∙ is))) answers (λ b x. x) (λ x. x)
    where
      by_broken : (x : Option ℕ) → ((clk : ℕ) → x ≡ Some clk → (u.0 ≡ 0) × (r ≡ Reopen clk))
          → MayComeNow x (Refused u s i r)
      by_broken None is = tt
      by_broken (Some clk) is = is clk refl

  may_refuse : (c : Command) → IsWork c → (o : Option Open) (u : ℕ)
      → RefusedIn (within_of o) u → MayBeRefused None (Some c) (within_of o) u
  may_refuse commands.Begin work o u is = absurd work
  may_refuse commands.End work o u is = absurd work
  may_refuse commands.Commit work o u is = absurd work
  may_refuse c work o u is = is

  told_refused : (u : TxnNo) (s : ScriptNo) (i : ℕ) (r : Reply) (o : Option Open) (c : Command)
      → Stands t.turns s.0 o (Some c)
      → i ≡ count_at t.turns s.0 + 1 → MayBeRefused t.broken (Some c) (within_of o) u.0
      → ((clk : ℕ) → t.broken ≡ Some clk → (u.0 ≡ 0) × (r ≡ Reopen clk))
      → refused_at t.broken (stood (count_at t.turns s.0) o) ≡ stood (count_at t.turns s.0 + 1) o
      → IsTold w start clock (record t { turns = answered_one t.turns s.0 }) (Refused u s i r ∷ trace)
  told_refused u s i r o c st index may reopens same =
      let m = moved_answered t.turns s.0 st.is_script in
      record {
        legal = refused_legal u s i r o c st index may reopens;
        time = h.time;
        scripts = m.count ∙ h.scripts;
        places = placed_on (answered_one t.turns s.0).turns s.0
            (stood (count_at t.turns s.0 + 1) (turn_at t.turns s.0).transaction)
            (λ xs x. refused_at (broken_at trace) x) m
            (ap (stood (count_at t.turns s.0 + 1)) st.transaction ∙ sym same
            ∙ ap (λ (x : Option ℕ). refused_at x (stood (count_at t.turns s.0) o)) h.broken
            ∙ ap (refused_at (broken_at trace)) (sym (at s.0 o (Some c) st)));
        atoms = tell_refused t.atoms trace u s i r h.atoms;
        commit = commit_same (Refused u s i r) (record { sealed = refl; committed = refl; last = refl });
        broken = h.broken;
      }

  -- before a Broken entry no refusal has to say `reopen`
  no_reopen : (u : TxnNo) (r : Reply) → t.broken ≡ None → (clk : ℕ) → t.broken ≡ Some clk → (u.0 ≡ 0) × (r ≡ Reopen clk)
  no_reopen u r none clk is = absurd (cc (none, is))

  sound_refused : (p : Place) → t.broken ≡ None → refused_at t.broken p ≡ answered_at p
  sound_refused p none = ap (λ (x : Option ℕ). refused_at x p) none

  may_now : (c : Option Command) (o : Option Open) (u : ℕ) → t.broken ≡ None → MayBeRefused None c (within_of o) u
      → MayBeRefused t.broken c (within_of o) u
  may_now c o u none may = subst (λ (x : Option ℕ). MayBeRefused x c (within_of o) u) (sym none) may

  pub told_refused_outside : (u : TxnNo) (s : ScriptNo) (i : ℕ) (c : Command) (r : Reply) → t.broken ≡ None
      → Stands t.turns s.0 None (Some c) → IsWork c
      → i ≡ count_at t.turns s.0 + 1 → u.0 ≡ 0
      → IsTold w start clock (record t { turns = answered_one t.turns s.0 }) (Refused u s i r ∷ trace)
  told_refused_outside u s i c r none st work index is =
      told_refused u s i r None c st index (may_now (Some c) None u.0 none (may_refuse c work None u.0 is))
      (no_reopen u r none)
      (sound_refused (stood (count_at t.turns s.0) None) none)

  pub told_refused_commit : (u : TxnNo) (s : ScriptNo) (i : ℕ) (r : Reply) → t.broken ≡ None
      → Stands t.turns s.0 None (Some commands.Commit)
      → i ≡ count_at t.turns s.0 + 1 → u.0 ≡ 0
      → IsTold w start clock (record t { turns = answered_one t.turns s.0 }) (Refused u s i r ∷ trace)
  told_refused_commit u s i r none st index is =
      told_refused u s i r None commands.Commit st index (may_now (Some commands.Commit) None u.0 none (refl, is))
      (no_reopen u r none)
      (sound_refused (stood (count_at t.turns s.0) None) none)

  pub told_refused_inside : (u : TxnNo) (s : ScriptNo) (i : ℕ) (c : Command) (r : Reply) → t.broken ≡ None
      → Stands t.turns s.0 (Some (record { txn = u; single = false })) (Some c) → IsWork c
      → i ≡ count_at t.turns s.0 + 1
      → IsTold w start clock (record t { turns = answered_one t.turns s.0 }) (Refused u s i r ∷ trace)
  told_refused_inside u s i c r none st work index =
      let o : Open = record { txn = u; single = false } in
      told_refused u s i r (Some o) c st index
      (may_now (Some c) (Some o) u.0 none (may_refuse c work (Some o) u.0 refl)) (no_reopen u r none)
      (sound_refused (stood (count_at t.turns s.0) (Some o)) none)

  pub told_refused_single : (u : TxnNo) (s : ScriptNo) (i : ℕ) (c : Command) (r : Reply) → t.broken ≡ None
      → Stands t.turns s.0 (Some (record { txn = u; single = true })) (Some c) → IsWork c → i ≡ count_at t.turns s.0 + 1
      → IsTold w start clock (record t {
        turns = left
            (answered_one t.turns s.0) s.0;
        atoms = with_ended t.atoms u.0;
      }) (Ended u ∷ Refused u s i r ∷ trace)
  told_refused_single u s i c r none st work index =
      let o : Open = record { txn = u; single = true } in
      told_ends (Refused u s i r) u s (Some c) none st
      (refused_legal u s i r (Some o) c st index
      (may_now (Some c) (Some o) u.0 none (may_refuse c work (Some o) u.0 refl)) (no_reopen u r none))
      (sound none) (λ q. ap (λ (x : Option ℕ). cond (q == s.0) (refused_at x (place (cs q) trace q))
      (place (cs q) trace q)) (sound none))
      (tell_refused t.atoms trace u s i r h.atoms) (record { sealed = refl; committed = refl; last = refl }) h.time

  pub told_reopen : (u : TxnNo) (s : ScriptNo) (i : ℕ) (c : Command) (o : Option Open) (clk : ℕ)
      → t.broken ≡ Some clk → Stands t.turns s.0 o (Some c)
      → i ≡ count_at t.turns s.0 + 1 → u.0 ≡ 0
      → IsTold w start clock (record t { turns = answered_one t.turns s.0 }) (Refused u s i (Reopen clk) ∷ trace)
  told_reopen u s i c o clk some st index is =
      told_refused u s i (Reopen clk) o c st index
      (subst (λ (x : Option ℕ). MayBeRefused x (Some c) (within_of o) u.0) (sym some) is)
      (λ n has. (is, ap Reopen (cc (some, has))))
      (ap (λ (x : Option ℕ). refused_at x (stood (count_at t.turns s.0) o)) some)

  -- ---- transactions end

  told_leaves : (u : TxnNo) (s : ScriptNo) (c : Option Command) (new : List Turn) → t.broken ≡ None
      → Stands t.turns s.0 (Some (record { txn = u; single = false })) c → (c ≡ Some commands.End) ⊎ (c ≡ None)
      → Moved t.turns.turns new s.0 (stood (end_of c (count_at t.turns s.0)) None)
      → IsTold w start clock (record t { turns = record t.turns { turns = new }; atoms = with_ended t.atoms u.0 })
      (Ended u ∷ trace)
  told_leaves u s c new none st ends m =
      let o : Open = record { txn = u; single = false } in
      let n = count_at t.turns s.0 in
      let where_is = at s.0 (Some o) c st in
      let is_next = next s.0 (Some o) c st in
      let may : EndsOf (cs s.0) trace s.0 u.0 =
      subst (λ (x : Place). MayEnd (next_of (cs s.0) (place (cs s.0) trace s.0)) x.within u.0) (sym where_is)
      (refl, subst (λ (x : Option Command). (x ≡ Some commands.End) ⊎ (x ≡ None)) (sym is_next) ends) in
      let out : ℕ → Place = λ k. record { answered = k; within = Outside } in
      let stays : Place = record { answered = n; within = Inside u.0 } in
      let is_next_there : slice_get (cs s.0) n ≡ c = ap (next_of (cs s.0)) (sym where_is) ∙ is_next in
      record {
        legal = legal_ended w start job trace h.legal u s.0 (sound none) may;
        time = h.time;
        scripts = m.count ∙ h.scripts;
        places = placed_ended new trace u s.0 (stood (end_of c n) None) h.legal.order m
            (ap (λ (x : Place). txn_in x.within) where_is)
            (ap (λ (x : Option Command). out (end_of x n)) (sym is_next_there)
            ∙ sym (cond-true (u.0 == u.0) (out (end_of (slice_get (cs s.0) n) n)) stays (eq-eqb u.0 u.0 refl))
            ∙ ap (ended_at (cs s.0) u.0) (sym where_is))
            (λ q other. refl);
        atoms = tell_ended t.atoms trace u h.atoms (txn_is u.0 s.0 (open_is s.0 o c st refl));
        commit = commit_on t.atoms (with_ended t.atoms u.0) trace (Ended u ∷ trace) (flags_ended t.atoms u.0)
            (λ a is. txn_by (with_ended t.atoms u.0) t.atoms
            (sym (length-set t.atoms.txns (u.0 - 1)
            (record (txn_of t.atoms u.0) { is_open = false }))) a is)
            (record { sealed = refl; committed = refl; last = refl }) t.commit t.broken h.commit;
        broken = h.broken;
      }

  pub told_end : (u : TxnNo) (s : ScriptNo) → t.broken ≡ None
      → Stands t.turns s.0 (Some (record { txn = u; single = false })) (Some commands.End)
      → IsTold w start clock (record t {
        turns = answered_one
            (left t.turns s.0) s.0;
        atoms = with_ended t.atoms u.0;
      }) (Ended u ∷ trace)
  told_end u s none st =
      told_leaves u s (Some commands.End) (answered_one (left t.turns s.0) s.0).turns none st (inl refl)
      (moved_left_answered t.turns s.0 st.is_script)

  pub told_last : (u : TxnNo) (s : ScriptNo) → t.broken ≡ None
      → Stands t.turns s.0 (Some (record { txn = u; single = false })) None
      → IsTold w start clock (record t { turns = left t.turns s.0; atoms = with_ended t.atoms u.0 }) (Ended u ∷ trace)
  told_last u s none st =
      told_leaves u s None (left t.turns s.0).turns none st (inr refl) (moved_left t.turns s.0 st.is_script)

  -- ---- two atoms become one

  pub unsealed_is : (a : ℕ) → IsOpenAtom t.atoms a → IsUnsealed trace a
  unsealed_is a is =
      let b = is.atom.begun in
      record {
        counted = (b.some, omega (arith, b.within, h.atoms.begun));
        own = sym (h.atoms.atom a b) ∙ is.atom.own;
        unsealed = λ s. true≢false (sym ((h.atoms.sealed a b).1 s) ∙ is.unsealed);
      }

  pub told_fuse : (kept gone : AtomNo) (node : NodeId) (atoms : AtomsSeen) → t.broken ≡ None
      → IsOpenAtom t.atoms kept.0 → IsOpenAtom t.atoms gone.0
      → kept.0 < gone.0 → Fuses t.atoms atoms kept.0 gone.0
      → IsTold w start clock (record t { atoms = atoms }) (Fuse kept gone node ∷ trace)
  told_fuse kept gone node atoms none one two less f = record {
    legal = legal_on w start job trace h.legal (Fuse kept gone node)
        (less, unsealed_is kept.0 one, unsealed_is gone.0 two) (now none (Fuse kept gone node)) tt (λ b x. x)
        (λ x. x);
    time = h.time;
    scripts = h.scripts;
    places = h.places;
    atoms = tell_fuse t.atoms atoms kept.0 gone.0 f trace kept gone node refl refl h.atoms;
    commit = commit_on t.atoms atoms trace (Fuse kept gone node ∷ trace) (flags_fuse t.atoms atoms kept.0 gone.0 f)
        (λ a is. txn_by atoms t.atoms (sym (fused_count t.atoms atoms kept.0 gone.0 f)) a is)
        (record { sealed = refl; committed = refl; last = refl }) t.commit t.broken h.commit;
    broken = h.broken;
  }

  -- ---- commits

  uncommitted : (a : ℕ) → IsOpenAtom t.atoms a → is_committed t.atoms a ≡ false
  uncommitted a is = false_from_ne_true (is_committed t.atoms a)
      (λ c. (unsealed_is a is).unsealed
      (committed_sealed trace a h.legal.order ((h.atoms.committed a is.atom.begun).0 c)))

  pub told_sealed : (a : AtomNo) → t.broken ≡ None → t.commit ≡ None → IsOpenAtom t.atoms a.0
      → ((n : ℕ) → IsOpenIn t.atoms a.0 n → ⊥)
      → IsTold w start clock (record t { atoms = with_sealed t.atoms a.0; commit = Some a.0 }) (Sealed a ∷ trace)
  told_sealed a none rest is closed =
      let begun = is.atom.begun in
      let x : AtomState = record (state_of t.atoms a.0) { sealed = true } in
      let even : sealed_in trace ≡ committed_in trace = subst (λ (o : Option ℕ). IsCommitting t.atoms o trace) rest
      (h.commit.under_way none) in
      let un : is_committed (with_sealed t.atoms a.0) a.0 ≡ false = state_kept t.atoms a.0 x
      (λ (y : AtomState). y.committed) refl a.0 ∙ uncommitted a.0 is in
      let was = txn_by t.atoms (with_sealed t.atoms a.0) refl in
      record {
        legal = legal_on w start job trace h.legal (Sealed a)
            (unsealed_is a.0 is, λ n s opn same. closed n (open_in n s opn same), even) (now none (Sealed a)) tt
            (λ b y. y) (λ y. y);
        time = h.time;
        scripts = h.scripts;
        places = h.places;
        atoms = tell_sealed t.atoms trace a h.atoms begun;
        commit = record {
          under_way = λ q. record {
            atom = txn_by (with_sealed t.atoms a.0) t.atoms refl a.0 begun;
            last = refl;
            counts = ap (λ (n : ℕ). n + 1) even ∙ ap (λ (b : Bool). committed_in trace + cond b 0 1) (sym un);
          };
          one = λ n q there sealed clean. elim (cases_eq n a.0) [
            | inl here ↦ ap Some (sym here)
            | inr other ↦
                let e = state_other t.atoms a.0 x n begun (was n there) other in
                let had = h.commit.one n none (was n there) (sym (ap (λ (y : AtomState). y.sealed) e) ∙ sealed)
                (sym (ap (λ (y : AtomState). y.cleaned) e) ∙ clean) in
                absurd (cc (rest, had))
          ];
          none = λ c some. absurd (cc (none, some));
        };
        broken = h.broken;
      }
    where
      open_in : (n s : ℕ) → IsOpen trace n s → atom_in trace n ≡ a.0 → IsOpenIn t.atoms a.0 n
      open_in n s opn same =
          let there = txn_is n s opn in
          record {
            begun = there;
            atom = h.atoms.atom n there ∙ same;
            opened = true_from_ne_false (txn_of t.atoms n).is_open (λ ends. opn.1 ((h.atoms.ended n there).0 ends));
          }

  under : (a : ℕ) → t.broken ≡ None → t.commit ≡ Some a → IsUnderWay t.atoms a trace
  under a none some = subst (λ (o : Option ℕ). IsCommitting t.atoms o trace) some (h.commit.under_way none)

  pub told_committed : (a : AtomNo) (moment : ℕ) → t.broken ≡ None → t.commit ≡ Some a.0
      → is_committed t.atoms a.0 ≡ false → clock ≤ moment
      → IsTold w start moment (record t { atoms = with_committed t.atoms a.0 }) (Committed a moment ∷ trace)
  told_committed a moment none some un le =
      let c = under a.0 none some in
      let x : AtomState = record (state_of t.atoms a.0) { committed = true } in
      let more : sealed_in trace ≡ committed_in trace + 1 = c.counts
      ∙ ap (λ (b : Bool). committed_in trace + cond b 0 1) un in
      let here : is_committed (with_committed t.atoms a.0) a.0 ≡ true = ap (λ (y : AtomState). y.committed)
      (state_set t.atoms a.0 x c.atom h.atoms.states a.0 refl) in
      let same_sealed = state_kept t.atoms a.0 x (λ (y : AtomState). y.sealed) refl in
      let same_cleaned = state_kept t.atoms a.0 x (λ (y : AtomState). y.cleaned) refl in
      let was = txn_by t.atoms (with_committed t.atoms a.0) refl in
      let done : IsUnderWay (with_committed t.atoms a.0) a.0 (Committed a moment ∷ trace) = record {
        atom = txn_by (with_committed t.atoms a.0) t.atoms refl a.0 c.atom;
        last = c.last;
        counts = more ∙ omega arith ∙ ap (λ (b : Bool). (committed_in trace + 1) + cond b 0 1) (sym here);
      } in
      record {
        legal = legal_on w start job trace h.legal (Committed a moment) (c.last, more, omega (arith, h.time, le))
            (now none (Committed a moment)) tt (λ b y. y) (λ y. y);
        time = omega arith;
        scripts = h.scripts;
        places = h.places;
        atoms = tell_committed t.atoms trace a moment h.atoms c.atom;
        commit = record {
          under_way = λ q. subst (λ (o : Option ℕ). IsCommitting (with_committed t.atoms a.0) o
              (Committed a moment ∷ trace)) (sym some) done;
          one = λ n q there sealed clean. h.commit.one n none (was n there) (sym (same_sealed n) ∙ sealed)
              (sym (same_cleaned n) ∙ clean);
          none = h.commit.none;
        };
        broken = h.broken;
      }

  pub told_settled : (a : ℕ) → t.broken ≡ None → t.commit ≡ Some a → is_committed t.atoms a ≡ true
      → IsTold w start clock (record t { atoms = with_cleaned t.atoms a; commit = None }) trace
  told_settled a none some done =
      let c = under a none some in
      let x : AtomState = record (state_of t.atoms a) { cleaned = true } in
      let was = txn_by t.atoms (with_cleaned t.atoms a) refl in
      let same_sealed = state_kept t.atoms a x (λ (y : AtomState). y.sealed) refl in
      let same_committed = state_kept t.atoms a x (λ (y : AtomState). y.committed) refl in
      record {
        legal = h.legal;
        time = h.time;
        scripts = h.scripts;
        places = h.places;
        atoms = tell_cleaned t.atoms trace a h.atoms;
        commit = record {
          under_way = λ q. c.counts ∙ ap (λ (b : Bool). committed_in trace + cond b 0 1) done ∙ omega arith;
          one = λ n q there sealed clean. elim (cases_eq n a) [
            | inl here ↦ absurd (true≢false
                (sym (ap (λ (y : AtomState). y.cleaned) (state_set t.atoms a x c.atom h.atoms.states n here))
                ∙ clean))
            | inr other ↦
                let e = state_other t.atoms a x n c.atom (was n there) other in
                let had = h.commit.one n none (was n there) (sym (ap (λ (y : AtomState). y.sealed) e) ∙ sealed)
                (sym (ap (λ (y : AtomState). y.cleaned) e) ∙ clean) in
                let same : n ≡ a = cc (had, some) in
                absurd (other same)
          ];
          none = λ clk is. absurd (cc (none, is));
        };
        broken = h.broken;
      }

  pub told_broken : (moment faults : ℕ) → t.broken ≡ None → clock ≤ moment
      → IsTold w start moment (record t { commit = None; broken = Some moment }) (Broken moment faults ∷ trace)
  told_broken moment faults none le = record {
    legal = legal_on w start job trace h.legal (Broken moment faults) (omega (arith, h.time, le))
        (now none (Broken moment faults)) tt (λ b y. y) (λ y. y);
    time = omega arith;
    scripts = h.scripts;
    places = h.places;
    atoms = tell_broken t.atoms trace moment faults h.atoms;
    commit = record {
      under_way = λ q. absurd (cc q);
      one = λ n q there sealed clean. absurd
          (cc q);
      none = λ clk is. refl;
    };
    broken = refl;
  }

  -- ---- a commit is acknowledged

  txn_by_begin : (n s : ℕ) → IsBegun trace n s → IsTxn t.atoms n
  txn_by_begin n s b = let k =
      begun_counted trace n s h.legal.order b in record { some = k.0; within = omega (arith, k.1, h.atoms.begun) }

  script_is : (n s : ℕ) → IsBegun trace n s → (txn_of t.atoms n).script ≡ s
  script_is n s b = one_script trace n (txn_of t.atoms n).script s h.legal.order
      (h.atoms.script n (txn_by_begin n s b)) b

  pub atom_is : (n s : ℕ) → IsBegun trace n s → IsTxn t.atoms (atom_of t.atoms n)
  atom_is n s b =
      let there = txn_by_begin n s b in
      let k = begun_counted trace n s h.legal.order b in
      let a = atom_begun trace n h.legal.order k.0 k.1 in
      let e = h.atoms.atom n there in
      record { some = omega (arith, a.0, e); within = omega (arith, a.1, e, h.atoms.begun) }

  -- the atom of a transaction is one
  pub atom_named : (n : ℕ) → IsTxn t.atoms n → IsAtom t.atoms (atom_of t.atoms n)
  atom_named n is =
      let there = atom_is n (txn_of t.atoms n).script (h.atoms.script n is) in
      let same = h.atoms.atom n is in
      record {
        begun = there;
        own =
            h.atoms.atom (atom_of t.atoms n) there ∙ ap (atom_in trace) same ∙ own_name trace n h.legal.order
            ∙ sym same;
      }

  last_is : (s u : ℕ) → IsLastOf t.atoms s u → u ≡ last_of trace s
  last_is s u is = omega (arith, at_most, at_least)
    where
      at_most : u ≤ last_of trace s
      at_most = elim (cases_eq u 0) [
        | inl zero_one ↦ omega (arith, zero_one)
        | inr other ↦
            let mine = is.is_one other in
            last_greatest trace u s h.legal.order (subst (IsBegun trace u) mine.1 (h.atoms.script u mine.0))
      ]

      at_least : last_of trace s ≤ u
      at_least = ⊎_elim (λ none. omega (arith, none))
          (λ b. is.no_later (last_of trace s) (txn_by_begin (last_of trace s) s b) (script_is (last_of trace s) s b))
          (last_begun trace s)

  pub told_acked : (s : ScriptNo) (u : TxnNo) → t.broken ≡ None → Stands t.turns s.0 None (Some commands.Commit)
      → IsLastOf t.atoms s.0 u.0
      → AllCommitted t.atoms s.0
      → IsTold w start clock (record t { turns = answered_one t.turns s.0 }) (Acked s u clock ∷ trace)
  told_acked s u none st last all =
      let m = moved_answered t.turns s.0 st.is_script in
      let answers : Answers job trace (Acked s u clock) = (
        ap (λ (x : Place). x.within) (at s.0 None (Some commands.Commit) st),
        next s.0 None
            (Some commands.Commit) st,
      ) in
      record {
        legal = legal_on w start job trace h.legal (Acked s u clock) (
          last_is s.0 u.0 last,
          λ n b. (let there = txn_by_begin n s.0 b in
              subst (IsCommitted trace) (h.atoms.atom n there)
              ((h.atoms.committed (atom_of t.atoms n) (atom_is n s.0 b)).0 (all n there (script_is n s.0 b)))),
          h.time,
        ) (now none (Acked s u clock)) answers (λ b x. x) (λ x. x);
        time = omega arith;
        scripts = m.count ∙ h.scripts;
        places = placed_on (answered_one t.turns s.0).turns s.0
            (stood (count_at t.turns s.0 + 1) (turn_at t.turns s.0).transaction) (λ xs x. answered_at x) m
            (answered_place s.0 None (Some commands.Commit) st refl);
        atoms = tell_acked t.atoms trace s u clock h.atoms;
        commit = commit_same (Acked s u clock) (record { sealed = refl; committed = refl; last = refl });
        broken = h.broken;
      }
