-- Steps without an entry, the start of a run, and its end.
use Rattle.std.proofs.Common.{◌≡◌, ◌⊎◌, inl, inr, ⊎_elim, ℕ, zero, suc, ◌+◌, ◌-◌, ◌<◌, ◌≤◌, ◌==◌, Bool, true, false, true≢false, cond, List, [], ◌∷◌, ◌++◌, map, length, replicate, get_or, set, Option, Some, None, refl, sym, ◌∙◌, ap, subst, arith}
use Rattle.std.specs.List.{count_by}
use Rattle.std.proofs.lemmas.Bool.{and_parts, cases_Bool, cases_eq, cond-false, cond-true, eq-eqb, false_from_ne_true, ne_eqb, true_from_ne_false, cases_lt}
use Rattle.std.proofs.lemmas.List.Sums.{sum_by-cons}
use Rattle.std.proofs.lemmas.List.{get_or_past, length-replicate, length-set}
use Rattle.r4_atoms.specs.Atoms.{AtomsSeen, IsAtom, IsBegun as IsTxn, TxnSeen, atom_of, is_open_in, is_sealed, no_txn, state_of, txn_of, with_state, new_atom}
use Rattle.r4_atoms.specs.declared.things.Account.{Account}
use Rattle.r4_atoms.specs.declared.things.AtomState.{AtomState}
use Rattle.r4_content.specs.Locality.{Meaning}
use Rattle.r4_content.specs.declared.command.Command.{Command}
use Rattle.r4_content.specs.declared.reply.Reply.{Reply}
use Rattle.r4_turns.specs.r4_script.declared.job.Job.{Job}
use Rattle.r4_turns.specs.r4_script.declared.job.Script.{Script}
use Rattle.r4_trace.specs.Ids.{Start}
use Rattle.r4_trace.specs.Job.{AllClosed, Answered, Asked, HasNoBegin, Outside, Place, at_start, commands_of, place, pushed, pushed_at, txn_in, Single, Inside}
use Rattle.r4_trace.specs.Legal.{IsLegal, IsLegalSoFar, IsWhole, RepliesFrom}
use Rattle.r4_trace.specs.Traced.{IsBegun, IsOpen, IsSealed, atom_in}
use Rattle.r4_trace.specs.declared.entry.Entry.{Entry}
use Rattle.r4_trace.proofs.Legally.{grown, grown_places}
use Rattle.r4_trace.proofs.Places.{open_place, place_open}
use Rattle.r4_trace.proofs.Stepping.{one_script, whole}
use Rattle.r4_turns.specs.Turns.{IsScript, commands_at, dropped, given_back, gone_out, no_script, start as no_turn, turn_at, with_command, with_turn, TurnsSeen}
use Rattle.r4_turns.specs.declared.out.Numbers.{Numbers}
use Rattle.r4_turns.specs.declared.out.Out.{Out}
use Rattle.r4_turns.specs.declared.turn.Open.{Open}
use Rattle.r4_turns.specs.declared.turn.Turn.{Turn}
use Rattle.r4_history.specs.Tables.{IsOver, Tables, asked, opened, place_at, place_of, within_of}
use Rattle.r4_history.specs.Told.{IsCommitting, IsTold}
use Rattle.r4_history.proofs.AtomSteps.{SameFlags, last_is_sealed, sealed_own, state_count, state_kept, tell_same, txn_by}
use Rattle.r4_history.proofs.CommitSteps.{commit_on}
use Rattle.r4_history.proofs.Places.{commands_are, moved_with, place_is}
use Rattle.r4_history.proofs.Told.{atom_named, txn_is}
use Rattle.r4_trace.proofs.FirstOnes.{begun_counted}

no_replies : (w : Meaning Command Reply) (o : Option Start) → RepliesFrom w o []
no_replies w None = tt
no_replies w (Some b) = tt

nothing_at : (n i : ℕ) → get_or (replicate n no_turn) i no_turn ≡ no_turn
nothing_at zero i = refl
nothing_at (suc n) zero = refl
nothing_at (suc n) (suc i) = nothing_at n i

placed_first : (n s : ℕ) → place_at (replicate n no_turn) s ≡ at_start
placed_first n zero = refl
placed_first n (suc i) = ap place_of (nothing_at n i)

none_begun : (s : AtomsSeen) (t : ℕ) → s.txns ≡ [] → IsTxn s t → ⊥
none_begun s t none is = let e : length s.txns ≡ 0 = ap length none in omega (arith, is.some, is.within, e)

pub told_first : (w : Meaning Command Reply) (start : Option Start) (clock : ℕ) (job : Job) (spare txn_spare : ℕ)
    → IsTold w start clock (opened job spare txn_spare) []
told_first w start clock job spare txn_spare =
    let none = λ (t : ℕ). none_begun (opened job spare txn_spare).atoms t refl in
    record {
      legal = record { order = tt; replies = no_replies w start; ids = tt; answers = tt };
      time = omega arith;
      scripts = length-replicate (length job.scripts) no_turn;
      places = placed_first (length job.scripts);
      atoms = record {
        states = refl;
        begun = refl;
        script = λ t is. absurd (none t is);
        atom = λ t is. absurd (none t is);
        ended = λ t is. absurd (none t is);
        sealed = λ t is. absurd (none t is);
        committed = λ t is. absurd (none t is);
      };
      commit = record { under_way = λ q. refl; one = λ a q is. absurd (none a is); none = λ c q. refl };
      broken = refl;
    }

-- ---- the job grows

pushed_nth : (scripts : List Script) (n : ℕ) (c : Command)
    → map (λ (x : Script). x.commands)
    (set scripts n (record { commands = (get_or scripts n no_script).commands ++ c ∷ [] }))
    ≡ pushed_at (map (λ (x : Script). x.commands) scripts) n c
pushed_nth [] n c = refl
pushed_nth (x ∷ scripts) zero c = refl
pushed_nth (x ∷ scripts) (suc n) c = ap (λ (l : Asked). x.commands ∷ l) (pushed_nth scripts n c)

pub pushed_is : (t : TurnsSeen) (s : ℕ) (c : Command) → 0 < s
    → asked (with_command t s c).job ≡ pushed (asked t.job) s c
pushed_is t zero c some = absurd (omega (arith, some))
pushed_is t (suc n) c some =
    let e : suc n - 1 ≡ n = omega arith in
    ap (λ (k : ℕ). map (λ (x : Script). x.commands)
    (set t.job.scripts k (record { commands = (get_or t.job.scripts k no_script).commands ++ c ∷ [] }))) e
    ∙ pushed_nth t.job.scripts n c

module _ (w : Meaning Command Reply) (start : Option Start) (clock : ℕ) (t : Tables) (trace : List Entry)
    (h : IsTold w start clock t trace) where
  pub told_later : (now : ℕ) → clock ≤ now → IsTold w start now t trace
  told_later now le = record {
    legal = h.legal;
    time = omega (arith, h.time, le);
    scripts = h.scripts;
    places = h.places;
    atoms = h.atoms;
    commit = h.commit;
    broken = h.broken;
  }

  -- a turn that stands where it stood
  told_turn : (s : ℕ) (turn : Turn) → IsScript t.turns s → place_of turn ≡ place_of (turn_at t.turns s)
      → IsTold w start clock (record t { turns = with_turn t.turns s turn }) trace
  told_turn s turn is same =
      let m = moved_with t.turns s turn is in
      record {
        legal = h.legal;
        time = h.time;
        scripts = m.count ∙ h.scripts;
        places = λ q. m.placed q ∙ elim (cases_eq q s) [
          | inl here ↦
              cond-true (q == s) (place_of turn) (place_at t.turns.turns q) (eq-eqb q s here) ∙ same
              ∙ sym (place_is t.turns.turns s is.0) ∙ ap (place_at t.turns.turns) (sym here) ∙ h.places q
          | inr other ↦ cond-false (q == s) (place_of turn) (place_at t.turns.turns q) (ne_eqb q s other) ∙ h.places q
        ];
        atoms = h.atoms;
        commit = h.commit;
        broken = h.broken;
      }

  pub told_out : (s : ℕ) (out : Out) → IsScript t.turns s
      → IsTold w start clock (record t { turns = gone_out t.turns s out }) trace
  told_out s out is = told_turn s (record (turn_at t.turns s) { out = Some out }) is refl

  pub told_dropped : (s : ℕ) → IsScript t.turns s → IsTold w start clock (record t { turns = dropped t.turns s }) trace
  told_dropped s is = told_turn s (record (turn_at t.turns s) { out = None }) is refl

  pub told_back : (s : ℕ) (n : Numbers) → IsScript t.turns s
      → IsTold w start clock (record t { turns = given_back t.turns s n }) trace
  told_back s n is = told_turn s (record (turn_at t.turns s) { out = None; numbers = Some n }) is refl

  pub told_pushed : (s : ℕ) (c : Command) → IsScript t.turns s → HasNoBegin (commands_at t.turns s)
      → IsTold w start clock (record t { turns = with_command t.turns s c }) trace
  told_pushed s c is none =
      let job = asked t.turns.job in
      let few = subst HasNoBegin (sym (commands_are t.turns s is.0)) none in
      let e = sym (pushed_is t.turns s c is.0) in
      record {
        legal = subst (λ (j : Asked). IsLegalSoFar w start (Some j) trace) e (grown w start job trace s c few h.legal);
        time = h.time;
        scripts = h.scripts ∙ sym
            (length-set t.turns.job.scripts (s - 1) (record { commands = commands_at t.turns s ++ c ∷ [] }));
        places = λ q. h.places q ∙ sym (grown_places w start job trace s c few h.legal q)
            ∙ ap (λ (j : Asked). place (commands_of j q) trace q) e;
        atoms = h.atoms;
        commit = h.commit;
        broken = h.broken;
      }

  told_atoms : (atoms : AtomsSeen) → atoms.txns ≡ t.atoms.txns → length atoms.atoms ≡ length t.atoms.atoms
      → SameFlags t.atoms atoms
      → IsTold w start clock (record t { atoms = atoms }) trace
  told_atoms atoms txns count flags = record {
    legal = h.legal;
    time = h.time;
    scripts = h.scripts;
    places = h.places;
    atoms = tell_same t.atoms atoms trace txns count flags h.atoms;
    commit = commit_on t.atoms atoms trace trace flags (λ a is. txn_by atoms t.atoms (sym (ap length txns)) a is)
        (record { sealed = refl; committed = refl; last = refl }) t.commit t.broken h.commit;
    broken = h.broken;
  }

  pub told_owners : (atoms : AtomsSeen) → atoms.txns ≡ t.atoms.txns → atoms.atoms ≡ t.atoms.atoms
      → IsTold w start clock (record t { atoms = atoms }) trace
  told_owners atoms txns states =
      let same = λ (a : ℕ). ap
      (λ (xs : List AtomState). get_or xs (a - 1) new_atom) states in
      told_atoms atoms txns (ap length states) (record {
        sealed = λ a is. ap (λ (x : AtomState). x.sealed) (same a);
        committed = λ a is. ap (λ (x : AtomState). x.committed) (same a);
        cleaned = λ a is. ap (λ (x : AtomState). x.cleaned) (same a);
        first = λ a is. inl (txn_by t.atoms atoms (ap length txns) a is);
      })

  pub told_charged : (a : ℕ) (account : Account)
      → IsTold w start clock (record t {
        atoms = with_state t.atoms a
            (record (state_of t.atoms a) { account = account });
      }) trace
  told_charged a account =
      let x : AtomState = record (state_of t.atoms a) { account = account } in
      told_atoms (with_state t.atoms a x) refl (state_count t.atoms a x) (record {
        sealed = λ n is. state_kept t.atoms a x (λ (y : AtomState). y.sealed) refl n;
        committed = λ n is. state_kept t.atoms a x (λ (y : AtomState). y.committed) refl n;
        cleaned = λ n is. state_kept t.atoms a x (λ (y : AtomState). y.cleaned) refl n;
        first = λ n is. inl (txn_by t.atoms (with_state t.atoms a x) refl n is);
      })

  -- ---- what the tables tell

  pub told_legal : IsLegal w start (Some (asked t.turns.job)) trace
  told_legal = record { so_far = h.legal; closed = closed }
    where
      by_single : (b : Bool) (n m : ℕ)
          → cond b (Single n) (Inside n) ≡ Answered m → ⊥
      by_single true n m is = cc is
      by_single false n m is = cc is

      never : (o : Option Open) (m : ℕ) → within_of o ≡ Answered m → ⊥
      never None m is = cc is
      never (Some o) m is = by_single o.single o.txn.0 m is

      never_at : (s m : ℕ) → (place_at t.turns.turns s).within ≡ Answered m → ⊥
      never_at zero m is = cc is
      never_at (suc i) m is = never (get_or t.turns.turns i no_turn).transaction m is

      closed : AllClosed (asked t.turns.job) trace
      closed s m is = never_at s m (ap (λ (p : Place). p.within) (h.places s) ∙ is)

  -- what a script has open is in the table of atoms, as its own
  pub open_in_both : (s : ℕ) (o : Open) → IsScript t.turns s → (turn_at t.turns s).transaction ≡ Some o
      → IsTxn t.atoms o.txn.0 × ((txn_of t.atoms o.txn.0).is_open ≡ true) × ((txn_of t.atoms o.txn.0).script ≡ s)
  open_in_both s o is some =
      let cs = commands_of (asked t.turns.job) s in
      let there : place cs trace s ≡ place_of (turn_at t.turns s) = sym (h.places s) ∙ place_is t.turns.turns s is.0 in
      let has : txn_in (place cs trace s).within ≡ Some o.txn.0 =
      ap (λ (p : Place). txn_in p.within) there ∙ ap (λ (x : Option Open). txn_in (within_of x)) some
      ∙ by_single o.single o.txn.0 in
      let opn = place_open cs trace o.txn.0 s h.legal.order has in
      let txn = txn_is w start clock t trace h o.txn.0 s opn in (
        txn,
        true_from_ne_false (txn_of t.atoms o.txn.0).is_open (λ ends. opn.1 ((h.atoms.ended o.txn.0 txn).0 ends)),
        one_script trace o.txn.0 (txn_of t.atoms o.txn.0).script s h.legal.order (h.atoms.script o.txn.0 txn) opn.0,
      )
    where
      by_single : (b : Bool) (n : ℕ)
          → txn_in (cond b (Single n) (Inside n)) ≡ Some n
      by_single true n = refl
      by_single false n = refl

  -- the atom whose commit is under way is sealed, and names itself
  pub commit_is : (a : ℕ) → t.commit ≡ Some a → IsAtom t.atoms a × (is_sealed t.atoms a ≡ true)
  commit_is a some = by_broken t.broken refl
    where
      by_broken : (o : Option ℕ) → t.broken ≡ o → IsAtom t.atoms a × (is_sealed t.atoms a ≡ true)
      by_broken (Some c) is = absurd (cc (h.commit.none c is, some))
      by_broken None is =
          let c = subst (λ (o : Option ℕ). IsCommitting t.atoms o trace) some (h.commit.under_way is) in
          let s = last_is_sealed trace a c.last in (
            record { begun = c.atom; own = h.atoms.atom a c.atom ∙ sealed_own trace a h.legal.order s },
            (h.atoms.sealed a c.atom).1 s,
          )

  -- ---- the end of a run

  pub told_over : IsOver t → IsWhole (asked t.turns.job) trace
  told_over over = whole (asked t.turns.job) trace h.legal.order (record {
    answered = λ s. ap (λ (p : Place). p.answered) (sym (h.places s)) ∙ answered s;
    outside = λ s. ap (λ (p : Place). p.within) (sym (h.places s)) ∙ outside s;
    sealed = λ n s b. all_sealed n s b;
    committed = subst (λ (o : Option ℕ). IsCommitting t.atoms o trace) over.no_commit (h.commit.under_way over.sound);
    sound = sym h.broken ∙ over.sound;
  })
    where
      none_there : (s : ℕ) → (IsScript t.turns (suc s) → ⊥)
          → (turn_at t.turns (suc s) ≡ no_turn) × (commands_at t.turns (suc s) ≡ [])
      none_there s out =
          let e : suc s - 1 ≡ s = omega arith in
          let past : length t.turns.turns ≤ s = elim (cases_lt s (length t.turns.turns)) [
            | inl less ↦ absurd (out (omega arith, omega (arith, less)))
            | inr le ↦ le
          ] in (
            ap (λ (k : ℕ). get_or t.turns.turns k no_turn) e ∙ get_or_past t.turns.turns s no_turn past,
            ap (λ (k : ℕ). (get_or t.turns.job.scripts k no_script).commands) e
                ∙ ap (λ (x : Script). x.commands)
                (get_or_past t.turns.job.scripts s no_script (omega (arith, past, h.scripts))),
          )

      is_script : (s : ℕ) → IsScript t.turns (suc s) ⊎ (IsScript t.turns (suc s) → ⊥)
      is_script s = elim (cases_lt s (length t.turns.turns)) [
        | inl less ↦ inl (omega arith, omega (arith, less))
        | inr le ↦ inr (λ is. omega (arith, le, is.1))
      ]

      answered : (s : ℕ) → (place_at t.turns.turns s).answered ≡ length (commands_of (asked t.turns.job) s)
      answered zero = refl
      answered (suc i) =
          ap (λ (p : Place). p.answered) (place_is t.turns.turns (suc i) (omega arith))
          ∙ ⊎_elim (λ is. (over.finished (suc i) is).answered)
          (λ out. ap (λ (x : Turn). x.answered) (none_there i out).0 ∙ sym (ap length (none_there i out).1))
          (is_script i)
          ∙ sym (ap length (commands_are t.turns (suc i) (omega arith)))

      outside : (s : ℕ) → (place_at t.turns.turns s).within ≡ Outside
      outside zero = refl
      outside (suc i) =
          ap (λ (p : Place). p.within) (place_is t.turns.turns (suc i) (omega arith))
          ∙ ⊎_elim (λ is. ap within_of ((over.finished (suc i) is).closed over.sound))
          (λ out. ap (λ (x : Turn). within_of x.transaction) (none_there i out).0) (is_script i)

      no_open : (n s : ℕ) → IsOpen trace n s → ⊥
      no_open n s opn =
          cc (
            open_place (commands_of (asked t.turns.job) s) trace n s h.legal.order opn,
            ap
                (λ (p : Place). txn_in p.within) (sym (h.places s)) ∙ ap txn_in (outside s),
          )

      closed : (a n : ℕ) → IsTxn t.atoms n → is_open_in a (txn_of t.atoms n) ≡ false
      closed a n is = false_from_ne_true (is_open_in a (txn_of t.atoms n))
          (λ both. let opened = (and_parts (txn_of t.atoms n).is_open ((txn_of t.atoms n).atom == a) both).0 in
          no_open n (txn_of t.atoms n).script
          (h.atoms.script n is, λ ends. true≢false (sym opened ∙ (h.atoms.ended n is).1 ends)))

      count_none : (p : TxnSeen → Bool) (l : List TxnSeen) → ((i : ℕ) → i < length l → p (get_or l i no_txn) ≡ false)
          → count_by p l ≡ 0
      count_none p [] none = refl
      count_none p (x ∷ l) none =
          let rest = count_none p l (λ i lt. none (suc i) (omega (arith, lt))) in
          let first = cond-false {A = ℕ} (p x) 1 0 (none 0 (omega arith)) in
          let step : count_by p (x ∷ l) ≡ cond (p x) 1 0 + count_by p l =
          sum_by-cons (λ (y : TxnSeen). cond {A = ℕ} (p y) 1 0) x l in
          step ∙ omega (arith, rest, first)

      all_sealed : (n s : ℕ) → IsBegun trace n s → IsSealed trace (atom_in trace n)
      all_sealed n s b =
          let begun = begun_counted trace n s h.legal.order b in
          let txn : IsTxn t.atoms n = record { some = begun.0; within = omega (arith, begun.1, h.atoms.begun) } in
          let a = atom_of t.atoms n in
          let same = h.atoms.atom n txn in
          let atom = atom_named w start clock t trace h n txn in
          subst (IsSealed trace) same (elim (cases_Bool (is_sealed t.atoms a)) [
            | inl is ↦ (h.atoms.sealed a atom.begun).0 is
            | inr un ↦ absurd (over.no_atom a (record {
              unsealed = record { atom = atom; unsealed = un };
              none = count_none (is_open_in a) t.atoms.txns (λ i lt.
                  (let e : suc i - 1 ≡ i = omega arith in
                  ap (λ (k : ℕ). is_open_in a (get_or t.atoms.txns k no_txn)) (sym e)
                  ∙ closed a (suc i) (record { some = omega arith; within = omega (arith, lt) })));
            }))
          ])
