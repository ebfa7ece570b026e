-- Where the turn of one script changes: what is added up over all turns, tasks, and room for entries.
use Rattle.std.proofs.Common.{◌≡◌, inl, inr, ℕ, zero, suc, ◌+◌, ◌-◌, ◌<◌, ◌≤◌, Bool, List, [], ◌∷◌, get_or, set, drop}
use Rattle.std.proofs.Common.{length, slice_get, Some, None, sym, ◌∙◌, ap, arith, cond, add-one}
use Rattle.std.specs.Prelude.{sum_by, count_by}
use Rattle.std.proofs.lemmas.Bool.{cases_eq}
use Rattle.std.proofs.lemmas.List.{length-set}
use Rattle.std.proofs.lemmas.List.Sums.{sum_by-cons, sum_by-set}
use Rattle.r4_content.specs.declared.command.Command.{Command}
use Rattle.r4_content.specs.declared.command.Command.TheVariants as asks
use Rattle.r4_history.specs.Held.{IsOut}
use Rattle.r4_history.specs.Tables.{next_at}
use Rattle.r4_history.proofs.AtomSteps.{kept_by_set}
use Rattle.r4_history.proofs.DrawnSteps.{turn_other}
use Rattle.r4_history.proofs.Places.{turn_now}
use Rattle.r4_history.specs.r4_script.declared.job.Script.{Script}
use Rattle.r4_history.specs.r4_turns.Turns.{IsScript, TurnsSeen, answered_one, commands_at, no_script, start, turn_at, with_turn}
use Rattle.r4_history.specs.r4_turns.declared.out.Out.{Out}
use Rattle.r4_history.specs.r4_turns.declared.turn.Turn.{Turn}
use Rattle.r4_kept.specs.History.{is_commit, owed, owed_by, owed_in}

-- further on in a list there are no more that pass
pub fewer : {A : Type 0} (p : A → Bool) (xs : List A) (n : ℕ)
    → count_by p (drop (suc n) xs) ≤ count_by p (drop n xs)
fewer p [] zero = omega arith
fewer p [] (suc n) = omega arith
fewer p (x ∷ xs) zero = let e = sum_by-cons (λ y. cond (p y) 1 0) x xs in omega (arith, e)
fewer p (x ∷ xs) (suc n) = fewer p xs n

owed_in_set : (turns : List Turn) (scripts : List Script) (i : ℕ) (turn : Turn)
    → ((x : Script) → owed_by turn x ≤ owed_by (get_or turns i start) x)
    → owed_in (set turns i turn) scripts ≤ owed_in turns scripts
owed_in_set [] scripts i turn le = omega arith
owed_in_set (t ∷ ts) [] zero turn le = omega arith
owed_in_set (t ∷ ts) [] (suc i) turn le = omega arith
owed_in_set (t ∷ ts) (x ∷ xs) zero turn le = let h = le x in omega (arith, h)
owed_in_set (t ∷ ts) (x ∷ xs) (suc i) turn le = let h = owed_in_set ts xs i turn le in omega (arith, h)

module _ (t : TurnsSeen) (s : ℕ) (turn : Turn) (is : IsScript t s) where
  pub summed : (f : Turn → ℕ)
      → sum_by f (with_turn t s turn).turns + f (turn_at t s) ≡ sum_by f t.turns + f turn
  summed f = sum_by-set f t.turns (s - 1) turn start (omega (arith, is.0, is.1))

  pub owed_less : ((x : Script) → owed_by turn x ≤ owed_by (turn_at t s) x) → owed (with_turn t s turn) ≤ owed t
  owed_less le = owed_in_set t.turns t.job.scripts (s - 1) turn le

  pub is_script_before : (q : ℕ) → IsScript (with_turn t s turn) q → IsScript t q
  is_script_before q there =
      let e = length-set t.turns (s - 1) turn in (there.0, omega (arith, there.1, e))

  -- what the turn keeps, each turn keeps
  pub same_of : {A : Type 0} (f : Turn → A) → f turn ≡ f (turn_at t s) → (q : ℕ)
      → f (turn_at (with_turn t s turn) q) ≡ f (turn_at t q)
  same_of f e q = kept_by_set f t.turns (s - 1) turn start e (q - 1)

  pub out_before : turn.out ≡ (turn_at t s).out → (q : ℕ) (out : Out) → IsOut (with_turn t s turn) q out
      → IsOut t q out
  out_before e q out has = record {
    is_script = is_script_before q has.is_script;
    is_out = sym (same_of (λ (x : Turn). x.out) e q) ∙ has.is_out;
  }

  pub out_of_others : turn.out ≡ None → (q : ℕ) (out : Out) → IsOut (with_turn t s turn) q out → IsOut t q out
  out_of_others gone q out has = elim (cases_eq q s) [
    | inl same ↦
        let here : (turn_at (with_turn t s turn) q).out ≡ None =
        ap (λ (n : ℕ). (turn_at (with_turn t s turn) n).out) same
        ∙ ap (λ (x : Turn). x.out) (turn_now t s turn is) ∙ gone in
        absurd (cc (sym here ∙ has.is_out))
    | inr other ↦ record {
      is_script = is_script_before q has.is_script;
      is_out = sym (ap (λ (x : Turn). x.out) (turn_other t s q turn is has.is_script.0 other)) ∙ has.is_out;
    }
  ]

-- what is answered needs no more entries than before
pub owed_answered : (t : TurnsSeen) (s : ℕ) → IsScript t s → owed (answered_one t s) ≤ owed t
owed_answered t s is =
    owed_less t s (record (turn_at t s) { answered = (turn_at t s).answered + 1; numbers = None }) is (λ x.
    (let n = (turn_at t s).answered in
    let e = ap (λ (m : ℕ). count_by is_commit (drop m x.commands)) (add-one n) in
    let le = fewer is_commit x.commands n in
    omega (arith, le, e)))

-- ---- a `commit` that is answered needs its entry no more

abbrev entries_for : Command → ℕ
entries_for c = cond (is_commit c) 1 0

count_next : (cs : List Command) (n : ℕ) → slice_get cs n ≡ Some asks.Commit
    → count_by is_commit (drop (suc n) cs) + 1 ≡ count_by is_commit (drop n cs)
count_next [] n at = absurd (cc at)
count_next (c ∷ cs) zero at =
    let same : c ≡ asks.Commit = cc at in
    let e = sum_by-cons entries_for c cs in
    let one : ◌≡◌ {A = ℕ} (entries_for c) 1 = ap entries_for same in
    omega (arith, e, one)
count_next (c ∷ cs) (suc n) at = count_next cs n at

owed_in_at : (turns : List Turn) (scripts : List Script) (i : ℕ) (turn : Turn) → i < length turns → i < length scripts
    → owed_in (set turns i turn) scripts + owed_by (get_or turns i start) (get_or scripts i no_script)
    ≡ owed_in turns scripts + owed_by turn (get_or scripts i no_script)
owed_in_at [] scripts i turn lt also = absurd (omega (arith, lt))
owed_in_at (t ∷ ts) [] i turn lt also = absurd (omega (arith, also))
owed_in_at (t ∷ ts) (x ∷ xs) zero turn lt also = omega arith
owed_in_at (t ∷ ts) (x ∷ xs) (suc i) turn lt also =
    let h = owed_in_at ts xs i turn (omega (arith, lt)) (omega (arith, also)) in omega (arith, h)

pub commit_owed : (t : TurnsSeen) (s : ℕ) → IsScript t s → length t.turns ≡ length t.job.scripts
    → next_at t s ≡ Some asks.Commit → owed (answered_one t s) + 1 ≤ owed t
commit_owed t s is scripts next =
    let turn : Turn = record (turn_at t s) { answered = (turn_at t s).answered + 1; numbers = None } in
    let h = owed_in_at t.turns t.job.scripts (s - 1) turn (omega (arith, is.0, is.1))
    (omega (arith, is.0, is.1, scripts)) in
    let n = (turn_at t s).answered in
    let e = ap (λ (m : ℕ). count_by is_commit (drop m (commands_at t s))) (add-one n) in
    let c = count_next (commands_at t s) n next in
    omega (arith, h, e, c)
