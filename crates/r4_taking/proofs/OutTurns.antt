-- The turns where a task goes out: what is added up over all tasks, room for entries, and numbers.
use Rattle.std.proofs.Common.{◌≡◌, ◌≢◌, ◌⊎◌, inl, inr, ℕ, zero, suc, ◌+◌, ◌-◌, ◌<◌, List, [], ◌∷◌, Option, Some, None}
use Rattle.std.proofs.Common.{get_or, set, length, refl, sym, ◌∙◌, ap, arith}
use Rattle.std.specs.Prelude.{slice_get, sum_by}
use Rattle.std.proofs.lemmas.Bool.{cases_eq}
use Rattle.r4_kept.specs.r4_history.Drawn.{numbers_of}
use Rattle.r4_kept.specs.r4_history.Held.{IsOut}
use Rattle.r4_kept.specs.r4_history.Tables.{next_at}
use Rattle.r4_kept.proofs.r4_history.DrawnSteps.{turn_other}
use Rattle.r4_kept.proofs.r4_history.Places.{turn_now}
use Rattle.r4_kept.specs.r4_script.declared.job.Script.{Script}
use Rattle.r4_kept.specs.r4_turns.Turns.{IsScript, TurnsSeen, commands_at, dropped, given_back, gone_out, no_script, start}
use Rattle.r4_kept.specs.r4_turns.Turns.{turn_at}
use Rattle.r4_kept.specs.r4_turns.Turns.{with_turn}
use Rattle.r4_kept.specs.r4_turns.declared.out.Numbers.{Numbers}
use Rattle.r4_kept.specs.r4_turns.declared.out.Out.{Out}
use Rattle.r4_kept.specs.r4_turns.declared.turn.Turn.{Turn}
use Rattle.r4_kept.specs.History.{owed, owed_by, owed_for_task, owed_in}
use Rattle.r4_kept.proofs.Turning.{is_script_before, same_of, summed}

owed_at : (turns : List Turn) (scripts : List Script) (i : ℕ) (turn : Turn) → i < length turns → i < length scripts
    → owed_in (set turns i turn) scripts + owed_by (get_or turns i start) (get_or scripts i no_script)
    ≡ owed_in turns scripts + owed_by turn (get_or scripts i no_script)
owed_at [] scripts i turn lt also = absurd (omega (arith, lt))
owed_at (t ∷ ts) [] i turn lt also = absurd (omega (arith, also))
owed_at (t ∷ ts) (x ∷ xs) zero turn lt also = omega arith
owed_at (t ∷ ts) (x ∷ xs) (suc i) turn lt also =
    let h = owed_at ts xs i turn (omega (arith, lt)) (omega (arith, also)) in omega (arith, h)

module _ (t : TurnsSeen) (s : ℕ) (is : IsScript t s) (scripts : length t.turns ≡ length t.job.scripts) (out : Out) where
  owed_change : (turn : Turn)
      → owed (with_turn t s turn) + owed_by (turn_at t s) (get_or t.job.scripts (s - 1) no_script)
      ≡ owed t + owed_by turn (get_or t.job.scripts (s - 1) no_script)
  owed_change turn =
      owed_at t.turns t.job.scripts (s - 1) turn (omega (arith, is.0, is.1)) (omega (arith, is.0, is.1, scripts))

  -- a task that is out may need two entries
  pub owed_out : (turn_at t s).out ≡ None → owed (gone_out t s out) ≡ owed t + 2
  owed_out free =
      let all = owed_change (record (turn_at t s) { out = Some out }) in
      let was = ap owed_for_task free in
      omega (arith, all, was)

  -- and one that is given back needs none
  pub owed_back : (n : Numbers) → (turn_at t s).out ≡ Some out → owed (given_back t s n) + 2 ≡ owed t
  owed_back n there =
      let all = owed_change (record (turn_at t s) { out = None; numbers = Some n }) in
      let was = ap owed_for_task there in
      omega (arith, all, was)

  pub owed_dropped : (turn_at t s).out ≡ Some out → owed (dropped t s) + 2 ≡ owed t
  owed_dropped there =
      let all = owed_change (record (turn_at t s) { out = None }) in
      let was = ap owed_for_task there in
      omega (arith, all, was)

module _ (t : TurnsSeen) (s : ℕ) (is : IsScript t s) (out : Out) where
  abbrev turn : Turn
  turn = record (turn_at t s) { out = Some out }

  pub scripts_before : (q : ℕ) → IsScript (gone_out t s out) q → IsScript t q
  scripts_before q has = is_script_before t s turn is q has

  pub sums_rise : (turn_at t s).out ≡ None → (f : Option Out → ℕ) → f None ≡ 0
      → sum_by (λ (x : Turn). f x.out) (gone_out t s out).turns
      ≡ sum_by (λ (x : Turn). f x.out) t.turns + f (Some out)
  sums_rise free f none =
      let all : sum_by (λ (x : Turn). f x.out) (gone_out t s out).turns + f (turn_at t s).out
      ≡ sum_by (λ (x : Turn). f x.out) t.turns + f (Some out) = summed t s turn is (λ (x : Turn). f x.out) in
      let same = ap f free in
      omega (arith, all, same, none)

  -- a task is the new one, or was out before
  pub out_cases : (q : ℕ) (o : Out) → IsOut (gone_out t s out) q o
      → ((q ≡ s) × (out ≡ o)) ⊎ ((q ≢ s) × IsOut t q o)
  out_cases q o has = elim (cases_eq q s) [
    | inl same ↦
        let here : (turn_at (gone_out t s out) q).out ≡ Some out =
        ap (λ (m : ℕ). (turn_at (gone_out t s out) m).out) same ∙ ap (λ (x : Turn). x.out) (turn_now t s turn is) in
        inl (same, cc (sym here ∙ has.is_out))
    | inr other ↦
        inr (
          other,
          record {
            is_script = scripts_before q has.is_script;
            is_out = ap (λ (x : Turn). x.out) (sym (turn_other t s q turn is has.is_script.0 other)) ∙ has.is_out;
          },
        )
  ]

  -- the numbers of a next command are the new ones, or were there before
  pub numbers_cases : (q : ℕ) (n : Numbers) → IsScript (gone_out t s out) q
      → numbers_of (turn_at (gone_out t s out) q) ≡ Some n
      → ((q ≡ s) × (out.numbers ≡ n)) ⊎ ((q ≢ s) × (numbers_of (turn_at t q) ≡ Some n))
  numbers_cases q n has is_n = elim (cases_eq q s) [
    | inl same ↦
        let here : numbers_of (turn_at (gone_out t s out) q) ≡ Some out.numbers =
        ap (λ (m : ℕ). numbers_of (turn_at (gone_out t s out) m)) same ∙ ap numbers_of (turn_now t s turn is) in
        inl (same, cc (sym here ∙ is_n))
    | inr other ↦ inr (other, sym (ap numbers_of (turn_other t s q turn is has.0 other)) ∙ is_n)
  ]

  -- each next command is the one that it was
  pub next_same : (q : ℕ) → next_at (gone_out t s out) q ≡ next_at t q
  next_same q = ap (slice_get (commands_at t q)) (same_of t s turn is (λ (x : Turn). x.answered) refl q)
