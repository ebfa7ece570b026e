-- The turn of one script changes, of which no task is out, and the numbers that were kept for its next command go.
use Rattle.std.proofs.Common.{◌≡◌, inl, inr, ℕ, ◌+◌, ◌-◌, ◌≤◌, List, Option, Some, None, sym, ◌∙◌, ap, subst, arith}
use Rattle.std.specs.Prelude.{slice_get, sum_by}
use Rattle.std.proofs.lemmas.Bool.{cases_eq}
use Rattle.std.proofs.lemmas.List.{set-set}
use Rattle.r4_kept.specs.r4_history.Drawn.{numbers_in, numbers_of}
use Rattle.r4_kept.specs.r4_history.Held.{IsOut}
use Rattle.r4_kept.specs.r4_history.Tables.{next_at}
use Rattle.r4_kept.proofs.r4_history.DrawnSteps.{turn_other}
use Rattle.r4_kept.proofs.r4_history.Places.{is_script_with, turn_now}
use Rattle.r4_kept.specs.r4_turns.Turns.{IsScript, TurnsSeen, answered_one, commands_at, left, turn_at, with_turn}
use Rattle.r4_kept.specs.r4_turns.declared.out.Numbers.{Numbers}
use Rattle.r4_kept.specs.r4_turns.declared.out.Out.{Out}
use Rattle.r4_kept.specs.r4_turns.declared.turn.Turn.{Turn}
use Rattle.r4_kept.specs.History.{owed}
use Rattle.r4_kept.proofs.Turning.{is_script_before, out_before, owed_answered, owed_less, summed}

-- scripts, tasks and numbers that stand then stood before, and the tasks add up to as much
pub record TurnsStay (old new : TurnsSeen) : Type 0 where
  pub scripts : (q : ℕ) → IsScript new q → IsScript old q
  pub outs : (q : ℕ) (out : Out) → IsOut new q out → IsOut old q out
  pub sums : (f : Option Out → ℕ)
      → sum_by (λ (x : Turn). f x.out) new.turns ≡ sum_by (λ (x : Turn). f x.out) old.turns
  pub numbers : (q : ℕ) (n : Numbers) → IsScript new q → numbers_of (turn_at new q) ≡ Some n
      → numbers_of (turn_at old q) ≡ Some n
  -- a command that is out is the next one still
  pub nexts : (q : ℕ) (out : Out) → IsOut new q out → next_at new q ≡ next_at old q

module _ (t : TurnsSeen) (s : ℕ) (is : IsScript t s) (turn : Turn) (free : (turn_at t s).out ≡ None)
    (none : turn.out ≡ None) (used : numbers_of turn ≡ None) where
  numbers_before : (q : ℕ) (n : Numbers) → IsScript (with_turn t s turn) q
      → numbers_of (turn_at (with_turn t s turn) q) ≡ Some n → numbers_of (turn_at t q) ≡ Some n
  numbers_before q n has is_n = elim (cases_eq q s) [
    | inl same ↦
        let here : numbers_of (turn_at (with_turn t s turn) q) ≡ None =
        ap (λ (m : ℕ). numbers_of (turn_at (with_turn t s turn) m)) same
        ∙ ap numbers_of (turn_now t s turn is) ∙ used in
        absurd (cc (sym here ∙ is_n))
    | inr other ↦ sym (ap numbers_of (turn_other t s q turn is has.0 other)) ∙ is_n
  ]

  next_before : (q : ℕ) (out : Out) → IsOut (with_turn t s turn) q out → next_at (with_turn t s turn) q ≡ next_at t q
  next_before q out has = elim (cases_eq q s) [
    | inl same ↦
        let here : (turn_at (with_turn t s turn) q).out ≡ None =
        ap (λ (m : ℕ). (turn_at (with_turn t s turn) m).out) same
        ∙ ap (λ (x : Turn). x.out) (turn_now t s turn is) ∙ none in
        absurd (cc (sym here ∙ has.is_out))
    | inr other ↦
        ap (λ (x : Turn). slice_get (commands_at t q) x.answered) (turn_other t s q turn is has.is_script.0 other)
  ]

  pub turned_stays : TurnsStay t (with_turn t s turn)
  turned_stays = record {
    scripts = λ q has. is_script_before t s turn is q has;
    outs = λ q out has. out_before t s turn is (none ∙ sym free) q out has;
    sums = λ f.
        (let g = λ (x : Turn). f x.out in
        let one : sum_by g (with_turn t s turn).turns + g (turn_at t s) ≡ sum_by g t.turns + g turn =
        summed t s turn is g in
        let same : f turn.out ≡ f (turn_at t s).out = ap f (none ∙ sym free) in
        omega (arith, one, same));
    numbers = numbers_before;
    nexts = next_before;
  }

-- its next command is answered, and it leaves its transaction
module _ (t : TurnsSeen) (s : ℕ) (is : IsScript t s) where
  abbrev answered_turn : Turn
  answered_turn = record (turn_at t s) { answered = (turn_at t s).answered + 1; numbers = None }

  abbrev last : Turn
  last = record answered_turn { transaction = None }

  pub there : IsScript (answered_one t s) s
  there = is_script_with t s answered_turn s is

  pub left_is : left (answered_one t s) s ≡ with_turn t s last
  left_is =
      ap (λ (x : Turn). with_turn (answered_one t s) s (record x { transaction = None }))
      (turn_now t s answered_turn is)
      ∙ ap (λ (l : List Turn). record t { turns = l }) (set-set t.turns (s - 1) answered_turn last)

  pub owed_last : owed (left (answered_one t s) s) ≤ owed t
  owed_last =
      let without : Turn = record (turn_at (answered_one t s) s) { transaction = None } in
      let one = owed_less (answered_one t s) s without there (λ x. omega arith) in
      let two = owed_answered t s is in
      omega (arith, one, two)

  module _ (free : (turn_at t s).out ≡ None) where
    pub free_then : (turn_at (answered_one t s) s).out ≡ None
    free_then = ap (λ (x : Turn). x.out) (turn_now t s answered_turn is) ∙ free

    pub last_stays : TurnsStay t (left (answered_one t s) s)
    last_stays = subst (TurnsStay t) (sym left_is) (turned_stays t s is last free free used)
      where
        used : numbers_of last ≡ None
        used = ap (λ (o : Option Out). numbers_in o None) free
