-- A task is done: its command is answered, and no task of its script is out. What the turns keep.
use Rattle.std.proofs.Common.{◌≡◌, ◌≢◌, inl, inr, ℕ, ◌+◌, ◌-◌, List, Option, Some, None, refl, sym, ◌∙◌, ap}
use Rattle.std.proofs.Common.{subst, arith}
use Rattle.std.specs.Prelude.{slice_get, sum_by}
use Rattle.std.proofs.lemmas.Bool.{cases_eq}
use Rattle.std.proofs.lemmas.List.{set-set}
use Rattle.r4_taking.specs.r4_history.Drawn.{numbers_of}
use Rattle.r4_taking.specs.r4_history.Held.{IsOut}
use Rattle.r4_taking.specs.r4_history.Tables.{next_at}
use Rattle.r4_taking.proofs.r4_history.DrawnSteps.{turn_other}
use Rattle.r4_taking.proofs.r4_history.Places.{turn_now}
use Rattle.r4_taking.specs.r4_turns.Turns.{IsScript, TurnsSeen, answered_one, commands_at, dropped, left, turn_at, with_turn}
use Rattle.r4_taking.specs.r4_turns.declared.out.Numbers.{Numbers}
use Rattle.r4_taking.specs.r4_turns.declared.out.Out.{Out}
use Rattle.r4_taking.specs.r4_turns.declared.turn.Turn.{Turn}
use Rattle.r4_taking.proofs.r4_kept.Turning.{is_script_before, summed}

-- the task of one script is out no more, nor has it numbers; all else of the turns was so before
pub record TurnsDrop (old new : TurnsSeen) (s : ℕ) (out : Out) : Type 0 where
  pub scripts : (q : ℕ) → IsScript new q → IsScript old q
  pub outs : (q : ℕ) (o : Out) → IsOut new q o → (q ≢ s) × IsOut old q o
  pub sums : (f : Option Out → ℕ) → f None ≡ 0
      → sum_by (λ (x : Turn). f x.out) new.turns + f (Some out) ≡ sum_by (λ (x : Turn). f x.out) old.turns
  pub numbers : (q : ℕ) (n : Numbers) → IsScript new q → numbers_of (turn_at new q) ≡ Some n
      → (q ≢ s) × (numbers_of (turn_at old q) ≡ Some n)
  pub nexts : (q : ℕ) (o : Out) → IsOut new q o → next_at new q ≡ next_at old q

module _ (t : TurnsSeen) (s : ℕ) (is : IsScript t s) (out : Out) (was : (turn_at t s).out ≡ Some out) where
  module _ (turn : Turn) (none : turn.out ≡ None) where
    pub outs_before : (q : ℕ) (o : Out) → IsOut (with_turn t s turn) q o → (q ≢ s) × IsOut t q o
    outs_before q o has = elim (cases_eq q s) [
      | inl same ↦
          let here : (turn_at (with_turn t s turn) q).out ≡ None =
          ap (λ (m : ℕ). (turn_at (with_turn t s turn) m).out) same
          ∙ ap (λ (x : Turn). x.out) (turn_now t s turn is) ∙ none in
          absurd (cc (sym here ∙ has.is_out))
      | inr other ↦ (
        other,
        record {
          is_script = is_script_before t s turn is q has.is_script;
          is_out = ap (λ (x : Turn). x.out) (sym (turn_other t s q turn is has.is_script.0 other)) ∙ has.is_out;
        },
      )
    ]

  module _ (turn : Turn) (none : turn.out ≡ None) (used : numbers_of turn ≡ None) where
    numbers_before : (q : ℕ) (n : Numbers) → IsScript (with_turn t s turn) q
        → numbers_of (turn_at (with_turn t s turn) q) ≡ Some n → (q ≢ s) × (numbers_of (turn_at t q) ≡ Some n)
    numbers_before q n has is_n = elim (cases_eq q s) [
      | inl same ↦
          let here : numbers_of (turn_at (with_turn t s turn) q) ≡ None =
          ap (λ (m : ℕ). numbers_of (turn_at (with_turn t s turn) m)) same
          ∙ ap numbers_of (turn_now t s turn is) ∙ used in
          absurd (cc (sym here ∙ is_n))
      | inr other ↦ (other, sym (ap numbers_of (turn_other t s q turn is has.0 other)) ∙ is_n)
    ]

    pub turned_drops : TurnsDrop t (with_turn t s turn) s out
    turned_drops = record {
      scripts = λ q has. is_script_before t s turn is q has;
      outs = outs_before turn none;
      sums = λ f zero.
          (let all : sum_by (λ (x : Turn). f x.out) (with_turn t s turn).turns + f (turn_at t s).out
          ≡ sum_by (λ (x : Turn). f x.out) t.turns + f turn.out = summed t s turn is (λ (x : Turn). f x.out) in
          let had = ap f was in
          let now = ap f none in
          omega (arith, all, had, now, zero));
      numbers = numbers_before;
      nexts = λ q o has.
          (let old = outs_before turn none q o has in
          ap (λ (x : Turn). slice_get (commands_at t q) x.answered)
          (turn_other t s q turn is has.is_script.0 old.0));
    }

  -- ---- inside of a transaction

  abbrev without : Turn
  without = record (turn_at t s) { out = None }

  abbrev answered : Turn
  answered = record without { answered = without.answered + 1; numbers = None }

  pub done_is : answered_one (dropped t s) s ≡ with_turn t s answered
  done_is =
      ap (λ (x : Turn). with_turn (dropped t s) s (record x { answered = x.answered + 1; numbers = None }))
      (turn_now t s without is)
      ∙ ap (λ (l : List Turn). record t { turns = l }) (set-set t.turns (s - 1) without answered)

  pub done_drops : TurnsDrop t (answered_one (dropped t s) s) s out
  done_drops =
      subst (λ (x : TurnsSeen). TurnsDrop t x s out) (sym done_is) (turned_drops answered refl refl)

  -- ---- a single command

  abbrev last : Turn
  last = record answered { transaction = None }

  pub last_is : left (answered_one (dropped t s) s) s ≡ with_turn t s last
  last_is =
      ap (λ (x : TurnsSeen). left x s) done_is
      ∙ ap (λ (x : Turn). with_turn (with_turn t s answered) s (record x { transaction = None }))
      (turn_now t s answered is)
      ∙ ap (λ (l : List Turn). record t { turns = l }) (set-set t.turns (s - 1) answered last)

  pub last_drops : TurnsDrop t (left (answered_one (dropped t s) s) s) s out
  last_drops = subst (λ (x : TurnsSeen). TurnsDrop t x s out) (sym last_is) (turned_drops last refl refl)
