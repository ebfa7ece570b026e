-- How far scripts are, where turns change.
use Rattle.std.proofs.Common.{◌≡◌, ℕ, zero, suc, ◌+◌, ◌-◌, ◌<◌, ◌≤◌, ◌==◌, Bool, true, false, cond, List, [], ◌∷◌, map, length, get_or, set, slice_get, ◌++◌, ◌⊎◌, ⊎_elim, Option, Some, None, refl, sym, ◌∙◌, ap, subst, arith, inl, inr}
use Rattle.std.proofs.lemmas.Bool.{cases_eq, cond-true, cond-false, eq-eqb, ne_eqb}
use Rattle.std.proofs.lemmas.List.{get_or-set_same, get_or-set_other, length-set}
use Rattle.r4_content.specs.declared.command.Command.{Command}
use Rattle.r4_turns.specs.r4_script.declared.job.Script.{Script}
use Rattle.r4_trace.specs.Job.{Place, at_start, commands_at as commands_in, commands_of}
use Rattle.r4_turns.specs.Turns.{HasNext, IsScript, TurnsSeen, answered_at, answered_one, commands_at, entered, left, no_script, start, turn_at, with_command, with_turn}
use Rattle.r4_turns.specs.declared.turn.Open.{Open}
use Rattle.r4_turns.specs.declared.turn.Turn.{Turn}
use Rattle.r4_history.specs.Tables.{asked, next_at, place_at, place_of, within_of}

-- so many answered, in this transaction
abbrev pub stood : (answered : ℕ) → Option Open → Place
stood n o = record { answered = n; within = within_of o }

pub place_is : (turns : List Turn) (s : ℕ) → 0 < s → place_at turns s ≡ place_of (get_or turns (s - 1) start)
place_is turns zero some = absurd (omega (arith, some))
place_is turns (suc i) some =
    let e : i ≡ suc i - 1 = omega arith in ap (λ (n : ℕ). place_of (get_or turns n start)) e

pub place_set : (turns : List Turn) (s : ℕ) (turn : Turn) → 0 < s → s ≤ length turns → (q : ℕ)
    → place_at (set turns (s - 1) turn) q ≡ cond (q == s) (place_of turn) (place_at turns q)
place_set turns s turn some within zero =
    sym (cond-false (0 == s) (place_of turn) at_start (ne_eqb 0 s (λ same. absurd (omega (arith, same, some)))))
place_set turns s turn some within (suc j) = elim (cases_eq (suc j) s) [
  | inl same ↦
      let e : j ≡ s - 1 = omega (arith, same) in
      ap (λ (n : ℕ). place_of (get_or (set turns (s - 1) turn) n start)) e
      ∙ ap place_of (get_or-set_same turns (s - 1) turn start (omega (arith, some, within)))
      ∙ sym (cond-true (suc j == s) (place_of turn) (place_of (get_or turns j start)) (eq-eqb (suc j) s same))
  | inr other ↦
      ap place_of (get_or-set_other turns (s - 1) j turn start (λ same. other (omega (arith, same, some))))
      ∙ sym (cond-false (suc j == s) (place_of turn) (place_of (get_or turns j start)) (ne_eqb (suc j) s other))
]

-- One script is at this place now, and the others are where they were.
pub record Moved (old new : List Turn) (s : ℕ) (p : Place) : Type 0 where
  pub count : length new ≡ length old
  pub placed : (q : ℕ) → place_at new q ≡ cond (q == s) p (place_at old q)

cond_twice : {X : Type 0} (b : Bool) (x y z : X) → cond b x (cond b y z) ≡ cond b x z
cond_twice true x y z = refl
cond_twice false x y z = refl

pub moved_with : (t : TurnsSeen) (s : ℕ) (turn : Turn) → IsScript t s
    → Moved t.turns (with_turn t s turn).turns s (place_of turn)
moved_with t s turn is = record {
  count = length-set t.turns (s - 1) turn;
  placed = place_set t.turns s turn is.0 is.1;
}

pub moved_on : (a b c : List Turn) (s : ℕ) (p r : Place) → Moved a b s p → Moved b c s r → Moved a c s r
moved_on a b c s p r m n = record {
  count = n.count ∙ m.count;
  placed = λ q. n.placed q ∙ ap (λ (x : Place). cond (q == s) r x) (m.placed q)
      ∙ cond_twice (q == s) r p (place_at a q);
}

-- the turn that was set
pub turn_now : (t : TurnsSeen) (s : ℕ) (turn : Turn) → IsScript t s → turn_at (with_turn t s turn) s ≡ turn
turn_now t s turn is = get_or-set_same t.turns (s - 1) turn start (omega (arith, is.0, is.1))

pub is_script_with : (t : TurnsSeen) (s : ℕ) (turn : Turn) (q : ℕ) → IsScript t q → IsScript (with_turn t s turn) q
is_script_with t s turn q is = let e = length-set t.turns (s - 1) turn in (is.0, omega (arith, is.1, e))

module _ (t : TurnsSeen) (s : ℕ) (is : IsScript t s) where
  pub moved_entered : (o : Open) → Moved t.turns (entered t s o).turns s (stood (answered_at t s) (Some o))
  moved_entered o = moved_with t s (record (turn_at t s) { transaction = Some o }) is

  pub moved_answered : Moved t.turns (answered_one t s).turns s (stood (answered_at t s + 1) (turn_at t s).transaction)
  moved_answered = moved_with t s (record (turn_at t s) { answered = answered_at t s + 1; numbers = None }) is

  pub moved_left : Moved t.turns (left t s).turns s (stood (answered_at t s) None)
  moved_left = moved_with t s (record (turn_at t s) { transaction = None }) is

pub moved_begun : (t : TurnsSeen) (s : ℕ) → IsScript t s → (o : Open)
    → Moved t.turns (answered_one (entered t s o) s).turns s (stood (answered_at t s + 1) (Some o))
moved_begun t s is o =
    let turn : Turn = record (turn_at t s) { transaction = Some o } in
    let now = turn_now t s turn is in
    moved_on t.turns (entered t s o).turns (answered_one (entered t s o) s).turns s
    (stood (answered_at t s) (Some o)) (stood (answered_at t s + 1) (Some o)) (moved_entered t s is o)
    (subst
    (λ (x : Turn). Moved (entered t s o).turns (answered_one (entered t s o) s).turns s
    (stood (x.answered + 1) x.transaction))
    now (moved_answered (entered t s o) s (is_script_with t s turn s is)))

pub moved_answered_left : (t : TurnsSeen) (s : ℕ) → IsScript t s
    → Moved t.turns (left (answered_one t s) s).turns s (stood (answered_at t s + 1) None)
moved_answered_left t s is =
    let turn : Turn = record (turn_at t s) { answered = answered_at t s + 1; numbers = None } in
    let now = turn_now t s turn is in
    moved_on t.turns (answered_one t s).turns (left (answered_one t s) s).turns s
    (stood (answered_at t s + 1) (turn_at t s).transaction) (stood (answered_at t s + 1) None)
    (moved_answered t s is)
    (subst (λ (x : Turn). Moved (answered_one t s).turns (left (answered_one t s) s).turns s (stood x.answered None))
    now (moved_left (answered_one t s) s (is_script_with t s turn s is)))

pub moved_left_answered : (t : TurnsSeen) (s : ℕ) → IsScript t s
    → Moved t.turns (answered_one (left t s) s).turns s (stood (answered_at t s + 1) None)
moved_left_answered t s is =
    let turn : Turn = record (turn_at t s) { transaction = None } in
    let now = turn_now t s turn is in
    moved_on t.turns (left t s).turns (answered_one (left t s) s).turns s
    (stood (answered_at t s) None) (stood (answered_at t s + 1) None) (moved_left t s is)
    (subst
    (λ (x : Turn). Moved (left t s).turns (answered_one (left t s) s).turns s (stood (x.answered + 1) x.transaction))
    now (moved_answered (left t s) s (is_script_with t s turn s is)))

-- the commands of a script, by its number
nth : (scripts : List Script) (n : ℕ)
    → commands_in (map (λ (x : Script). x.commands) scripts) n ≡ (get_or scripts n no_script).commands
nth [] n = refl
nth (x ∷ scripts) zero = refl
nth (x ∷ scripts) (suc n) = nth scripts n

pub commands_are : (t : TurnsSeen) (s : ℕ) → 0 < s → commands_of (asked t.job) s ≡ commands_at t s
commands_are t zero some = absurd (omega (arith, some))
commands_are t (suc n) some =
    let e : n ≡ suc n - 1 = omega arith in
    nth t.job.scripts n ∙ ap (λ (k : ℕ). (get_or t.job.scripts k no_script).commands) e

-- ---- a command more

-- the commands of each script, where one has a command more
pub commands_pushed : (t : TurnsSeen) (s : ℕ) (c : Command) → IsScript t s → length t.turns ≡ length t.job.scripts
    → (q : ℕ)
    → (commands_at (with_command t s c) q ≡ commands_at t q) ⊎
    ((q - 1 ≡ s - 1) × (commands_at (with_command t s c) q ≡ commands_at t q ++ c ∷ []))
commands_pushed t s c is scripts q =
    let more : Script = record { commands = commands_at t s ++ c ∷ [] } in
    elim (cases_eq (q - 1) (s - 1)) [
      | inl same ↦
          inr (
            same,
            ap (λ (k : ℕ). (get_or (set t.job.scripts (s - 1) more) k no_script).commands) same
                ∙ ap (λ (x : Script). x.commands)
                (get_or-set_same t.job.scripts (s - 1) more no_script (omega (arith, is.0, is.1, scripts)))
                ∙ ap (λ (k : ℕ). (get_or t.job.scripts k no_script).commands ++ c ∷ []) (sym same),
          )
      | inr other ↦ inl (ap (λ (x : Script). x.commands)
          (get_or-set_other t.job.scripts (s - 1) (q - 1) more no_script other))
    ]

got : (l : List Command) (c : Command) (i : ℕ) → i < length l → slice_get (l ++ c ∷ []) i ≡ slice_get l i
got [] c i lt = absurd (omega (arith, lt))
got (x ∷ l) c zero lt = refl
got (x ∷ l) c (suc i) lt = got l c i (omega (arith, lt))

-- a next command stays the next one
pub next_pushed : (t : TurnsSeen) (s : ℕ) (c : Command) → IsScript t s → length t.turns ≡ length t.job.scripts
    → (q : ℕ) → HasNext t q
    → next_at (with_command t s c) q ≡ next_at t q
next_pushed t s c is scripts q lt =
    ⊎_elim (λ same. ap (λ (l : List Command). slice_get l (answered_at t q)) same)
    (λ more. ap (λ (l : List Command). slice_get l (answered_at t q)) more.1
    ∙ got (commands_at t q) c (answered_at t q) lt)
    (commands_pushed t s c is scripts q)

pub next_there : (t : TurnsSeen) (s : ℕ) (c : Command) → next_at t s ≡ Some c → HasNext t s
next_there t s c is = by (commands_at t s) (answered_at t s) is
  where
    by : (l : List Command) (i : ℕ) → slice_get l i ≡ Some c → i < length l
    by [] i e = absurd (cc e)
    by (x ∷ l) zero e = omega arith
    by (x ∷ l) (suc i) e = let r = by l i e in omega (arith, r)
