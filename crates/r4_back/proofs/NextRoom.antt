-- Room for the entry of a next command that is refused.
use Rattle.std.proofs.Common.{◌≡◌, ℕ, zero, suc, ◌+◌, ◌-◌, ◌≤◌, ◌++◌, List, [], ◌∷◌, None, Some, add-one, ap, arith, drop, get_or, length, refl, set, ◌∙◌}
use Rattle.std.specs.Prelude.{count_by}
use Rattle.r4_content.specs.declared.command.Command.{Command}
use Rattle.r4_content.specs.declared.command.Command.TheVariants as asks
use Rattle.r4_next.specs.r4_history.Tables.{next_at}
use Rattle.r4_next.proofs.r4_kept.Turning.{commit_owed}
use Rattle.r4_next.specs.r4_kept.History.{is_commit, owed, owed_by, owed_in}
use Rattle.r4_next.specs.r4_kept.Kept.{IsKept}
use Rattle.r4_next.specs.r4_kept.Naming.{Naming}
use Rattle.r4_next.specs.r4_kept.Steps.{pushed}
use Rattle.r4_next.specs.r4_kept.View.{CoreSeen}
use Rattle.r4_outside.specs.Device.{State}
use Rattle.r4_turns.specs.r4_script.declared.job.Script.{Script}
use Rattle.r4_turns.specs.Turns.{IsScript, TurnsSeen, answered_at, answered_one, commands_at, no_script, start, turn_at, with_command}
use Rattle.r4_turns.specs.declared.turn.Turn.{Turn}
use Rattle.r4_back.specs.NextRefused.{HasRoomForRefusal}

-- ---- behind the last command none is left

none_behind : (xs : List Command) (y : Command) → count_by is_commit (drop (suc (length xs)) (xs ++ y ∷ [])) ≡ 0
none_behind [] y = refl
none_behind (x ∷ xs) y = none_behind xs y

owed_in_both : (turns : List Turn) (scripts : List Script) (i : ℕ) (turn : Turn) (script : Script)
    → owed_by turn script ≤ owed_by (get_or turns i start) (get_or scripts i no_script)
    → owed_in (set turns i turn) (set scripts i script) ≤ owed_in turns scripts
owed_in_both [] scripts i turn script le = omega arith
owed_in_both (t ∷ ts) [] zero turn script le = omega arith
owed_in_both (t ∷ ts) [] (suc i) turn script le = omega arith
owed_in_both (t ∷ ts) (x ∷ xs) zero turn script le = omega arith
owed_in_both (t ∷ ts) (x ∷ xs) (suc i) turn script le =
    let h = owed_in_both ts xs i turn script le in omega (arith, h)

-- A command that came behind the last one is answered: no more is owed than before it came.
owed_when_answered : (t : TurnsSeen) (s : ℕ) (y : Command) → answered_at t s ≡ length (commands_at t s)
    → owed (answered_one (with_command t s y) s) ≤ owed t
owed_when_answered t s y whole =
    let turn : Turn = record (turn_at t s) { answered = answered_at t s + 1; numbers = None } in
    let script : Script = record { commands = commands_at t s ++ y ∷ [] } in
    let at = add-one (answered_at t s) ∙ ap suc whole in
    let e = ap (λ (m : ℕ). count_by is_commit (drop m (commands_at t s ++ y ∷ []))) at in
    let none = none_behind (commands_at t s) y in
    owed_in_both t.turns t.job.scripts (s - 1) turn script (omega (arith, e, none))

-- ---- the room of a core

module _ {D : Type 0} (r : Naming) (d : State) (c : CoreSeen D) (k : IsKept r d c) where
  pub room_of_pushed : (s : ℕ) (y : Command) → answered_at c.turns s ≡ length (commands_at c.turns s)
      → HasRoomForRefusal (pushed c s y) s
  room_of_pushed s y whole =
      let less = owed_when_answered c.turns s y whole in omega (arith, less, k.history.room)

  pub room_of_commit : length c.turns.turns ≡ length c.turns.job.scripts → (s : ℕ) → IsScript c.turns s
      → next_at c.turns s ≡ Some asks.Commit → HasRoomForRefusal c s
  room_of_commit scripts s is next =
      let less = commit_owed c.turns s is scripts next in omega (arith, less, k.history.room)
