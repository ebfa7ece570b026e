-- Scripts that are at their end.
use Rattle.std.specs.Prelude.{◌≡◌, ℕ, None, length}
use Rattle.r4_turns.specs.Turns.{IsScript, TurnsSeen, answered_at, commands_at, turn_at}

-- Each command of the script is answered, and no transaction of it is open.
pub record IsAnswered (t : TurnsSeen) (script : ℕ) : Type 0 where
  pub answered : answered_at t script ≡ length (commands_at t script)
  pub closed : (turn_at t script).transaction ≡ None

abbrev pub AllAnswered : TurnsSeen → Type 0
AllAnswered t = (s : ℕ) → IsScript t s → IsAnswered t s
