-- The order in which scripts are looked at, as a number.
use Rattle.std.specs.Prelude.{◌+◌, ◌*◌, ℕ, Option, None, Some}
use Rattle.r4_base.specs.declared.things.ScriptNo.{ScriptNo}
use Rattle.r4_turns.specs.Turns.{TurnsSeen, answered_at}

-- fewest answered commands, then smallest number; 0 before the first
abbrev pub rank_of : TurnsSeen → (last : Option ScriptNo) → ℕ
rank_of t None = 0
rank_of t (Some s) = answered_at t s.0 * 4294967296 + s.0
