-- The next command of a script is refused by itself (docs/core.md, "A job that grows").
use Rattle.std.specs.Prelude.{◌≡◌, ◌+◌, ◌≤◌, ℕ, Option, None, Some}
use Rattle.r4_base.specs.declared.things.ScriptNo.{ScriptNo}
use Rattle.r4_content.specs.declared.command.Command.{Command}
use Rattle.r4_content.specs.declared.reply.Reply.{Reply}
use Rattle.r4_content.specs.declared.reply.Reply.TheVariants.{Memory, Reopen}
use Rattle.r4_next.specs.r4_history.Tables.{Stands}
use Rattle.r4_next.specs.r4_kept.History.{owed, owed_for_commit}
use Rattle.r4_next.specs.r4_kept.Steps.{MayBeRefused, answered}
use Rattle.r4_next.specs.r4_kept.View.{CoreSeen}
use Rattle.r4_next.specs.r4_trace.declared.entry.Entry.TheVariants.{Refused}
use Rattle.r4_turns.specs.Turns.{TurnsSeen, answered_at, answered_one, turn_at}

-- The next command of a script is work or `commit`, and not out; no transaction of the script is
-- open.
pub record IsRefusableNext (t : TurnsSeen) (s : ℕ) : Type 0 where
  pub command : Command
  pub stands : Stands t s None (Some command)
  pub may : MayBeRefused None command
  pub free : (turn_at t s).out ≡ None

-- There is room for its entry, beside those that may not want memory once it is answered. After the
-- `push` of a script's next command there is; and there always is for a `commit`.
abbrev pub HasRoomForRefusal : {D : Type 0} → CoreSeen D → (s : ℕ) → Type 0
HasRoomForRefusal c s =
    owed (answered_one c.turns s) + owed_for_commit c.commit + 1 ≤ c.trace.spare

-- `memory`; after a call of the device failed `reopen`, with the clock of then
abbrev pub reply_after : (broken : Option ℕ) → Reply
reply_after None = Memory
reply_after (Some clock) = Reopen clock

-- It is refused in no transaction; nothing else changes.
abbrev pub refused_next : {D : Type 0} → CoreSeen D → ScriptNo → CoreSeen D
refused_next c s = answered c s.0
    (Refused (record { 0 = 0 }) s (answered_at c.turns s.0 + 1) (reply_after c.broken))
