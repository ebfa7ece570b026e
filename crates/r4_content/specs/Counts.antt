-- How many objects a command makes, and how many it takes away (docs/commands.md, "Objects born
-- and gone").
use Rattle.std.specs.Prelude.{ℕ, ◌+◌, List, [], ◌∷◌, Bool, true, false, ◌&&◌, ◌==◌, if◌then◌else◌}
use Rattle.r4_base.specs.Key.{key_of_rank, minor_of}
use Rattle.r4_base.specs.Value.{Content}
use Rattle.r4_content.specs.Course.{ending, of_content}
use Rattle.r4_content.specs.Edited.{Intervals}
use Rattle.r4_content.specs.Meaning.{after, course, makes_object, reply}
use Rattle.r4_content.specs.declared.command.Command.{Command}
use Rattle.r4_content.specs.declared.reply.Reply.{Reply}
use Rattle.r4_content.specs.declared.reply.Reply.TheVariants.{Okay}

-- the command was done
abbrev pub is_okay : Reply → Bool
is_okay Okay = true
is_okay r = false

-- a `create` or `mkdir` that is done makes one object
abbrev pub born : (limit : ℕ) → Command → Content → ℕ
born limit c m = if makes_object c && is_okay (reply limit c m) then 1 else 0

-- how many of the intervals begin with a stat key: such a one has no other key
abbrev pub stats_in : Intervals → ℕ
stats_in [] = 0
stats_in (r ∷ rs) = (if minor_of (key_of_rank r.0) == 1 then 1 else 0) + stats_in rs

-- an object goes with each stat key that the command takes away
abbrev pub gone : (limit : ℕ) → Command → Content → ℕ
gone limit c m = stats_in (ending (course limit c) (of_content m)).edits.cuts

-- of commands one after another
abbrev pub counts : (limit : ℕ) → List Command → Content → List (ℕ × ℕ)
counts limit [] m = []
counts limit (c ∷ cs) m = (born limit c m, gone limit c m) ∷ counts limit cs (after limit c m)
