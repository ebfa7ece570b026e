-- What was read of a text so far, and what a line adds (docs/scripts.md, "Lines").
use Rattle.std.specs.Prelude.{ℕ, ◌+◌, Bool, true, false, nat_eq, nat_le, if◌then◌else◌, List, [], ◌∷◌, ◌++◌, length, Option, Some, None, Result, Ok}
use Rattle.r4_content.specs.declared.command.Command.{Command}
use Rattle.r4_script.specs.declared.fault.What.TheVariants as whats
use Rattle.r4_script.specs.declared.fault.Spot.{Spot}
use Rattle.r4_script.specs.declared.job.Script.{Script}
use Rattle.r4_script.specs.declared.word.Verb.{Verb}
use Rattle.r4_script.specs.declared.word.Verb.TheVariants as verbs
use Rattle.r4_script.specs.Command.{command_at}
use Rattle.r4_script.specs.Field.{◌>>=◌, at_place, ends_at}
use Rattle.r4_script.specs.Split.{until}
use Rattle.r4_script.specs.Word.{verb_of}

-- The scripts that are finished, the commands of the one that is read, none before the first `script`, and whether a
-- transaction is open in it.
pub record Read : Type 0 where
  pub scripts : List Script
  pub current : Option (List Command)
  pub inside : Bool

-- nothing is read
abbrev pub nothing : Read
nothing = record { scripts = []; current = None; inside = false }

-- the scripts, and the one that is read behind them
abbrev pub and_current : List Script → Option (List Command) → List Script
and_current scripts None = scripts
and_current scripts (Some commands) = scripts ++ record { commands = commands } ∷ []

abbrev pub all_scripts : Read → List Script
all_scripts r = and_current r.scripts r.current

-- `script` begins the next one, of at most 64, outside of a transaction
unfoldable pub script_line : Read → List ℕ → ℕ → Result Read Spot
script_line r line i =
    if nat_le 64 (length (all_scripts r)) then at_place 0 whats.Scripts else do
      _ ← ends_at line i
      Ok (record { scripts = all_scripts r; current = Some []; inside = false })

-- whether a transaction is open behind a command
abbrev pub turn : Verb → Bool → Result Bool Spot
turn verbs.Begin false = Ok true
turn verbs.Begin true = at_place 0 whats.Nested
turn verbs.End true = Ok false
turn verbs.End false = at_place 0 whats.Unopened
turn verbs.Commit true = at_place 0 whats.Open
turn _ inside = Ok inside

-- a command stands in a script, and where its transaction allows it
abbrev pub command_added : Option (List Command) → List Script → Bool → Verb → List ℕ → ℕ → Result Read Spot
command_added None scripts inside verb line i = at_place 0 whats.Command
command_added (Some commands) scripts inside verb line i = do
  open_now ← turn verb inside
  command ← command_at verb line i
  Ok (record { scripts = scripts; current = Some (commands ++ command ∷ []); inside = open_now })

unfoldable pub command_line : Read → Verb → List ℕ → ℕ → Result Read Spot
command_line r verb line i = command_added r.current r.scripts r.inside verb line i

-- a line by its word
abbrev pub worded_line : Option Verb → Read → List ℕ → ℕ → Result Read Spot
worded_line None r line i = at_place 0 whats.Command
worded_line (Some verbs.Script) r line i = script_line r line i
worded_line (Some verb) r line i = command_line r verb line i

-- a line; one that is empty or begins with `#` adds nothing
unfoldable pub line_read : Read → List ℕ → Result Read Spot
line_read r [] = Ok r
line_read r (b ∷ bytes) =
    if nat_eq b 35 then Ok r else
    worded_line (verb_of (until 32 (b ∷ bytes))) r (b ∷ bytes) (length (until 32 (b ∷ bytes)) + 1)
