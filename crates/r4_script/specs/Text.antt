-- The job that a text spells, or the first place at which it is none (docs/scripts.md, "The text").
use Rattle.std.specs.Prelude.{◌≡◌, ℕ, ◌+◌, Bool, true, false, nat_lt, nat_le, if◌then◌else◌, List, [], ◌∷◌, length, take, Result, Ok, Err}
use Rattle.r4_script.specs.declared.fault.What.TheVariants as whats
use Rattle.r4_script.specs.declared.fault.Spot.{Spot}
use Rattle.r4_script.specs.declared.fault.Stop.{Stop}
use Rattle.r4_script.specs.declared.fault.Stop.TheVariants as stops
use Rattle.r4_script.specs.declared.fault.ScriptFault.{ScriptFault}
use Rattle.r4_script.specs.declared.fault.ParseFault.{ParseFault}
use Rattle.r4_script.specs.declared.fault.ParseFault.TheVariants as faults
use Rattle.r4_script.specs.declared.job.Job.{Job}
use Rattle.r4_script.specs.Field.{at_place}
use Rattle.r4_script.specs.Progress.{Read, nothing, all_scripts, line_read}
use Rattle.r4_script.specs.Split.{split}

-- a fault with its line
abbrev pub at_line : {A : Type 0} → ℕ → Result A Spot → Result A ScriptFault
at_line n (Ok x) = Ok x
at_line n (Err spot) = Err (record { line = n; column = spot.column; what = spot.what })

-- A line that is cut off at its end is too long there, unless a fault stands before.
abbrev pub cut_off : List ℕ → Result Read Spot → Result Read Spot
cut_off line (Ok r) = at_place (length line) whats.Long
cut_off line (Err spot) = if nat_le spot.column (length line) then Err spot else at_place (length line) whats.Long

-- the last line, which may be cut off
abbrev pub last_read : (long : Bool) → Read → List ℕ → Result Read Spot
last_read false r line = line_read r line
last_read true r line = cut_off line (line_read r line)

-- the rest of the lines, which go on where those before them went well
abbrev pub and_then : Result Read ScriptFault → (Read → Result Read ScriptFault) → Result Read ScriptFault
and_then (Ok r) more = more r
and_then (Err fault) more = Err fault

-- lines from the nth on
abbrev pub lines_read : (long : Bool) → ℕ → Read → List (List ℕ) → Result Read ScriptFault
lines_read long n r [] = Ok r
lines_read long n r (line ∷ []) = at_line n (last_read long r line)
lines_read long n r (line ∷ next ∷ lines) = and_then (at_line n (line_read r line)) (λ r. lines_read long (n + 1) r (next ∷ lines))

-- the job of what was read
abbrev pub job_read : Result Read ScriptFault → Result Job ScriptFault
job_read (Ok r) = Ok (record { scripts = all_scripts r })
job_read (Err fault) = Err fault

-- the lines stand between the newlines; what passes the longest text is not looked at
unfoldable pub text_read : (most : ℕ) → List ℕ → Result Read ScriptFault
text_read most text = lines_read (nat_lt most (length text)) 1 nothing (split 10 (take most text))

-- the job of a text of at most 16 MiB
unfoldable pub job_of : List ℕ → Result Job ScriptFault
job_of text = job_read (text_read 16777216 text)

-- what stopped a reader is this fault, unless memory ran out
abbrev pub Faults : {X : Type 0} → ParseFault → Result X ScriptFault → Type 0
Faults faults.Memory read = Unit {0}
Faults (faults.Script fault) read = read ≡ Err fault

-- what a reader of a line answered, with the number of the line
abbrev pub named_stop : ℕ → Stop → ParseFault
named_stop n stops.Memory = faults.Memory
named_stop n (stops.Spot spot) = faults.Script (record { line = n; column = spot.column; what = spot.what })

abbrev pub named : ℕ → Result Read Stop → Result Read ParseFault
named n (Ok r) = Ok r
named n (Err stop) = Err (named_stop n stop)

-- the answer is what reading gives, unless memory ran out
abbrev pub Answers : {X : Type 0} → Result X ParseFault → Result X ScriptFault → Type 0
Answers (Ok x) read = read ≡ Ok x
Answers (Err fault) read = Faults fault read
