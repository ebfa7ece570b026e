-- The plain spelling of a job (docs/scripts.md, "Commands"): numbers without leading zeros, modes of four digits, and no line that is skipped.
use Rattle.std.specs.Prelude.{◌≡◌, ◌≢◌, ℕ, ◌+◌, ◌/◌, ◌%◌, ◌^◌, ◌<◌, ◌≤◌, Bool, true, false, not, nat_eq, List, [], ◌∷◌, ◌++◌, length, map, flat_map, codes, decimal}
use Rattle.std.specs.List.{AllByRecursion, list_all}
use Rattle.r4_content.specs.declared.command.Command.{Command}
use Rattle.r4_content.specs.declared.command.Command.TheVariants.{Create, Mkdir, Write, Fill, Truncate, Read, Stat, Names, Link, Unlink, Rmdir, Rename, Chmod, Chown, Times, Begin, End, Commit}
use Rattle.r4_script.specs.declared.job.Job.{Job}
use Rattle.r4_script.specs.declared.job.Script.{Script}
use Rattle.r4_script.specs.Grammar.{IsNameByte, joined, Turns}

-- each name behind a slash
abbrev pub path_text : List (List ℕ) → List ℕ
path_text [] = codes "/"
path_text (name ∷ names) = flat_map (λ n. 47 ∷ n) (name ∷ names)

-- four octal digits
abbrev pub octal : ℕ → List ℕ
octal mode = (48 + mode / 8 / 8 / 8) ∷ (48 + mode / 8 / 8 % 8) ∷ (48 + mode / 8 % 8) ∷ (48 + mode % 8) ∷ []

-- the line of a command, without its newline
abbrev pub command_text : Command → List ℕ
command_text Begin = codes "begin"
command_text End = codes "end"
command_text Commit = codes "commit"
command_text (Create p oid) = joined (codes "create" ∷ path_text p ∷ [])
command_text (Mkdir p oid) = joined (codes "mkdir" ∷ path_text p ∷ [])
command_text (Write p offset text) = joined (codes "write" ∷ path_text p ∷ decimal offset ∷ text ∷ [])
command_text (Fill p offset len byte) = joined (codes "fill" ∷ path_text p ∷ decimal offset ∷ decimal len ∷ decimal byte ∷ [])
command_text (Truncate p size) = joined (codes "truncate" ∷ path_text p ∷ decimal size ∷ [])
command_text (Read p offset len) = joined (codes "read" ∷ path_text p ∷ decimal offset ∷ decimal len ∷ [])
command_text (Stat p) = joined (codes "stat" ∷ path_text p ∷ [])
command_text (Names p) = joined (codes "names" ∷ path_text p ∷ [])
command_text (Link p q) = joined (codes "link" ∷ path_text p ∷ path_text q ∷ [])
command_text (Unlink p) = joined (codes "unlink" ∷ path_text p ∷ [])
command_text (Rmdir p) = joined (codes "rmdir" ∷ path_text p ∷ [])
command_text (Rename p q) = joined (codes "rename" ∷ path_text p ∷ path_text q ∷ [])
command_text (Chmod p mode) = joined (codes "chmod" ∷ path_text p ∷ octal mode ∷ [])
command_text (Chown p uid gid) = joined (codes "chown" ∷ path_text p ∷ decimal uid ∷ decimal gid ∷ [])
command_text (Times p atime mtime ctime) = joined (codes "times" ∷ path_text p ∷ decimal atime ∷ decimal mtime ∷ decimal ctime ∷ [])

-- the lines of a script, and of scripts
abbrev pub script_lines : Script → List (List ℕ)
script_lines s = codes "script" ∷ map command_text s.commands

abbrev pub scripts_lines : List Script → List (List ℕ)
scripts_lines [] = []
scripts_lines (s ∷ scripts) = script_lines s ++ scripts_lines scripts

-- each line with its newline
abbrev pub job_text : Job → List ℕ
job_text job = flat_map (λ line. line ++ (10 ∷ [])) (scripts_lines job.scripts)

-- no newline stands in a text
abbrev pub is_one_line : List ℕ → Bool
is_one_line text = list_all (λ b. not (nat_eq b 10)) text

-- names that a path can be spelled of
pub record AreNames (p : List (List ℕ)) : Type 0 where
  pub bytes : AllByRecursion (AllByRecursion IsNameByte) p
  pub some : p ≢ [] ∷ []

-- a command that has a line
abbrev pub IsCommand : Command → Type 0
IsCommand Begin = Unit {0}
IsCommand End = Unit {0}
IsCommand Commit = Unit {0}
IsCommand (Create p oid) = (oid.0 ≡ 0) × AreNames p
IsCommand (Mkdir p oid) = (oid.0 ≡ 0) × AreNames p
IsCommand (Write p offset text) = AreNames p × (offset < 2 ^ 64) × (length text ≤ 4096) × (is_one_line text ≡ true)
IsCommand (Fill p offset len byte) = AreNames p × (offset < 2 ^ 64) × (len ≤ 1048576) × (byte ≤ 255)
IsCommand (Truncate p size) = AreNames p × (size < 2 ^ 64)
IsCommand (Read p offset len) = AreNames p × (offset < 2 ^ 64) × (len ≤ 65536)
IsCommand (Stat p) = AreNames p
IsCommand (Names p) = AreNames p
IsCommand (Link p q) = AreNames p × AreNames q
IsCommand (Unlink p) = AreNames p
IsCommand (Rmdir p) = AreNames p
IsCommand (Rename p q) = AreNames p × AreNames q
IsCommand (Chmod p mode) = AreNames p × (mode < 4096)
IsCommand (Chown p uid gid) = AreNames p × (uid < 2 ^ 32) × (gid < 2 ^ 32)
IsCommand (Times p atime mtime ctime) = AreNames p × (atime < 2 ^ 32) × (mtime < 2 ^ 32) × (ctime < 2 ^ 32)

-- transactions begin outside of one another, and end
abbrev pub AreInOrder : Bool → List Command → Type 0
AreInOrder inside [] = Unit {0}
AreInOrder inside (command ∷ commands) = (now : Bool) × (Turns command inside now × AreInOrder now commands)

-- a script that has lines
abbrev pub IsScript : Script → Type 0
IsScript s = AllByRecursion IsCommand s.commands × AreInOrder false s.commands

-- the scripts of a job
pub record AreScripts (scripts : List Script) : Type 0 where
  pub few : length scripts ≤ 64
  pub each : AllByRecursion IsScript scripts

-- a job that has a text
pub record IsJob (job : Job) : Type 0 where
  pub scripts : AreScripts job.scripts
  pub short : length (job_text job) ≤ 16777216
