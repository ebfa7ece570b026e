-- The commands, each by its fields (docs/scripts.md, "Commands").
use Rattle.std.specs.Prelude.{ℕ, ◌-◌, ◌^◌, List, Result, Ok}
use Rattle.r4_base.specs.declared.things.Oid.{Oid}
use Rattle.r4_content.specs.declared.command.Command.{Command}
use Rattle.r4_content.specs.declared.command.Command.TheVariants as commands
use Rattle.r4_script.specs.declared.fault.What.TheVariants as whats
use Rattle.r4_script.specs.declared.fault.Spot.{Spot}
use Rattle.r4_script.specs.declared.word.Verb.{Verb}
use Rattle.r4_script.specs.declared.word.Verb.TheVariants.{Script, Begin, End, Commit, Create, Mkdir, Write, Fill, Truncate, Read, Stat, Names, Link, Unlink, Rmdir, Rename, Chmod, Chown, Times}
use Rattle.r4_script.specs.Field.{◌>>=◌, at_place, ends_at, number_at, mode_at, path_at, text_at}

-- the command makes, moves and removes no entries
abbrev pub IsOther : Verb → Type 0
IsOther Create = ⊥
IsOther Mkdir = ⊥
IsOther Link = ⊥
IsOther Unlink = ⊥
IsOther Rmdir = ⊥
IsOther Rename = ⊥
IsOther _ = Unit {0}

-- no object is drawn yet
abbrev pub no_oid : Oid
no_oid = record { 0 = 0 }

-- nothing
abbrev pub bare : Command → List ℕ → ℕ → Result Command Spot
bare command line i = do
  _ ← ends_at line i
  Ok command

-- a path
abbrev pub path_alone : List ℕ → ℕ → Result (List (List ℕ)) Spot
path_alone line i = do
  p ← path_at line i
  _ ← ends_at line p.1
  Ok p.0

-- two paths
abbrev pub paths_alone : List ℕ → ℕ → Result (List (List ℕ) × List (List ℕ)) Spot
paths_alone line i = do
  a ← path_at line i
  b ← path_at line a.1
  _ ← ends_at line b.1
  Ok (a.0, b.0)

-- a command of a path
abbrev pub with_path : (List (List ℕ) → Command) → List ℕ → ℕ → Result Command Spot
with_path make line i = do
  p ← path_alone line i
  Ok (make p)

-- a command of two paths
abbrev pub with_paths : (List (List ℕ) → List (List ℕ) → Command) → List ℕ → ℕ → Result Command Spot
with_paths make line i = do
  p ← paths_alone line i
  Ok (make p.0 p.1)

-- a path, an offset, and the text that is the rest of the line
abbrev pub write_at : List ℕ → ℕ → Result Command Spot
write_at line i = do
  p ← path_at line i
  offset ← number_at (2 ^ 64 - 1) line p.1
  text ← text_at line offset.1
  Ok (commands.Write p.0 offset.0 text)

-- a path, an offset, a length of at most 1 MiB and a byte
abbrev pub fill_at : List ℕ → ℕ → Result Command Spot
fill_at line i = do
  p ← path_at line i
  offset ← number_at (2 ^ 64 - 1) line p.1
  len ← number_at 1048576 line offset.1
  byte ← number_at 255 line len.1
  _ ← ends_at line byte.1
  Ok (commands.Fill p.0 offset.0 len.0 byte.0)

-- a path and a size
abbrev pub truncate_at : List ℕ → ℕ → Result Command Spot
truncate_at line i = do
  p ← path_at line i
  size ← number_at (2 ^ 64 - 1) line p.1
  _ ← ends_at line size.1
  Ok (commands.Truncate p.0 size.0)

-- a path, an offset and a length of at most 64 KiB
abbrev pub read_at : List ℕ → ℕ → Result Command Spot
read_at line i = do
  p ← path_at line i
  offset ← number_at (2 ^ 64 - 1) line p.1
  len ← number_at 65536 line offset.1
  _ ← ends_at line len.1
  Ok (commands.Read p.0 offset.0 len.0)

-- a path and a mode
abbrev pub chmod_at : List ℕ → ℕ → Result Command Spot
chmod_at line i = do
  p ← path_at line i
  mode ← mode_at line p.1
  _ ← ends_at line mode.1
  Ok (commands.Chmod p.0 mode.0)

-- a path, an owner and a group
abbrev pub chown_at : List ℕ → ℕ → Result Command Spot
chown_at line i = do
  p ← path_at line i
  uid ← number_at (2 ^ 32 - 1) line p.1
  gid ← number_at (2 ^ 32 - 1) line uid.1
  _ ← ends_at line gid.1
  Ok (commands.Chown p.0 uid.0 gid.0)

-- a path and three times
abbrev pub times_at : List ℕ → ℕ → Result Command Spot
times_at line i = do
  p ← path_at line i
  atime ← number_at (2 ^ 32 - 1) line p.1
  mtime ← number_at (2 ^ 32 - 1) line atime.1
  ctime ← number_at (2 ^ 32 - 1) line mtime.1
  _ ← ends_at line ctime.1
  Ok (commands.Times p.0 atime.0 mtime.0 ctime.0)

-- the command of a word, whose fields begin at this place; `script` is none
unfoldable pub command_at : Verb → List ℕ → ℕ → Result Command Spot
command_at Script line i = at_place 0 whats.Command
command_at Begin line i = bare commands.Begin line i
command_at End line i = bare commands.End line i
command_at Commit line i = bare commands.Commit line i
command_at Create line i = with_path (λ p. commands.Create p no_oid) line i
command_at Mkdir line i = with_path (λ p. commands.Mkdir p no_oid) line i
command_at Write line i = write_at line i
command_at Fill line i = fill_at line i
command_at Truncate line i = truncate_at line i
command_at Read line i = read_at line i
command_at Stat line i = with_path (λ p. commands.Stat p) line i
command_at Names line i = with_path (λ p. commands.Names p) line i
command_at Link line i = with_paths (λ a b. commands.Link a b) line i
command_at Unlink line i = with_path (λ p. commands.Unlink p) line i
command_at Rmdir line i = with_path (λ p. commands.Rmdir p) line i
command_at Rename line i = with_paths (λ a b. commands.Rename a b) line i
command_at Chmod line i = chmod_at line i
command_at Chown line i = chown_at line i
command_at Times line i = times_at line i
