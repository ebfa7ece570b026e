-- The groups in which commands are copied.

use Rattle.r4_content.specs.declared.command.Command.{Command}
use Rattle.r4_content.specs.declared.command.Command.TheVariants.{Create, Mkdir, Write, Fill}
use Rattle.r4_content.specs.declared.command.Command.TheVariants.{Truncate, Read, Stat, Names, Link}
use Rattle.r4_content.specs.declared.command.Command.TheVariants.{Unlink, Rmdir, Rename, Chmod}
use Rattle.r4_content.specs.declared.command.Command.TheVariants.{Chown, Times}

-- the command reads or sets bytes of a file
abbrev pub IsOfBytes : Command → Type 0
IsOfBytes (Write _ _ _) = Unit {0}
IsOfBytes (Fill _ _ _ _) = Unit {0}
IsOfBytes (Read _ _ _) = Unit {0}
IsOfBytes _ = ⊥

-- the command reads or sets attributes, of which a file's size is one
abbrev pub IsOfAttributes : Command → Type 0
IsOfAttributes (Stat _) = Unit {0}
IsOfAttributes (Truncate _ _) = Unit {0}
IsOfAttributes (Chmod _ _) = Unit {0}
IsOfAttributes (Chown _ _ _) = Unit {0}
IsOfAttributes (Times _ _ _ _) = Unit {0}
IsOfAttributes _ = ⊥

-- the command reads, makes, moves or removes entries
abbrev pub IsOfEntries : Command → Type 0
IsOfEntries (Create _ _) = Unit {0}
IsOfEntries (Mkdir _ _) = Unit {0}
IsOfEntries (Names _) = Unit {0}
IsOfEntries (Link _ _) = Unit {0}
IsOfEntries (Unlink _) = Unit {0}
IsOfEntries (Rmdir _) = Unit {0}
IsOfEntries (Rename _ _) = Unit {0}
IsOfEntries _ = ⊥
