-- Commands that change nothing.
use Rattle.r4_content.specs.declared.command.Command.{Command}
use Rattle.r4_content.specs.declared.command.Command.TheVariants.{Read, Stat, Names, Begin, End}
use Rattle.r4_content.specs.declared.command.Command.TheVariants.{Commit}

-- the command reads at most
abbrev pub OnlyReads : Command → Type 0
OnlyReads (Read _ _ _) = Unit {0}
OnlyReads (Stat _) = Unit {0}
OnlyReads (Names _) = Unit {0}
OnlyReads Begin = Unit {0}
OnlyReads End = Unit {0}
OnlyReads Commit = Unit {0}
OnlyReads _ = ⊥
