-- Bytes that are set stand in one run or in one fill, and take no memory one by one
-- (docs/commands.md, "Edits").
use Rattle.r4_content.specs.Held.{HoldsAtMost}
use Rattle.r4_content.specs.declared.command.Command.{Command}
use Rattle.r4_content.specs.declared.command.Command.TheVariants.{Write, Fill}
use Rattle.r4_content.specs.declared.edits.Edits.{Edits}

abbrev pub IsFlat : Command → Edits → Type 0
IsFlat (Write path offset text) e = HoldsAtMost 1 0 1 e
IsFlat (Fill path offset len byte) e = HoldsAtMost 0 1 1 e
IsFlat c e = Unit {0}
