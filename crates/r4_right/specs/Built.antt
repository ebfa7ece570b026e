-- What was built of a task that is out (docs/core.md, "Little steps").
use Rattle.std.specs.Prelude.{◌≡◌}
use Rattle.std.specs.Arc.{arc_value}
use Rattle.r4_applied.specs.r4_build.Built.{BuiltSeen, IsBuilt}
use Rattle.r4_content.specs.Held.{pairs_of}
use Rattle.r4_content.specs.declared.command.Command.{Command}
use Rattle.r4_freed.specs.r4_turns.declared.out.Out.{Out}

-- It was built of this command, of the cells that the task was given and what was seen for it, with
-- its numbers, within its scope.
pub record IsBuiltOf (out : Out) (x : Command) (y : BuiltSeen) : Type 0 where
  pub built : IsBuilt y
  pub command : y.task.command ≡ x
  pub reads : y.task.reads ≡ out.reads
  pub writes : y.task.writes ≡ out.writes
  pub seen : pairs_of (arc_value y.task.seen) ≡ pairs_of (arc_value out.seen)
  pub fresh : y.task.fresh ≡ out.numbers.fresh
  pub scope : y.task.scope ≡ out.scope
