-- What comes next in a script, and what is found of it.
use Rattle.std.specs.Prelude.{Option, None, Some}
use Rattle.r4_content.specs.declared.command.Command.{Command}
use Rattle.r4_content.specs.declared.command.Command.TheVariants as asks
use Rattle.r4_base.specs.declared.things.ScriptNo.{ScriptNo}
use Rattle.r4_history.specs.declared.why.Why.{Why}
use Rattle.r4_served.specs.declared.serving.Served.{Served}
use Rattle.r4_served.specs.declared.serving.Served.TheVariants as served
use Rattle.r4_next.specs.declared.following.Following.{Following}
use Rattle.r4_next.specs.declared.following.Following.TheVariants as next
use Rattle.r4_next.specs.declared.taken.Looked.{Looked}
use Rattle.r4_next.specs.declared.taken.Looked.TheVariants as looked
use Rattle.r4_next.specs.declared.taken.Taken.{Taken}
use Rattle.r4_next.specs.declared.taken.Taken.TheVariants as taken

abbrev pub what_follows : Option Command → Following
what_follows None = next.Nothing
what_follows (Some asks.Begin) = next.Begin
what_follows (Some asks.End) = next.End
what_follows (Some asks.Commit) = next.Commit
what_follows (Some x) = next.Work

-- what is found of a script whose next command, work, was served so
abbrev pub looked_as : ScriptNo → Served → Looked
looked_as s served.Refused = looked.Takes (taken.Replied s)
looked_as s (served.Waits why) = looked.Waits why
looked_as s (served.Out task) = looked.Takes (taken.Work task)

-- what there is to do where no script can be served: why the first that is not finished waits, if one is
abbrev pub taken_for : Option Why → Taken
taken_for None = taken.Finished
taken_for (Some why) = taken.Wait why
