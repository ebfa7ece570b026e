use Rattle.std.proofs.Common.{◌∙◌, ap, sym}
use Rattle.r4_turns.specs.Turns.{turn_at}
use Rattle.std.specs.Option.{option_map}
use Rattle.r4_turns.specs.declared.out.Out.{Out}
use Rattle.r4_next.proofs.Found.{cannot_out_as}
use Rattle.r4_next.proofs.Read.{read_itself}
use Rattle.r4_next.proofs.looking.look_at.Goals as goal

pub returns-in-Some-clause-ok : goal.returns-in-Some-clause-ok
returns-in-Some-clause-ok g c =
    let core = c.args.core.now in
    let s = c.args.script in
    let d = g.D.Device.state in
    let at = sym (c.task_of.ensures ∙ ap (λ t. option_map (λ (o : Out). o.task) (turn_at t s.0).out) c.turns.ensures)
    ∙ c.in-Some.is in (
      cannot_out_as core s.0 d (d core.dev) (d core.dev) c.in-Some.task at c.requires.script
          c.lawful.ensures.kept.tables.tasks,
      read_itself (d core.dev) core,
    )
