use Rattle.std.proofs.Common.{rules, arith}
use Rattle.std.specs.Arc.{arc_value}
use Rattle.std.specs.Vec.Iter.{into_iter_items}
use Rattle.r4_base.specs.Key.{rank}
use Rattle.r4_path.specs.Levels.{step_of}
use Rattle.r4_path.proofs.TwigCells.{no_twigs, twigs_step}
use Rattle.r4_path.proofs.twigs.twig_level.Goals.{in-Some+in_ok-add, in_default}
use Rattle.r4_path.proofs.twigs.twig_level.Goals as goal

pub returns-clause-step : goal.returns-clause-step
returns-clause-step c qs p few ids = elim c.match-next.branch [
  | in-Some+in_ok-add w ↦ twigs_step (arc_value c.args.twig.now) qs c.args.twigs.items w.in-Some.first
      (into_iter_items c.next.new.self) c.args.fresh.now c.match-next.fresh
      (step_of (record { old = c.in_ok-try_clone.field-0; new = c.from_vec.result }))
      (search rules) p few c.in_ok-try_clone.ensures (search rules) (search rules) ids
  | in_default w ↦ absurd (no_twigs (rank (arc_value c.args.twig.now).lo)
      (rank (arc_value c.args.twig.now).hi) qs c.args.twigs.items
      (let zero = w.in_default.ensures.cases.0 in let is = c.into_iter-rest.ensures.len in let long = c.args.twigs.ok in
      omega (arith, zero, is, long)) p)
]
