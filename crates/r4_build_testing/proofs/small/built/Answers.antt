use Rattle.std.proofs.Common.{arith}
use Rattle.std.specs.Prelude.{IsTrue}
use Rattle.std.proofs.lemmas.Grind.{common_steps}
use Rattle.r4_cell.specs.Patch.{by_name}
use Rattle.r4_content.specs.Held.{pairs_of}
use Rattle.r4_build.specs.r4_measure.Examples.{fresh_root}
use Rattle.r4_build_testing.proofs.TwoCells.{buildable}
use Rattle.r4_build_testing.proofs.small.built.Goals as goal

pub build-requires-clause-task : goal.build-requires-clause-task
build-requires-clause-task g c κs within =
    let yes : IsTrue c.in_ok-has_room.field-0 = grind (arith, common_steps, c.if-not-branch.false) in
    rw (c.in_ok-new.ensures.ok, c.writes.view_is) (
      by_name c.args.writes,
      (
        fresh_root,
        buildable c.args.command (pairs_of c.args.seen) c.args.writes c.requires.small c.requires.tails c.requires.lawful
            (c.in_ok-has_room.ensures yes c.requires.small),
      ),
    )
