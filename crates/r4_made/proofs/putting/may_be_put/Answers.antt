use Rattle.std.proofs.Common.{subst}
use Rattle.std.specs.Option.{option_copied}
use Rattle.std.specs.Prelude.{List}
use Rattle.r4_put_tasks.specs.r4_build.r4_measure.r4_cell.Seen.{CellSeen}
use Rattle.r4_content.specs.Held.{edits_of}
use Rattle.r4_put_tasks.specs.Put.{TwigsMayStand}
use Rattle.r4_put_tasks.specs.r4_extent_put.Allowing.{MayPutAll}
use Rattle.r4_made.proofs.putting.may_be_put.Goals as goal

pub returns : goal.returns
returns c = λ ok.
    let b = option_copied c.args.body in
    let e = edits_of c.args.edits.now in
    record {
      may = subst (λ (cells : List CellSeen). MayPutAll b e c.args.task.now.fresh cells) c.as_slice-cells.ensures
          (c.in_ok-may.ensures.may ok);
      keys = c.have_lawful_keys.ensures.0 c.if-not-have_lawful_keys.false;
      twigs = subst TwigsMayStand c.as_slice-cells.ensures c.look_at_twigs.ensures;
    }
