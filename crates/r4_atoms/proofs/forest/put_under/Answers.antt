use Rattle.std.proofs.Common.{◌≢◌, sym, arith}
use Rattle.std.proofs.lemmas.List.{get_or-set_other}
use Rattle.r4_atoms.specs.Forest.{no_link}
use Rattle.r4_atoms.proofs.ForestLaws.{tops_together}
use Rattle.r4_atoms.proofs.forest.put_under.Goals as goal

pub overflow_add-over : goal.overflow_add-over
overflow_add-over c =
    let r = c.requires in
    let sum = tops_together c.args.links.now c.args.hang c.args.keep c.args.name r.forest r.hang r.keep r.differ in
    let apart : c.args.keep ≢ c.args.hang = λ e. r.differ (sym e) in
    rw (get_or-set_other c.args.links.now c.args.hang c.args.keep _ no_link apart) (omega arith)
