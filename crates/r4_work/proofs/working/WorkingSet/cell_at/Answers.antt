use Rattle.std.proofs.Common.{◌∙◌, sym}
use Rattle.std.specs.Arc.{arc_value}
use Rattle.std.proofs.lemmas.Option.{IfSome_then}
use Rattle.r4_base.specs.Key.{rank}
use Rattle.r4_work.proofs.Halving.{in_first, in_second}
use Rattle.r4_work.proofs.Ranges.{apart_left, apart_right, at_left, at_right}
use Rattle.r4_work.proofs.working.WorkingSet.cell_at.Goals as goal

pub returns-in-Some-clause-stands : goal.returns-in-Some-clause-stands
returns-in-Some-clause-stands c =
    at_right c.args.self.now.made c.args.self.now.kept c.args.level (rank c.args.key) (arc_value c.in-Some.cell.now) c.in-Some.ensures.stands

pub returns-in-Some-clause-exact : goal.returns-in-Some-clause-exact
returns-in-Some-clause-exact c apart =
    sym (in_second c.args.self.now.made c.args.self.now.kept c.args.level (rank c.args.key) (arc_value c.in-Some.cell.now)
    (sym (c.in-Some.ensures.exact (apart_right c.args.self.now.made c.args.self.now.kept apart))))

pub returns-in-None-clause-stands : goal.returns-in-None-clause-stands
returns-in-None-clause-stands c =
    IfSome_then c.find-in-None.result c.find-in-None.ensures.stands
    (λ x at. at_left c.args.self.now.made c.args.self.now.kept c.args.level (rank c.args.key) (arc_value x.now) at)

pub returns-in-None-clause-exact : goal.returns-in-None-clause-exact
returns-in-None-clause-exact c apart =
    c.find-in-None.ensures.exact (apart_left c.args.self.now.made c.args.self.now.kept apart)
    ∙ sym (in_first c.args.self.now.made c.args.self.now.kept c.args.level (rank c.args.key)
    (sym (c.in-None.ensures.exact (apart_right c.args.self.now.made c.args.self.now.kept apart))))
