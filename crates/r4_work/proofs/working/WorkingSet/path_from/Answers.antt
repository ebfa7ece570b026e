use Rattle.std.proofs.Common.{◌∙◌, ◌++◌, ◌-◌, map, reverse, ap}
use Rattle.std.specs.Arc.{arc_value}
use Rattle.r4_base.specs.Key.{rank}
use Rattle.r4_work.specs.Working.{standing, ups_of}
use Rattle.r4_work.proofs.Ranges.{standing_apart}
use Rattle.r4_work.proofs.Ups.{map_reverse}
use Rattle.r4_work.proofs.working.WorkingSet.path_from.Goals as goal

pub returns : goal.returns
returns c t r f is =
    ap (map (λ x. arc_value x)) c.reverse.ensures.items
    ∙ (map_reverse (λ x. arc_value x) c.add_ups.new.path.items
    ∙ ap reverse (c.in_ok-add_ups.ensures (standing_apart t r f c.args.self.now is)
    ∙ ap (λ xs. map (λ x. arc_value x) xs ++ ups_of (9 - c.args.level) (standing c.args.self.now) c.args.level (rank c.args.key)) c.new-path.ensures.items))
