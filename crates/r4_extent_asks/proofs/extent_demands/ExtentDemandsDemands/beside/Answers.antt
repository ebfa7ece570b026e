use Rattle.std.proofs.Common.{ap, map, sym, ◌∙◌}
use Rattle.r4_base.specs.Tree.{Name}
use Rattle.r4_extent_asks.proofs.Named.{none_left}
use Rattle.r4_extent_asks.proofs.extent_demands.ExtentDemandsDemands.beside.Goals as goal

pub returns : goal.returns
returns c = c.new.ensures.items ∙ sym (ap (map (λ (n : Name). n.id))
    (none_left c.args.self.now.body c.args.cell.now (λ two. c.if-level-eq-TWIG.false (c.level.ensures ∙ two))))
