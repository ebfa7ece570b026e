use Rattle.std.proofs.Common.{ap, map, sym, ◌∙◌}
use Rattle.std.specs.Option.{option_copied}
use Rattle.r4_base.specs.Tree.{Name}
use Rattle.r4_units.specs.r4_cell.Seen.{node_of}
use Rattle.r4_extent_asks.proofs.Named.{left_off}
use Rattle.r4_extent_asks.proofs.left.left_leaves.Goals as goal

pub returns-in-None : goal.returns-in-None
returns-in-None c = c.new.ensures.items ∙ sym (ap (map (λ (n : Name). n.id))
    (left_off (option_copied c.args.body) (node_of c.args.twig.now).names c.in-None.ensures))
