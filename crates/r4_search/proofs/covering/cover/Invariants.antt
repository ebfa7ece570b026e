use Rattle.std.proofs.Common.{map}
use Rattle.std.specs.Option.{option_map}
use Rattle.std.specs.Arc.{arc_value}
use Rattle.r4_base.specs.Key.{rank}
use Rattle.r4_search.specs.Place.{child_name}
use Rattle.r4_search.proofs.Walks.{Walking, left}
use Rattle.r4_search.proofs.covering.cover.Given as goal

abbrev pub invariant-loop-next : goal.invariant-loop-next
invariant-loop-next g l = Walking l.root (rank l.key) (g.P.Pool.state l.fn.pool) (g.P.Pool.state l.pool) (map (λ cell. arc_value cell) l.path.items) (option_map child_name l.next) (g.P.Pool.device l.fn.pool) (g.P.Pool.device l.pool)

abbrev pub decreases-loop-next : goal.decreases-loop-next
decreases-loop-next g l = left (option_map child_name l.next)
