use Rattle.std.proofs.Common.{◌+◌, ◌-◌, ◌*◌, Ok}
use Rattle.r4_base.specs.Image.{Image}
use Rattle.r4_base.specs.Key.{rank}
use Rattle.r4_base.specs.Node.{items_of}
use Rattle.r4_check.specs.Looking.{Goes, IsGround, Steps}
use Rattle.r4_check.specs.Walk.{look_at}
use Rattle.r4_check.proofs.Items.{names_before}
use Rattle.r4_check.proofs.look.+looking.Given as goal

abbrev pub decreases-look_at_item : goal.decreases-look_at_item
decreases-look_at_item g l = 3 * l.cell.now.level - 1

abbrev pub decreases-look_at_node : goal.decreases-look_at_node
decreases-look_at_node g l = 3 * l.named.now.level + 1

abbrev pub decreases-look_below : goal.decreases-look_below
decreases-look_below g l = 3 * l.cell.now.level

abbrev pub invariant-look_below-loop-i : goal.invariant-look_below-loop-i
invariant-look_below-loop-i g l = Goes {T = Unit {0}} (g.D.Device.state l.fn.dev) (g.K.Sink.state l.fn.out) l.fn.tally (Ok tt) (g.D.Device.state l.dev) (g.K.Sink.state l.out) l.tally
    × ((image : Image) → IsGround l.settled (g.D.Device.state l.fn.dev) image → Steps {T = Unit {0}} l.settled.found.super40.block_count (g.K.Sink.state l.fn.out) l.fn.tally (Ok tt) (g.K.Sink.state l.out) l.tally
    (λ w. look_at (l.cell.level - 1) l.settled.found.super40.block_count image w (names_before l.cell.level (rank l.cell.hi) (items_of l.cell.block) l.i)))
