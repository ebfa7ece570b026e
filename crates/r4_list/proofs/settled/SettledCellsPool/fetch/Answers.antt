use Rattle.std.proofs.Common.{refl, sym, ap, ◌∙◌, arith}
use Rattle.std.specs.Arc.{arc_value}
use Rattle.r4_base.specs.Image.{block_at}
use Rattle.r4_search.specs.Path.{root_name}
use Rattle.r4_search.specs.Pool.{called}
use Rattle.r4_search.proofs.FromDevice.{made, well}
use Rattle.r4_list.specs.Pool.{settled_places}
use Rattle.r4_list.proofs.settled.SettledCellsPool.fetch.Goals as goal

pub returns-clause-fetches : goal.returns-clause-fetches
returns-clause-fetches g c =
    let me = c.args.self.now in
    let small = me.small in
    let d = g.D.Device.state me.dev in
    let n = called c.args.id.0 c.args.level c.args.lo c.args.hi in
    let places = settled_places (root_name me.root) me.log.homes me.blocks in
    made (λ cell. arc_value cell) places d (g.D.Device.state c.read.new.self) c.read.ensures.goes c.read.ensures.seen n refl c.read.new.into c.cell_from.result c.cell_from.ensures c.requires (omega (arith, small))
    (λ tells. well c.read.result _ (sym c.is_err.ensures.value ∙ c.if-is_err.false) (c.read.ensures.content tells) ∙ ap (block_at d.seen) c.home.ensures)
