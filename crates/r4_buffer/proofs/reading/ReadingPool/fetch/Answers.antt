use Rattle.std.proofs.Common.{false, refl, sym, ◌∙◌, arith}
use Rattle.std.specs.Arc.{arc_value}
use Rattle.r4_search.specs.Path.{root_name}
use Rattle.r4_search.specs.Pool.{called}
use Rattle.r4_search.proofs.FromDevice.{made, well}
use Rattle.r4_buffer.specs.Reading.{reading_places}
use Rattle.r4_buffer.proofs.Pools.{captured_none, memory_fetched}
use Rattle.r4_buffer.proofs.reading.ReadingPool.fetch.Goals as goal

pub returns-in-Fits-clause-fetches : goal.returns-in-Fits-clause-fetches
returns-in-Fits-clause-fetches g c =
    let me = c.args.self.now in
    let n = called c.args.id.0 c.args.level c.args.lo c.args.hi in
    let shared = c.in_ok-shared-in-Fits.ensures in
    memory_fetched (λ cell. arc_value cell) (root_name me.root) (g.E.Device.state me.dev) me.buffer.now me.blocks n me.named me.readable (arc_value c.in-Fits.cell.now)
    c.in-Fits.ensures.0 c.in-Fits.ensures.1 shared.stands c.requires c.in_ok-shared-in-Fits.field-0 shared.same

pub returns-clause-fetches : goal.returns-clause-fetches
returns-clause-fetches g c =
    let me = c.args.self.now in
    let small = me.small in
    let n = called c.args.id.0 c.args.level c.args.lo c.args.hi in
    let places = reading_places (root_name me.root) me.buffer.now me.blocks in
    made (λ cell. arc_value cell) places (g.E.Device.state me.dev) (g.E.Device.state c.read.new.self) c.read.ensures.goes c.read.ensures.seen n
    (captured_none me.buffer.now c.args.id.0 c.in-Absent.ensures) c.read.new.into c.cell_from.result c.cell_from.ensures c.requires (omega (arith, small))
    (λ tells. well c.read.result _ (sym c.is_err.ensures.value ∙ c.if-is_err.false) (c.read.ensures.content tells))
