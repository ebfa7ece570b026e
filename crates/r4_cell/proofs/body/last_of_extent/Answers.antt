use Rattle.std.proofs.Common.{arith, ap, ◌∙◌, ◌*◌, ℕ, List}
use Rattle.r4_base.specs.Extents.{blocks_in}
use Rattle.r4_base.specs.declared.items.Unit.{Unit as ExtentUnit}
use Rattle.r4_cell.proofs.BodyEnds.{extent_found, extent_refused, some_blocks}
use Rattle.r4_cell.proofs.body.last_of_extent.Goals as goal

pub last_byte-requires-clause-some : goal.last_byte-requires-clause-some
last_byte-requires-clause-some c = let some = some_blocks c.args.blocks c.args.item.now.body.now _ c.in-Ok.ensures.ok c.in-Ok.ensures.units c.in-Ok.ensures.some in omega (arith, some, c.blocks_of.ensures.sum)

pub returns-in-Ok : goal.returns-in-Ok
returns-in-Ok c = extent_found c.args.blocks _ _ c.last_byte.result c.requires.plugin c.in-Ok.ensures.ok (ap (λ (n : ℕ). 4096 * n) (c.blocks_of.ensures.sum ∙ ap (λ (us : List ExtentUnit). blocks_in us) c.in-Ok.ensures.units)) c.last_byte.ensures

pub returns-in-Err : goal.returns-in-Err
returns-in-Err c = extent_refused c.args.blocks _ c.in-Err.fault c.requires.plugin c.in-Err.ensures.err
