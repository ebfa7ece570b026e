use Rattle.r4_wander.proofs.Standing.{first_below, home_below}
use Rattle.r4_wander.proofs.writer.Writer.write_next.Goals as goal

pub write-requires-after_bounds : goal.write-requires-after_bounds
write-requires-after_bounds g c κs within = first_below _ c.args.self.now _ c.self.view_is c.requires.fits c.requires.some c.index.result.now c.in-0.is c.index.ensures

pub write-requires-in-2-after_bounds : goal.write-requires-in-2-after_bounds
write-requires-in-2-after_bounds g c κs within = home_below _ c.args.self.now _ c.self.view_is c.requires.fits c.requires.some c.index-in-2.result.now c.in-2.is c.index-in-2.ensures
