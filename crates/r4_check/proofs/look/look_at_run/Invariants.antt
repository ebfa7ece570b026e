use Rattle.std.proofs.Common.{ℕ, Ok}
use Rattle.r4_base.specs.Cell.{run_names}
use Rattle.r4_base.specs.Image.{Image}
use Rattle.r4_space.specs.Bitmaps.{AreBitmapsOf}
use Rattle.r4_check.specs.Looking.{Steps, Tells}
use Rattle.r4_check.specs.Walk.{look_at}
use Rattle.r4_check.proofs.look.look_at_run.Given as goal

abbrev pub invariant-loop-i : goal.invariant-loop-i
invariant-loop-i g l = Tells {T = Unit {0}} (g.K.Sink.state l.fn.out) l.fn.tally (Ok tt) (g.K.Sink.state l.out) l.tally
    × ((image : Image) (levels key : ℕ) → AreBitmapsOf l.settled.found.super40.block_count image l.settled.found.bitmaps.items
    → Steps {T = Unit {0}} l.settled.found.super40.block_count (g.K.Sink.state l.fn.out) l.fn.tally (Ok tt) (g.K.Sink.state l.out) l.tally (λ w. look_at levels l.settled.found.super40.block_count image w (run_names key l.start l.i)))
