use Rattle.r4_open.proofs.Openings.{Reading}
use Rattle.r4_open.proofs.opening.read_bitmaps.Given as goal

abbrev pub invariant-loop-n : goal.invariant-loop-n
invariant-loop-n g l = Reading (g.D.Device.state l.fn.dev) (g.D.Device.state l.dev) (g.H.Homes.home l.homes) l.n l.bitmaps.items
