use Rattle.r4_placed.proofs.Planning.{fresh_spot, old_spot, placed_spot, space_placed}
use Rattle.r4_placed.proofs.naming.cells_have_places.Goals as goal

pub returns : goal.returns
returns g = record { space = space_placed; old = old_spot; fresh = fresh_spot; spots = placed_spot }
