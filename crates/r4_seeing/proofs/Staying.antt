-- A tree stays the same while its cells are looked at.
use Rattle.std.proofs.Common.{◌≡◌}
use Rattle.r4_cell.specs.declared.change.Root.{Root}
use Rattle.r4_gather.specs.Asking.{StaysOver}
use Rattle.r4_outside.specs.Device.{State}
use Rattle.r4_search.specs.Pool.{Goes, LeavesDevice, PoolState}

pub goes_stay : (d e : State) (p q : PoolState) (r s : Root) → s ≡ r → LeavesDevice d e → Goes p q
    → StaysOver d e (record { root = r; pool = p }) (record { root = s; pool = q })
unfolding StaysOver
goes_stay d e p q r s same device g = record {
  device = device;
  root = same;
  named = g.root;
  blocks = g.blocks;
  meant = g.meant;
  kept = g.kept;
  added = g.added;
  keeps = g.keeps;
}
