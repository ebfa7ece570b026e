-- Room for fewer cells, and how many cells come for so many bytes.
use Rattle.std.proofs.Common.{inl, inr, ℕ, ◌+◌, ◌-◌, ◌*◌, ◌/◌, ◌<◌, ◌≤◌, List, [], ◌∷◌}
use Rattle.std.proofs.Common.{arith}
use Rattle.r4_base.specs.Tree.{Root}
use Rattle.r4_patch.specs.r4_cell.Seen.{CellSeen}
use Rattle.r4_path.specs.Levels.{IsLongEnough}

-- fewer cells ask for no more room
pub fewer : (r : Root) (less come : ℕ) (c : CellSeen) (ups : List CellSeen) → less ≤ come → IsLongEnough r come c ups
    → IsLongEnough r less c ups
fewer r less come c [] le h = h
fewer r less come c (d ∷ ups) le (inl room) = inl (omega (arith, room, le))
fewer r less come c (d ∷ ups) le (inr more) = inr more

pub part_of : (bytes n : ℕ) → 4068 < bytes → 1024 * n + 2020 < bytes → n ≤ 1 + (bytes - 4068 + 1023) / 1024
part_of bytes n over more = omega (arith, over, more)
