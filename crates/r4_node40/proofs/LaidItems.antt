-- The items of a node that is laid out, and the room for more.
use Rattle.std.proofs.Common.{◌≡◌, ℕ, ◌+◌, ◌<◌, ◌≤◌, List, length, arith}
use Rattle.r4_base.specs.Node.{count_of, edge_at, item_at, offset_at}
use Rattle.r4_base.proofs.Numbers.{length-slice_range}
use Rattle.r4_node40.specs.Laid.{IsLaid, room_of}
use Rattle.r4_node40.proofs.Accepted.{space}
use Rattle.r4_node40.proofs.Laid.{edge_next, edge_stands, edge_step}

pub item_bodied : (b : List ℕ) (n i : ℕ) → IsLaid b → n ≡ count_of b → i < n → 1 ≤ length (item_at n b i).body
unfolding item_at
item_bodied b n i laid is lt =
    let here = edge_next n i b lt in
    let order = edge_step b n i laid is lt in
    let s = edge_stands b n (i + 1) laid is (omega arith) in
    let long = length-slice_range b (offset_at b i) (edge_at n b (i + 1)) (omega arith) (omega (arith, s.high, s.start, laid.whole)) in
    omega arith

pub room_small : (b : List ℕ) → IsLaid b → room_of b ≤ 4068
room_small b laid = let s = space b laid in omega (arith, s)
