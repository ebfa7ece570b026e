-- A key of a rank.
use Rattle.std.proofs.Common.{◌≡◌, ℕ, ◌^◌, ◌<◌, arith, refl}
use Rattle.r4_base.specs.Key.{IsKey, key_of_rank, rank}
use Rattle.r4_base.proofs.Keys.{is_key}

pub rank_again : (r : ℕ) → rank (key_of_rank r) ≡ r
unfolding rank key_of_rank
rank_again r = omega arith

pub key_there : (r : ℕ) → r < 2 ^ 256 → IsKey (key_of_rank r)
unfolding key_of_rank
key_there r lt = is_key (key_of_rank r) refl (omega (arith, lt)) (omega arith) (omega arith) (omega arith)
