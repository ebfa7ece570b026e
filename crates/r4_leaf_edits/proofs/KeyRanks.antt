-- Keys, and the bytes of bodies at keys.
use Rattle.std.specs.Prelude.{◌≡◌, ℕ, ◌+◌, ◌*◌, ◌/◌, ◌%◌, ◌^◌, ◌<◌, List, [], ◌∷◌, length, slice_index, ◌==◌}
use Rattle.std.proofs.Common.{arith, refl, ap, get_or}
use Rattle.r4_base.specs.Key.{IsKey, key_of_rank, minor_of, rank}
use Rattle.r4_base.specs.declared.key.Key.{Key}
use Rattle.r4_reach.specs.Reach.{is_body}

parts : (a b c d : ℕ) → b < 2 ^ 64 → c < 2 ^ 64 → d < 2 ^ 64 → let r = a * 2 ^ 192 + (b * 2 ^ 128 + (c * 2 ^ 64 + d)) in (r / 2 ^ 192 ≡ a) × (r / 2 ^ 128 % 2 ^ 64 ≡ b) × (r / 2 ^ 64 % 2 ^ 64 ≡ c) × (r % 2 ^ 64 ≡ d)
parts a b c d lb lc ld = (omega (arith, lb, lc, ld), omega (arith, lb, lc, ld), omega (arith, lb, lc, ld), omega (arith, lb, lc, ld))

list_again : (xs : List ℕ) → length xs ≡ 4 → ((i : ℕ) → get_or xs i 0 < 2 ^ 64) → let k : Key = record { el = xs } in key_of_rank (rank k) ≡ k
unfolding key_of_rank rank
list_again (a ∷ b ∷ c ∷ d ∷ []) e h = let p = parts a b c d (h 1) (h 2) (h 3) in rw (p.0, p.1, p.2, p.3) refl
list_again _ e h = absurd (omega arith)

-- a key comes back from its rank
pub key_again : (k : Key) → IsKey k → key_of_rank (rank k) ≡ k
key_again k is = list_again k.el is.four is.small

pub body_is : (k : Key) → IsKey k → is_body (rank k) ≡ (slice_index k.el 0 % 16 == 4)
body_is k is = ap (λ (j : Key). minor_of j == 4) (key_again k is)
