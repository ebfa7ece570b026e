-- Keys of one object, by their ranks.
use Rattle.std.proofs.Common.{◌≡◌, ℕ, ◌+◌, ◌*◌, ◌^◌, ◌<◌, ◌≤◌, arith}
use Rattle.std.specs.Prelude.{slice_index}
use Rattle.r4_base.specs.Key.{IsKey, offset_of, rank}
use Rattle.r4_base.specs.declared.key.Key.{Key}

digits : (x0 x1 x2 x3 y0 y1 y2 y3 n : ℕ) → x1 < 2 ^ 64 → x2 < 2 ^ 64 → y1 < 2 ^ 64 → y2 < 2 ^ 64 → y3 < 2 ^ 64 → x3 + n ≤ 2 ^ 64
    → x0 * 2 ^ 192 + (x1 * 2 ^ 128 + (x2 * 2 ^ 64 + x3)) < y0 * 2 ^ 192 + (y1 * 2 ^ 128 + (y2 * 2 ^ 64 + y3))
    → y0 * 2 ^ 192 + (y1 * 2 ^ 128 + (y2 * 2 ^ 64 + y3)) < x0 * 2 ^ 192 + (x1 * 2 ^ 128 + (x2 * 2 ^ 64 + x3)) + n
    → (x0 ≡ y0) × ((x1 ≡ y1) × ((x2 ≡ y2) × (x3 < y3)))
digits x0 x1 x2 x3 y0 y1 y2 y3 n a b c d e f low high =
    let e0 : x0 ≡ y0 = omega arith in
    let e1 : x1 ≡ y1 = omega arith in
    let e2 : x2 ≡ y2 = omega arith in
    (e0, (e1, (e2, omega arith)))

-- A key that lies within an object's bytes from another on is of the same object.
pub same_object : (a b : Key) (n : ℕ) → IsKey a → IsKey b → offset_of a + n ≤ 2 ^ 64 → rank a < rank b → rank b < rank a + n
    → (slice_index a.el 0 ≡ slice_index b.el 0) × ((slice_index a.el 1 ≡ slice_index b.el 1) × ((slice_index a.el 2 ≡ slice_index b.el 2) × (offset_of a < offset_of b)))
unfolding rank
same_object a b n h g fits low high = digits _ _ _ _ _ _ _ _ n (h.small 1) (h.small 2) (g.small 1) (g.small 2) (g.small 3) fits low high
