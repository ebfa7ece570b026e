-- The bits of a bitmap block, by their places.
use Rattle.std.proofs.Common.{◌≡◌, ℕ, zero, suc, ◌+◌, ◌<◌, Bool, List, length, get_or, Some, refl, ap, ◌∙◌, arith}
use Rattle.std.specs.Prelude.{slice_get}
use Rattle.r4_base.specs.Bitmap.{is_used, bits_from, bits_of}

length-bits_from : (n i : ℕ) (b : List ℕ) → length (bits_from n i b) ≡ n
unfolding bits_from
length-bits_from zero i b = refl
length-bits_from (suc n) i b = let ih = length-bits_from n (i + 1) b in omega arith

get_or-bits_from : (n i k : ℕ) (d : Bool) (b : List ℕ) → k < n → get_or (bits_from n i b) k d ≡ is_used b (i + k)
unfolding bits_from
get_or-bits_from zero i k d b lt = absurd (omega arith)
get_or-bits_from (suc n) i zero d b lt = let e : i ≡ i + 0 = omega arith in ap (is_used b) e
get_or-bits_from (suc n) i (suc k) d b lt = let e : i + 1 + k ≡ i + suc k = omega arith in get_or-bits_from n (i + 1) k d b (omega arith) ∙ ap (is_used b) e

get-bits_from : (n i k : ℕ) (b : List ℕ) → k < n → slice_get (bits_from n i b) k ≡ Some (is_used b (i + k))
unfolding bits_from
get-bits_from zero i k b lt = absurd (omega arith)
get-bits_from (suc n) i zero b lt = let e : i ≡ i + 0 = omega arith in ap (λ (j : ℕ). Some (is_used b j)) e
get-bits_from (suc n) i (suc k) b lt = let e : i + 1 + k ≡ i + suc k = omega arith in get-bits_from n (i + 1) k b (omega arith) ∙ ap (λ (j : ℕ). Some (is_used b j)) e

pub length-bits_of : (b : List ℕ) → length (bits_of b) ≡ 32736
unfolding bits_of
length-bits_of b = length-bits_from 32736 0 b

pub get_or-bits_of : (k : ℕ) (d : Bool) (b : List ℕ) → k < 32736 → get_or (bits_of b) k d ≡ is_used b k
unfolding bits_of
get_or-bits_of k d b lt = let e : 0 + k ≡ k = omega arith in get_or-bits_from 32736 0 k d b lt ∙ ap (is_used b) e

pub get-bits_of : (k : ℕ) (b : List ℕ) → k < 32736 → slice_get (bits_of b) k ≡ Some (is_used b k)
unfolding bits_of
get-bits_of k b lt = let e : 0 + k ≡ k = omega arith in get-bits_from 32736 0 k b lt ∙ ap (λ (j : ℕ). Some (is_used b j)) e
