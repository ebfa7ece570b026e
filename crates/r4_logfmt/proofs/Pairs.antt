-- The pairs of a record, as a loop counts them and as they are asked for.
use Rattle.std.proofs.Common.{◌≡◌, ◌≢◌, ℕ, zero, suc, ◌+◌, ◌-◌, ◌*◌, ◌^◌, ◌<◌, ◌≤◌, Bool, true, false, cond, eqb, List, [], ◌∷◌, length, Some, refl, sym, ap, ◌∙◌, arith}
use Rattle.std.specs.Prelude.{slice_get}
use Rattle.std.specs.List.{All}
use Rattle.std.proofs.lemmas.Bool.{eqb-true, eq-eqb}
use Rattle.r4_base.specs.Bytes.{number_at}
use Rattle.r4_base.proofs.Numbers.{number_at-lt}
use Rattle.r4_base.specs.Log.{pair_at, pairs_from, pairs_of}

-- pairs as they are written and read: numbers of eight bytes, and no original is 0
abbrev pub PairsFit : List (ℕ × ℕ) → Type 0
PairsFit ps = All (λ (p : ℕ × ℕ). (p.0 ≢ 0) × (p.0 < 2 ^ 64) × (p.1 < 2 ^ 64)) ps

pub none_at : (n i : ℕ) (b : List ℕ) → (pair_at b i).0 ≡ 0 → pairs_from (suc n) i b ≡ []
unfolding pairs_from
none_at n i b e = rw (eq-eqb (pair_at b i).0 0 e) refl

more_by : (t : Bool) (o : ℕ) (p : ℕ × ℕ) (ps : List (ℕ × ℕ)) → t ≡ eqb o 0 → o ≢ 0 → cond t [] (p ∷ ps) ≡ p ∷ ps
more_by true o p ps e ne = absurd (ne (eqb-true _ _ (sym e)))
more_by false o p ps e ne = refl

pub one_at : (n i : ℕ) (b : List ℕ) → (pair_at b i).0 ≢ 0 → pairs_from (suc n) i b ≡ pair_at b i ∷ pairs_from n (i + 1) b
unfolding pairs_from
one_at n i b ne = more_by (eqb (pair_at b i).0 0) (pair_at b i).0 (pair_at b i) (pairs_from n (i + 1) b) refl ne

pub length-pairs_from : (n i : ℕ) (b : List ℕ) → length (pairs_from n i b) ≤ n
unfolding pairs_from
length-pairs_from zero i b = omega arith
length-pairs_from (suc n) i b =
    let ih = length-pairs_from n (i + 1) b in
    elim (eqb (pair_at b i).0 0) as (λ t. length (cond t [] (pair_at b i ∷ pairs_from n (i + 1) b)) ≤ suc n) [ true ↦ omega arith | false ↦ omega arith ]

get_by : (i n : ℕ) (b : List ℕ) (t : Bool) (ih : (k : ℕ) → k < length (pairs_from n (i + 1) b) → slice_get (pairs_from n (i + 1) b) k ≡ Some (pair_at b (i + 1 + k))) (k : ℕ) → k < length (cond t [] (pair_at b i ∷ pairs_from n (i + 1) b)) → slice_get (cond t [] (pair_at b i ∷ pairs_from n (i + 1) b)) k ≡ Some (pair_at b (i + k))
get_by i n b true ih k lt = absurd (omega arith)
get_by i n b false ih zero lt = let e : i ≡ i + 0 = omega arith in ap (λ (j : ℕ). Some (pair_at b j)) e
get_by i n b false ih (suc k) lt = let e : i + 1 + k ≡ i + suc k = omega arith in ih k (omega arith) ∙ ap (λ (j : ℕ). Some (pair_at b j)) e

pub get-pairs_from : (n i k : ℕ) (b : List ℕ) → k < length (pairs_from n i b) → slice_get (pairs_from n i b) k ≡ Some (pair_at b (i + k))
unfolding pairs_from
get-pairs_from zero i k b lt = absurd (omega arith)
get-pairs_from (suc n) i k b lt = get_by i n b (eqb (pair_at b i).0 0) (λ j h. get-pairs_from n (i + 1) j b h) k lt

pub length-pairs_of : (b : List ℕ) → length (pairs_of b) ≤ 254
unfolding pairs_of
length-pairs_of b = length-pairs_from 254 0 b

pub get-pairs_of : (k : ℕ) (b : List ℕ) → k < length (pairs_of b) → slice_get (pairs_of b) k ≡ Some (pair_at b k)
unfolding pairs_of
get-pairs_of k b lt = let e : 0 + k ≡ k = omega arith in get-pairs_from 254 0 k b lt ∙ ap (λ (j : ℕ). Some (pair_at b j)) e

fit_by : (t : Bool) (p : ℕ × ℕ) (ps : List (ℕ × ℕ)) → t ≡ eqb p.0 0 → p.0 < 2 ^ 64 → p.1 < 2 ^ 64 → PairsFit ps → PairsFit (cond t [] (p ∷ ps))
fit_by true p ps e small small' rest k d lt = absurd (omega arith)
fit_by false p ps e small small' rest zero d lt = ((λ z. let t = eq-eqb p.0 0 z in cc), small, small')
fit_by false p ps e small small' rest (suc k) d lt = rest k d (omega arith)

fit-pairs_from : (n i : ℕ) (b : List ℕ) → PairsFit (pairs_from n i b)
unfolding pairs_from
fit-pairs_from zero i b = λ k d lt. absurd (omega arith)
fit-pairs_from (suc n) i b = fit_by (eqb (pair_at b i).0 0) (pair_at b i) (pairs_from n (i + 1) b) refl (number_at-lt 8 (32 + 16 * i) b) (number_at-lt 8 (40 + 16 * i) b) (fit-pairs_from n (i + 1) b)

-- what a block spells could be written
pub fit-pairs_of : (b : List ℕ) → PairsFit (pairs_of b)
unfolding pairs_of
fit-pairs_of b = fit-pairs_from 254 0 b

-- ---- the loop that counts

pub counted_none : (b : List ℕ) → length (pairs_of b) ≡ 0 + length (pairs_from (254 - 0) 0 b)
unfolding pairs_of
counted_none b = omega arith

pub counted_more : (b : List ℕ) (i o : ℕ) → i < 254 → o ≡ number_at 8 (32 + 16 * i) b → o ≢ 0 → length (pairs_of b) ≡ i + length (pairs_from (254 - i) i b) → length (pairs_of b) ≡ (i + 1) + length (pairs_from (254 - (i + 1)) (i + 1) b)
counted_more b i o lt is ne so_far =
    let k : 254 - i ≡ suc (254 - (i + 1)) = omega arith in
    let one = one_at (254 - (i + 1)) i b (λ e. ne (is ∙ e)) in
    let step : length (pairs_from (254 - i) i b) ≡ suc (length (pairs_from (254 - (i + 1)) (i + 1) b)) = rw (k, one) refl in
    omega arith

pub counted_stop : (b : List ℕ) (i o : ℕ) → i < 254 → o ≡ number_at 8 (32 + 16 * i) b → o ≡ 0 → length (pairs_of b) ≡ i + length (pairs_from (254 - i) i b) → i ≡ length (pairs_of b)
counted_stop b i o lt is e so_far =
    let k : 254 - i ≡ suc (254 - (i + 1)) = omega arith in
    let none = none_at (254 - (i + 1)) i b (sym is ∙ e) in
    let stop : length (pairs_from (254 - i) i b) ≡ 0 = rw (k, none) refl in
    omega arith

pub counted_all : (b : List ℕ) (i : ℕ) → 254 ≤ i → i ≤ 254 → length (pairs_of b) ≡ i + length (pairs_from (254 - i) i b) → 254 ≡ length (pairs_of b)
counted_all b i ge le so_far =
    let short = length-pairs_from (254 - i) i b in
    omega arith
