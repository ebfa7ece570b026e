-- Units whose keys rise, and what edits make of them.
use Rattle.std.proofs.Common.{◌≡◌, ℕ, ◌+◌, ◌<◌, ◌≤◌, Bool, true, false, not, List, [], ◌∷◌, ◌++◌, length, refl, ap, subst, ◌∙◌, arith}
use Rattle.std.specs.Prelude.{nat_lt, if◌then◌else◌}
use Rattle.std.proofs.lemmas.Bool.Decides.{nat_tests}
use Rattle.r4_base.specs.Cell.{bytes_from}
use Rattle.r4_base.specs.Value.{Byte}
use Rattle.r4_leaf.specs.Units.{LeafUnit, cut_units, is_between, put_unit, put_units}

-- Units from one key up to another, each behind the one before it.
abbrev pub Rise : (from to : ℕ) → List LeafUnit → Type 0
Rise from to [] = from ≤ to
Rise from to (u ∷ us) = (from ≤ u.0) × Rise (u.0 + 1) to us

pub rise_order : (from to : ℕ) (us : List LeafUnit) → Rise from to us → from ≤ to
rise_order from to [] h = h
rise_order from to (u ∷ us) h = let r = rise_order (u.0 + 1) to us h.1 in let low = h.0 in omega (arith, r, low)

pub rise_lower : (from low to : ℕ) (us : List LeafUnit) → low ≤ from → Rise from to us → Rise low to us
rise_lower from low to [] le h = omega (arith, le, h)
rise_lower from low to (u ∷ us) le h = (let g = h.0 in omega (arith, le, g), h.1)

pub rise_wider : (from mid to : ℕ) (us : List LeafUnit) → mid ≤ to → Rise from mid us → Rise from to us
rise_wider from mid to [] le h = omega (arith, le, h)
rise_wider from mid to (u ∷ us) le h = (h.0, rise_wider (u.0 + 1) mid to us le h.1)

pub rise_append : (from mid to : ℕ) (us vs : List LeafUnit) → Rise from mid us → Rise mid to vs → Rise from to (us ++ vs)
rise_append from mid to [] vs h g = rise_lower mid from to vs h g
rise_append from mid to (u ∷ us) vs h g = (h.0, rise_append (u.0 + 1) mid to us vs h.1 g)

pub bytes_rise : (k : ℕ) (bs : List ℕ) → Rise k (k + length bs) (bytes_from k bs)
bytes_rise k [] = omega arith
bytes_rise k (b ∷ bs) = (omega arith, let h = bytes_rise (k + 1) bs in subst (λ t. Rise (k + 1) t (bytes_from (k + 1) bs)) (let e : k + 1 + length bs ≡ k + length (b ∷ bs) = omega arith in e) h)

pub bytes_append : (k : ℕ) (xs ys : List ℕ) → bytes_from k (xs ++ ys) ≡ bytes_from k xs ++ bytes_from (k + length xs) ys
bytes_append k [] ys = ap (λ j. bytes_from j ys) (let e : k ≡ k + 0 = omega arith in e)
bytes_append k (x ∷ xs) ys = ap (λ us. (k, Byte x) ∷ us) (bytes_append (k + 1) xs ys ∙ ap (λ j. bytes_from (k + 1) xs ++ bytes_from j ys) (let e : k + 1 + length xs ≡ k + length (x ∷ xs) = omega arith in e))

-- ---- what is cut out

pub below_kept : (from to k : ℕ) → k < from → not (is_between from to k) ≡ true
below_kept from to k lt = grind (arith, nat_tests, lt)

pub above_kept : (from to k : ℕ) → to ≤ k → not (is_between from to k) ≡ true
above_kept from to k le = grind (arith, nat_tests, le)

pub between_cut : (from to k : ℕ) → from ≤ k → k < to → not (is_between from to k) ≡ false
between_cut from to k le lt = grind (arith, nat_tests, le, lt)

pub cut_low : (from to a b : ℕ) (us : List LeafUnit) → b ≤ from → Rise a b us → cut_units from to us ≡ us
cut_low from to a b [] le h = refl
cut_low from to a b (u ∷ us) le h =
    let order = rise_order (u.0 + 1) b us h.1 in
    let kept = below_kept from to u.0 (omega (arith, le, order)) in
    let rest = cut_low from to (u.0 + 1) b us le h.1 in
    rw kept (ap (λ vs. u ∷ vs) rest)

pub cut_high : (from to a b : ℕ) (us : List LeafUnit) → to ≤ a → Rise a b us → cut_units from to us ≡ us
cut_high from to a b [] le h = refl
cut_high from to a b (u ∷ us) le h =
    let low = h.0 in
    let kept = above_kept from to u.0 (omega (arith, le, low)) in
    let rest = cut_high from to (u.0 + 1) b us (omega (arith, le, low)) h.1 in
    rw kept (ap (λ vs. u ∷ vs) rest)

pub cut_all : (from to a b : ℕ) (us : List LeafUnit) → from ≤ a → b ≤ to → Rise a b us → cut_units from to us ≡ []
cut_all from to a b [] le end h = refl
cut_all from to a b (u ∷ us) le end h =
    let low = h.0 in
    let order = rise_order (u.0 + 1) b us h.1 in
    let gone = between_cut from to u.0 (omega (arith, le, low)) (omega (arith, end, order)) in
    let rest = cut_all from to (u.0 + 1) b us (omega (arith, le, low)) end h.1 in
    rw gone rest

-- ---- what is put in

pub put_behind : (u : LeafUnit) (a : ℕ) (us ws : List LeafUnit) → Rise a u.0 us → put_unit u (us ++ ws) ≡ us ++ put_unit u ws
put_behind u a [] ws h = refl
put_behind u a (x ∷ us) ws h =
    let order = rise_order (x.0 + 1) u.0 us h.1 in
    let later : nat_lt u.0 x.0 ≡ false = grind (arith, nat_tests, order) in
    let rest = put_behind u (x.0 + 1) us ws h.1 in
    rw later (ap (λ vs. x ∷ vs) rest)

put_first : (u : LeafUnit) (d : ℕ) (ws : List LeafUnit) → Rise (u.0 + 1) d ws → put_unit u ws ≡ u ∷ ws
put_first u d [] h = refl
put_first u d (x ∷ ws) h = let low = h.0 in let before : nat_lt u.0 x.0 ≡ true = grind (arith, nat_tests, low) in rw before refl

pub put_run : (a b c d : ℕ) (gs us vs : List LeafUnit) → Rise a b us → Rise b c gs → Rise c d vs → put_units gs (us ++ vs) ≡ us ++ (gs ++ vs)
put_run a b c d [] us vs hu hg hv = refl
put_run a b c d (g ∷ gs) us vs hu hg hv =
    let low = hg.0 in
    ap (put_unit g) (put_run a (g.0 + 1) c d gs us vs (rise_wider a b (g.0 + 1) us (omega (arith, low)) hu) hg.1 hv)
    ∙ (put_behind g a us (gs ++ vs) (rise_wider a b g.0 us low hu)
    ∙ ap (λ ws. us ++ ws) (put_first g d (gs ++ vs) (rise_append (g.0 + 1) c d gs vs hg.1 hv)))

pub put_append : (gs hs us : List LeafUnit) → put_units (gs ++ hs) us ≡ put_units gs (put_units hs us)
put_append [] hs us = refl
put_append (g ∷ gs) hs us = ap (put_unit g) (put_append gs hs us)

put_before : (u : LeafUnit) (a d : ℕ) (us ws : List LeafUnit) → u.0 < a → Rise a d ws → put_unit u (us ++ ws) ≡ put_unit u us ++ ws
put_before u a d [] ws lt h = put_first u d ws (rise_lower a (u.0 + 1) d ws (omega (arith, lt)) h)
put_before u a d (x ∷ us) ws lt h = by_test (nat_lt u.0 x.0) (put_before u a d us ws lt h)
  where
    by_test : (t : Bool) → put_unit u (us ++ ws) ≡ put_unit u us ++ ws → (if t then u ∷ (x ∷ (us ++ ws)) else x ∷ put_unit u (us ++ ws)) ≡ (if t then u ∷ (x ∷ us) else x ∷ put_unit u us) ++ ws
    by_test true e = refl
    by_test false e = ap (λ vs. x ∷ vs) e

pub put_low : (a b d : ℕ) (gs us ws : List LeafUnit) → Rise a b gs → Rise b d ws → put_units gs (us ++ ws) ≡ put_units gs us ++ ws
put_low a b d [] us ws hg hw = refl
put_low a b d (g ∷ gs) us ws hg hw =
    let order = rise_order (g.0 + 1) b gs hg.1 in
    ap (put_unit g) (put_low (g.0 + 1) b d gs us ws hg.1 hw) ∙ put_before g b d (put_units gs us) ws (omega (arith, order)) hw
