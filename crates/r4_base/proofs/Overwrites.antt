-- Writes one behind the other are one write.
use Rattle.std.proofs.Common.{◌≡◌, ℕ, ◌+◌, ◌-◌, ◌≤◌, ◌<◌, List, [], ◌∷◌, ◌++◌, length, get_or, set, sym, ap, ◌∙◌, arith, inl, inr, get_or-set_same, get_or-set_other}
use Rattle.std.proofs.lemmas.Bool.{cases_eq, cases_lt}
use Rattle.std.proofs.lemmas.List.{places, ext_get_or, length-append, length-set}
use Rattle.r4_base.specs.Bytes.{number_bytes, overwrite, fields_bytes, width_of, put_all}
use Rattle.r4_base.proofs.Numbers.{length-overwrite, get_or-overwrite_below, get_or-overwrite_inside, get_or-overwrite_above, length-number_bytes, length-fields_bytes}

same_place : (at k : ℕ) (ys zs xs : List ℕ) → at + length ys + length zs ≤ length xs → get_or (overwrite (at + length ys) zs (overwrite at ys xs)) k 0 ≡ get_or (overwrite at (ys ++ zs) xs) k 0
unfolding overwrite
same_place at k ys zs xs fit = grind (arith, places)

pub overwrite_both : (at : ℕ) (ys zs xs : List ℕ) → at + length ys + length zs ≤ length xs → overwrite (at + length ys) zs (overwrite at ys xs) ≡ overwrite at (ys ++ zs) xs
overwrite_both at ys zs xs fit =
    let first = length-overwrite at ys xs (omega arith) in
    let second = length-overwrite (at + length ys) zs (overwrite at ys xs) (omega arith) in
    let long = length-append ys zs in
    let both = length-overwrite at (ys ++ zs) xs (omega arith) in
    ext_get_or 0 (overwrite (at + length ys) zs (overwrite at ys xs)) (overwrite at (ys ++ zs) xs) (omega arith) (λ k lt. same_place at k ys zs xs fit)

none_place : (at k : ℕ) (xs : List ℕ) → at ≤ length xs → get_or (overwrite at [] xs) k 0 ≡ get_or xs k 0
unfolding overwrite
none_place at k xs fit = grind (arith, places)

overwrite_none : (at : ℕ) (xs : List ℕ) → at ≤ length xs → overwrite at [] xs ≡ xs
overwrite_none at xs fit = ext_get_or 0 (overwrite at [] xs) xs (length-overwrite at [] xs (omega arith)) (λ k lt. none_place at k xs fit)

pub put_all-overwrite : (fs : List (ℕ × ℕ)) (at : ℕ) (xs : List ℕ) → at + width_of fs ≤ length xs → put_all fs at xs ≡ overwrite at (fields_bytes fs) xs
put_all-overwrite [] at xs fit = sym (overwrite_none at xs (omega arith))
put_all-overwrite (f ∷ fs) at xs fit =
    let bytes = number_bytes f.0 f.1 in
    let n : length bytes ≡ f.0 = length-number_bytes f.0 f.1 in
    let m = length-fields_bytes fs in
    let once = overwrite at bytes xs in
    let long : length once ≡ length xs = length-overwrite at bytes xs (omega arith) in
    let ih = put_all-overwrite fs (at + f.0) once (omega arith) in
    ih ∙ ap (λ (k : ℕ). overwrite (at + k) (fields_bytes fs) once) (sym n) ∙ overwrite_both at bytes (fields_bytes fs) xs (omega arith)

set_place : (at k v : ℕ) (xs : List ℕ) → at < length xs → get_or (overwrite at (v ∷ []) xs) k 0 ≡ get_or (set xs at v) k 0
set_place at k v xs lt = elim (cases_eq k at) [
  | inl here ↦
      let zero : k - at ≡ 0 = omega arith in
      get_or-overwrite_inside at (v ∷ []) xs k 0 (omega arith) (omega arith) (omega arith) ∙ rw (zero, here) (sym (get_or-set_same xs at v 0 lt))
  | inr other ↦
      elim (cases_lt k at) [
        | inl below ↦ get_or-overwrite_below at (v ∷ []) xs k 0 (omega arith) below ∙ sym (get_or-set_other xs at k v 0 other)
        | inr above ↦ get_or-overwrite_above at (v ∷ []) xs k 0 (omega arith) (omega arith) ∙ sym (get_or-set_other xs at k v 0 other)
      ]
]

-- a write of one byte
pub set_is : (at v : ℕ) (xs : List ℕ) → at < length xs → set xs at v ≡ overwrite at (v ∷ []) xs
set_is at v xs lt = sym (ext_get_or 0 (overwrite at (v ∷ []) xs) (set xs at v) (length-overwrite at (v ∷ []) xs (omega arith) ∙ sym (length-set xs at v)) (λ k in_range. set_place at k v xs lt))
