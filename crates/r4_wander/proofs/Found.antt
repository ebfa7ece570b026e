-- A write of a list in rising order is found by halves.
use Rattle.std.proofs.Common.{◌≡◌, ◌≢◌, ◌↔◌, ◌<◌, ℕ, zero, suc, List, [], ◌∷◌, length, get_or, Result, Ok, Err, inl, inr, refl, sym, ◌∙◌, arith}
use Rattle.std.specs.Prelude.{IsTrue}
use Rattle.std.specs.List.Sorted.{IsBinarySearchResult, IsNonDecreasingBy, IsSearchInRange}
use Rattle.std.specs.Ordering.{nat_cmp, ordering_index}
use Rattle.std.specs.Result.{is_ok}
use Rattle.std.proofs.lemmas.Bool.{cases_lt}
use Rattle.std.proofs.lemmas.Bool.Decides.{nat_tests}
use Rattle.std.proofs.lemmas.Cmp.{ranked}
use Rattle.std.proofs.lemmas.List.{get_or-map, length-map}
use Rattle.r4_wander.specs.Parts.{FallsOn, Parts}
use Rattle.r4_wander.specs.Torn.{IsTarget, Write, targets}

module _ (l : List Write) (rises : IsNonDecreasingBy (λ w. w.0) l) (b : ℕ) where
  -- the comparisons with the block rise along the list
  comparisons_rise : IsNonDecreasingBy (λ (w : Write). ordering_index (nat_cmp w.0 b)) l
  comparisons_rise i j d le inside = let up = rises i j d le inside in grind (arith, nat_tests, up)

  target_at : (k : ℕ) → k < length l → get_or (targets l) k b ≡ (get_or l k (0, [])).0
  target_at k inside = get_or-map (λ (w : Write). w.0) l k (0, []) b inside

  pub found : (r : Result ℕ ℕ) → IsSearchInRange r (length l) → IsBinarySearchResult (λ (w : Write). nat_cmp w.0 b) l r
      → IsTrue (is_ok r) ↔ IsTarget l b
  found (Ok k) inside equal =
      let same = ranked (get_or l k (0, [])).0 b _ (sym (equal (0, []))) in
      let long = length-map l (λ (w : Write). w.0) in
      (λ h. (k, omega (arith, inside, long), target_at k inside ∙ same), λ h. refl)
  found (Err k) inside parted = (
    λ h. absurd (cc h),
    λ (j, within, is).
        (let long = length-map l (λ (w : Write). w.0) in
        let here : j < length l = omega (arith, within, long) in
        let at = target_at j here in
        elim (cases_lt j k) [
          | inl less ↦
              let small = ranked (get_or l j (0, [])).0 b _ (sym ((parted comparisons_rise).0 j (0, []) (omega arith) less)) in
              absurd (omega (arith, small, at, is))
          | inr more ↦
              let large = ranked (get_or l j (0, [])).0 b _ (sym ((parted comparisons_rise).1 j (0, []) more here)) in
              absurd (omega (arith, large, at, is))
        ]),
  )

-- ---- in whichever part

pub falls_on_header : (plan : Parts) (b : ℕ) → b ≡ 19 → FallsOn plan b
falls_on_header plan b is = (1, (0, omega arith, sym is))

pub falls_on_footer : (plan : Parts) (b : ℕ) → b ≡ 20 → FallsOn plan b
falls_on_footer plan b is = (3, (0, omega arith, sym is))

-- a list of one write falls on its block alone
one_target : (at b : ℕ) (bytes : List ℕ) → IsTarget ((at, bytes) ∷ []) b → b ≡ at
one_target at b bytes (zero, inside, is) = sym is
one_target at b bytes (suc k, inside, is) = absurd (omega (arith, inside))

pub falls_nowhere : (plan : Parts) (b : ℕ) → (IsTarget plan.first b → ⊥) → (IsTarget plan.homes b → ⊥) → b ≢ 19
    → b ≢ 20 → FallsOn plan b → ⊥
falls_nowhere plan b first homes head foot (zero, is) = first is
falls_nowhere plan b first homes head foot (suc zero, is) = head (one_target 19 b plan.header is)
falls_nowhere plan b first homes head foot (suc (suc zero), is) = homes is
falls_nowhere plan b first homes head foot (suc (suc (suc zero)), is) = foot (one_target 20 b plan.footer is)
falls_nowhere plan b first homes head foot (suc (suc (suc (suc p))), (k, inside, is)) = absurd (omega (arith, inside))
