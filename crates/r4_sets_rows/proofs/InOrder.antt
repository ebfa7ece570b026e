-- The entries of the worked session follow one another as they may.
use Rattle.std.specs.Prelude.{◌≡◌, ◌⊎◌, ℕ, List, ◌∷◌}
use Rattle.std.proofs.Common.{arith, inl, inr, refl}
use Rattle.r4_trace.specs.Order.{IsOrdered}
use Rattle.r4_trace.specs.Traced.{IsBegun, IsOpen, IsUnsealed}
use Rattle.r4_trace.specs.declared.entry.Entry.{Entry}
use Rattle.r4_sets_rows.specs.Worked.{Blocks, first_done, one_committed, one_sealed, second_done, two_began}

module _ (limit : ℕ) (b : Blocks) where
  -- the trace before the atom is sealed
  abbrev ended : List Entry
  ended = Rattle.r4_trace.specs.declared.entry.Entry.TheVariants.Ended
      (record { 0 = 2 }) ∷ (Rattle.r4_trace.specs.declared.entry.Entry.TheVariants.Ended
      (record { 0 = 1 }) ∷ (second_done limit b).trace)

  none_open : (t s : ℕ) → IsOpen ended t s → ⊥
  none_open t s (inl (is, _), still) = still (inl is)
  none_open t s (inr (inl (is, _)), still) = still (inr (inl is))
  none_open t s (inr (inr h), still) = h

  -- two transactions were begun, of the scripts 1 and 2
  of_script : (s : ℕ) → (t : ℕ) → IsBegun (two_began b).trace t s → (s ≡ 2) ⊎ (s ≡ 1)
  of_script s t (inl (_, is)) = inl is
  of_script s t (inr (inl (_, is))) = inr is
  of_script s t (inr (inr h)) = absurd h

  one : IsUnsealed (first_done limit b).trace 1
  one = record { counted = (omega arith, omega arith); own = refl; unsealed = λ h. h }

  two : IsUnsealed (first_done limit b).trace 2
  two = record { counted = (omega arith, omega arith); own = refl; unsealed = λ h. h }

  both : IsUnsealed ended 1
  both = record { counted = (omega arith, omega arith); own = refl; unsealed = λ h. h }

  other : ◌≡◌ {A = ℕ} 2 1 → ⊥
  other e = absurd (omega (arith, e))

  third : (s t : ℕ) → s ≡ 3 → IsBegun (two_began b).trace t s → ⊥
  third s t is h = elim (of_script s t h)
      [ inl e ↦ absurd (omega (arith, is, e)) | inr e ↦ absurd (omega (arith, is, e)) ]

  first : IsOrdered (first_done limit b).trace
  first = (
    (inr (inl (refl, refl)), λ h. h),
    tt,
    ((refl, λ t (h, _). elim h [ inl x ↦ other x.1 | inr x ↦ x ]), tt, ((refl, λ t (h, _). h), tt, tt)),
  )

  to_end : IsOrdered ended
  to_end = (
    (2, (inl (refl, refl), λ h. elim h [ inl e ↦ other e | inr x ↦ x ])),
    tt,
    (
      (1, (inr (inl (refl, refl)), λ h. h)),
      tt,
      ((inl (refl, refl), λ h. h), tt, ((omega arith, one, two), tt, first)),
    ),
  )

  sealed : IsOrdered (one_sealed limit b).trace
  sealed = ((both, (λ t s opn is. none_open t s opn), refl), tt, to_end)

  pub in_order : (clock : ℕ) → IsOrdered (one_committed limit clock b).trace
  in_order clock = (
    (refl, refl, omega arith),
    tt,
    (
      (
        inl (refl, refl),
        λ h. elim h
            [ inl e ↦ absurd (omega (arith, e)) | inr g ↦ elim g [ inl e ↦ absurd (omega (arith, e)) | inr x ↦ x ] ],
      ),
      tt,
      ((refl, λ t (h, _). third 3 t refl h), tt, sealed),
    ),
  )
