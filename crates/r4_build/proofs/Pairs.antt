-- What is found among pairs that rise.
use Rattle.std.proofs.Common.{◌≡◌, ◌≢◌, inl, inr, ℕ, ◌+◌, ◌<◌, Bool, true, false, cond, [], ◌∷◌, refl, sym, ap, subst, ◌∙◌, arith, Less}
use Rattle.std.specs.Prelude.{Contains, Some, T, ◌==◌}
use Rattle.std.specs.Cmp.{nat_cmp_is, unsigned_tied}
use Rattle.std.specs.FinMap.{find, is_sorted}
use Rattle.std.specs.FinMap.Entries.{below_all}
use Rattle.std.specs.Ordering.{eq_by_cmp, is_lt, nat_cmp}
use Rattle.std.proofs.lemmas.Bool.{eq-eqb, eqb-true, ne_eqb}
use Rattle.std.proofs.lemmas.Option.{same_Some}
use Rattle.r4_base.specs.Value.{Value}
use Rattle.r4_content.specs.Edited.{Pairs}
use Rattle.r4_content.specs.Seen.{Rises}
use Rattle.r4_content.proofs.Counting.{both_hold, first_holds, none_below, second_holds}
use Rattle.r4_measure.proofs.r4_leaf.Rising.{Rise}
use Rattle.r4_measure.proofs.r4_patch.Members.{cases, here, later, none}

pub found_in : (k : ℕ) (s : Pairs) (v : Value) → find nat_cmp k s ≡ Some v → Contains s (k, v)
found_in k [] v h = absurd cc
found_in k (e ∷ s) v h = by (k == e.0) (unsigned_tied k e.0) refl h (found_in k s v)
  where
    by : (b : Bool) → eq_by_cmp nat_cmp k e.0 ≡ (k == e.0) → (k == e.0) ≡ b → find nat_cmp k (e ∷ s) ≡ Some v → (find nat_cmp k s ≡ Some v → Contains s (k, v)) → Contains (e ∷ s) (k, v)
    by true tied is h more =
        let same : k ≡ e.0 = eqb-true k e.0 is in
        let here_is : find nat_cmp k (e ∷ s) ≡ Some e.1 = ap (λ (b : Bool). cond b (Some e.1) (find nat_cmp k s)) (tied ∙ is) in
        let value : e.1 ≡ v = same_Some e.1 v (sym here_is ∙ h) in
        subst (λ (x : ℕ × Value). Contains (e ∷ s) x) (λ i. (sym same i, value i)) (here e s)
    by false tied is h more =
        let rest : find nat_cmp k (e ∷ s) ≡ find nat_cmp k s = ap (λ (b : Bool). cond b (Some e.1) (find nat_cmp k s)) (tied ∙ is) in
        later e (k, v) s (more (sym rest ∙ h))

-- a pair of rising ones is found at its key
pub rising_found : (s : Pairs) (k : ℕ) (v : Value) → Rises s → Contains s (k, v) → find nat_cmp k s ≡ Some v
rising_found [] k v r at = absurd (none (k, v) at)
rising_found (e ∷ s) k v r at = elim (cases e (k, v) s at) [
  | inl same ↦ here_found same
  | inr more ↦ behind more (rising_found s k v (second_holds (below_all nat_cmp e.0 s) (is_sorted nat_cmp s) r) more)
]
  where
    here_found : (k, v) ≡ e → find nat_cmp k (e ∷ s) ≡ Some v
    here_found same =
        let key : k ≡ e.0 = ap (λ (x : ℕ × Value). x.0) same in
        let value : v ≡ e.1 = ap (λ (x : ℕ × Value). x.1) same in
        ap (λ (b : Bool). cond b (Some e.1) (find nat_cmp k s)) (unsigned_tied k e.0 ∙ eq-eqb k e.0 key) ∙ ap (λ (w : Value). Some w) (sym value)

    behind : Contains s (k, v) → find nat_cmp k s ≡ Some v → find nat_cmp k (e ∷ s) ≡ Some v
    behind more found = ap (λ (b : Bool). cond b (Some e.1) (find nat_cmp k s)) (unsigned_tied k e.0 ∙ ne_eqb k e.0 apart) ∙ found
      where
        apart : k ≢ e.0
        apart same = let nothing = none_below k e.0 s (omega (arith, same)) (first_holds (below_all nat_cmp e.0 s) (is_sorted nat_cmp s) r) in cc

-- ---- units that rise

lower : (x y : ℕ) → x < y → T (is_lt (nat_cmp x y))
lower x y lt = subst (λ r. T (is_lt r)) (nat_cmp_is x y Less lt) tt

below : (x from to : ℕ) (us : Pairs) → x < from → Rise from to us → T (below_all nat_cmp x us)
below x from to [] lt rise = tt
below x from to (u ∷ us) lt rise =
    both_hold (is_lt (nat_cmp x u.0)) (below_all nat_cmp x us) (lower x u.0 (let low = rise.0 in omega (arith, lt, low))) (below x (u.0 + 1) to us (let low = rise.0 in omega (arith, lt, low)) rise.1)

pub rise_rises : (from to : ℕ) (us : Pairs) → Rise from to us → Rises us
rise_rises from to [] rise = tt
rise_rises from to (u ∷ us) rise = both_hold (below_all nat_cmp u.0 us) (is_sorted nat_cmp us) (below u.0 (u.0 + 1) to us (omega arith) rise.1) (rise_rises (u.0 + 1) to us rise.1)
