-- What is found among pairs that rise.
use Rattle.std.proofs.Common.{◌≡◌, ◌≢◌, ◌⊎◌, inl, inr, ℕ, zero, ◌<◌, ◌≤◌, ◌+◌, Bool, true, false, cond, List, [], ◌∷◌}
use Rattle.std.proofs.Common.{◌++◌, length, refl, sym, ap, subst, ◌∙◌, arith}
use Rattle.std.specs.Prelude.{All, Contains, Option, Some, None, T, ◌==◌}
use Rattle.std.specs.FinMap.{find, is_sorted}
use Rattle.std.specs.FinMap.Entries.{below_all}
use Rattle.std.specs.List.{filter}
use Rattle.std.specs.Ordering.{is_lt, nat_cmp, eq_by_cmp}
use Rattle.std.specs.Cmp.{unsigned_tied}
use Rattle.std.proofs.lemmas.Bool.{eq-eqb, eqb-true, ne_eqb}
use Rattle.std.proofs.lemmas.Bool.Decides.{nat_tests}
use Rattle.std.proofs.lemmas.List.Elements.{All-cons, All-nil}
use Rattle.std.proofs.lemmas.Option.{same_Some}
use Rattle.r4_base.specs.Value.{Value}
use Rattle.r4_patch.proofs.Members.{cases, here, later, none}
use Rattle.r4_content.specs.Edited.{Pairs, is_between}
use Rattle.r4_content.specs.Seen.{Rises, pairs_in}
use Rattle.r4_content.proofs.Counting.{below_lt, first_holds, none_below, second_holds}

-- ---- elements of lists

module _ {A : Type 0} where
  in_pass : (test : A → Bool) (b : Bool) (y x : A) (ys rest : List A) → test y ≡ b
      → (Contains rest x → Contains ys x × (test x ≡ true)) → Contains (cond b (y ∷ rest) rest) x
      → Contains (y ∷ ys) x × (test x ≡ true)
  in_pass test true y x ys rest e more h = elim (cases y x rest h) [
    | inl same ↦ (subst (Contains (y ∷ ys)) (sym same) (here y ys), ap test same ∙ e)
    | inr beyond ↦ let (a, b) = more beyond in (later y x ys a, b)
  ]
  in_pass test false y x ys rest e more h = let (a, b) = more h in (later y x ys a, b)

  pub in_filter : (test : A → Bool) (xs : List A) (x : A) → Contains (filter test xs) x
      → Contains xs x × (test x ≡ true)
  in_filter test [] x at = absurd (none x at)
  in_filter test (y ∷ ys) x at = in_pass test (test y) y x ys (filter test ys) refl (in_filter test ys x) at

  to_pass : (test : A → Bool) (b : Bool) (y x : A) (ys rest : List A) → test y ≡ b → test x ≡ true
      → (Contains ys x → Contains rest x) → Contains (y ∷ ys) x → Contains (cond b (y ∷ rest) rest) x
  to_pass test true y x ys rest is e more at = elim (cases y x ys at) [
    | inl same ↦ subst (Contains (y ∷ rest)) (sym same) (here y rest)
    | inr beyond ↦ later y x rest (more beyond)
  ]
  to_pass test false y x ys rest is e more at = elim (cases y x ys at) [
    | inl same ↦ absurd (let no_test : test x ≡ false = ap test same ∙ is in grind (arith, no_test, e))
    | inr beyond ↦ more beyond
  ]

  pub to_filter : (test : A → Bool) (xs : List A) (x : A) → Contains xs x → test x ≡ true → Contains (filter test xs) x
  to_filter test [] x at e = absurd (none x at)
  to_filter test (y ∷ ys) x at e = to_pass test (test y) y x ys (filter test ys) refl e
      (λ h. to_filter test ys x h e) at

-- ---- pairs

pub found_in : (k : ℕ) (s : Pairs) (v : Value) → find nat_cmp k s ≡ Some v → Contains s (k, v)
found_in k [] v h = absurd cc
found_in k (e ∷ s) v h = by (k == e.0) (unsigned_tied k e.0) refl h (found_in k s v)
  where
    by : (b : Bool) → eq_by_cmp nat_cmp k e.0 ≡ (k == e.0) → (k == e.0) ≡ b → find nat_cmp k (e ∷ s) ≡ Some v
        → (find nat_cmp k s ≡ Some v → Contains s (k, v)) → Contains (e ∷ s) (k, v)
    by true tied is h more =
        let same : k ≡ e.0 = eqb-true k e.0 is in
        let here_is : find nat_cmp k (e ∷ s) ≡ Some e.1 = ap (λ (b : Bool). cond b (Some e.1) (find nat_cmp k s))
        (tied ∙ is) in
        let value : e.1 ≡ v = same_Some e.1 v (sym here_is ∙ h) in
        subst (λ (x : ℕ × Value). Contains (e ∷ s) x) (λ i. (sym same i, value i)) (here e s)
    by false tied is h more =
        let rest : find nat_cmp k (e ∷ s) ≡ find nat_cmp k s = ap (λ (b : Bool). cond b (Some e.1) (find nat_cmp k s))
        (tied ∙ is) in
        later e (k, v) s (more (sym rest ∙ h))

-- a pair of rising ones is found at its key
pub rising_found : (s : Pairs) (k : ℕ) (v : Value) → Rises s → Contains s (k, v) → find nat_cmp k s ≡ Some v
rising_found [] k v r at = absurd (none (k, v) at)
rising_found (e ∷ s) k v r at = elim (cases e (k, v) s at) [
  | inl same ↦ here_found same
  | inr more ↦ behind more (rising_found s k v (second_holds (below_all nat_cmp e.0 s) (is_sorted nat_cmp s) r) more)
]
  where
    here_found : (k, v) ≡ e → find nat_cmp k (e ∷ s) ≡ Some v
    here_found same =
        let key : k ≡ e.0 = ap (λ (x : ℕ × Value). x.0) same in
        let value : v ≡ e.1 = ap (λ (x : ℕ × Value). x.1) same in
        ap (λ (b : Bool). cond b (Some e.1) (find nat_cmp k s)) (unsigned_tied k e.0 ∙ eq-eqb k e.0 key)
        ∙ ap (λ (w : Value). Some w) (sym value)

    behind : Contains s (k, v) → find nat_cmp k s ≡ Some v → find nat_cmp k (e ∷ s) ≡ Some v
    behind more found = ap (λ (b : Bool). cond b (Some e.1) (find nat_cmp k s))
        (unsigned_tied k e.0 ∙ ne_eqb k e.0 apart) ∙ found
      where
        apart : k ≢ e.0
        apart same = let nothing = none_below k e.0 s (omega (arith, same))
            (first_holds (below_all nat_cmp e.0 s) (is_sorted nat_cmp s) r) in cc

between : (from to k : ℕ) → from ≤ k → k < to → is_between from to k ≡ true
between from to k le lt = grind (arith, nat_tests, le, lt)

-- what rising pairs of an interval have there is what all have
pub found_iff : (units zs : Pairs) (from to k : ℕ) (v : Value) → zs ≡ pairs_in units from to → Rises zs → from ≤ k
    → k < to → (find nat_cmp k zs ≡ Some v → Contains units (k, v)) ×
    (Contains units (k, v) → find nat_cmp k zs ≡ Some v)
found_iff units zs from to k v same rises le lt = (
  (λ h. (in_filter (λ (e : ℕ × Value). is_between from to e.0) units (k, v)
      (subst (λ (s : Pairs). Contains s (k, v)) same (found_in k zs v h))).0),
  (λ at. rising_found zs k v rises
      (subst (λ (s : Pairs). Contains s (k, v)) (sym same)
      (to_filter (λ (e : ℕ × Value). is_between from to e.0) units (k, v) at (between from to k le lt)))),
)

-- the keys of an interval's pairs
pub interval_keys : (units : Pairs) (from to : ℕ) → All (λ (e : ℕ × Value). (from ≤ e.0) × (e.0 < to))
    (pairs_in units from to)
interval_keys [] from to = All-nil (λ (e : ℕ × Value). (from ≤ e.0) × (e.0 < to))
interval_keys (u ∷ us) from to = by (is_between from to u.0) refl (interval_keys us from to)
  where
    by : (b : Bool) → is_between from to u.0 ≡ b → All (λ (e : ℕ × Value). (from ≤ e.0) × (e.0 < to))
        (pairs_in us from to) → All (λ (e : ℕ × Value). (from ≤ e.0) × (e.0 < to))
        (cond b (u ∷ pairs_in us from to) (pairs_in us from to))
    by true is rest = All-cons (λ (e : ℕ × Value). (from ≤ e.0) × (e.0 < to)) u (pairs_in us from to)
        (low is, high is) rest
      where
        low : is_between from to u.0 ≡ true → from ≤ u.0
        low is = grind (arith, nat_tests, is)

        high : is_between from to u.0 ≡ true → u.0 < to
        high is = grind (arith, nat_tests, is)
    by false is rest = rest
