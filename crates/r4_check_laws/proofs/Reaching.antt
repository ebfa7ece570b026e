-- What the root reaches by any number of entries it reaches by as many as there are things.
use Rattle.std.proofs.Common.{◌≡◌, ◌⊎◌, inl, inr, ℕ, zero, suc, ◌+◌, ◌-◌, ◌<◌, ◌≤◌, Bool, true, false, not, ◌&&◌, ◌||◌, List, [], ◌∷◌, length, refl, sym, ap, subst, ◌∙◌, arith}
use Rattle.std.specs.Prelude.{Contains, sum_by}
use Rattle.std.specs.List.{list_any}
use Rattle.std.proofs.lemmas.Bool.{and_parts, eq-eqb, eqb-true}
use Rattle.std.proofs.lemmas.List.Sums.{sum_by-cons}
use Rattle.r4_check_objects.specs.Held.{id_of}
use Rattle.r4_check_objects.specs.Objects.{is_reached, is_reached_by, leads_to, once}
use Rattle.r4_check_objects.specs.declared.held.Held.{Held}
use Rattle.r4_check_objects.specs.declared.held.Thing.{Thing}
use Rattle.r4_check_objects.specs.declared.held.Thing.TheVariants.{Entry, Extent, Stat, Tail}
use Rattle.r4_check_laws.proofs.Lists.{here, later, none_in, one_of}

or_cases : (a b : Bool) → (a || b) ≡ true → (a ≡ true) ⊎ (b ≡ true)
or_cases true b e = inl refl
or_cases false b e = inr e

or_left : (a b : Bool) → a ≡ true → (a || b) ≡ true
or_left true b e = refl
or_left false b e = absurd (cc)

or_right : (a b : Bool) → b ≡ true → (a || b) ≡ true
or_right true b e = refl
or_right false b e = e

pub both_true : (a b : Bool) → a ≡ true → b ≡ true → (a && b) ≡ true
both_true true b e f = f
both_true false b e f = absurd (cc)

any_is : (p : Held → Bool) (xs : List Held) (h : Held) → Contains xs h → p h ≡ true → list_any p xs ≡ true
any_is p [] h at e = absurd (none_in h at)
any_is p (x ∷ xs) h at e = elim (one_of x xs h at) [
  | inl is ↦ or_left (p x) (list_any p xs) (ap p is ∙ e)
  | inr more ↦ or_right (p x) (list_any p xs) (any_is p xs h more e)
]

any_has : (p : Held → Bool) (xs : List Held) → list_any p xs ≡ true → (h : Held) × Contains xs h × (p h ≡ true)
any_has p [] e = absurd (cc)
any_has p (x ∷ xs) e = by (or_cases (p x) (list_any p xs) e) (any_has p xs)
  where
    by : (p x ≡ true) ⊎ (list_any p xs ≡ true) → (list_any p xs ≡ true → (h : Held) × Contains xs h × (p h ≡ true)) → (h : Held) × Contains (x ∷ xs) h × (p h ≡ true)
    by (inl first) more = (x, here x xs, first)
    by (inr rest) more = let m = more rest in (m.0, later x xs m.0 m.1, m.2)

module _ (found : List Held) where
  pub step_by : (k q : ℕ) (h : Held) → Contains found h → leads_to q h.thing ≡ true → is_reached_by k found (id_of h) ≡ true → is_reached_by (suc k) found q ≡ true
  unfolding is_reached_by
  step_by k q h at leads way = or_right (is_reached_by k found q) _ (any_is (λ h. leads_to q h.thing && is_reached_by k found (id_of h)) found h at (both_true (leads_to q h.thing) (is_reached_by k found (id_of h)) leads way))

  more_steps : (k q : ℕ) → is_reached_by k found q ≡ true → is_reached_by (suc k) found q ≡ true
  unfolding is_reached_by
  more_steps k q e = or_left (is_reached_by k found q) _ e

  split_step : (k q : ℕ) → is_reached_by (suc k) found q ≡ true → (is_reached_by k found q ≡ true) ⊎ ((h : Held) × Contains found h × (leads_to q h.thing ≡ true) × (is_reached_by k found (id_of h) ≡ true))
  unfolding is_reached_by
  split_step k q e = elim (or_cases (is_reached_by k found q) _ e) [
    | inl old ↦ inl old
    | inr new ↦
        let (h, at, is) = any_has (λ h. leads_to q h.thing && is_reached_by k found (id_of h)) found new in
        let parts = and_parts (leads_to q h.thing) (is_reached_by k found (id_of h)) is in
        inr (h, at, parts.0, parts.1)
  ]

  up_to : (j more q : ℕ) → is_reached_by j found q ≡ true → is_reached_by (j + more) found q ≡ true
  up_to j zero q e = subst (λ (n : ℕ). is_reached_by n found q ≡ true) (omega arith) e
  up_to j (suc more) q e = subst (λ (n : ℕ). is_reached_by n found q ≡ true) (omega arith) (more_steps (j + more) q (up_to j more q e))

  -- nothing new is reached in one more step
  abbrev IsStill : ℕ → Type 0
  IsStill k = (h : Held) → Contains found h → (q : ℕ) → leads_to q h.thing ≡ true → is_reached_by k found (id_of h) ≡ true → is_reached_by k found q ≡ true

  still_back : (k : ℕ) → IsStill k → (n q : ℕ) → is_reached_by n found q ≡ true → is_reached_by k found q ≡ true
  still_back k still zero q e = subst (λ (n : ℕ). is_reached_by n found q ≡ true) (omega arith) (up_to 0 k q e)
  still_back k still (suc n) q e = elim (split_step n q e) [
    | inl old ↦ still_back k still n q old
    | inr new ↦ let (h, at, leads, way) = new in still h at q leads (still_back k still n (id_of h) way)
  ]

  -- whether it is an entry whose target is reached
  met_by : ℕ → Thing → Bool
  met_by k (Stat f) = false
  met_by k (Entry t) = is_reached_by k found t.oid.0
  met_by k (Tail n) = false
  met_by k (Extent n) = false

  how_many : (k : ℕ) → List Held → ℕ
  how_many k hs = sum_by (λ (h : Held). once (met_by k h.thing)) hs

  once_up : (a b : Bool) → (a ≡ true → b ≡ true) → once a ≤ once b
  once_up true b up = let e = up refl in subst (λ (x : Bool). 1 ≤ once x) (sym e) (omega arith)
  once_up false b up = omega arith

  met_more : (k : ℕ) (t : Thing) → met_by k t ≡ true → met_by (suc k) t ≡ true
  unfolding met_by
  met_more k (Stat f) e = e
  met_more k (Entry t) e = more_steps k t.oid.0 e
  met_more k (Tail n) e = e
  met_more k (Extent n) e = e

  grown : (k : ℕ) (hs : List Held) → how_many k hs ≤ how_many (suc k) hs
  unfolding how_many
  grown k [] = omega arith
  grown k (h ∷ hs) =
      let rest = grown k hs in
      let first = once_up (met_by k h.thing) (met_by (suc k) h.thing) (met_more k h.thing) in
      let a = sum_by-cons (λ (h : Held). once (met_by k h.thing)) h hs in
      let b = sum_by-cons (λ (h : Held). once (met_by (suc k) h.thing)) h hs in
      omega (arith, rest, first, a, b)

  grown_by : (k : ℕ) (hs : List Held) (h : Held) → Contains hs h → met_by k h.thing ≡ false → met_by (suc k) h.thing ≡ true → how_many k hs + 1 ≤ how_many (suc k) hs
  unfolding how_many
  grown_by k [] h at was now = absurd (none_in h at)
  grown_by k (x ∷ hs) h at was now =
      let a = sum_by-cons (λ (h : Held). once (met_by k h.thing)) x hs in
      let b = sum_by-cons (λ (h : Held). once (met_by (suc k) h.thing)) x hs in
      elim (one_of x hs h at) [
        | inl e ↦
            let rest : how_many k hs ≤ how_many (suc k) hs = grown k hs in
            let zero_now : once (met_by k x.thing) ≡ 0 = ap (λ (y : Held). once (met_by k y.thing)) e ∙ ap once was in
            let one_now : once (met_by (suc k) x.thing) ≡ 1 = ap (λ (y : Held). once (met_by (suc k) y.thing)) e ∙ ap once now in
            omega (arith, a, b, rest, zero_now, one_now)
        | inr more ↦
            let rest : how_many k hs + 1 ≤ how_many (suc k) hs = grown_by k hs h more was now in
            let first = once_up (met_by k x.thing) (met_by (suc k) x.thing) (met_more k x.thing) in
            omega (arith, a, b, rest, first)
      ]

  few : (k : ℕ) (hs : List Held) → how_many k hs ≤ length hs
  unfolding how_many
  few k [] = omega arith
  few k (h ∷ hs) =
      let rest = few k hs in
      let a = sum_by-cons (λ (h : Held). once (met_by k h.thing)) h hs in
      let most = bit (met_by k h.thing) in
      omega (arith, rest, a, most)
    where
      bit : (b : Bool) → once b ≤ 1
      bit true = omega arith
      bit false = omega arith

  -- whether it is an entry of a directory that is reached, to what is not
  goes : ℕ → Held → Thing → Bool
  goes k h (Stat f) = false
  goes k h (Entry t) = not (is_reached_by k found t.oid.0) && is_reached_by k found (id_of h)
  goes k h (Tail n) = false
  goes k h (Extent n) = false

  unmet : (k : ℕ) (h : Held) (t : Thing) → goes k h t ≡ true → h.thing ≡ t → Contains found h → (met_by k t ≡ false) × (met_by (suc k) t ≡ true)
  unfolding goes met_by
  unmet k h (Stat f) e is at = absurd (cc)
  unmet k h (Entry t) e is at =
      let parts = and_parts (not (is_reached_by k found t.oid.0)) (is_reached_by k found (id_of h)) e in
      let own : leads_to t.oid.0 h.thing ≡ true = ap (leads_to t.oid.0) is ∙ eq-eqb t.oid.0 t.oid.0 refl in
      (untrue (is_reached_by k found t.oid.0) parts.0, step_by k t.oid.0 h at own parts.1)
    where
      untrue : (b : Bool) → not b ≡ true → b ≡ false
      untrue true e = absurd (cc)
      untrue false e = refl
  unmet k h (Tail n) e is at = absurd (cc)
  unmet k h (Extent n) e is at = absurd (cc)

  still_here : (k : ℕ) (h : Held) (t : Thing) (q : ℕ) → goes k h t ≡ false → leads_to q t ≡ true → is_reached_by k found (id_of h) ≡ true → is_reached_by k found q ≡ true
  unfolding goes
  still_here k h (Stat f) q e leads way = absurd (cc)
  still_here k h (Entry t) q e leads way =
      let id = eqb-true t.oid.0 q leads in
      subst (λ (n : ℕ). is_reached_by k found n ≡ true) id (there (is_reached_by k found t.oid.0) (is_reached_by k found (id_of h)) e way)
    where
      there : (a b : Bool) → (not a && b) ≡ false → b ≡ true → a ≡ true
      there true b e f = refl
      there false b e f = absurd (cc)
  still_here k h (Tail n) q e leads way = absurd (cc)
  still_here k h (Extent n) q e leads way = absurd (cc)

  claim : (k : ℕ) → (k ≤ how_many k found) ⊎ ((j : ℕ) × (j < k) × IsStill j)
  claim zero = inl (omega arith)
  claim (suc k) = elim (claim k) [
    | inr still ↦ let (j, lt, is) = still in inr (j, omega (arith, lt), is)
    | inl low ↦ by (list_any (λ h. goes k h h.thing) found) refl low
  ]
    where
      one_more : (h : Held) → Contains found h → goes k h h.thing ≡ true → how_many k found + 1 ≤ how_many (suc k) found
      one_more h at e = let new = unmet k h h.thing e refl at in grown_by k found h at new.0 new.1

      nothing : list_any (λ h. goes k h h.thing) found ≡ false → IsStill k
      nothing none h at q leads way = still_here k h h.thing q (not_one (goes k h h.thing) refl) leads way
        where
          not_one : (b : Bool) → goes k h h.thing ≡ b → goes k h h.thing ≡ false
          not_one true e = let some = any_is (λ h. goes k h h.thing) found h at e in absurd (cc)
          not_one false e = e

      by : (b : Bool) → list_any (λ h. goes k h h.thing) found ≡ b → k ≤ how_many k found → (suc k ≤ how_many (suc k) found) ⊎ ((j : ℕ) × (j < suc k) × IsStill j)
      by true e low = let (h, at, is) = any_has (λ h. goes k h h.thing) found e in let more = one_more h at is in inl (omega (arith, low, more))
      by false e low = inr (k, omega arith, nothing e)

  pub enough : (n q : ℕ) → is_reached_by n found q ≡ true → is_reached found q ≡ true
  enough n q e = elim (claim (length found + 1)) [
    | inl many ↦ let most = few (length found + 1) found in absurd (omega (arith, many, most))
    | inr still ↦
        let (j, lt, is) = still in
        subst (λ (k : ℕ). is_reached_by k found q ≡ true) (omega (arith, lt)) (up_to j (length found - j) q (still_back j is n q e))
  ]
