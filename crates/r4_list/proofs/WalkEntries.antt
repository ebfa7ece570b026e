-- The entries of a content: each key with what stands at it, in the order of the keys.
use Rattle.std.proofs.Common.{◌≡◌, ◌⊎◌, inl, inr, ℕ, zero, suc, ◌+◌, ◌<◌, ◌≤◌, Bool, true, false, cond, T, List, [], ◌∷◌, filter, Contains, count_by, Some, Less, Equal, Greater, nat_eq, ◌&&◌, refl, sym, ap, subst, ◌∙◌, arith}
use Rattle.std.specs.Ordering.{nat_cmp, is_lt, eq_by_cmp}
use Rattle.std.specs.FinMap.{entries, entries_sorted, get-entries, is_sorted, find}
use Rattle.std.specs.FinMap.Entries.{below_all}
use Rattle.std.proofs.lemmas.Bool.{cases_lt, le-ltb}
use Rattle.std.proofs.lemmas.Bool.Decides.{nat_tests}
use Rattle.std.proofs.lemmas.List.Sums.{sum_by-cons}
use Rattle.std.proofs.lemmas.Option.{same_Some}
use Rattle.r4_base.specs.Value.{Value, Content, at_key}
use Rattle.r4_base.proofs.Choices.{nothing_in}

-- ---- members of a list

pub here : {X : Type 0} (x : X) (xs : List X) → Contains (x ∷ xs) x
here x xs = (0, omega arith, refl)

pub later : {X : Type 0} (x y : X) (xs : List X) → Contains xs y → Contains (x ∷ xs) y
later x y xs (k, lt, is) = (suc k, omega arith, is)

pub member_cases : {X : Type 0} (x y : X) (xs : List X) → Contains (x ∷ xs) y → (x ≡ y) ⊎ Contains xs y
member_cases x y xs (zero, lt, is) = inl is
member_cases x y xs (suc k, lt, is) = inr (k, omega arith, is)

-- ---- what a test finds in a list

counted : (b : Bool) → b ≡ true → 1 ≤ cond b 1 0
counted b e = rw e (omega arith)

module _ {X : Type 0} where
  filter_yes : (p : X → Bool) (x : X) (xs : List X) → p x ≡ true → filter p (x ∷ xs) ≡ x ∷ filter p xs
  filter_yes p x xs e = ap (λ (b : Bool). cond b (x ∷ filter p xs) (filter p xs)) e

  filter_no : (p : X → Bool) (x : X) (xs : List X) → p x ≡ false → filter p (x ∷ xs) ≡ filter p xs
  filter_no p x xs e = ap (λ (b : Bool). cond b (x ∷ filter p xs) (filter p xs)) e

  pub filter_same : (p q : X → Bool) (xs : List X) → ((x : X) → Contains xs x → p x ≡ q x) → filter p xs ≡ filter q xs
  filter_same p q [] h = refl
  filter_same p q (x ∷ xs) h =
      let rest = filter_same p q xs (λ y c. h y (later x y xs c)) in
      λ i. cond (h x (here x xs) i) (x ∷ rest i) (rest i)

  pub filter_none : (p : X → Bool) (xs : List X) → ((x : X) → Contains xs x → p x ≡ false) → filter p xs ≡ []
  filter_none p [] h = refl
  filter_none p (x ∷ xs) h = filter_no p x xs (h x (here x xs)) ∙ filter_none p xs (λ y c. h y (later x y xs c))

  count_cons : (p : X → Bool) (x : X) (xs : List X) → count_by p (x ∷ xs) ≡ cond (p x) 1 0 + count_by p xs
  count_cons p x xs = sum_by-cons (λ y. cond (p y) 1 0) x xs

  pub one_counted : (p : X → Bool) (xs : List X) (x : X) → Contains xs x → p x ≡ true → 1 ≤ count_by p xs
  one_counted p [] x c e = absurd (nothing_in x c)
  one_counted p (y ∷ xs) x c e =
      let all = count_cons p y xs in
      elim (member_cases y x xs c) [
        | inl is ↦ let once = counted (p y) (ap p is ∙ e) in omega arith
        | inr there ↦ let rest = one_counted p xs x there e in omega arith
      ]

  -- what a test finds once at most is one member
  pub counted_once : (p : X → Bool) (xs : List X) (x y : X) → count_by p xs ≤ 1 → Contains xs x → Contains xs y → p x ≡ true → p y ≡ true → x ≡ y
  counted_once p [] x y few c d e f = absurd (nothing_in x c)
  counted_once p (z ∷ xs) x y few c d e f =
      let all = count_cons p z xs in
      elim (member_cases z x xs c) [
        | inl is ↦ elim (member_cases z y xs d) [
          | inl also ↦ sym is ∙ also
          | inr there ↦
              let once = counted (p z) (ap p is ∙ e) in
              let more = one_counted p xs y there f in
              absurd (omega arith)
        ]
        | inr there ↦ elim (member_cases z y xs d) [
          | inl is ↦
              let once = counted (p z) (ap p is ∙ f) in
              let more = one_counted p xs x there e in
              absurd (omega arith)
          | inr also ↦ counted_once p xs x y (omega arith) there also e f
        ]
      ]

-- ---- lists in the order of their keys

-- a comparison that gives less
less_lt : (x y : ℕ) → T (is_lt (nat_cmp x y)) → x < y
less_lt x y h = elim (cases_lt x y) [
  | inl lt ↦ lt
  | inr past ↦ absurd (no (nat_eq x y) (subst (λ (b : Bool). T (is_lt (cond b Less (cond (nat_eq x y) Equal Greater)))) (le-ltb x y past) h))
]
  where
    no : (b : Bool) → T (is_lt (cond b Equal Greater)) → ⊥
    no true h = h
    no false h = h

other_key : (x y : ℕ) → y < x → eq_by_cmp nat_cmp x y ≡ false
other_key x y lt = grind (arith, nat_tests)

same_key : (x y : ℕ) → x ≡ y → eq_by_cmp nat_cmp x y ≡ true
same_key x y e = grind (arith, nat_tests)

found_key : (x y : ℕ) → eq_by_cmp nat_cmp x y ≡ true → x ≡ y
found_key x y e = grind (arith, nat_tests)

two : (a b : Bool) → T (a && b) → T a × T b
two true true h = (tt, tt)
two true false h = absurd h
two false b h = absurd h

module _ {X : Type 0} where
  all_above : (x : ℕ) (es : List (ℕ × X)) (u : ℕ × X) → T (below_all nat_cmp x es) → Contains es u → x < u.0
  all_above x [] u h c = absurd (nothing_in u c)
  all_above x (e ∷ es) u h c =
      let parts = two (is_lt (nat_cmp x e.0)) (below_all nat_cmp x es) h in
      elim (member_cases e u es c) [
        | inl is ↦ subst (λ (v : ℕ × X). x < v.0) is (less_lt x e.0 parts.0)
        | inr there ↦ all_above x es u parts.1 there
      ]

  found : (es : List (ℕ × X)) (u : ℕ × X) → T (is_sorted nat_cmp es) → Contains es u → find nat_cmp u.0 es ≡ Some u.1
  found [] u h c = absurd (nothing_in u c)
  found (e ∷ es) u h c =
      let parts = two (below_all nat_cmp e.0 es) (is_sorted nat_cmp es) h in
      elim (member_cases e u es c) [
        | inl is ↦ ap (λ (b : Bool). cond b (Some e.1) (find nat_cmp u.0 es)) (same_key u.0 e.0 (ap (λ (v : ℕ × X). v.0) (sym is))) ∙ ap (λ (v : ℕ × X). Some v.1) is
        | inr there ↦ ap (λ (b : Bool). cond b (Some e.1) (find nat_cmp u.0 es)) (other_key u.0 e.0 (all_above e.0 es u parts.0 there)) ∙ found es u parts.1 there
      ]

  found_there : (es : List (ℕ × X)) (k : ℕ) (v : X) → find nat_cmp k es ≡ Some v → Contains es (k, v)
  found_there [] k v h = absurd cc
  found_there (e ∷ es) k v h = split (λ at. found_there es k v at) (eq_by_cmp nat_cmp k e.0) refl h
    where
      split : (find nat_cmp k es ≡ Some v → Contains es (k, v)) → (b : Bool) → eq_by_cmp nat_cmp k e.0 ≡ b → cond b (Some e.1) (find nat_cmp k es) ≡ Some v → Contains (e ∷ es) (k, v)
      split rest true is at =
          let key : k ≡ e.0 = found_key k e.0 is in
          let value : e.1 ≡ v = same_Some e.1 v at in
          subst (λ (u : ℕ × X). Contains (e ∷ es) u) (λ i. (sym key i, value i)) (here e es)
      split rest false is at = later e (k, v) es (rest at)

  -- Of two tests that answer alike behind a member, and of which only the first finds it and neither finds one before it,
  -- the first finds that one more.
  pub filter_first : (p q : ℕ × X → Bool) (x : ℕ × X) (es : List (ℕ × X)) → T (is_sorted nat_cmp es) → Contains es x → p x ≡ true → q x ≡ false
      → ((u : ℕ × X) → Contains es u → u.0 < x.0 → (p u ≡ false) × (q u ≡ false)) → ((u : ℕ × X) → Contains es u → x.0 < u.0 → p u ≡ q u)
      → filter p es ≡ x ∷ filter q es
  filter_first p q x [] h c first second before behind = absurd (nothing_in x c)
  filter_first p q x (e ∷ es) h c first second before behind =
      let parts = two (below_all nat_cmp e.0 es) (is_sorted nat_cmp es) h in
      elim (member_cases e x es c) [
        | inl is ↦
            let above = λ (u : ℕ × X) (there : Contains es u). subst (λ (v : ℕ × X). v.0 < u.0) is (all_above e.0 es u parts.0 there) in
            let rest = filter_same p q es (λ u there. behind u (later e u es there) (above u there)) in
            filter_yes p e es (ap p is ∙ first) ∙ (λ i. is i ∷ rest i) ∙ ap (λ (us : List (ℕ × X)). x ∷ us) (sym (filter_no q e es (ap q is ∙ second)))
        | inr there ↦
            let neither = before e (here e es) (all_above e.0 es x parts.0 there) in
            let rest = filter_first p q x es parts.1 there first second (λ u d. before u (later e u es d)) (λ u d. behind u (later e u es d)) in
            filter_no p e es neither.0 ∙ rest ∙ ap (λ (us : List (ℕ × X)). x ∷ us) (sym (filter_no q e es neither.1))
      ]

-- ---- the entries of a content

pub in_order : (m : Content) → T (is_sorted nat_cmp (entries m))
in_order m = entries_sorted m

pub entry_at : (m : Content) (k : ℕ) (v : Value) → Contains (entries m) (k, v) → at_key m k ≡ Some v
entry_at m k v c = get-entries m k ∙ found (entries m) (k, v) (in_order m) c

pub entry_there : (m : Content) (k : ℕ) (v : Value) → at_key m k ≡ Some v → Contains (entries m) (k, v)
entry_there m k v at = found_there (entries m) k v (sym (get-entries m k) ∙ at)
