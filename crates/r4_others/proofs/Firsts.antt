-- What stays of a list in order where the first element of each run stays.
use Rattle.std.proofs.Common.{◌≡◌, ◌≢◌, ⊎_elim, ℕ, zero, suc, ◌<◌, ◌≤◌, Bool, true, false, true≢false, eqb, get_or}
use Rattle.std.proofs.Common.{List, [], ◌∷◌, map, sym, ◌∙◌, ap, subst, arith}
use Rattle.std.specs.Prelude.{All, Contains}
use Rattle.std.specs.List.{AllPairs, dedup, dedup_from}
use Rattle.std.specs.List.Sorted.{IsSorted}
use Rattle.std.specs.Ordering.{is_lt, nat_cmp, ordering_then}
use Rattle.std.proofs.lemmas.Cmp.{nat_cmp_total, nat_eq_equiv, on_equiv, on_total, then_total}
use Rattle.std.proofs.lemmas.Bool.{cond_both, eq-eqb, eqb-true}
use Rattle.std.proofs.lemmas.List.Elements.{All-contains, All-head}
use Rattle.std.proofs.lemmas.Bool.Decides.{nat_tests}
use Rattle.std.proofs.lemmas.List.Sorted.{ranks_by, sorted_far}
use Rattle.std.proofs.lemmas.List.Kept.{Any-dedup, Contains-from_dedup}
use Rattle.r4_base.proofs.Choices.{nothing_in}
use Rattle.r4_history.proofs.ServingSteps.{cons_cases, cons_here, cons_later}
use Rattle.r4_history.specs.Serving.{Rise}

-- ---- members of a mapped list

pub member_from : {X : Type 0} {Y : Type 0} (h : X → Y) (xs : List X) (y : Y) → Contains (map h xs) y
    → (x : X) × Contains xs x × (h x ≡ y)
member_from h [] y c = absurd (nothing_in y c)
member_from h (x ∷ xs) y c =
    ⊎_elim (λ here. (x, cons_here x xs, here))
    (λ later. let r = member_from h xs y later in (r.0, cons_later x xs r.0 r.1, r.2))
    (cons_cases (h x) (map h xs) y c)

pub member_of : {X : Type 0} {Y : Type 0} (h : X → Y) (xs : List X) (x : X) → Contains xs x
    → Contains (map h xs) (h x)
member_of h [] x c = absurd (nothing_in x c)
member_of h (y ∷ ys) x c =
    ⊎_elim (λ here. subst (Contains (h y ∷ map h ys)) (ap h here) (cons_here (h y) (map h ys)))
    (λ later. cons_later (h y) (map h ys) (h x) (member_of h ys x later)) (cons_cases y ys x c)

-- ---- lists in order

-- an element comes no later than another: first by f, then by g
pub record IsNoLater {X : Type 0} (f g : X → ℕ) (x y : X) : Type 0 where
  pub first : f x ≤ f y
  pub second : f x ≡ f y → g x ≤ g y

module _ {X : Type 0} (f : X → ℕ) where
  abbrev pub same : X → X → Bool
  same x y = eqb (f x) (f y)

  -- for each element one stays with the same f
  pub stays : (xs : List X) (x : X) → Contains xs x → (y : X) × Contains (dedup same xs) y × (f y ≡ f x)
  stays xs x c =
      let (k, y, within, at, alike) = Any-dedup (on_equiv f nat_eq_equiv) xs x c in
      (y, (k, within, at), sym (eqb-true (f x) (f y) alike))

module _ {X : Type 0} (f g : X → ℕ) where
  -- each comes no later than those behind it
  abbrev pub AreOrdered : List X → Type 0
  AreOrdered xs = AllPairs (IsNoLater f g) xs

  behind : (x : X) (xs : List X) → AreOrdered (x ∷ xs) → All (IsNoLater f g x) xs
  behind x xs up j d lt = up zero (suc j) d (omega arith) (omega arith)

  later : (x : X) (xs : List X) → AreOrdered (x ∷ xs) → AreOrdered xs
  later x xs up i j d below within = up (suc i) (suc j) d (omega arith) (omega arith)

  -- what differs from an element in a list in order comes behind it, with all that is left then
  greater : (k x : X) (xs : List X) → AreOrdered (k ∷ x ∷ xs) → same f x k ≡ false → (y : X) → Contains (x ∷ xs) y
      → f k < f y
  greater k x xs up other y c =
      let first = All-head (IsNoLater f g k) x xs (behind k (x ∷ xs) up) in
      let le = first.first in
      let ne : f x ≢ f k = λ e. true≢false (sym (eq-eqb (f x) (f k) e) ∙ other) in
      ⊎_elim (λ e. (let at : f x ≡ f y = ap f e in omega arith))
      (λ there.
      (let more = (All-contains (IsNoLater f g x) xs y (behind x xs (later k (x ∷ xs) up)) there).first in omega arith))
      (cons_cases x xs y c)

  without : (k x : X) (xs : List X) → AreOrdered (k ∷ x ∷ xs) → AreOrdered (k ∷ xs)
  without k x xs up zero zero d below within = absurd (omega arith)
  without k x xs up (suc i) zero d below within = absurd (omega arith)
  without k x xs up zero (suc j) d below within = up zero (suc (suc j)) d (omega arith) (omega arith)
  without k x xs up (suc i) (suc j) d below within = up (suc (suc i)) (suc (suc j)) d (omega arith) (omega arith)

  -- the first of them stay, so f rises
  rises_from : (xs : List X) (k : X) → AreOrdered (k ∷ xs)
      → Rise (map (λ x. (f x, g x)) (dedup_from (same f) k xs))
  rises_from [] k up = (λ q c. absurd (nothing_in q c), tt)
  rises_from (x ∷ xs) k up =
      cond_both (same f x k) (dedup_from (same f) k xs) (k ∷ dedup_from (same f) x xs)
      (λ l. Rise (map (λ x. (f x, g x)) l))
      (λ t. rises_from xs k (without k x xs up))
      (λ other. (
        (λ q c.
            (let (y, there, is) = member_from (λ x. (f x, g x)) (dedup_from (same f) x xs) q c in
            let lt = greater k x xs up other y (Contains-from_dedup (same f) (x ∷ xs) y there) in
            let at : f y ≡ q.0 = ap (λ (p : ℕ × ℕ). p.0) is in
            omega arith)),
        rises_from xs x (later k (x ∷ xs) up),
      ))

  pub rises : (xs : List X) → AreOrdered xs → Rise (map (λ x. (f x, g x)) (dedup (same f) xs))
  rises [] up = tt
  rises (x ∷ xs) up = rises_from xs x up

  -- of those with the same f none has a smaller g
  abbrev AreLeast : (kept among : List X) → Type 0
  AreLeast kept among = (x y : X) → Contains kept x → Contains among y → f x ≡ f y → g x ≤ g y

  with_one_more : (k z : X) (zs kept : List X) → AreOrdered (k ∷ z ∷ zs) → same f z k ≡ true → AreLeast kept (k ∷ zs)
      → AreLeast kept (k ∷ z ∷ zs)
  with_one_more k z zs kept up alike lower x y there c e =
      ⊎_elim (λ here. lower x y there (subst (Contains (k ∷ zs)) here (cons_here k zs)) e)
      (λ more. ⊎_elim
      (λ at.
      (let f_is : f z ≡ f y = ap f at in
      let g_is : g z ≡ g y = ap g at in
      let one_f = eqb-true (f z) (f k) alike in
      let low = lower x k there (cons_here k zs) (omega arith) in
      let next = (All-head (IsNoLater f g k) z zs (behind k (z ∷ zs) up)).second (sym one_f) in
      omega arith))
      (λ deep. lower x y there (cons_later k zs y deep) e) (cons_cases z zs y more))
      (cons_cases k (z ∷ zs) y c)

  with_one_kept : (k z : X) (zs : List X) → AreOrdered (k ∷ z ∷ zs) → same f z k ≡ false
      → AreLeast (dedup_from (same f) z zs) (z ∷ zs) → AreLeast (k ∷ dedup_from (same f) z zs) (k ∷ z ∷ zs)
  with_one_kept k z zs up other lower x y kept c e =
      ⊎_elim
      (λ first. ⊎_elim (λ at. (let g_is : g x ≡ g y = ap g (sym first ∙ at) in omega arith))
      (λ more.
      (let le = (All-contains (IsNoLater f g k) (z ∷ zs) y (behind k (z ∷ zs) up) more).second (ap f first ∙ e) in
      let g_is : g k ≡ g x = ap g first in
      omega arith))
      (cons_cases k (z ∷ zs) y c))
      (λ there. ⊎_elim
      (λ at.
      (let lt = greater k z zs up other x (Contains-from_dedup (same f) (z ∷ zs) x there) in
      let f_is : f k ≡ f y = ap f at in
      absurd (omega arith)))
      (λ more. lower x y there more e) (cons_cases k (z ∷ zs) y c))
      (cons_cases k (dedup_from (same f) z zs) x kept)

  least_from : (xs : List X) (k : X) → AreOrdered (k ∷ xs) → AreLeast (dedup_from (same f) k xs) (k ∷ xs)
  least_from [] k up x y kept c e =
      ⊎_elim (λ one. ⊎_elim (λ two. (let g_is : g x ≡ g y = ap g (sym one ∙ two) in omega arith))
      (λ none. absurd (nothing_in y none)) (cons_cases k [] y c))
      (λ none. absurd (nothing_in x none)) (cons_cases k [] x kept)
  least_from (z ∷ zs) k up x y kept c e =
      cond_both (same f z k) (dedup_from (same f) k zs) (k ∷ dedup_from (same f) z zs) (λ l. AreLeast l (k ∷ z ∷ zs))
      (λ alike. with_one_more k z zs (dedup_from (same f) k zs) up alike (least_from zs k (without k z zs up)))
      (λ other. with_one_kept k z zs up other (least_from zs z (later k (z ∷ zs) up)))
      x y kept c e

  pub least : (xs : List X) → AreOrdered xs → AreLeast (dedup (same f) xs) xs
  least [] up x y kept c e = absurd (nothing_in x kept)
  least (z ∷ zs) up x y kept c e = least_from zs z up x y kept c e

  -- a list that was sorted by both is in order
  by_both : (a b m n : ℕ) → is_lt (ordering_then (nat_cmp a b) (nat_cmp m n)) ≡ false → (b ≤ a) × (b ≡ a → n ≤ m)
  by_both a b m n not_less = (grind (arith, nat_tests), λ e. grind (arith, nat_tests))

  pub ordered : (xs : List X) → IsSorted (λ x y. ordering_then (nat_cmp (f x) (f y)) (nat_cmp (g x) (g y))) xs
      → AreOrdered xs
  ordered xs up i j d below within =
      let both = then_total (on_total f nat_cmp_total) (on_total g nat_cmp_total) in
      let far = sorted_far _ (ranks_by both (λ x. x)) xs up i j d (omega arith) within in
      let (first, second) =
      by_both (f (get_or xs j d)) (f (get_or xs i d)) (g (get_or xs j d)) (g (get_or xs i d)) far in
      record { first = first; second = second }
