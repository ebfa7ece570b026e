-- What is counted of two atoms that become one is what was counted of both; of each other atom it stays.
use Rattle.std.proofs.Common.{◌≡◌, ◌≢◌, ◌⊎◌, inl, inr, ⊎_elim, ℕ, ◌+◌, ◌<◌, ◌≤◌, ◌==◌, Bool, true, false, cond, List}
use Rattle.std.proofs.Common.{[], ◌∷◌}
use Rattle.std.proofs.Common.{◌++◌, length, Option, Some, None, Contains, refl, sym, ◌∙◌, ap, arith}
use Rattle.std.specs.Prelude.{nat_eq, nat_le, ◌^◌}
use Rattle.std.specs.List.{AllByRecursion, IsDistinct}
use Rattle.std.specs.Option.{option_map}
use Rattle.std.proofs.lemmas.Bool.{cases_Bool, cond-false, cond-true, eq-eqb, eqb-true, ne_eqb}
use Rattle.std.proofs.lemmas.List.{length-append}
use Rattle.std.proofs.lemmas.List.Elements.{Contains-append_cases, Contains-append_left, Contains-append_right}
use Rattle.std.proofs.lemmas.List.Sums.{sum_by-append}
use Rattle.std.proofs.lemmas.Map.Keys.{IsDistinct-cons, IsDistinct-head, IsDistinct-tail}
use Rattle.r4_base.proofs.Members.{member_here, member_later}
use Rattle.r4_base.specs.Value.{Content}
use Rattle.r4_content.specs.Counts.{born, gone}
use Rattle.r4_content.specs.Locality.{commands}
use Rattle.r4_kept.specs.r4_trace.Folds.{content_of, everything}
use Rattle.r4_kept.specs.r4_trace.Traced.{renamed_atom}
use Rattle.r4_kept.specs.r4_trace.declared.entry.Entry.{Entry}
use Rattle.r4_kept.specs.r4_trace.declared.entry.Entry.TheVariants.{Done}
use Rattle.r4_kept.specs.r4_sets_told.Runs.{born_in, gone_in}
use Rattle.r4_atoms.specs.Atoms.{AtomsSeen, owner_of}
use Rattle.r4_kept.specs.r4_buffer.Seen.{BufferSeen}
use Rattle.r4_kept.specs.Accounts.{CountsCells, dones_of}

-- ---- one transaction

module _ (k g : ℕ) (less : k < g) where
  same_k : (k == k) ≡ true
  same_k = eq-eqb k k refl

  g_not_k : (g == k) ≡ false
  g_not_k = ne_eqb g k (λ e. omega (arith, e, less))

  -- of the kept atom then are those of both
  both : (v x : ℕ) → cond (renamed_atom k g x == k) v 0 ≡ cond (x == k) v 0 + cond (x == g) v 0
  both v x = elim (cases_Bool (x == g)) [
    | inl is ↦
        let not : (x == k) ≡ false = ne_eqb x k (λ e. let at = eqb-true x g is in omega (arith, e, at, less)) in
        rw (is, same_k, not) (omega arith)
    | inr not ↦ rw not (omega arith)
  ]

  -- and of another one those that were
  others : (a : ℕ) → a ≢ k → a ≢ g → (x : ℕ) → (renamed_atom k g x == a) ≡ (x == a)
  others a not_k not_g x = elim (cases_Bool (x == g)) [
    | inl is ↦
        let one : (k == a) ≡ false = ne_eqb k a (λ e. not_k (sym e)) in
        let two : (x == a) ≡ false = ne_eqb x a (λ e. not_g (sym e ∙ eqb-true x g is)) in
        rw (is, one, two) refl
    | inr not ↦ rw not refl
  ]

  -- ---- commands that were done, and what they made and took away

  module _ (f : ℕ → ℕ) where
    pub dones_both : (trace : List Entry) → dones_of (λ t. renamed_atom k g (f t) == k) trace
        ≡ dones_of (λ t. f t == k) trace + dones_of (λ t. f t == g) trace
    dones_both [] = refl
    dones_both (Done txn script index x reply ∷ older) =
        let one = both 1 (f txn.0) in
        let rest = dones_both older in
        omega (arith, one, rest)
    dones_both (e ∷ older) = dones_both older

    pub born_both : (limit : ℕ) (start : Content) (trace : List Entry)
        → born_in limit start (λ t. renamed_atom k g (f t) == k) trace
        ≡ born_in limit start (λ t. f t == k) trace + born_in limit start (λ t. f t == g) trace
    born_both limit start [] = refl
    born_both limit start (Done txn script index x reply ∷ older) =
        let one = both (born limit x (content_of (commands limit) start everything older)) (f txn.0) in
        let rest = born_both limit start older in
        omega (arith, one, rest)
    born_both limit start (e ∷ older) = born_both limit start older

    pub gone_both : (limit : ℕ) (start : Content) (trace : List Entry)
        → gone_in limit start (λ t. renamed_atom k g (f t) == k) trace
        ≡ gone_in limit start (λ t. f t == k) trace + gone_in limit start (λ t. f t == g) trace
    gone_both limit start [] = refl
    gone_both limit start (Done txn script index x reply ∷ older) =
        let one = both (gone limit x (content_of (commands limit) start everything older)) (f txn.0) in
        let rest = gone_both limit start older in
        omega (arith, one, rest)
    gone_both limit start (e ∷ older) = gone_both limit start older

    pub chosen_other : (a : ℕ) → a ≢ k → a ≢ g
        → ◌≡◌ {A = ℕ → Bool} (λ t. renamed_atom k g (f t) == a) (λ t. f t == a)
    chosen_other a not_k not_g = λ j t. others a not_k not_g (f t) j

-- two atoms have no command in common
pub dones_apart : (a b : ℕ) → a ≢ b → (f : ℕ → ℕ) → (trace : List Entry)
    → dones_of (λ t. f t == a) trace + dones_of (λ t. f t == b) trace ≤ length trace
dones_apart a b differ f [] = omega arith
dones_apart a b differ f (Done txn script index x reply ∷ older) =
    let rest = dones_apart a b differ f older in
    elim (cases_Bool (f txn.0 == a)) [
      | inl is ↦
          let not : (f txn.0 == b) ≡ false = ne_eqb (f txn.0) b (λ e. differ (sym (eqb-true (f txn.0) a is) ∙ e)) in
          rw (is, not) (omega (arith, rest))
      | inr out ↦ elim (cases_Bool (f txn.0 == b)) [
        | inl is ↦ rw (out, is) (omega (arith, rest))
        | inr not ↦ rw (out, not) (omega (arith, rest))
      ]
    ]
dones_apart a b differ f (e ∷ older) = let rest = dones_apart a b differ f older in omega (arith, rest)

-- ---- whose a cell is

module _ (k g : ℕ) (less : k < g) where
  -- of the kept atom, where it was one of both
  pub owned_after : (o : Option ℕ) → (o ≡ Some k) ⊎ (o ≡ Some g) → option_map (renamed_atom k g) o ≡ Some k
  owned_after o (inl is) =
      ap (option_map (renamed_atom k g)) is
      ∙ ap Some (cond-false (k == g) k k (ne_eqb k g (λ e. omega (arith, e, less))))
  owned_after o (inr is) =
      ap (option_map (renamed_atom k g)) is ∙ ap Some (cond-true (g == g) k g (eq-eqb g g refl))

  pub owned_before : (o : Option ℕ) → option_map (renamed_atom k g) o ≡ Some k → (o ≡ Some k) ⊎ (o ≡ Some g)
  owned_before None e = absurd (cc e)
  owned_before (Some x) e = elim (cases_Bool (x == g)) [
    | inl is ↦ inr (ap Some (eqb-true x g is))
    | inr not ↦ inl (sym (ap Some (cond-false (x == g) k x not)) ∙ e)
  ]

  -- of another one, where it was its
  pub other_after : (a : ℕ) → a ≢ g → (o : Option ℕ) → o ≡ Some a → option_map (renamed_atom k g) o ≡ Some a
  other_after a not_g o is =
      ap (option_map (renamed_atom k g)) is ∙ ap Some (cond-false (a == g) k a (ne_eqb a g not_g))

  pub other_before : (a : ℕ) → a ≢ k → (o : Option ℕ) → option_map (renamed_atom k g) o ≡ Some a → o ≡ Some a
  other_before a not_k None e = absurd (cc e)
  other_before a not_k (Some x) e = elim (cases_Bool (x == g)) [
    | inl is ↦ absurd (not_k (sym (cc (sym (ap Some (cond-true (x == g) k x is)) ∙ e))))
    | inr not ↦ sym (ap Some (cond-false (x == g) k x not)) ∙ e
  ]

-- ---- cells

pub all_from : (P : ℕ → Type 0) (xs : List ℕ) → ((y : ℕ) → Contains xs y → P y) → AllByRecursion P xs
all_from P [] has = tt
all_from P (x ∷ xs) has =
    (has x (member_here x xs x refl), all_from P xs (λ y c. has y (member_later x xs y c)))

pub all_both : (P : ℕ → Type 0) (xs ys : List ℕ) → AllByRecursion P xs → AllByRecursion P ys
    → AllByRecursion P (xs ++ ys)
all_both P [] ys one two = two
all_both P (x ∷ xs) ys one two = (one.0, all_both P xs ys one.1 two)

pub distinct_both : (xs ys : List ℕ) → IsDistinct nat_eq xs → IsDistinct nat_eq ys
    → ((i : ℕ) → Contains xs i → Contains ys i → ⊥) → IsDistinct nat_eq (xs ++ ys)
distinct_both [] ys one two apart = two
distinct_both (x ∷ xs) ys one two apart =
    IsDistinct-cons nat_eq x (xs ++ ys)
    (all_both (λ y. nat_eq x y ≡ false) xs ys (IsDistinct-head nat_eq x xs one)
    (all_from (λ y. nat_eq x y ≡ false) ys
    (λ y there. ne_eqb x y (λ e. apart y (member_here x xs y (sym e)) there))))
    (distinct_both xs ys (IsDistinct-tail nat_eq x xs one) two
    (λ i c there. apart i (member_later x xs i c) there))

module _ (b : BufferSeen) (old new : AtomsSeen) (k g : ℕ) (less : k < g)
    (owners : (n : ℕ) → owner_of new n ≡ option_map (renamed_atom k g) (owner_of old n)) where
  some_same : (x y : ℕ) → Some x ≡ Some y → x ≡ y
  some_same x y e = cc e

  pub counts_both : (cells fresh more fresher : ℕ) → CountsCells b old k cells fresh
      → CountsCells b old g more fresher → CountsCells b new k (cells + more) (fresh + fresher)
  counts_both cells fresh more fresher one two =
      let xs = one.nodes in
      let ys = two.nodes in
      record {
        nodes = xs ++ ys;
        different = distinct_both xs ys one.different two.different
            (λ i c there.
            (let e = some_same k g (sym ((one.just i).0 c).0 ∙ ((two.just i).0 there).0) in
            absurd (omega (arith, e, less))));
        just = λ i. (
          λ has. ⊎_elim
              (λ c. (let h = (one.just i).0 c in (owners i ∙ owned_after k g less (owner_of old i) (inl h.0), h.1)))
              (λ c. (let h = (two.just i).0 c in (owners i ∙ owned_after k g less (owner_of old i) (inr h.0), h.1)))
              (Contains-append_cases xs ys i has),
          λ h. ⊎_elim
              (λ is. Contains-append_left xs ys i ((one.just i).1 (is, h.1)))
              (λ is. Contains-append_right xs ys i ((two.just i).1 (is, h.1)))
              (owned_before k g less (owner_of old i) (sym (owners i) ∙ h.0)),
        );
        cells_are =
            let e = length-append xs ys in
            let a = one.cells_are in
            let c = two.cells_are in
            omega (arith, e, a, c);
        fresh_are =
            let e = sum_by-append (λ y. cond (nat_le (2 ^ 63) y) 1 0) xs ys in
            let a = one.fresh_are in
            let c = two.fresh_are in
            omega (arith, e, a, c);
      }

  pub counts_other : (a : ℕ) → a ≢ k → a ≢ g → (cells fresh : ℕ) → CountsCells b old a cells fresh
      → CountsCells b new a cells fresh
  counts_other a not_k not_g cells fresh h = record {
    nodes = h.nodes;
    different = h.different;
    just = λ i. (
      λ has. (let e = (h.just i).0 has in (owners i ∙ other_after k g less a not_g (owner_of old i) e.0, e.1)),
      λ e. (h.just i).1 (other_before k g less a not_k (owner_of old i) (sym (owners i) ∙ e.0), e.1),
    );
    cells_are = h.cells_are;
    fresh_are = h.fresh_are;
  }
