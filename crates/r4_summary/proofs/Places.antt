-- The place of a key among parts that rise.
use Rattle.std.specs.Prelude.{◌≡◌, ℕ, zero, suc, ◌+◌, ◌≤◌, ◌<◌, List, [], ◌∷◌, All, Bool, true, false, nat_lt, length, slice_get, slice_index_or, take, drop, Some, ◌≢◌}
use Rattle.std.proofs.Common.{arith, refl, sym, ap, subst, ◌∙◌}
use Rattle.std.proofs.lemmas.Bool.{ltb-false, ltb-true}
use Rattle.std.proofs.Common.{inl, inr}
use Rattle.std.proofs.lemmas.Bool.{cases_lt}
use denote.Param.Members.{Mut}
use denote.Ref.{Bor}
use Rattle.std.specs.Fn.{Called, ComputesKey}
use Rattle.std.specs.List.Sorted.{IsNonDecreasingBy, IsPartitionPoint, IsPartitionedBy}
use Rattle.std.proofs.lemmas.List.Sorted.{IsPartitionPoint-from_clause, IsPartitionedBy-ltb}
use Rattle.r4_content.specs.declared.seen.SeenPart.{SeenPart}
use Rattle.r4_summary.specs.Kept.{key_in}

abbrev pub IsPlace : ℕ → List SeenPart → ℕ → Type 0
IsPlace n = IsPartitionPoint (λ y. nat_lt (key_in y) n ≡ true) (λ y. nat_lt (key_in y) n ≡ false)

pub place_of : (n : ℕ) {F : Type 0} {g : Mut F (Bor SeenPart × Unit {0}) Bool} {f : F} (xs : List SeenPart) (i : ℕ) → IsNonDecreasingBy key_in xs
    → ((q : SeenPart → Bool) → ComputesKey g q f → IsPartitionedBy q xs → IsPartitionPoint (λ y. q y ≡ true) (λ y. q y ≡ false) xs i)
    → ((a : Bor SeenPart × Unit {0}) (r : Bool) (f' : F) → Called g f a r f' → (r ≡ nat_lt (key_in a.0.now) n) × (f' ≡ f))
    → IsPlace n xs i
place_of n xs i order clause calls =
    IsPartitionPoint-from_clause (λ y. nat_lt (key_in y) n) xs i clause (IsPartitionedBy-ltb key_in xs n order) calls

in_front : (xs : List SeenPart) (i k : ℕ) (d : SeenPart) → k < i → slice_index_or (take i xs) k d ≡ slice_index_or xs k d
in_front [] zero k d lt = refl
in_front [] (suc i) k d lt = refl
in_front (x ∷ xs) zero k d lt = absurd (omega (arith, lt))
in_front (x ∷ xs) (suc i) zero d lt = refl
in_front (x ∷ xs) (suc i) (suc k) d lt = in_front xs i k d (omega (arith, lt))

front_length : (xs : List SeenPart) (i : ℕ) → length (take i xs) ≤ i
front_length [] zero = omega arith
front_length [] (suc i) = omega arith
front_length (x ∷ xs) zero = omega arith
front_length (x ∷ xs) (suc i) = let le = front_length xs i in omega (arith, le)

at_back : (xs : List SeenPart) (i k : ℕ) (d : SeenPart) → slice_index_or (drop i xs) k d ≡ slice_index_or xs (i + k) d
at_back xs zero k d = let e : k ≡ 0 + k = omega arith in ap (λ n. slice_index_or xs n d) e
at_back [] (suc i) k d = refl
at_back (x ∷ xs) (suc i) k d = let e : suc (i + k) ≡ suc i + k = omega arith in at_back xs i k d ∙ ap (λ n. slice_index_or (x ∷ xs) n d) e

back_length : (xs : List SeenPart) (i : ℕ) → i ≤ length xs → i + length (drop i xs) ≡ length xs
back_length xs zero le = omega arith
back_length [] (suc i) le = absurd (omega (arith, le))
back_length (x ∷ xs) (suc i) le = let e = back_length xs i (omega (arith, le)) in omega (arith, e)

pub before_place : (n : ℕ) (xs : List SeenPart) (i : ℕ) → i ≤ length xs → IsPlace n xs i → All (λ p. key_in p < n) (take i xs)
before_place n xs i le h k d lt =
    let short = front_length xs i in
    let low : k < i = omega (arith, lt, short) in
    subst (λ p. key_in p < n) (sym (in_front xs i k d low)) (ltb-true (key_in (slice_index_or xs k d)) n (h.0 k d (omega arith) low))

pub behind_place : (n : ℕ) (xs : List SeenPart) (i : ℕ) → i ≤ length xs → IsPlace n xs i → All (λ p. n ≤ key_in p) (drop i xs)
behind_place n xs i le h k d lt =
    let long = back_length xs i le in
    subst (λ p. n ≤ key_in p) (sym (at_back xs i k d)) (ltb-false (key_in (slice_index_or xs (i + k) d)) n (h.1 (i + k) d (omega arith) (omega (arith, lt, long))))

at_index : (xs : List SeenPart) (i : ℕ) (d : SeenPart) → i < length xs → slice_get xs i ≡ Some (slice_index_or xs i d)
at_index [] i d lt = absurd (omega (arith, lt))
at_index (x ∷ xs) zero d lt = refl
at_index (x ∷ xs) (suc i) d lt = at_index xs i d (omega (arith, lt))

-- behind a place where no part has the key, all are above it
pub above_place : (n : ℕ) (xs : List SeenPart) (i : ℕ) → i ≤ length xs → IsNonDecreasingBy key_in xs → All (λ p. n ≤ key_in p) (drop i xs)
    → ((p : SeenPart) → slice_get xs i ≡ Some p → key_in p ≢ n) → All (λ p. n < key_in p) (drop i xs)
above_place n xs i le order behind other k d lt =
    let long = back_length xs i le in
    let first_le : n ≤ key_in (slice_index_or xs i d) =
    subst (λ p. n ≤ key_in p) (at_back xs i 0 d ∙ (let e : i + 0 ≡ i = omega arith in ap (λ j. slice_index_or xs j d) e)) (behind 0 d (omega (arith, lt))) in
    let not_first = other (slice_index_or xs i d) (at_index xs i d (omega (arith, lt, long))) in
    let lt_first : n < key_in (slice_index_or xs i d) = less first_le not_first in
    let up = order i (i + k) d (omega arith) (omega (arith, lt, long)) in
    subst (λ p. n < key_in p) (sym (at_back xs i k d)) (omega (arith, lt_first, up))
  where
    less : {a b : ℕ} → a ≤ b → b ≢ a → a < b
    less {a} {b} le ne = elim (cases_lt a b) [ inl lt ↦ lt | inr ge ↦ absurd (ne (omega (arith, le, ge))) ]
