-- How many of the elements of a list pass a test, where a place outside the list counts as one that does not.
use Rattle.std.proofs.Common.{◌≡◌, ℕ, ◌+◌, ◌<◌, ◌≤◌, suc, zero, Bool, true, false, List, [], ◌∷◌, length, get_or, refl, sym, ◌∙◌, ◌⊎◌, inl, inr, arith}
use Rattle.std.specs.Prelude.{count_by, Some, None}
use Rattle.std.specs.List.{position, position_or_len}
use Rattle.std.proofs.Math.ListN.{set}
use Rattle.std.proofs.lemmas.List.Sums.{fails_before_first, position_or_len_is}
use Rattle.std.proofs.lemmas.Grind.{common_steps}

-- how much a place counts
abbrev pub bit : Bool → ℕ
bit true = 1
bit false = 0

pub count-set : {X : Type 0} (p : X → Bool) (d : X) (xs : List X) (i : ℕ) (y : X) → i < length xs → count_by p (set xs i y) + bit (p (get_or xs i d)) ≡ count_by p xs + bit (p y)
count-set p d [] i y lt = absurd (omega arith)
count-set p d (x ∷ xs) zero y lt = grind (arith, common_steps)
count-set p d (x ∷ xs) (suc i) y lt =
    let h : i < length xs = omega arith in
    grind (arith, common_steps, count-set p d xs i y h)

pub count_none : {X : Type 0} (p : X → Bool) (d : X) (xs : List X) → ((k : ℕ) → p (get_or xs k d) ≡ false) → count_by p xs ≡ 0
count_none p d [] none = refl
count_none p d (x ∷ xs) none =
    let h : p x ≡ false = none 0 in
    let r : count_by p xs ≡ 0 = count_none p d xs (λ k. none (suc k)) in
    grind (arith, common_steps)

pub count_same : {X : Type 0} (p : X → Bool) (d : X) → p d ≡ false → (xs ys : List X) → ((k : ℕ) → p (get_or ys k d) ≡ p (get_or xs k d)) → count_by p ys ≡ count_by p xs
count_same p d off [] ys same = count_none p d ys (λ k. same k ∙ off)
count_same p d off (x ∷ xs) [] same = sym (count_none p d (x ∷ xs) (λ k. sym (same k) ∙ off))
count_same p d off (x ∷ xs) (y ∷ ys) same =
    let h : p y ≡ p x = same 0 in
    let r : count_by p ys ≡ count_by p xs = count_same p d off xs ys (λ k. same (suc k)) in
    grind (arith, common_steps)

pub count_below : {X : Type 0} (p : X → Bool) (d : X) → (xs : List X) (n : ℕ) → ((k : ℕ) → n ≤ k → p (get_or xs k d) ≡ false) → count_by p xs ≤ n
count_below p d [] n none = omega arith
count_below p d (x ∷ xs) zero none =
    let r : count_by p (x ∷ xs) ≡ 0 = count_none p d (x ∷ xs) (λ k. none k (omega arith)) in
    omega arith
count_below p d (x ∷ xs) (suc n) none =
    let r : count_by p xs ≤ n = count_below p d xs n (λ k le. none (suc k) (omega arith)) in
    grind (arith, common_steps)

pub within : {X : Type 0} (p : X → Bool) (d : X) → p d ≡ false → (xs : List X) (i : ℕ) → p (get_or xs i d) ≡ true → i < length xs
within p d off [] i on = let e : true ≡ false = sym on ∙ off in cc
within p d off (x ∷ xs) zero on = omega arith
within p d off (x ∷ xs) (suc i) on = let r : i < length xs = within p d off xs i on in omega arith

-- what is counted at a place
pub count_at : {X : Type 0} (p : X → Bool) (d : X) → p d ≡ false → (xs : List X) (i : ℕ) → p (get_or xs i d) ≡ true → 1 ≤ count_by p xs
count_at p d off xs i on =
    let lt : i < length xs = within p d off xs i on in
    let e = count-set p d xs i d lt in
    let f : bit (p (get_or xs i d)) ≡ 1 = rw on refl in
    let g : bit (p d) ≡ 0 = rw off refl in
    omega arith

pub position_none : {X : Type 0} (p : X → Bool) (d : X) (xs : List X) → ((k : ℕ) → p (get_or xs k d) ≡ false) → position p xs ≡ None
position_none p d xs none =
    let e : position_or_len p xs ≡ length xs = position_or_len_is p xs (length xs) d (omega arith) (λ k lt. none k) (λ lt. absurd (omega arith)) in
    grind (arith, common_steps)

pub position_is : {X : Type 0} (p : X → Bool) (d : X) → p d ≡ false → (xs : List X) (i : ℕ) → ((k : ℕ) → k < i → p (get_or xs k d) ≡ false) → p (get_or xs i d) ≡ true → position p xs ≡ Some i
position_is p d off xs i before on =
    let lt : i < length xs = within p d off xs i on in
    let e : position_or_len p xs ≡ i = position_or_len_is p xs i d (omega arith) before (λ _. on) in
    grind (arith, common_steps)

-- ---- a place that counts no more

pub count_less : {X : Type 0} (p : X → Bool) (d : X) → p d ≡ false → (xs : List X) (i : ℕ) → count_by p (set xs i d) ≤ count_by p xs
count_less p d off [] i = omega arith
count_less p d off (x ∷ xs) zero = grind (arith, common_steps)
count_less p d off (x ∷ xs) (suc i) =
    let r : count_by p (set xs i d) ≤ count_by p xs = count_less p d off xs i in
    grind (arith, common_steps)

pub get_or_beyond : {X : Type 0} (d : X) (xs : List X) (k : ℕ) → length xs ≤ k → get_or xs k d ≡ d
get_or_beyond d [] k le = refl
get_or_beyond d (x ∷ xs) zero le = absurd (omega arith)
get_or_beyond d (x ∷ xs) (suc k) le = get_or_beyond d xs k (omega arith)

some_place : {X : Type 0} (p : X → Bool) (xs : List X) → position_or_len p xs < length xs → position p xs ≡ Some (position_or_len p xs)
some_place p xs lt = grind (arith, common_steps)

beyond_or_below : (k n : ℕ) → (k < n) ⊎ (n ≤ k)
beyond_or_below k n = grind arith

pub none_from_position : {X : Type 0} (p : X → Bool) (d : X) → p d ≡ false → (xs : List X) → position p xs ≡ None → (k : ℕ) → p (get_or xs k d) ≡ false
none_from_position p d off xs none k = elim (beyond_or_below (position_or_len p xs) (length xs)) [
  | inl lt ↦ (let e = some_place p xs lt in let f : None ≡ Some (position_or_len p xs) = sym none ∙ e in cc)
  | inr le ↦ elim (beyond_or_below k (length xs)) [
    | inl here ↦ fails_before_first p xs k d (omega arith)
    | inr past ↦ rw (get_or_beyond d xs k past) off
  ]
]
