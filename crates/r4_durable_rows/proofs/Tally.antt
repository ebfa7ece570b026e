-- How many of the first numbers have a property.
use Rattle.std.proofs.Common.{◌≡◌, ◌≢◌, inl, inr, ⊎_elim, ℕ, zero, suc, ◌+◌, ◌<◌, ◌≤◌, Bool, true, false, not, ◌&&◌}
use Rattle.std.proofs.Common.{cond, eqb, List, [], ◌∷◌, length, refl, sym, ap, ◌∙◌, subst, arith, add-one}
use Rattle.std.specs.Prelude.{Contains, count_by, map, sum_by}
use Rattle.std.specs.List.{range_with_len}
use Rattle.std.proofs.lemmas.Bool.{cases_eq, eq-eqb, false_from_ne_true, ne_eqb}
use Rattle.std.proofs.lemmas.List.FromFn.{sum_by-map-range_with_len_more}
use Rattle.std.proofs.lemmas.List.Sums.{sum_by-cons}
use Rattle.r4_base.specs.Image.{AreDifferent}
use Rattle.r4_base.proofs.Members.{member_here, member_later, member_cases, no_member}

-- one for a number that has it
abbrev pub one_if : Bool → ℕ
one_if b = cond b 1 0

pub tally : (ℕ → Bool) → ℕ → ℕ
tally f zero = 0
tally f (suc n) = tally f n + one_if (f n)

mapped : (f : ℕ → Bool) (xs : List ℕ) → sum_by one_if (map f xs) ≡ count_by f xs
mapped f [] = refl
mapped f (x ∷ xs) =
    sum_by-cons one_if (f x) (map f xs) ∙ ap (λ (k : ℕ). one_if (f x) + k) (mapped f xs)
    ∙ sym (sum_by-cons (λ (k : ℕ). one_if (f k)) x xs)

pub count-tally : (f : ℕ → Bool) (n : ℕ) → count_by f (range_with_len 0 n) ≡ tally f n
unfolding tally
count-tally f zero = refl
count-tally f (suc n) =
    let ih = count-tally f n in
    ap (λ (k : ℕ). count_by f (range_with_len 0 k)) (sym (add-one n))
    ∙ sym (mapped f (range_with_len 0 (n + 1)))
    ∙ sum_by-map-range_with_len_more one_if f 0 n n (omega arith)
    ∙ ap (λ (k : ℕ). k + one_if (f n)) (mapped f (range_with_len 0 n) ∙ ih)

-- ---- one number more, or fewer

one_most : (b : Bool) → one_if b ≤ 1
one_most true = omega arith
one_most false = omega arith

pub tally-same : (f g : ℕ → Bool) (n : ℕ) → ((k : ℕ) → k < n → f k ≡ g k) → tally f n ≡ tally g n
unfolding tally
tally-same f g zero same = refl
tally-same f g (suc n) same =
    let ih = tally-same f g n (λ k lt. same k (omega arith)) in
    let here = ap one_if (same n (omega arith)) in
    omega (arith, ih, here)

one_under : (a b : Bool) → (a ≡ true → b ≡ true) → one_if a ≤ one_if b
one_under false b h = omega arith
one_under true b h = let is : one_if b ≡ 1 = ap one_if (h refl) in omega (arith, is)

pub tally-le : (f g : ℕ → Bool) (n : ℕ) → ((k : ℕ) → f k ≡ true → g k ≡ true) → tally f n ≤ tally g n
unfolding tally
tally-le f g zero under = omega arith
tally-le f g (suc n) under =
    let ih = tally-le f g n under in
    let here = one_under (f n) (g n) (under n) in
    omega (arith, ih, here)

-- f has b, and else the same as g
pub tally-one : (f g : ℕ → Bool) (b n : ℕ) → b < n → f b ≡ true → g b ≡ false → ((k : ℕ) → k ≢ b → f k ≡ g k)
    → tally f n ≡ tally g n + 1
unfolding tally
tally-one f g b zero lt has none same = absurd (omega arith)
tally-one f g b (suc n) lt has none same = elim (cases_eq b n) [
  | inl is ↦
      let rest = tally-same f g n (λ k less. same k (λ at. absurd (omega (arith, at, is, less)))) in
      let one : one_if (f n) ≡ 1 = ap one_if (subst (λ (k : ℕ). f k ≡ true) is has) in
      let no : one_if (g n) ≡ 0 = ap one_if (subst (λ (k : ℕ). g k ≡ false) is none) in
      omega (arith, rest, one, no)
  | inr apart ↦
      let less : b < n = omega arith in
      let ih = tally-one f g b n less has none same in
      let here : one_if (f n) ≡ one_if (g n) = ap one_if (same n (λ is. apart (sym is))) in
      omega (arith, ih, here)
]

-- the number without b
without : (ℕ → Bool) → ℕ → ℕ → Bool
without f b k = f k && not (eqb k b)

without_it : (f : ℕ → Bool) (b : ℕ) → without f b b ≡ false
unfolding without
without_it f b = let hit : eqb b b ≡ true = eq-eqb b b refl in go (f b) (eqb b b) hit
  where
    go : (x y : Bool) → y ≡ true → (x && not y) ≡ false
    go true y is = ap not is
    go false y is = refl

without_other : (f : ℕ → Bool) (b k : ℕ) → k ≢ b → f k ≡ without f b k
unfolding without
without_other f b k apart = let miss : eqb k b ≡ false = ne_eqb k b apart in go (f k) (eqb k b) miss
  where
    go : (x y : Bool) → y ≡ false → x ≡ (x && not y)
    go true y is = sym (ap not is)
    go false y is = refl

less : (f : ℕ → Bool) (b n : ℕ) → b < n → f b ≡ true → tally f n ≡ tally (without f b) n + 1
less f b n lt has = tally-one f (without f b) b n lt has (without_it f b) (without_other f b)

-- ---- the numbers of a list

nothing : (n : ℕ) → tally (λ k. false) n ≡ 0
unfolding tally
nothing zero = refl
nothing (suc n) = let ih = nothing n in omega (arith, ih)

-- exactly the numbers of a list have it: as many as the list has
pub tally-list : (bs : List ℕ) (f : ℕ → Bool) (n : ℕ) → AreDifferent bs → ((b : ℕ) → Contains bs b
    → (b < n) × (f b ≡ true))
    → ((k : ℕ) → k < n → f k ≡ true → Contains bs k) → tally f n ≡ length bs
tally-list [] f n apart has only =
    let none = tally-same f (λ k. false) n (λ k lt. false_from_ne_true (f k) (λ is. no_member k (only k lt is))) in
    none ∙ nothing n
tally-list (b ∷ bs) f n apart has only =
    let (lt, is) = has b (member_here b bs b refl) in
    let ih = tally-list bs (without f b) n apart.1 inside outside in
    let one = less f b n lt is in
    omega (arith, ih, one)
  where
    differs : (k : ℕ) → Contains bs k → k ≢ b
    differs k h is = apart.0 (subst (Contains bs) is h)

    inside : (k : ℕ) → Contains bs k → (k < n) × (without f b k ≡ true)
    inside k h =
        let (lt, is) = has k (member_later b bs k h) in
        (lt, sym (without_other f b k (differs k h)) ∙ is)

    outside : (k : ℕ) → k < n → without f b k ≡ true → Contains bs k
    outside k lt is = elim (cases_eq k b) [
      | inl at ↦ absurd (cc (sym (without_it f b), subst (λ (j : ℕ). without f b j ≡ true) at is))
      | inr other ↦ ⊎_elim (λ at. absurd (other at)) (λ h. h) (member_cases b bs k (only k lt
          (without_other f b k other ∙ is)))
    ]

-- those of a list have f and not g, which is under it: g has at least as many fewer
pub tally-fewer : (bs : List ℕ) (f g : ℕ → Bool) (n : ℕ) → AreDifferent bs
    → ((b : ℕ) → Contains bs b → (b < n) × (f b ≡ true) × (g b ≡ false)) → ((k : ℕ) → g k ≡ true → f k ≡ true)
    → tally g n + length bs ≤ tally f n
tally-fewer [] f g n apart has under = let le = tally-le g f n under in omega (arith, le)
tally-fewer (b ∷ bs) f g n apart has under =
    let (lt, is, none) = has b (member_here b bs b refl) in
    let ih = tally-fewer bs (without f b) g n apart.1 inside (still none) in
    let one = less f b n lt is in
    omega (arith, ih, one)
  where
    inside : (k : ℕ) → Contains bs k → (k < n) × (without f b k ≡ true) × (g k ≡ false)
    inside k h =
        let (lt, is, none) = has k (member_later b bs k h) in
        (lt, sym (without_other f b k (λ at. apart.0 (subst (Contains bs) at h))) ∙ is, none)

    still : g b ≡ false → (k : ℕ) → g k ≡ true → without f b k ≡ true
    still none k is =
        sym (without_other f b k (λ at. absurd (cc (none, subst (λ (j : ℕ). g j ≡ true) at is)))) ∙ under k is

-- ---- four kinds, of which each number is one

pub tally-four : (f g h i : ℕ → Bool) (n : ℕ)
    → ((k : ℕ) → k < n → one_if (f k) + one_if (g k) + one_if (h k) + one_if (i k) ≡ 1)
    → tally f n + tally g n + tally h n + tally i n ≡ n
unfolding tally
tally-four f g h i zero one = refl
tally-four f g h i (suc n) one =
    let ih = tally-four f g h i n (λ k lt. one k (omega arith)) in
    let here = one n (omega arith) in
    omega (arith, ih, here)
