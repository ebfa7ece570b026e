-- Lists with the same members, each once.
use Rattle.std.proofs.Common.{◌≡◌, ◌≢◌, inl, inr, ⊎_elim, ℕ, ◌+◌, ◌≤◌, ◌==◌, Bool, true, false, cond, List, [], ◌∷◌}
use Rattle.std.proofs.Common.{map}
use Rattle.std.proofs.Common.{length, refl, sym, ◌∙◌, ap, subst, arith}
use Rattle.std.specs.Prelude.{Contains, count_by, nat_eq}
use Rattle.std.specs.List.{AllByRecursion, IsDistinct}
use Rattle.std.proofs.lemmas.Bool.{cases_Bool, cond-false, cond-true, eq-eqb, eqb-true}
use Rattle.std.proofs.lemmas.List.Sums.{sum_by-cons}
use Rattle.std.proofs.lemmas.Map.Keys.{IsDistinct-head, IsDistinct-tail}
use Rattle.r4_base.specs.Image.{AreDifferent}
use Rattle.r4_base.proofs.Choices.{nothing_in}
use Rattle.r4_base.proofs.Members.{member_cases, member_here, member_later, no_member}
use Rattle.r4_renaming.proofs.r4_wander.Members.{any_cases, any_here, any_later, in_map}

-- ---- different numbers

not_among : (x y : ℕ) (xs : List ℕ) → AllByRecursion (λ (z : ℕ). nat_eq x z ≡ false) xs → Contains xs y → x ≢ y
not_among x y [] none has = absurd (no_member y has)
not_among x y (z ∷ zs) none has =
    ⊎_elim (λ is same. absurd (cc (sym (eq-eqb x z (same ∙ is)) ∙ none.0))) (λ later. not_among x y zs none.1 later)
    (member_cases z zs y has)

pub different_from : (xs : List ℕ) → IsDistinct nat_eq xs → AreDifferent xs
different_from [] once = tt
different_from (x ∷ xs) once = (
  λ has. not_among x x xs (IsDistinct-head nat_eq x xs once) has refl,
  different_from xs (IsDistinct-tail nat_eq x xs once),
)

-- ---- without one of them

abbrev without : ℕ → List ℕ → List ℕ
without x [] = []
without x (y ∷ ys) = cond (y == x) (without x ys) (y ∷ without x ys)

stays : (x y : ℕ) (ys : List ℕ) → Contains ys y → y ≢ x → Contains (without x ys) y
stays x y [] has other = absurd (no_member y has)
stays x y (z ∷ zs) has other = elim (cases_Bool (z == x)) [
  | inl is ↦
      subst (λ (l : List ℕ). Contains l y) (sym (cond-true (z == x) (without x zs) (z ∷ without x zs) is))
      (⊎_elim (λ here. absurd (other (here ∙ eqb-true z x is))) (λ later. stays x y zs later other)
      (member_cases z zs y has))
  | inr not ↦
      subst (λ (l : List ℕ). Contains l y) (sym (cond-false (z == x) (without x zs) (z ∷ without x zs) not))
      (⊎_elim (λ here. member_here z (without x zs) y here)
      (λ later. member_later z (without x zs) y (stays x y zs later other)) (member_cases z zs y has))
]

abbrev one : (p : ℕ → Bool) → ℕ → ℕ
one p x = cond (p x) 1 0

counted : (p : ℕ → Bool) (x : ℕ) (xs : List ℕ) → count_by p (x ∷ xs) ≡ one p x + count_by p xs
counted p x xs = sum_by-cons (one p) x xs

no_more : (p : ℕ → Bool) (x : ℕ) (ys : List ℕ) → count_by p (without x ys) ≤ count_by p ys
no_more p x [] = omega arith
no_more p x (y ∷ ys) =
    let rest = no_more p x ys in
    let all = counted p y ys in
    elim (cases_Bool (y == x)) [
      | inl is ↦
          let same = ap (count_by p) (cond-true (y == x) (without x ys) (y ∷ without x ys) is) in
          omega (arith, rest, all, same)
      | inr not ↦
          let same = ap (count_by p) (cond-false (y == x) (without x ys) (y ∷ without x ys) not) in
          let here = counted p y (without x ys) in
          omega (arith, rest, all, same, here)
    ]

one_less : (p : ℕ → Bool) (x : ℕ) (ys : List ℕ) → Contains ys x → count_by p (without x ys) + one p x ≤ count_by p ys
one_less p x [] has = absurd (no_member x has)
one_less p x (y ∷ ys) has =
    let all = counted p y ys in
    elim (cases_Bool (y == x)) [
      | inl is ↦
          let same = ap (count_by p) (cond-true (y == x) (without x ys) (y ∷ without x ys) is) in
          let rest = no_more p x ys in
          let at = ap (one p) (eqb-true y x is) in
          omega (arith, rest, all, same, at)
      | inr not ↦
          let same = ap (count_by p) (cond-false (y == x) (without x ys) (y ∷ without x ys) not) in
          let here = counted p y (without x ys) in
          let later : Contains ys x = ⊎_elim (λ is. absurd (cc (sym (eq-eqb y x (sym is)) ∙ not))) (λ h. h)
          (member_cases y ys x has) in
          let rest = one_less p x ys later in
          omega (arith, rest, all, same, here)
    ]

-- ---- counts

pub count_fewer : (p : ℕ → Bool) (xs ys : List ℕ) → AreDifferent xs → ((i : ℕ) → Contains xs i → Contains ys i)
    → count_by p xs ≤ count_by p ys
count_fewer p [] ys once within = omega arith
count_fewer p (x ∷ xs) ys once within =
    let rest =
    count_fewer p xs (without x ys) once.1
    (λ i has. stays x i ys (within i (member_later x xs i has))
    (λ is. once.0 (subst (Contains xs) is has))) in
    let less = one_less p x ys (within x (member_here x xs x refl)) in
    let all = counted p x xs in
    omega (arith, rest, less, all)

pub count_same : (p : ℕ → Bool) (xs ys : List ℕ) → AreDifferent xs → AreDifferent ys
    → ((i : ℕ) → Contains xs i → Contains ys i) → ((i : ℕ) → Contains ys i → Contains xs i)
    → count_by p xs ≡ count_by p ys
count_same p xs ys once also to from =
    let le = count_fewer p xs ys once to in
    let ge = count_fewer p ys xs also from in
    omega (arith, le, ge)

all_pass : (xs : List ℕ) → count_by (λ (i : ℕ). true) xs ≡ length xs
all_pass [] = refl
all_pass (x ∷ xs) =
    let rest = all_pass xs in
    let all = counted (λ (i : ℕ). true) x xs in
    omega (arith, rest, all)

pub length_same : (xs ys : List ℕ) → AreDifferent xs → AreDifferent ys → ((i : ℕ) → Contains xs i → Contains ys i)
    → ((i : ℕ) → Contains ys i → Contains xs i) → length xs ≡ length ys
length_same xs ys once also to from =
    sym (all_pass xs) ∙ count_same (λ (i : ℕ). true) xs ys once also to from ∙ all_pass ys

-- ---- members by their numbers

-- where the numbers of two members are the same, so are the members
pub one_of : {X : Type 0} (g : X → ℕ) (xs : List X) → AreDifferent (map g xs) → (x y : X) → Contains xs x
    → Contains xs y → g x ≡ g y → x ≡ y
one_of g [] once x y in_x in_y same = absurd (nothing_in x in_x)
one_of {X} g (z ∷ zs) once x y in_x in_y same =
    ⊎_elim
    (λ x_here. ⊎_elim
    (λ y_here. x_here ∙ sym y_here)
    (λ y_later. absurd (once.0 (subst (Contains (map g zs)) (sym same ∙ ap g x_here) (in_map g zs y y_later))))
    (any_cases z zs y in_y))
    (λ x_later. ⊎_elim
    (λ y_here. absurd (once.0 (subst (Contains (map g zs)) (same ∙ ap g y_here) (in_map g zs x x_later))))
    (λ y_later. one_of g zs once.1 x y x_later y_later same)
    (any_cases z zs y in_y))
    (any_cases z zs x in_x)

pub from_mapped : {X Y : Type 0} (g : X → Y) (xs : List X) (y : Y) → Contains (map g xs) y
    → (x : X) × Contains xs x × (y ≡ g x)
from_mapped g [] y has = absurd (nothing_in y has)
from_mapped g (x ∷ xs) y has = ⊎_elim
    (λ is. (x, any_here x xs x refl, is))
    (λ later. let (z, there, is) = from_mapped g xs y later in (z, any_later x xs z there, is))
    (any_cases (g x) (map g xs) y has)
