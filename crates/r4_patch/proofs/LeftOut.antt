-- Cells that are left out by their numbers.
use Rattle.std.proofs.Common.{◌≡◌, ℕ, ◌+◌, ◌<◌, ◌++◌, List, [], ◌∷◌, map, take, get_or, length, refl, ap, sym, subst, ◌∙◌, ◌⊎◌, inl, inr}
use Rattle.std.proofs.Common.{IsPermutation}
use Rattle.std.specs.Prelude.{◌==◌, ◌||◌, Bool, true, false, Contains, not, if◌then◌else◌}
use Rattle.std.proofs.lemmas.Bool.{eq-eqb, eqb-true}
use Rattle.std.proofs.lemmas.List.{append_assoc, map_more}
use Rattle.std.proofs.lemmas.List.Elements.{filter-append}
use Rattle.std.proofs.lemmas.List.Sorted.{list_any-IsPermutation}
use Rattle.r4_cell.specs.Seen.{CellSeen}
use Rattle.r4_patch.specs.Following.{is_among, without}
use Rattle.r4_patch.proofs.Members.{cases, here, later, none}

pick : (b : Bool) (c : CellSeen) → b ≡ true → (if not b then c ∷ [] else []) ≡ []
pick true c h = refl
pick false c h = absurd cc

keep : (b : Bool) (c : CellSeen) → b ≡ false → (if not b then c ∷ [] else []) ≡ c ∷ []
keep true c h = absurd cc
keep false c h = refl

first_or : (a b : Bool) → a ≡ true → a || b ≡ true
first_or true b h = refl
first_or false b h = absurd cc

second_or : (a b : Bool) → b ≡ true → a || b ≡ true
second_or true b h = refl
second_or false b h = h

pub among_contained : (ids : List ℕ) (i : ℕ) → Contains ids i → is_among ids i ≡ true
among_contained [] i at = absurd (none i at)
among_contained (j ∷ js) i at = elim (cases j i js at) [
  | inl is ↦ first_or (j == i) (is_among js i) (eq-eqb j i (sym is))
  | inr more ↦ second_or (j == i) (is_among js i) (among_contained js i more)
]

or_cases : (a b : Bool) → a || b ≡ true → (a ≡ true) ⊎ (b ≡ true)
or_cases true b h = inl refl
or_cases false b h = inr h

pub contained_among : (ids : List ℕ) (i : ℕ) → is_among ids i ≡ true → Contains ids i
contained_among [] i h = absurd cc
contained_among (j ∷ js) i h = elim (or_cases (j == i) (is_among js i) h) [
  | inl is ↦ subst (Contains (j ∷ js)) (eqb-true j i is) (here j js)
  | inr more ↦ later j i js (contained_among js i more)
]

false_or_true : (b : Bool) → (b ≡ true) ⊎ (b ≡ false)
false_or_true true = inl refl
false_or_true false = inr refl

pub left_out : (ids : List ℕ) (c : CellSeen) → Contains ids c.id → without ids (c ∷ []) ≡ []
left_out ids c at = pick (is_among ids c.id) c (among_contained ids c.id at)

pub kept_alone : (ids : List ℕ) (c : CellSeen) → (Contains ids c.id → ⊥) → without ids (c ∷ []) ≡ c ∷ []
kept_alone ids c out = elim (false_or_true (is_among ids c.id)) [
  | inl h ↦ absurd (out (contained_among ids c.id h))
  | inr h ↦ keep (is_among ids c.id) c h
]

-- one cell more
pub without_more : {A : Type 0} (f : A → CellSeen) (ids : List ℕ) (xs : List A) (i : ℕ) (d : A) → i < length xs
    → without ids (map f (take (i + 1) xs)) ≡ without ids (map f (take i xs)) ++ without ids (f (get_or xs i d) ∷ [])
without_more f ids xs i d l =
    ap (without ids) (map_more f xs i d l)
    ∙ filter-append (λ c. not (is_among ids c.id)) (map f (take i xs)) (f (get_or xs i d) ∷ [])

pub more_shared : {A : Type 0} (f : A → CellSeen) (ids : List ℕ) (first before now : List CellSeen) (xs : List A) (i : ℕ) (d : A) → i < length xs
    → before ≡ first ++ without ids (map f (take i xs)) → d ≡ get_or xs i d
    → now ≡ before ++ without ids (f d ∷ []) → now ≡ first ++ without ids (map f (take (i + 1) xs))
more_shared f ids first before now xs i d l was at is =
    is ∙ (ap (λ x. before ++ without ids (f x ∷ [])) at) ∙ (ap (λ (cs : List CellSeen). cs ++ without ids (f (get_or xs i d) ∷ [])) was
    ∙ (append_assoc first (without ids (map f (take i xs))) (without ids (f (get_or xs i d) ∷ []))
    ∙ ap (λ (cs : List CellSeen). first ++ cs) (sym (without_more f ids xs i d l))))

-- the order of the numbers says nothing
module _ (ids others : List ℕ) (moved : IsPermutation ids others) where
  same_test : (i : ℕ) → is_among ids i ≡ is_among others i
  same_test i = list_any-IsPermutation (λ j. j == i) ids others moved

  pub without_moved : (cells : List CellSeen) → without ids cells ≡ without others cells
  without_moved [] = refl
  without_moved (c ∷ cells) =
      ap (λ b. if not b then c ∷ without ids cells else without ids cells) (same_test c.id)
      ∙ ap (λ rest. if not (is_among others c.id) then c ∷ rest else rest) (without_moved cells)
