-- Names of lists of cells, where no two have one name.
use Rattle.std.proofs.Common.{◌≢◌, ℕ, zero, suc, List, [], ◌∷◌, ◌++◌, inl, inr, refl, sym, subst, arith}
use Rattle.std.specs.Prelude.{AllPairs, Contains}
use Rattle.std.proofs.lemmas.List.Elements.{Contains-append_left, Contains-append_right}
use Rattle.r4_patch.specs.r4_cell.Patch.{HaveNames}
use Rattle.r4_patch.specs.r4_cell.Seen.{CellSeen}
use Rattle.r4_patch.specs.Joining.{ids_of}
use Rattle.r4_patch.proofs.Members.{Distinct, cases, none}
use Rattle.r4_path.proofs.Rising.{id_member}

-- ---- cells

pairs_head : {A : Type 0} (R : A → A → Type 0) (x : A) (xs : List A) → AllPairs R (x ∷ xs) → (y : A) → Contains xs y → R x y
pairs_head R x xs h y (k, l, e) = subst (R x) e (h zero (suc k) y (omega arith) (omega (arith, l)))

pairs_tail : {A : Type 0} (R : A → A → Type 0) (x : A) (xs : List A) → AllPairs R (x ∷ xs) → AllPairs R xs
pairs_tail R x xs h i j d a b = h (suc i) (suc j) d (omega (arith, a)) (omega (arith, b))

pub distinct : (cells : List CellSeen) → HaveNames cells → Distinct cells
distinct [] h = tt
distinct (c ∷ cells) h = (
  pairs_head (λ (x y : CellSeen). x.id ≢ y.id) c cells h,
  distinct cells (pairs_tail (λ (x y : CellSeen). x.id ≢ y.id) c cells h),
)

-- ---- numbers

-- no number stands twice
abbrev pub Once : List ℕ → Type 0
Once [] = Unit {0}
Once (i ∷ ids) = (Contains ids i → ⊥) × Once ids

pub once : (ids : List ℕ) → AllPairs (λ (i j : ℕ). i ≢ j) ids → Once ids
once [] h = tt
once (i ∷ ids) h = (λ at. pairs_head (λ (x y : ℕ). x ≢ y) i ids h i at refl, once ids (pairs_tail (λ (x y : ℕ). x ≢ y) i ids h))

pub once_left : (xs ys : List ℕ) → Once (xs ++ ys) → Once xs
once_left [] ys h = tt
once_left (x ∷ xs) ys (first, rest) = (λ at. first (Contains-append_left xs ys x at), once_left xs ys rest)

pub once_right : (xs ys : List ℕ) → Once (xs ++ ys) → Once ys
once_right [] ys h = h
once_right (x ∷ xs) ys (first, rest) = once_right xs ys rest

pub once_apart : (xs ys : List ℕ) (i : ℕ) → Once (xs ++ ys) → Contains xs i → Contains ys i → ⊥
once_apart [] ys i h in_xs in_ys = none i in_xs
once_apart (x ∷ xs) ys i (first, rest) in_xs in_ys = elim (cases x i xs in_xs) [
  | inl is ↦ first (subst (Contains (xs ++ ys)) is (Contains-append_right xs ys i in_ys))
  | inr more ↦ once_apart xs ys i rest more in_ys
]

pub once_distinct : (cells : List CellSeen) → Once (ids_of cells) → Distinct cells
once_distinct [] h = tt
once_distinct (c ∷ cells) (first, rest) = (
  λ y at same. first (subst (Contains (ids_of cells)) (sym same) (id_member cells y at)),
  once_distinct cells rest,
)
