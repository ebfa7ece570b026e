-- Members of lists, and cells by their names.
use Rattle.std.proofs.Common.{◌≡◌, ◌≢◌, ◌⊎◌, inl, inr, ℕ, zero, suc, ◌<◌, Bool, true, false, List, [], ◌∷◌, ◌++◌, length, refl}
use Rattle.std.proofs.Common.{sym, subst, ◌∙◌, arith}
use Rattle.std.specs.Prelude.{AllPairs, Contains, Option, None, Some, ◌==◌, if◌then◌else◌}
use Rattle.std.proofs.lemmas.Bool.{cases_eq, eq-eqb, ne_eqb}
use Rattle.std.proofs.lemmas.List.Kept.{AllPairs-cons}
use Rattle.std.proofs.lemmas.Option.{none-some, same_Some}
use Rattle.std.specs.List.{slice_index_or}
use Rattle.r4_base.specs.Tree.{Node}
use Rattle.r4_base.specs.Value.{Value}
use Rattle.r4_cell.specs.Patch.{HaveNames, by_name}
use Rattle.r4_cell.specs.Seen.{CellSeen, node_of}

module _ {A : Type 0} where
  pub here : (x : A) (xs : List A) → Contains (x ∷ xs) x
  here x xs = (zero, omega arith, refl)

  pub later : (y x : A) (xs : List A) → Contains xs x → Contains (y ∷ xs) x
  later y x xs (k, l, e) = (suc k, omega (arith, l), e)

  pub cases : (y x : A) (xs : List A) → Contains (y ∷ xs) x → (x ≡ y) ⊎ Contains xs x
  cases y x xs (zero, l, e) = inl (sym e)
  cases y x xs (suc k, l, e) = inr (k, omega (arith, l), e)

  pub none : (x : A) → Contains [] x → ⊥
  none x (k, l, e) = absurd (omega (arith, l))

-- ---- cells by their names

pick : (b : Bool) (v : Node Value) (rest : Option (Node Value)) → b ≡ true → (if b then Some v else rest) ≡ Some v
pick true v rest e = refl
pick false v rest e = absurd cc

skip : (b : Bool) (v : Node Value) (rest : Option (Node Value)) → b ≡ false → (if b then Some v else rest) ≡ rest
skip true v rest e = absurd cc
skip false v rest e = refl

pub here_named : (x : CellSeen) (xs : List CellSeen) (i : ℕ) → x.id ≡ i → by_name (x ∷ xs) i ≡ Some (node_of x)
here_named x xs i e = pick (x.id == i) (node_of x) (by_name xs i) (eq-eqb x.id i e)

pub later_named : (x : CellSeen) (xs : List CellSeen) (i : ℕ) → x.id ≢ i → by_name (x ∷ xs) i ≡ by_name xs i
later_named x xs i e = skip (x.id == i) (node_of x) (by_name xs i) (ne_eqb x.id i e)

-- a cell that is found by a name
abbrev pub Found : List CellSeen → ℕ → Node Value → Type 0
Found cells i c = (x : CellSeen) × Contains cells x × (x.id ≡ i) × (c ≡ node_of x)

pub found : (cells : List CellSeen) (i : ℕ) (c : Node Value) → by_name cells i ≡ Some c → Found cells i c
found [] i c e = absurd (none-some c e)
found (y ∷ ys) i c e = elim (cases_eq y.id i) [
  | inl is ↦ (y, here y ys, is, same_Some c (node_of y) (sym e ∙ here_named y ys i is))
  | inr other ↦ let (x, at, is, says) = found ys i c (sym (later_named y ys i other) ∙ e) in (x, later y x ys at, is, says)
]

-- no two cells of the list have one name
abbrev pub Distinct : List CellSeen → Type 0
Distinct [] = Unit {0}
Distinct (x ∷ xs) = ((y : CellSeen) → Contains xs y → x.id ≢ y.id) × Distinct xs

at_index : (xs : List CellSeen) (k : ℕ) (d : CellSeen) → k < length xs → Contains xs (slice_index_or xs k d)
at_index [] k d l = absurd (omega (arith, l))
at_index (x ∷ xs) zero d l = here x xs
at_index (x ∷ xs) (suc k) d l = later x (slice_index_or xs k d) xs (at_index xs k d (omega (arith, l)))

pub have_names : (cells : List CellSeen) → Distinct cells → HaveNames cells
have_names [] h = λ i j d less l. absurd (omega (arith, l))
have_names (x ∷ xs) (first, rest) = AllPairs-cons (λ (c d : CellSeen). c.id ≢ d.id) x xs
    (λ k d l. first (slice_index_or xs k d) (at_index xs k d l)) (have_names xs rest)

pub there : (cells : List CellSeen) (x : CellSeen) → Distinct cells → Contains cells x → by_name cells x.id ≡ Some (node_of x)
there [] x h at = absurd (none x at)
there (y ∷ ys) x (first, rest) at = elim (cases y x ys at) [
  | inl is ↦ subst (λ (z : CellSeen). by_name (y ∷ ys) z.id ≡ Some (node_of z)) (sym is) (here_named y ys y.id refl)
  | inr more ↦ later_named y ys x.id (first x more) ∙ there ys x rest more
]

pub absent : (cells : List CellSeen) (i : ℕ) → ((x : CellSeen) → Contains cells x → x.id ≢ i) → by_name cells i ≡ None
absent [] i h = refl
absent (y ∷ ys) i h = later_named y ys i (h y (here y ys)) ∙ absent ys i (λ x at. h x (later y x ys at))

pub distinct_append : (xs ys : List CellSeen) → Distinct xs → Distinct ys
    → ((x y : CellSeen) → Contains xs x → Contains ys y → x.id ≢ y.id) → Distinct (xs ++ ys)
distinct_append [] ys dx dy apart = dy
distinct_append (x ∷ xs) ys (first, rest) dy apart = (
  λ y at. elim (append_cases xs ys y at) [
    | inl among ↦ first y among
    | inr beyond ↦ apart x y (here x xs) beyond
  ],
  distinct_append xs ys rest dy (λ z y a b. apart z y (later x z xs a) b),
)
  where
    append_cases : (us vs : List CellSeen) (y : CellSeen) → Contains (us ++ vs) y → Contains us y ⊎ Contains vs y
    append_cases [] vs y at = inr at
    append_cases (u ∷ us) vs y at = elim (cases u y (us ++ vs) at) [
      | inl is ↦ inl (subst (λ (z : CellSeen). Contains (u ∷ us) z) (sym is) (here u us))
      | inr more ↦ elim (append_cases us vs y more) [ inl a ↦ inl (later u y us a) | inr b ↦ inr b ]
    ]

pairs_head : {A : Type 0} (R : A → A → Type 0) (x : A) (xs : List A) → AllPairs R (x ∷ xs)
    → (y : A) → Contains xs y → R x y
pairs_head R x xs h y (k, l, e) = subst (R x) e (h zero (suc k) y (omega arith) (omega (arith, l)))

pairs_tail : {A : Type 0} (R : A → A → Type 0) (x : A) (xs : List A) → AllPairs R (x ∷ xs)
    → AllPairs R xs
pairs_tail R x xs h i j d a b = h (suc i) (suc j) d (omega (arith, a)) (omega (arith, b))

pub distinct : (cells : List CellSeen) → HaveNames cells → Distinct cells
distinct [] h = tt
distinct (c ∷ cells) h = (
  pairs_head (λ (x y : CellSeen). x.id ≢ y.id) c cells h,
  distinct cells (pairs_tail (λ (x y : CellSeen). x.id ≢ y.id) c cells h),
)
