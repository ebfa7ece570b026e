-- Cells that name each other, by the numbers that they name.
use Rattle.std.proofs.Common.{◌≡◌, ◌⊎◌, inl, inr, ⊎_elim, ℕ, zero, suc, ◌+◌, ◌^◌, ◌≤◌, ◌<◌, Bool, true, false}
use Rattle.std.proofs.Common.{List, [], ◌∷◌, ◌++◌}
use Rattle.std.proofs.Common.{get_or, length, map, take, refl, sym, ap, ◌∙◌, subst, arith}
use Rattle.std.specs.Prelude.{◌↔◌, All, Contains, IsTrue, MatchBool, flat_map, if◌then◌else◌, nat_le}
use Rattle.std.specs.List.Sorted.{IsPermutation}
use Rattle.std.proofs.lemmas.Bool.{false≢true, le-leb, leb-true}
use Rattle.std.proofs.lemmas.List.Elements.{All-contains, All-contains_itself, All-filter, All-weaker}
use Rattle.std.proofs.lemmas.List.Elements.{Contains-append_cases, Contains-append_left, Contains-append_right}
use Rattle.std.proofs.lemmas.List.Elements.{filter_passes}
use Rattle.std.proofs.lemmas.List.Folds.{flat_map-map}
use Rattle.std.proofs.lemmas.List.Sorted.{Contains-permutation, IsPermutation-sym}
use Rattle.r4_base.proofs.Choices.{nothing_in}
use Rattle.r4_base.specs.Tree.{Name}
use Rattle.r4_cell.specs.Seen.{CellSeen, node_of}
use Rattle.r4_closed.specs.Closed.{AreClosed, MayBeNamed}
use Rattle.r4_closed.specs.Named.{CellStands, IsCalledFor, ids_named, new_ids, new_of}
use Rattle.r4_closed.proofs.Taken.{all_next, all_there, flat_all, flat_next}

-- ---- members of lists

first_or_later : {X : Type 0} (x y : X) (xs : List X) → Contains (x ∷ xs) y → (x ≡ y) ⊎ Contains xs y
first_or_later x y xs (zero, lt, is) = inl is
first_or_later x y xs (suc k, lt, is) = inr (k, omega arith, is)

later : {X : Type 0} (x y : X) (xs : List X) → Contains xs y → Contains (x ∷ xs) y
later x y xs (k, lt, is) = (suc k, omega arith, is)

pub mapped : {X Y : Type 0} (f : X → Y) (xs : List X) (y : Y) → Contains (map f xs) y
    → (x : X) × Contains xs x × (f x ≡ y)
mapped f [] y h = absurd (nothing_in y h)
mapped {X} {Y} f (x ∷ xs) y h = ⊎_elim
    (λ is. (x, (0, omega arith, refl), is))
    (λ rest. let (z, there, is) = mapped f xs y rest in (z, later x z xs there, is))
    (first_or_later (f x) y (map f xs) h)

pub map_has : {X Y : Type 0} (f : X → Y) (xs : List X) (x : X) → Contains xs x → Contains (map f xs) (f x)
map_has f [] x h = absurd (nothing_in x h)
map_has {X} {Y} f (x ∷ xs) y h = ⊎_elim
    (λ is. (0, omega arith, ap f is))
    (λ rest. later (f x) (f y) (map f xs) (map_has f xs y rest))
    (first_or_later x y xs h)

flat_from : {X : Type 0} (f : X → List ℕ) (xs : List X) (i : ℕ) → Contains (flat_map f xs) i
    → (x : X) × Contains xs x × Contains (f x) i
flat_from f [] i h = absurd (nothing_in i h)
flat_from {X} f (x ∷ xs) i h = ⊎_elim
    (λ here. (x, (0, omega arith, refl), here))
    (λ rest. let (z, there, is) = flat_from f xs i rest in (z, later x z xs there, is))
    (Contains-append_cases (f x) (flat_map f xs) i h)

flat_has : {X : Type 0} (f : X → List ℕ) (xs : List X) (x : X) (i : ℕ) → Contains xs x → Contains (f x) i
    → Contains (flat_map f xs) i
flat_has f [] x i h is = absurd (nothing_in x h)
flat_has {X} f (y ∷ xs) x i h is = ⊎_elim
    (λ same. Contains-append_left (f y) (flat_map f xs) i (subst (λ (z : X). Contains (f z) i) (sym same) is))
    (λ rest. Contains-append_right (f y) (flat_map f xs) i (flat_has f xs x i rest is))
    (first_or_later y x xs h)

-- ---- new numbers

new_from : (ids : List ℕ) (i : ℕ) → Contains (new_of ids) i → (2 ^ 63 ≤ i) × Contains ids i
new_from ids i h = (
  leb-true (2 ^ 63) i (All-contains (λ (k : ℕ). nat_le (2 ^ 63) k ≡ true) (new_of ids) i
      (filter_passes (λ k. nat_le (2 ^ 63) k) ids) h),
  All-contains (Contains ids) (new_of ids) i
      (All-filter (λ k. nat_le (2 ^ 63) k) (Contains ids) ids (All-contains_itself ids)) h,
)

new_has : (ids : List ℕ) (i : ℕ) → 2 ^ 63 ≤ i → Contains ids i → Contains (new_of ids) i
new_has [] i high h = absurd (nothing_in i h)
new_has (k ∷ ids) i high h = ⊎_elim
    (λ is. rw (subst (λ (n : ℕ). nat_le (2 ^ 63) n ≡ true) (sym is) (le-leb (2 ^ 63) i high)) (0, omega arith, is))
    (λ rest. go (nat_le (2 ^ 63) k) (new_has ids i high rest))
    (first_or_later k i ids h)
  where
    go : (t : Bool) → Contains (new_of ids) i → Contains (if t then k ∷ new_of ids else new_of ids) i
    go true rest = later k i (new_of ids) rest
    go false rest = rest

-- the new numbers that cells name are those that some of their names have
pub named_from : (cells : List CellSeen) (i : ℕ) → Contains (ids_named cells) i → (2 ^ 63 ≤ i)
    × ((x : CellSeen) × (n : Name) × Contains cells x × Contains (node_of x).names n × (n.id ≡ i))
named_from cells i h =
    let (x, in_cells, in_ids) = flat_from (λ (x : CellSeen). new_ids (node_of x).names) cells i h in
    let (high, in_names) = new_from (map (λ (n : Name). n.id) (node_of x).names) i in_ids in
    let (n, named, is) = mapped (λ (n : Name). n.id) (node_of x).names i in_names in
    (high, (x, n, in_cells, named, is))

pub named_has : (cells : List CellSeen) (x : CellSeen) (n : Name) → Contains cells x → Contains (node_of x).names n
    → 2 ^ 63 ≤ n.id → Contains (ids_named cells) n.id
named_has cells x n in_cells named high =
    flat_has (λ (x : CellSeen). new_ids (node_of x).names) cells x n.id in_cells
    (new_has (map (λ (n : Name). n.id) (node_of x).names) n.id high
    (map_has (λ (n : Name). n.id) (node_of x).names n named))

-- ---- what a loop over cells has

pub stand_next : {A : Type 0} (v : A → CellSeen) (xs : List A) (i : ℕ) (x : A) (c : CellSeen) → i < length xs
    → x ≡ get_or xs i x → c ≡ v x → All (λ (a : A). CellStands (v a)) (take i xs) → CellStands c
    → All (λ (a : A). CellStands (v a)) (take (i + 1) xs)
stand_next {A} v xs i x c lt is seen before here =
    all_next (λ (a : A). CellStands (v a)) xs i x lt is before (subst CellStands seen here)

pub named_next : {A : Type 0} (v : A → CellSeen) (xs : List A) (i : ℕ) (x : A) (c : CellSeen) (was has now : List ℕ)
    → i < length xs → x ≡ get_or xs i x → c ≡ v x
    → has ≡ was ++ flat_map (λ (a : A). new_ids (node_of (v a)).names) (take i xs)
    → now ≡ has ++ new_ids (node_of c).names
    → now ≡ was ++ flat_map (λ (a : A). new_ids (node_of (v a)).names) (take (i + 1) xs)
named_next {A} v xs i x c was has now lt is seen so adds =
    flat_next (λ (a : A). new_ids (node_of (v a)).names) xs i x was has now lt is so
    (adds ∙ ap (λ (y : CellSeen). has ++ new_ids (node_of y).names) seen)

pub all_stand : {A : Type 0} (v : A → CellSeen) (xs : List A) (i : ℕ) → length xs ≤ i
    → All (λ (a : A). CellStands (v a)) (take i xs) → MayBeNamed (map v xs)
all_stand {A} v xs i past all x in_cells =
    let (a, there, is) = mapped v xs x in_cells in
    subst CellStands is (All-contains (λ (a : A). CellStands (v a)) xs a
    (all_there (λ (a : A). CellStands (v a)) xs i past all) there)

pub all_named : {A : Type 0} (v : A → CellSeen) (xs : List A) (i : ℕ) (was now : List ℕ) → length xs ≤ i
    → now ≡ was ++ flat_map (λ (a : A). new_ids (node_of (v a)).names) (take i xs) → now ≡ was ++ ids_named (map v xs)
all_named {A} v xs i was now past so =
    flat_all (λ (a : A). new_ids (node_of (v a)).names) xs i was now past so
    ∙ ap (λ (l : List ℕ). was ++ l) (sym (flat_map-map (λ (x : CellSeen). new_ids (node_of x).names) v xs))

-- ---- cells that name each other, by their numbers and those that they name, in any order

module _ (root : ℕ) (cells : List CellSeen) (named ids : List ℕ) (same_named : IsPermutation (ids_named cells) named)
    (same_ids : IsPermutation (map (λ (x : CellSeen). x.id) cells) ids) where
  to_named : (i : ℕ) → Contains (ids_named cells) i → Contains named i
  to_named i h = Contains-permutation (ids_named cells) named i same_named h

  from_named : (i : ℕ) → Contains named i → Contains (ids_named cells) i
  from_named i h = Contains-permutation named (ids_named cells) i
      (IsPermutation-sym (ids_named cells) named same_named) h

  to_ids : (i : ℕ) → Contains (map (λ (x : CellSeen). x.id) cells) i → Contains ids i
  to_ids i h = Contains-permutation (map (λ (x : CellSeen). x.id) cells) ids i same_ids h

  from_ids : (i : ℕ) → Contains ids i → Contains (map (λ (x : CellSeen). x.id) cells) i
  from_ids i h = Contains-permutation ids (map (λ (x : CellSeen). x.id) cells) i
      (IsPermutation-sym (map (λ (x : CellSeen). x.id) cells) ids same_ids) h

  pub closed_by : MayBeNamed cells → All (Contains ids) named → All (IsCalledFor root named) ids → AreClosed root cells
  closed_by may among called = record {
    named = record {
      down = λ x n in_cells in_names high. from_ids n.id
          (All-contains (Contains ids) named n.id among (to_named n.id (named_has cells x n in_cells in_names high)));
      up = λ y in_cells high. ⊎_elim
          (λ is. inl is)
          (λ there. inr (named_from cells y.id (from_named y.id there)).1)
          (All-contains (IsCalledFor root named) ids y.id called
          (to_ids y.id (map_has (λ (x : CellSeen). x.id) cells y in_cells)) high);
    };
    may = may;
  }

  pub all_among : AreClosed root cells → All (Contains ids) named
  all_among closed = All-weaker (Contains named) (Contains ids)
      (λ i there.
      let (high, (x, n, in_cells, in_names, is)) = named_from cells i (from_named i there) in
      subst (Contains ids) is
      (to_ids n.id (closed.named.down x n in_cells in_names (subst (λ (k : ℕ). 2 ^ 63 ≤ k) (sym is) high))))
      named (All-contains_itself named)

  pub all_called_for : AreClosed root cells → All (IsCalledFor root named) ids
  all_called_for closed = All-weaker (Contains ids) (IsCalledFor root named)
      (λ i there high.
      let (y, in_cells, is) = mapped (λ (x : CellSeen). x.id) cells i (from_ids i there) in
      ⊎_elim
      (λ root_is. inl (sym is ∙ root_is))
      (λ (x, n, has_x, has_n, same). inr (subst (Contains named) (same ∙ is)
      (to_named n.id (named_has cells x n has_x has_n (subst (λ (k : ℕ). 2 ^ 63 ≤ k) (sym (same ∙ is)) high)))))
      (closed.named.up y in_cells (subst (λ (k : ℕ). 2 ^ 63 ≤ k) (sym is) high)))
      ids (All-contains_itself ids)

  -- the answer, where both tests are made
  pub answered : (b test : Bool) → b ≡ test → MayBeNamed cells → All (Contains ids) named
      → IsTrue test ↔ All (IsCalledFor root named) ids
      → MatchBool b (AreClosed root cells) (AreClosed root cells → ⊥)
  answered true test is may among h = closed_by may among (h.0 (sym is))
  answered false test is may among h = λ closed. absurd (false≢true (is ∙ h.1 (all_called_for closed)))

  -- and where the first one fails
  pub refused : (b test : Bool) → b ≡ test → test ≡ false → IsTrue test ↔ All (Contains ids) named
      → MatchBool b (AreClosed root cells) (AreClosed root cells → ⊥)
  refused true test is fails h = absurd (false≢true (sym (is ∙ fails)))
  refused false test is fails h = λ closed. absurd (false≢true (is ∙ h.1 (all_among closed)))
