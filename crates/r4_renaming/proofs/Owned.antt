-- The nodes that an atom owns once its cells have their new names.
use Rattle.std.proofs.Common.{◌≡◌, inl, inr, ⊎_elim, ℕ, ◌<◌, ◌≤◌, ◌^◌, ◌==◌, Bool, true, false, cond, List, [], ◌∷◌}
use Rattle.std.proofs.Common.{◌++◌, map, Option, Some, None, sym, ◌∙◌, ap, subst}
use Rattle.std.specs.Prelude.{Contains, ◌↔◌, filter, nat_eq, nat_le}
use Rattle.std.specs.List.{IsDistinct}
use Rattle.std.proofs.lemmas.Bool.{cases_Bool, cases_eq, cases_lt, cond-false, cond-true, eq-eqb, le-leb, leb-false, lt-leb}
use Rattle.std.proofs.lemmas.Bool.{ne_eqb, not-true, not_from_false}
use Rattle.std.proofs.lemmas.List.{map-append}
use Rattle.std.proofs.lemmas.List.Elements.{All-contains, All-contains_itself, All-filter, Contains-append_cases}
use Rattle.std.proofs.lemmas.List.Elements.{Contains-append_left, Contains-append_right, filter_passes}
use Rattle.r4_atoms.specs.Atoms.{AtomsSeen, numbers, owner_of, without_owner}
use Rattle.r4_base.proofs.Choices.{nothing_in}
use Rattle.r4_base.specs.declared.things.NodeId.{NodeId}
use Rattle.r4_buffer.specs.Changed.{has_name}
use Rattle.r4_flush.specs.Prepared.{cells_of}
use Rattle.r4_flush.specs.declared.cells.RenamedCell.{RenamedCell}
use Rattle.r4_renaming.specs.Renaming.{owner_then}
use Rattle.r4_renaming.specs.Steps.{IsFreeNode, is_placed, new_nodes}
use Rattle.r4_renaming.proofs.Lists.{any_cases, any_here, any_later, from_map, in_map}
use Rattle.r4_renaming.proofs.Owning.{first_owner, is_first_owner}
use Rattle.r4_renaming.proofs.Prefix.{is_named, new_name, old_name, one_named}

-- ---- what is kept of a list

module _ {X : Type 0} (p : X → Bool) where
  from_filter : (xs : List X) (x : X) → Contains (filter p xs) x → Contains xs x × (p x ≡ true)
  from_filter xs x has = (
    All-contains (Contains xs) (filter p xs) x (All-filter p (Contains xs) xs (All-contains_itself xs)) has,
    All-contains (λ (y : X). p y ≡ true) (filter p xs) x (filter_passes p xs) has,
  )

  in_filter : (xs : List X) (x : X) → Contains xs x → p x ≡ true → Contains (filter p xs) x
  in_filter [] x has passes = absurd (nothing_in x has)
  in_filter (y ∷ ys) x has passes = elim (cases_Bool (p y)) [
    | inl hit ↦
        subst (λ (l : List X). Contains l x) (sym (cond-true (p y) (y ∷ filter p ys) (filter p ys) hit))
        (⊎_elim (λ is. any_here y (filter p ys) x is) (λ later. any_later y (filter p ys) x (in_filter ys x later passes))
        (any_cases y ys x has))
    | inr miss ↦
        subst (λ (l : List X). Contains l x) (sym (cond-false (p y) (y ∷ filter p ys) (filter p ys) miss))
        (⊎_elim (λ is. absurd (cc (sym miss ∙ ap p (sym is) ∙ passes))) (λ later. in_filter ys x later passes)
        (any_cases y ys x has))
  ]

-- ---- whose a node is then

module _ (a : ℕ) (rs : List RenamedCell) (i : ℕ) (was : Option ℕ) where
  owner_named : has_name (cells_of rs) i ≡ true → owner_then a rs i was ≡ Some a
  owner_named hit =
      cond-true (has_name (cells_of rs) i) (Some a) (cond (nat_le (2 ^ 63) i) (without_owner a was) was) hit

  owner_low : has_name (cells_of rs) i ≡ false → i < 2 ^ 63 → owner_then a rs i was ≡ was
  owner_low miss low =
      cond-false (has_name (cells_of rs) i) (Some a) (cond (nat_le (2 ^ 63) i) (without_owner a was) was) miss
      ∙ cond-false (nat_le (2 ^ 63) i) (without_owner a was) was (lt-leb (2 ^ 63) i low)

  owner_high : has_name (cells_of rs) i ≡ false → 2 ^ 63 ≤ i → owner_then a rs i was ≡ without_owner a was
  owner_high miss high =
      cond-false (has_name (cells_of rs) i) (Some a) (cond (nat_le (2 ^ 63) i) (without_owner a was) was) miss
      ∙ cond-true (nat_le (2 ^ 63) i) (without_owner a was) was (le-leb (2 ^ 63) i high)

not_mine : (a : ℕ) (o : Option ℕ) → without_owner a o ≡ Some a → ⊥
not_mine a None is = absurd (cc is)
not_mine a (Some b) is = elim (cases_eq b a) [
  | inl same ↦ absurd (cc (sym (cond-true (b == a) None (Some b) (eq-eqb b a same)) ∙ is))
  | inr other ↦
      (let at : Some b ≡ Some a = sym (cond-false (b == a) None (Some b) (ne_eqb b a other)) ∙ is in
      other (cc at))
]

-- what an atom's cells are before they get their new names
abbrev pub AreMovable : (a : ℕ) → AtomsSeen → List RenamedCell → List NodeId → Type 0
AreMovable a s rs owned = ((r : RenamedCell) × Contains rs r)
    × (IsDistinct nat_eq (map old_name rs)
    × (((r : RenamedCell) → Contains rs r → owner_of s (old_name r) ≡ Some a)
    × (((r : RenamedCell) → Contains rs r → IsFreeNode s r)
    × ((i : ℕ) → Contains (numbers owned) i ↔ (owner_of s i ≡ Some a)))))

pub movable_by_first : (a : ℕ) (s : AtomsSeen) (rs qs : List RenamedCell) (owned list : List NodeId) → qs ≡ rs
    → list ≡ owned → AreMovable a s rs owned → AreMovable (first_owner s qs) s qs list
movable_by_first a s rs qs owned list same_cells same_nodes h =
    subst (λ (l : List NodeId). AreMovable (first_owner s qs) s qs l) (sym same_nodes)
    (subst (λ (l : List RenamedCell). AreMovable (first_owner s l) s l owned) (sym same_cells)
    (subst (λ (n : ℕ). AreMovable n s rs owned) (sym (is_first_owner a rs s h.0 h.1.1.0)) h))

pub owners_by_first : (a : ℕ) (s t : AtomsSeen) (rs qs : List RenamedCell) (owned : List NodeId) → qs ≡ rs
    → AreMovable a s rs owned
    → ((i : ℕ) → owner_of t i ≡ owner_then (first_owner s qs) qs i (owner_of s i)) → (i : ℕ)
    → owner_of t i ≡ owner_then a rs i (owner_of s i)
owners_by_first a s t rs qs owned same h owners i =
    owners i ∙ ap (λ (l : List RenamedCell). owner_then (first_owner s l) l i (owner_of s i)) same
    ∙ ap (λ (n : ℕ). owner_then n rs i (owner_of s i)) (is_first_owner a rs s h.0 h.1.1.0)

module _ (a : ℕ) (rs : List RenamedCell) (s t : AtomsSeen) (owned : List NodeId) (h : AreMovable a s rs owned)
    (owners : (i : ℕ) → owner_of t i ≡ owner_then a rs i (owner_of s i)) where
  abbrev number : NodeId → ℕ
  number n = n.0

  abbrev new_node : RenamedCell → NodeId
  new_node r = record { 0 = new_name r }

  abbrev had_number : RenamedCell → Bool
  had_number r = nat_le (2 ^ 63) r.was.0

  abbrev old_nodes : List NodeId
  old_nodes = filter is_placed owned

  abbrev all : List NodeId
  all = old_nodes ++ new_nodes rs

  parts : numbers all ≡ numbers old_nodes ++ numbers (new_nodes rs)
  parts = map-append number old_nodes (new_nodes rs)

  -- ---- what is in the list is the atom's

  named_is : (i : ℕ) → has_name (cells_of rs) i ≡ true → owner_of t i ≡ Some a
  named_is i hit = owners i ∙ owner_named a rs i (owner_of s i) hit

  old_is : (i : ℕ) → Contains (numbers old_nodes) i → owner_of t i ≡ Some a
  old_is i has =
      let (n, there, is) = from_map number old_nodes i has in
      let (in_owned, passes) = from_filter is_placed owned n there in
      let mine : owner_of s n.0 ≡ Some a = (h.1.1.1.1 n.0).0 (in_map number owned n in_owned) in
      let low : n.0 < 2 ^ 63 = leb-false (2 ^ 63) n.0 (not-true (nat_le (2 ^ 63) n.0) passes) in
      subst (λ (j : ℕ). owner_of t j ≡ Some a) (sym is)
      (⊎_elim
      (λ hit. named_is n.0 hit)
      (λ miss. owners n.0 ∙ owner_low a rs n.0 (owner_of s n.0) miss low ∙ mine)
      (cases_Bool (has_name (cells_of rs) n.0)))

  new_is : (i : ℕ) → Contains (numbers (new_nodes rs)) i → owner_of t i ≡ Some a
  new_is i has =
      let (n, there, is) = from_map number (new_nodes rs) i has in
      let (r, in_some, made) = from_map new_node (filter had_number rs) n there in
      let (in_rs, passes) = from_filter had_number rs r in_some in
      let at : i ≡ new_name r = is ∙ ap number made in
      subst (λ (j : ℕ). owner_of t j ≡ Some a) (sym at) (named_is (new_name r) (is_named rs r in_rs))

  listed_is : (i : ℕ) → Contains (numbers all) i → owner_of t i ≡ Some a
  listed_is i has =
      ⊎_elim (old_is i) (new_is i)
      (Contains-append_cases (numbers old_nodes) (numbers (new_nodes rs)) i
      (subst (λ (l : List ℕ). Contains l i) parts has))

  -- ---- and the other way round

  old_in : (i : ℕ) → i < 2 ^ 63 → owner_of s i ≡ Some a → Contains (numbers all) i
  old_in i low mine =
      let (n, there, is) = from_map number owned i ((h.1.1.1.1 i).1 mine) in
      let no : nat_le (2 ^ 63) n.0 ≡ false = ap (nat_le (2 ^ 63)) (sym is) ∙ lt-leb (2 ^ 63) i low in
      subst (λ (l : List ℕ). Contains l i) (sym parts)
      (Contains-append_left (numbers old_nodes) (numbers (new_nodes rs)) i
      (subst (Contains (numbers old_nodes)) (sym is)
      (in_map number old_nodes n (in_filter is_placed owned n there (not_from_false (nat_le (2 ^ 63) n.0) no)))))

  named_in : (r : RenamedCell) → Contains rs r → Contains (numbers all) (new_name r)
  named_in r has = ⊎_elim
      (λ (same, low).
      subst (Contains (numbers all)) same (old_in (old_name r) low (h.1.1.0 r has)))
      (λ (high, low, none).
      subst (λ (l : List ℕ). Contains l (new_name r)) (sym parts)
      (Contains-append_right (numbers old_nodes) (numbers (new_nodes rs)) (new_name r)
      (in_map number (new_nodes rs) (new_node r)
      (in_map new_node (filter had_number rs) r
      (in_filter had_number rs r has (le-leb (2 ^ 63) (old_name r) high))))))
      (h.1.1.1.0 r has)

  is_listed : (i : ℕ) → owner_of t i ≡ Some a → Contains (numbers all) i
  is_listed i is = elim (cases_Bool (has_name (cells_of rs) i)) [
    | inl hit ↦
        (let (r, has, at) = one_named rs i hit in subst (Contains (numbers all)) at (named_in r has))
    | inr miss ↦ elim (cases_lt i (2 ^ 63)) [
      | inl low ↦ old_in i low (sym (owner_low a rs i (owner_of s i) miss low) ∙ sym (owners i) ∙ is)
      | inr high ↦
          absurd (not_mine a (owner_of s i) (sym (owner_high a rs i (owner_of s i) miss high) ∙ sym (owners i) ∙ is))
    ]
  ]

  pub nodes_are : (nodes : List NodeId) → nodes ≡ filter is_placed owned ++ new_nodes rs → (i : ℕ)
      → Contains (numbers nodes) i ↔ (owner_of t i ≡ Some a)
  nodes_are nodes same i = (
    λ has. listed_is i (subst (λ (l : List NodeId). Contains (numbers l) i) same has),
    λ is. subst (λ (l : List NodeId). Contains (numbers l) i) (sym same) (is_listed i is),
  )
