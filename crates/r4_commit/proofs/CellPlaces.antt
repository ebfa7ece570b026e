-- Which cells get which blocks, one more at a time.
use Rattle.std.proofs.Common.{◌≡◌, inl, inr, ℕ, ◌+◌, ◌<◌, ◌==◌, Bool, true, false, cond, List, [], ◌∷◌, ◌++◌, length, take, map, get_or, Option, Some, None, not, refl, sym, ap, ◌∙◌, append_assoc, arith}
use Rattle.std.specs.Ordering.{nat_cmp}
use Rattle.std.specs.Option.{option_or, is_some}
use Rattle.std.specs.BTreeMap.{BTreeMap, get, is_at, Updates}
use Rattle.std.proofs.lemmas.Bool.{cases_eq, cases_lt}
use Rattle.std.proofs.lemmas.Bool.Decides.{nat_tests}
use Rattle.std.proofs.lemmas.List.{map-append, take_more}
use Rattle.r4_base.specs.declared.things.BlockNo.{BlockNo}
use Rattle.r4_place.specs.r4_cell.Seen.{CellSeen}
use Rattle.r4_place.specs.declared.placed.Placed.{Placed}
use Rattle.r4_wander.specs.Seen.{Placed as PlacedCell}
use Rattle.r4_commit.specs.Places.{block_given, place_of, placed_at, kept_at, placed_cells, overwritten}

-- ---- an answer more

-- what one answer gives to a name
abbrev given : Placed → ℕ → Option BlockNo
given p name = cond (p.node.0 == name) (block_given p.how) None

or_assoc : (a b c : Option BlockNo) → option_or (option_or a b) c ≡ option_or a (option_or b c)
or_assoc None b c = refl
or_assoc (Some x) b c = refl

or_none : (a : Option BlockNo) → option_or a None ≡ a
or_none None = refl
or_none (Some x) = refl

place-append : (ps : List Placed) (p : Placed) (name : ℕ) → place_of (ps ++ p ∷ []) name ≡ option_or (given p name) (place_of ps name)
place-append [] p name = sym (or_none (given p name))
place-append (q ∷ qs) p name = ap (λ (o : Option BlockNo). option_or o (given q name)) (place-append qs p name) ∙ or_assoc (given p name) (place_of qs name) (given q name)

place_more : (ps : List Placed) (i : ℕ) (d : Placed) (name : ℕ) → i < length ps → place_of (take (i + 1) ps) name ≡ option_or (given (get_or ps i d) name) (place_of (take i ps) name)
place_more ps i d name lt = ap (λ (l : List Placed). place_of l name) (take_more ps i d lt) ∙ place-append (take i ps) (get_or ps i d) name

at_is : (k b : ℕ) → is_at (nat_cmp k) b ≡ (k == b)
at_is k b = elim (cases_eq b k) [
  | inl is ↦ grind (arith, nat_tests)
  | inr other ↦ elim (cases_lt k b) [ inl lt ↦ grind (arith, nat_tests) | inr ge ↦ grind (arith, nat_tests) ]
]

some_or : (t : Bool) (v : BlockNo) (o : Option BlockNo) → cond t (Some v) o ≡ option_or (cond t (Some v) None) o
some_or true v o = refl
some_or false v o = refl

none_or : (t : Bool) (o : Option BlockNo) → option_or (cond t None None) o ≡ o
none_or true o = refl
none_or false o = refl

module _ (ps : List Placed) (i : ℕ) (d : Placed) (lt : i < length ps) where
  -- a block is given
  pub places_given : (now new after : BTreeMap ℕ BlockNo) (o : Option BlockNo) (v : BlockNo) → o ≡ block_given (get_or ps i d).how → o ≡ Some v → after ≡ new → ((name : ℕ) → get nat_cmp now name ≡ place_of (take i ps) name)
      → Updates nat_cmp now new (get_or ps i d).node.0 (Some v) → (name : ℕ) → get nat_cmp after name ≡ place_of (take (i + 1) ps) name
  places_given now new after o v how is same so_far u name =
      let p : Placed = get_or ps i d in
      ap (λ (m : BTreeMap ℕ BlockNo). get nat_cmp m name) same ∙ u.0 name ∙ ap (λ (t : Bool). cond t (Some v) (get nat_cmp now name)) (at_is p.node.0 name) ∙ some_or (p.node.0 == name) v (get nat_cmp now name)
      ∙ ap (λ (q : Option BlockNo). option_or (cond (p.node.0 == name) (Some v) None) q) (so_far name)
      ∙ ap (λ (q : Option BlockNo). option_or (cond (p.node.0 == name) q None) (place_of (take i ps) name)) (sym is ∙ how) ∙ sym (place_more ps i d name lt)

  -- none is given
  pub places_kept : (now new : BTreeMap ℕ BlockNo) (o : Option BlockNo) → o ≡ block_given (get_or ps i d).how → o ≡ None → new ≡ now → ((name : ℕ) → get nat_cmp now name ≡ place_of (take i ps) name)
      → (name : ℕ) → get nat_cmp new name ≡ place_of (take (i + 1) ps) name
  places_kept now new o how is same so_far name =
      let p : Placed = get_or ps i d in
      ap (λ (m : BTreeMap ℕ BlockNo). get nat_cmp m name) same ∙ so_far name ∙ sym (none_or (p.node.0 == name) (place_of (take i ps) name))
      ∙ ap (λ (q : Option BlockNo). option_or (cond (p.node.0 == name) q None) (place_of (take i ps) name)) (sym is ∙ how) ∙ sym (place_more ps i d name lt)

-- ---- a cell more

module _ (place : ℕ → Option BlockNo) where
  placed-append : (cs : List CellSeen) (c : CellSeen) → placed_cells place (cs ++ c ∷ []) ≡ placed_cells place cs ++ placed_at c (place c.id)
  placed-append [] c = none_behind (placed_at c (place c.id))
    where
      none_behind : (xs : List PlacedCell) → xs ++ [] ≡ xs
      none_behind [] = refl
      none_behind (x ∷ xs) = ap (λ (l : List PlacedCell). x ∷ l) (none_behind xs)
  placed-append (d ∷ ds) c = ap (λ (l : List PlacedCell). placed_at d (place d.id) ++ l) (placed-append ds c) ∙ sym (append_assoc (placed_at d (place d.id)) (placed_cells place ds) (placed_at c (place c.id)))

  kept-append : (cs : List CellSeen) (c : CellSeen) → overwritten place (cs ++ c ∷ []) ≡ overwritten place cs ++ kept_at c (place c.id)
  kept-append [] c = none_behind (kept_at c (place c.id))
    where
      none_behind : (xs : List CellSeen) → xs ++ [] ≡ xs
      none_behind [] = refl
      none_behind (x ∷ xs) = ap (λ (l : List CellSeen). x ∷ l) (none_behind xs)
  kept-append (d ∷ ds) c = ap (λ (l : List CellSeen). kept_at d (place d.id) ++ l) (kept-append ds c) ∙ sym (append_assoc (kept_at d (place d.id)) (overwritten place ds) (kept_at c (place c.id)))

  module _ {X : Type 0} (f : X → CellSeen) (cells : List X) (i : ℕ) (x : X) (c : CellSeen) (lt : i < length cells) (item : x ≡ get_or cells i x) (cell : c ≡ f x) where
    one_more : map f (take (i + 1) cells) ≡ map f (take i cells) ++ c ∷ []
    one_more = ap (map f) (take_more cells i x lt ∙ ap (λ (y : X). take i cells ++ y ∷ []) (sym item)) ∙ map-append f (take i cells) (x ∷ []) ∙ ap (λ (d : CellSeen). map f (take i cells) ++ d ∷ []) (sym cell)

    placed_next : placed_cells place (map f (take (i + 1) cells)) ≡ placed_cells place (map f (take i cells)) ++ placed_at c (place c.id)
    placed_next = ap (placed_cells place) one_more ∙ placed-append (map f (take i cells)) c

    kept_next : overwritten place (map f (take (i + 1) cells)) ≡ overwritten place (map f (take i cells)) ++ kept_at c (place c.id)
    kept_next = ap (overwritten place) one_more ∙ kept-append (map f (take i cells)) c

    pub placed_more : (now new : List PlacedCell) (b : BlockNo) → place c.id ≡ Some b → now ≡ placed_cells place (map f (take i cells)) → new ≡ now ++ record { at = b.0; cell = c } ∷ [] → new ≡ placed_cells place (map f (take (i + 1) cells))
    placed_more now new b is so_far more = more ∙ ap (λ (l : List PlacedCell). l ++ record { at = b.0; cell = c } ∷ []) so_far ∙ ap (λ (o : Option BlockNo). placed_cells place (map f (take i cells)) ++ placed_at c o) (sym is) ∙ sym placed_next

    pub placed_none : (now : List PlacedCell) → place c.id ≡ None → now ≡ placed_cells place (map f (take i cells)) → now ≡ placed_cells place (map f (take (i + 1) cells))
    placed_none now is so_far = so_far ∙ sym (none_behind (placed_cells place (map f (take i cells)))) ∙ ap (λ (o : Option BlockNo). placed_cells place (map f (take i cells)) ++ placed_at c o) (sym is) ∙ sym placed_next
      where
        none_behind : (xs : List PlacedCell) → xs ++ [] ≡ xs
        none_behind [] = refl
        none_behind (y ∷ ys) = ap (λ (l : List PlacedCell). y ∷ l) (none_behind ys)

    pub kept_more : place c.id ≡ None → overwritten place (map f (take (i + 1) cells)) ≡ overwritten place (map f (take i cells)) ++ c ∷ []
    kept_more is = kept_next ∙ ap (λ (o : Option BlockNo). overwritten place (map f (take i cells)) ++ kept_at c o) is

    pub kept_none : (b : BlockNo) → place c.id ≡ Some b → overwritten place (map f (take (i + 1) cells)) ≡ overwritten place (map f (take i cells))
    kept_none b is = kept_next ∙ ap (λ (o : Option BlockNo). overwritten place (map f (take i cells)) ++ kept_at c o) is ∙ none_behind (overwritten place (map f (take i cells)))
      where
        none_behind : (xs : List CellSeen) → xs ++ [] ≡ xs
        none_behind [] = refl
        none_behind (y ∷ ys) = ap (λ (l : List CellSeen). y ∷ l) (none_behind ys)

-- ---- whether there is a block

pub none_is : (o : Option BlockNo) (t : Bool) → is_some o ≡ not t → t ≡ true → o ≡ None
none_is None t e is = refl
none_is (Some b) t e is = absurd (cc (e ∙ ap not is))

pub some_is : (o : Option BlockNo) → is_some o ≡ true → (b : BlockNo) × (o ≡ Some b)
some_is None e = absurd cc
some_is (Some b) e = (b, refl)
