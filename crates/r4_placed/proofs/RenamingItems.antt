-- A block whose items are renamed is the cell renamed.
use Rattle.std.proofs.Common.{◌≡◌, ◌≢◌, inl, inr, ℕ, zero, suc, ◌+◌, ◌*◌, ◌<◌, Bool, true, false, eqb, List, [], ◌∷◌}
use Rattle.std.proofs.Common.{◌++◌, map, Option, Some, None, refl, sym, ap, ◌∙◌, subst, arith}
use Rattle.std.specs.Prelude.{Contains, if◌then◌else◌}
use Rattle.std.specs.Option.{option_map}
use Rattle.std.proofs.lemmas.Bool.{eqb-true, ne_eqb}
use Rattle.std.proofs.lemmas.List.{map-append}
use Rattle.r4_base.proofs.Choices.{nothing_in}
use Rattle.r4_base.specs.Cell.{block_names, bytes_from, cell_of, hole_bytes, is_extent, is_pointer, item_names}
use Rattle.r4_base.specs.Cell.{item_units, names_in, next_key, pointer_names, run_names, spans_in, units_in}
use Rattle.r4_base.specs.Cell.{zeros_from}
use Rattle.r4_base.specs.Extents.{is_hole, pointer_of, units_of}
use Rattle.r4_base.specs.Key.{rank}
use Rattle.r4_base.specs.Node.{Item, items_of}
use Rattle.r4_base.specs.Tree.{Name, Node, Span}
use Rattle.r4_base.specs.Value.{Value}
use Rattle.r4_base.specs.declared.items.Unit.{Unit as ExtentUnit}
use Rattle.r4_base.specs.declared.key.Key.{Key}
use Rattle.r4_sealed.specs.r4_cell.Seen.{CellSeen, node_of}
use Rattle.r4_sealed.proofs.r4_wander.Members.{any_cases, any_here, any_later, in_map}
use Rattle.r4_sealed.specs.r4_sets.Renaming.{IsRenamed, renamed_name}
use Rattle.r4_placed.specs.RenamedItems.{AreItemsRenamed, AreUnitsRenamed, IsItemRenamed, IsUnitRenamed}

not_kind : (n i j : ℕ) → i ≢ j → eqb n i ≡ true → eqb n j ≡ false
not_kind n i j other is = subst (λ (k : ℕ). eqb k j ≡ false) (sym (eqb-true n i is)) (ne_eqb i j other)

from_names : (f : Name → Name) (xs : List Name) (y : Name) → Contains (map f xs) y → (x : Name) × Contains xs x
    × (y ≡ f x)
from_names f [] y one = absurd (nothing_in y one)
from_names f (x ∷ xs) y one = elim (any_cases (f x) (map f xs) y one) [
  | inl is ↦ (x, any_here x xs x refl, is)
  | inr later ↦ let (z, in_z, is) = from_names f xs y later in (z, any_later x xs z in_z, is)
]

module _ (f : ℕ → ℕ) where
  -- ---- runs and units

  run_renamed : (k a b w : ℕ) → ((j : ℕ) → j < w → b + j ≡ f (a + j))
      → run_names k b w ≡ map (renamed_name f) (run_names k a w)
  run_renamed k a b zero each = refl
  run_renamed k a b (suc w) each =
      let at_b : b ≡ b + 0 = omega arith in
      let at_a : a + 0 ≡ a = omega arith in
      let head : b ≡ f a = at_b ∙ each 0 (omega arith) ∙ ap f at_a in
      let tail = run_renamed (k + 4096) (a + 1) (b + 1) w (λ j lt.
      let next_b : b + 1 + j ≡ b + suc j = omega arith in
      let next_a : a + suc j ≡ a + 1 + j = omega arith in
      next_b ∙ each (suc j) (omega (arith, lt)) ∙ ap f next_a) in
      ap (λ (i : ℕ). record { id = i; level = 0; lo = k; hi = k + 4096 } ∷ run_names (k + 4096) (b + 1) w) head
      ∙ ap (λ (l : List Name). record { id = f a; level = 0; lo = k; hi = k + 4096 } ∷ l) tail

  unit_renamed : (k : ℕ) (u v : ExtentUnit) → IsUnitRenamed f u v
      → (if is_hole v then [] else run_names k v.start v.width) ≡ map (renamed_name f)
      (if is_hole u then [] else run_names k u.start u.width)
  unit_renamed k u v h = ap (λ (t : Bool). if t then [] else run_names k v.start v.width) h.hole ∙ go (is_hole u) refl
    where
      go : (t : Bool) → is_hole u ≡ t → (if t then [] else run_names k v.start v.width) ≡ map (renamed_name f)
          (if t then [] else run_names k u.start u.width)
      go true e = refl
      go false e = ap (run_names k v.start) h.width ∙ run_renamed k u.start v.start u.width (λ j lt. h.blocks j lt e)

  blocks_renamed : (k : ℕ) (us vs : List ExtentUnit) → AreUnitsRenamed f us vs
      → block_names k vs ≡ map (renamed_name f) (block_names k us)
  blocks_renamed k [] [] h = refl
  blocks_renamed k [] (v ∷ vs) h = absurd h
  blocks_renamed k (u ∷ us) [] h = absurd h
  blocks_renamed k (u ∷ us) (v ∷ vs) h =
      let width = h.0.width in
      ap (λ (l : List Name). l ++ block_names (k + 4096 * v.width) vs) (unit_renamed k u v h.0)
      ∙ ap (λ (w : ℕ). map (renamed_name f) (if is_hole u then [] else run_names k u.start u.width) ++ block_names
      (k + 4096 * w) vs) width
      ∙ ap (λ (l : List Name). map (renamed_name f) (if is_hole u then [] else run_names k u.start u.width) ++ l)
      (blocks_renamed (k + 4096 * u.width) us vs h.1)
      ∙ sym (map-append (renamed_name f) (if is_hole u then [] else run_names k u.start u.width)
      (block_names (k + 4096 * u.width) us))

  holes_stay : (k : ℕ) (us vs : List ExtentUnit) → AreUnitsRenamed f us vs → hole_bytes k vs ≡ hole_bytes k us
  holes_stay k [] [] h = refl
  holes_stay k [] (v ∷ vs) h = absurd h
  holes_stay k (u ∷ us) [] h = absurd h
  holes_stay k (u ∷ us) (v ∷ vs) h =
      let width = h.0.width in
      ap (λ (t : Bool). (if t then zeros_from k (4096 * v.width) else []) ++ hole_bytes (k + 4096 * v.width) vs)
      h.0.hole
      ∙ ap (λ (w : ℕ). (if is_hole u then zeros_from k (4096 * w) else []) ++ hole_bytes (k + 4096 * w) vs) width
      ∙ ap (λ (l : List (ℕ × Value)). (if is_hole u then zeros_from k (4096 * u.width) else []) ++ l)
      (holes_stay (k + 4096 * u.width) us vs h.1)

  -- ---- items

  pointer_renamed : (level k next : ℕ) (o : Option ℕ) → pointer_names level k next (option_map f o) ≡ map
      (renamed_name f) (pointer_names level k next o)
  pointer_renamed level k next None = refl
  pointer_renamed level k next (Some to) = refl

  pointer_has : (level next : ℕ) (it : Item) → is_pointer it ≡ true → item_names level next it ≡ pointer_names level
      (rank it.key) next (pointer_of it.body)
  unfolding item_names
  pointer_has level next it e = rw e refl

  extent_has : (level next : ℕ) (it : Item) → is_pointer it ≡ false → is_extent it ≡ true
      → item_names level next it ≡ block_names (rank it.key) (units_of it.body)
  unfolding item_names
  extent_has level next it e g = rw (e, g) refl

  pointer_units : (it : Item) → is_pointer it ≡ true → item_units it ≡ []
  unfolding item_units
  pointer_units it e = rw (
    not_kind it.plugin 3 0 (λ k. absurd cc) e,
    not_kind it.plugin 3 2 (λ k. absurd cc) e,
    e,
  ) refl

  extent_units : (it : Item) → is_extent it ≡ true → item_units it ≡ hole_bytes (rank it.key) (units_of it.body)
  unfolding item_units
  extent_units it e = rw (
    not_kind it.plugin 5 0 (λ k. absurd cc) e,
    not_kind it.plugin 5 2 (λ k. absurd cc) e,
    not_kind it.plugin 5 3 (λ k. absurd cc) e,
    e,
  ) refl

  same_item : (x y : Item) → y.key ≡ x.key → y.plugin ≡ x.plugin → y.body ≡ x.body → y ≡ x
  same_item x y k p b = λ i. record { key = k i; plugin = p i; body = b i }

  none_named : (level next : ℕ) (it : Item) → is_pointer it ≡ false → is_extent it ≡ false
      → item_names level next it ≡ []
  unfolding item_names
  none_named level next it e g = rw (e, g) refl

  item_renamed : (level next : ℕ) (x y : Item) → IsItemRenamed f x y
      → (item_names level next y ≡ map (renamed_name f) (item_names level next x)) × (item_units y ≡ item_units x)
  item_renamed level next x y h = go (is_pointer x) (is_extent x) refl refl
    where
      to_y : is_pointer y ≡ is_pointer x
      to_y = ap (λ (p : ℕ). eqb p 3) h.plugin

      ext_y : is_extent y ≡ is_extent x
      ext_y = ap (λ (p : ℕ). eqb p 5) h.plugin

      go : (to ext : Bool) → is_pointer x ≡ to → is_extent x ≡ ext
          → (item_names level next y ≡ map (renamed_name f) (item_names level next x)) × (item_units y ≡ item_units x)
      go true ext e g = (
        pointer_has level next y (to_y ∙ e) ∙ ap (λ (k : Key). pointer_names level (rank k) next (pointer_of y.body))
            h.key ∙ ap (pointer_names level (rank x.key) next) (h.pointer e)
            ∙ pointer_renamed level (rank x.key) next (pointer_of x.body)
            ∙ sym (ap (map (renamed_name f)) (pointer_has level next x e)),
        pointer_units y (to_y ∙ e) ∙ sym (pointer_units x e),
      )
      go false true e g = (
        extent_has level next y (to_y ∙ e) (ext_y ∙ g)
            ∙ ap (λ (k : Key). block_names (rank k) (units_of y.body)) h.key
            ∙ blocks_renamed (rank x.key) (units_of x.body) (units_of y.body) (h.extent g)
            ∙ sym (ap (map (renamed_name f)) (extent_has level next x e g)),
        extent_units y (ext_y ∙ g) ∙ ap (λ (k : Key). hole_bytes (rank k) (units_of y.body)) h.key
            ∙ holes_stay (rank x.key) (units_of x.body) (units_of y.body) (h.extent g) ∙ sym (extent_units x g),
      )
      go false false e g = (
        none_named level next y (to_y ∙ e) (ext_y ∙ g)
            ∙ sym (ap (map (renamed_name f)) (none_named level next x e g)),
        ap item_units (same_item x y h.key h.plugin (h.other e g)),
      )

  same_next : (hi : ℕ) (xs ys : List Item) → AreItemsRenamed f xs ys → next_key hi ys ≡ next_key hi xs
  same_next hi [] [] h = refl
  same_next hi [] (y ∷ ys) h = absurd h
  same_next hi (x ∷ xs) [] h = absurd h
  same_next hi (x ∷ xs) (y ∷ ys) h = ap rank h.0.key

  names_renamed : (level hi : ℕ) (xs ys : List Item) → AreItemsRenamed f xs ys
      → names_in level hi ys ≡ map (renamed_name f) (names_in level hi xs)
  unfolding names_in
  names_renamed level hi [] [] h = refl
  names_renamed level hi [] (y ∷ ys) h = absurd h
  names_renamed level hi (x ∷ xs) [] h = absurd h
  names_renamed level hi (x ∷ xs) (y ∷ ys) h =
      ap (λ (k : ℕ). item_names level k y ++ names_in level hi ys) (same_next hi xs ys h.1)
      ∙ ap (λ (l : List Name). l ++ names_in level hi ys) (item_renamed level (next_key hi xs) x y h.0).0
      ∙ ap (λ (l : List Name). map (renamed_name f) (item_names level (next_key hi xs) x) ++ l)
      (names_renamed level hi xs ys h.1)
      ∙ sym (map-append (renamed_name f) (item_names level (next_key hi xs) x) (names_in level hi xs))

  spans_stay : (hi : ℕ) (xs ys : List Item) → AreItemsRenamed f xs ys → spans_in hi ys ≡ spans_in hi xs
  unfolding spans_in
  spans_stay hi [] [] h = refl
  spans_stay hi [] (y ∷ ys) h = absurd h
  spans_stay hi (x ∷ xs) [] h = absurd h
  spans_stay hi (x ∷ xs) (y ∷ ys) h =
      ap (λ (p : ℕ). (if eqb p 5 then (record { lo = rank y.key; hi = next_key hi ys } ∷ []) else []) ++ spans_in hi
      ys) h.0.plugin
      ∙ ap (λ (k : Key). (if is_extent x then (record { lo = rank k; hi = next_key hi ys } ∷ []) else []) ++ spans_in
      hi ys) h.0.key
      ∙ ap (λ (n : ℕ). (if is_extent x then (record { lo = rank x.key; hi = n } ∷ []) else []) ++ spans_in hi ys)
      (same_next hi xs ys h.1)
      ∙ ap (λ (l : List Span). (if is_extent x then (record { lo = rank x.key; hi = next_key hi xs } ∷ []) else []) ++
      l) (spans_stay hi xs ys h.1)

  units_stay : (xs ys : List Item) → AreItemsRenamed f xs ys → units_in ys ≡ units_in xs
  unfolding units_in
  units_stay [] [] h = refl
  units_stay [] (y ∷ ys) h = absurd h
  units_stay (x ∷ xs) [] h = absurd h
  units_stay (x ∷ xs) (y ∷ ys) h = ap (λ (l : List (ℕ × Value)). l ++ units_in ys) (item_renamed 0 0 x y h.0).1
      ∙ ap (λ (l : List (ℕ × Value)). item_units x ++ l) (units_stay xs ys h.1)

  -- ---- a cell

  same_parts : (level lo hi : ℕ) (b e : List ℕ) (names : List Name) (spans others : List Span)
      (units more : List (ℕ × Value)) → others ≡ spans → more ≡ units
      → IsRenamed f (record {
        level = level;
        lo = lo;
        hi = hi;
        block = b;
        names = names;
        spans = spans;
        units =
            units;
      }) (record {
        level = level;
        lo = lo;
        hi = hi;
        block = e;
        names = map (renamed_name f) names;
        spans =
            others;
        units = more;
      })
  same_parts level lo hi b e names spans others units more s u = record {
    level = refl;
    lo = refl;
    hi = refl;
    names_to = λ n one. in_map (renamed_name f) names n one;
    names_from = λ n one. from_names (renamed_name f) names n one;
    spans = λ x. (
      λ one. subst (λ (l : List Span). Contains l x) (sym s) one,
      λ one. subst (λ (l : List Span). Contains l x) s one,
    );
    units = λ k v. (
      λ one. subst (λ (l : List (ℕ × Value)). Contains l (k, v)) (sym u) one,
      λ one. subst (λ (l : List (ℕ × Value)). Contains l (k, v)) u one,
    );
  }

  block_renamed : (level lo hi : ℕ) (b e : List ℕ) → (level ≡ 0 → e ≡ b)
      → (level ≢ 0 → AreItemsRenamed f (items_of b) (items_of e))
      → IsRenamed f (cell_of level lo hi b) (cell_of level lo hi e)
  unfolding cell_of
  block_renamed zero lo hi b e same items = same_parts 0 lo hi b e [] [] [] (bytes_from lo b) (bytes_from lo e) refl
      (ap (bytes_from lo) (same refl))
  block_renamed (suc l) lo hi b e same items =
      let it = items (λ no. absurd (omega (arith, no))) in
      subst (λ (names : List Name). IsRenamed f (record {
        level = suc l;
        lo = lo;
        hi = hi;
        block = b;
        names =
            names_in (suc l) hi (items_of b);
        spans = spans_in hi (items_of b);
        units = units_in (items_of b);
      })
      (record {
        level = suc l;
        lo = lo;
        hi = hi;
        block = e;
        names = names;
        spans = spans_in hi (items_of e);
        units =
            units_in (items_of e);
      }))
      (sym (names_renamed (suc l) hi (items_of b) (items_of e) it))
      (same_parts (suc l) lo hi b e (names_in (suc l) hi (items_of b)) (spans_in hi (items_of b))
      (spans_in hi (items_of e)) (units_in (items_of b)) (units_in (items_of e))
      (spans_stay hi (items_of b) (items_of e) it) (units_stay (items_of b) (items_of e) it))

pub cell_renamed : (f : ℕ → ℕ) (x y : CellSeen) → y.level ≡ x.level → y.lo ≡ x.lo → y.hi ≡ x.hi
    → (x.level ≡ 0 → y.block ≡ x.block) → (x.level ≢ 0 → AreItemsRenamed f (items_of x.block) (items_of y.block))
    → IsRenamed f (node_of x) (node_of y)
cell_renamed f x y level lo hi same items =
    subst (λ (d : Node Value). IsRenamed f (node_of x) d)
    (λ i. cell_of (sym level i) (rank (sym lo i)) (rank (sym hi i)) y.block)
    (block_renamed f x.level (rank x.lo) (rank x.hi) x.block y.block same items)
