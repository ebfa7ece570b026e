-- A block whose items are named anew may stand in memory where it stood.
use Rattle.std.proofs.Common.{◌≡◌, ◌≢◌, inl, inr, ⊎_elim, ℕ, zero, suc, ◌+◌, ◌*◌, ◌%◌, ◌^◌, ◌<◌, ◌≤◌, Bool, true, false}
use Rattle.std.proofs.Common.{eqb, List, [], ◌∷◌, length, map, Option, Some, None, refl, sym, ap, ◌∙◌, subst}
use Rattle.std.proofs.Common.{arith}
use Rattle.std.specs.Prelude.{◌==◌, nat_le, if◌then◌else◌}
use Rattle.std.specs.Option.{option_map}
use Rattle.std.proofs.lemmas.Bool.{eqb-true, eq-eqb, ne_eqb, cases_eq}
use Rattle.std.proofs.lemmas.Bool.Decides.{nat_tests}
use Rattle.r4_base.specs.Bitmap.{is_fixed}
use Rattle.r4_base.specs.Cell.{cell_fault, is_extent, is_pointer, item_body_fault, item_end, items_in_fault}
use Rattle.r4_base.specs.Cell.{names_block, next_key, offsets_fit, range_is_good}
use Rattle.r4_base.specs.Extents.{AreLawfulUnits, IsLawfulUnit, blocks_in, body_fault, holds_fixed, pointer_of}
use Rattle.r4_base.specs.Extents.{units_of}
use Rattle.r4_base.specs.Key.{offset_of, rank}
use Rattle.r4_base.specs.Node.{Item, items_of, level_of, node_fault}
use Rattle.r4_base.specs.declared.key.Key.{Key}
use Rattle.r4_base.specs.declared.items.CellFault.TheVariants.{Extent, Level, Node, Pointer, Range}
use Rattle.r4_base.specs.declared.items.Unit.{Unit as ExtentUnit}
use Rattle.r4_base.proofs.Choices.{none_under, or_none}
use Rattle.r4_twig.proofs.Faults.{body_lawful, body_none}
use Rattle.r4_flush.specs.Anew.{AreItemsAnew, BecomeBlocks, IsBlockAnew, IsItemAnew, unit_anew}

module _ (f : ℕ → ℕ) (blocks_are : BecomeBlocks f) where
  -- ---- units

  pub high_fixed : (i : ℕ) → is_fixed (2 ^ 64) i ≡ false → 22 ≤ i
  high_fixed i h = grind (arith, nat_tests)

  one_free : (i : ℕ) → is_fixed (2 ^ 64) i ≡ false → holds_fixed (2 ^ 64) i 1 ≡ false
  unfolding holds_fixed
  one_free i h = rw h refl

  anew_lawful : (u : ExtentUnit) → IsLawfulUnit true (2 ^ 64) u → IsLawfulUnit true (2 ^ 64) (unit_anew f u)
  anew_lawful u lawful = elim (cases_eq u.width 1) [
    | inl one ↦
        subst (λ (t : Bool). IsLawfulUnit true (2 ^ 64) (if t then record u { start = f u.start } else u))
        (sym (eq-eqb u.width 1 one)) (⊎_elim
        (λ stays. subst (λ (k : ℕ). IsLawfulUnit true (2 ^ 64) (record u { start = k })) (sym stays) lawful)
        (λ (high, low, free). inr (inr (record {
          start = high_fixed (f u.start) free;
          width = omega (arith, one);
          within = omega (arith, one, low);
          spares_fixed = ap (holds_fixed (2 ^ 64) (f u.start)) one ∙ one_free (f u.start) free;
        })))
        (blocks_are u.start))
    | inr wide ↦
        subst (λ (t : Bool). IsLawfulUnit true (2 ^ 64) (if t then record u { start = f u.start } else u))
        (sym (ne_eqb u.width 1 wide)) lawful
  ]

  units_lawful : (us : List ExtentUnit) → AreLawfulUnits true (2 ^ 64) us
      → AreLawfulUnits true (2 ^ 64) (map (unit_anew f) us)
  units_lawful [] h = tt
  units_lawful (u ∷ us) h = (anew_lawful u h.0, units_lawful us h.1)

  same_width : (u : ExtentUnit) (t : Bool) → (if t then record u { start = f u.start } else u).width ≡ u.width
  same_width u true = refl
  same_width u false = refl

  same_blocks : (us : List ExtentUnit) → blocks_in (map (unit_anew f) us) ≡ blocks_in us
  same_blocks [] = refl
  same_blocks (u ∷ us) = ap (λ (n : ℕ). n + blocks_in (map (unit_anew f) us)) (same_width u (eqb u.width 1))
      ∙ ap (λ (n : ℕ). u.width + n) (same_blocks us)

  extent_stands : (b c : List ℕ) → length c ≡ length b → units_of c ≡ map (unit_anew f) (units_of b)
      → body_fault true (2 ^ 64) b ≡ None → body_fault true (2 ^ 64) c ≡ None
  extent_stands b c long units none =
      let h = body_lawful true (2 ^ 64) b none in
      body_none true (2 ^ 64) c (
        subst (λ (n : ℕ). 0 < n) (sym long) h.0,
        ap (λ (n : ℕ). n % 16) long ∙ h.1,
        subst (AreLawfulUnits true (2 ^ 64)) (sym units) (units_lawful (units_of b) h.2),
      )

  -- ---- pointers

  pointer_stands : (o : Option ℕ) → names_block true (2 ^ 64) o ≡ true
      → names_block true (2 ^ 64) (option_map f o) ≡ true
  pointer_stands None h = h
  pointer_stands (Some to) h = ⊎_elim
      (λ stays. subst (λ (k : ℕ). names_block true (2 ^ 64) (Some k) ≡ true) (sym stays) h)
      (λ (high, low, free). block (f to) low free)
      (blocks_are to)
    where
      block : (i : ℕ) → i < 2 ^ 64 → is_fixed (2 ^ 64) i ≡ false → names_block true (2 ^ 64) (Some i) ≡ true
      block i low free = rw free (grind (arith, nat_tests, low))

  -- ---- items

  same_item : (x y : Item) → y.key ≡ x.key → y.plugin ≡ x.plugin → y.body ≡ x.body → y ≡ x
  same_item x y k p b = λ i. record { key = k i; plugin = p i; body = b i }

  pub not_kind : (n i j : ℕ) → i ≢ j → eqb n i ≡ true → eqb n j ≡ false
  not_kind n i j other is = subst (λ (k : ℕ). eqb k j ≡ false) (sym (eqb-true n i is)) (ne_eqb i j other)

  pointer_fault : (it : Item) → is_pointer it ≡ true → item_body_fault true (2 ^ 64) it
      ≡ (if names_block true (2 ^ 64) (pointer_of it.body) then None else Some Pointer)
  unfolding item_body_fault
  pointer_fault it e = rw (
    not_kind it.plugin 3 0 (λ k. absurd cc) e,
    not_kind it.plugin 3 2 (λ k. absurd cc) e,
    e,
  ) refl

  pub extent_fault_on : (blocks : ℕ) (it : Item) → is_extent it ≡ true → item_body_fault true blocks it
      ≡ option_map Extent (body_fault true blocks it.body)
  unfolding item_body_fault
  extent_fault_on blocks it e = rw (
    not_kind it.plugin 5 0 (λ k. absurd cc) e,
    not_kind it.plugin 5 2 (λ k. absurd cc) e,
    not_kind it.plugin 5 3 (λ k. absurd cc) e,
    e,
  ) refl

  extent_fault : (it : Item) → is_extent it ≡ true → item_body_fault true (2 ^ 64) it
      ≡ option_map Extent (body_fault true (2 ^ 64) it.body)
  extent_fault = extent_fault_on (2 ^ 64)

  pointer_end : (it : Item) → is_pointer it ≡ true → item_end it ≡ rank it.key + 1
  unfolding item_end
  pointer_end it e = rw (not_kind it.plugin 3 0 (λ k. absurd cc) e, e) refl

  extent_end : (it : Item) → is_extent it ≡ true → item_end it ≡ rank it.key + 4096 * blocks_in (units_of it.body)
  unfolding item_end
  extent_end it e = rw (
    not_kind it.plugin 5 0 (λ k. absurd cc) e,
    not_kind it.plugin 5 2 (λ k. absurd cc) e,
    not_kind it.plugin 5 3 (λ k. absurd cc) e,
    e,
  ) refl

  pointer_fits : (it : Item) → is_pointer it ≡ true → offsets_fit it ≡ true
  pointer_fits it e = rw (not_kind it.plugin 3 0 (λ k. absurd cc) e, e) refl

  extent_fits : (it : Item) → is_extent it ≡ true → offsets_fit it
      ≡ nat_le (offset_of it.key + 4096 * blocks_in (units_of it.body)) (2 ^ 64)
  extent_fits it e = rw (
    not_kind it.plugin 5 0 (λ k. absurd cc) e,
    not_kind it.plugin 5 2 (λ k. absurd cc) e,
    not_kind it.plugin 5 3 (λ k. absurd cc) e,
    e,
  ) refl

  none_or_pointer : (t : Bool) → (if t then None else Some Pointer) ≡ None → t ≡ true
  none_or_pointer true h = refl
  none_or_pointer false h = absurd cc

  -- what stands of an item
  record StandsAs (x y : Item) : Type 0 where
    body : item_body_fault true (2 ^ 64) x ≡ None → item_body_fault true (2 ^ 64) y ≡ None
    end : item_end y ≡ item_end x
    fits : offsets_fit y ≡ offsets_fit x

  item_stands : (x y : Item) → IsItemAnew f x y → StandsAs x y
  item_stands x y h = go (is_pointer x) (is_extent x) refl refl
    where
      to_y : is_pointer y ≡ is_pointer x
      to_y = ap (λ (p : ℕ). eqb p 3) h.plugin

      ext_y : is_extent y ≡ is_extent x
      ext_y = ap (λ (p : ℕ). eqb p 5) h.plugin

      go : (to ext : Bool) → is_pointer x ≡ to → is_extent x ≡ ext → StandsAs x y
      go true ext e g = record {
        body = λ none.
            let named = none_or_pointer _ (sym (pointer_fault x e) ∙ none) in
            pointer_fault y (to_y ∙ e)
            ∙ ap (λ (o : Option ℕ). if names_block true (2 ^ 64) o then None else Some Pointer) (h.pointer e)
            ∙ ap (λ (t : Bool). if t then None else Some Pointer) (pointer_stands (pointer_of x.body) named);
        end = pointer_end y (to_y ∙ e) ∙ ap (λ (k : Key). rank k + 1) h.key ∙ sym (pointer_end x e);
        fits = pointer_fits y (to_y ∙ e) ∙ sym (pointer_fits x e);
      }
      go false true e g =
          let blocks : blocks_in (units_of y.body) ≡ blocks_in (units_of x.body) =
          ap blocks_in (h.extent g) ∙ same_blocks (units_of x.body) in
          record {
            body = λ none. extent_fault y (ext_y ∙ g) ∙ ap (option_map Extent)
                (extent_stands x.body y.body h.long (h.extent g)
                (none_under Extent (body_fault true (2 ^ 64) x.body) (sym (extent_fault x g) ∙ none)));
            end = extent_end y (ext_y ∙ g) ∙ ap (λ (k : Key). rank k + 4096 * blocks_in (units_of y.body)) h.key
                ∙ ap (λ (n : ℕ). rank x.key + 4096 * n) blocks ∙ sym (extent_end x g);
            fits = extent_fits y (ext_y ∙ g)
                ∙ ap (λ (k : Key). nat_le (offset_of k + 4096 * blocks_in (units_of y.body)) (2 ^ 64)) h.key
                ∙ ap (λ (n : ℕ). nat_le (offset_of x.key + 4096 * n) (2 ^ 64)) blocks ∙ sym (extent_fits x g);
          }
      go false false e g =
          let same = same_item x y h.key h.plugin (h.other e g) in
          record {
            body = λ none. ap (item_body_fault true (2 ^ 64)) same ∙ none;
            end = ap item_end same;
            fits = ap offsets_fit same;
          }

  range_stands : (level lo hi next i : ℕ) (x y : Item) → y.key ≡ x.key → StandsAs x y
      → range_is_good level lo hi next i y ≡ range_is_good level lo hi next i x
  range_stands level lo hi next i x y key s =
      let rank_is : rank y.key ≡ rank x.key = ap rank key in
      rw (rank_is, s.end, s.fits) refl

  same_next : (hi : ℕ) (xs ys : List Item) → AreItemsAnew f xs ys → next_key hi ys ≡ next_key hi xs
  same_next hi [] [] h = refl
  same_next hi [] (y ∷ ys) h = absurd h
  same_next hi (x ∷ xs) [] h = absurd h
  same_next hi (x ∷ xs) (y ∷ ys) h = ap rank h.0.key

  items_stand : (level lo hi i : ℕ) (xs ys : List Item) → AreItemsAnew f xs ys
      → items_in_fault true (2 ^ 64) level lo hi i xs ≡ None → items_in_fault true (2 ^ 64) level lo hi i ys ≡ None
  unfolding items_in_fault
  items_stand level lo hi i [] [] h none = refl
  items_stand level lo hi i [] (y ∷ ys) h none = absurd h
  items_stand level lo hi i (x ∷ xs) [] h none = absurd h
  items_stand level lo hi i (x ∷ xs) (y ∷ ys) h none =
      let first = or_none (item_body_fault true (2 ^ 64) x) _ none in
      let rest = or_none (if range_is_good level lo hi (next_key hi xs) i x then None else Some (Range i)) _ first.1 in
      let s = item_stands x y h.0 in
      let range : (if range_is_good level lo hi (next_key hi ys) i y then None else Some (Range i)) ≡ None =
      ap (λ (t : Bool). if t then None else Some (Range i))
      (ap (λ (n : ℕ). range_is_good level lo hi n i y) (same_next hi xs ys h.1)
      ∙ range_stands level lo hi (next_key hi xs) i x y h.0.key s) ∙ rest.0 in
      rw (s.body first.0, range) (items_stand level lo hi (i + 1) xs ys h.1 rest.1)

  -- ---- a block

  pub block_stands : (level lo hi : ℕ) (b c : List ℕ) → (level ≡ 0 → c ≡ b) → (level ≢ 0 → IsBlockAnew f b c)
      → (level ≢ 0 → node_fault b ≡ None → node_fault c ≡ None)
      → cell_fault true (2 ^ 64) level lo hi b ≡ None → cell_fault true (2 ^ 64) level lo hi c ≡ None
  unfolding cell_fault
  block_stands zero lo hi b c same anew node none = refl
  block_stands (suc l) lo hi b c same anew node none =
      let some : suc l ≢ 0 = λ e. absurd (omega (arith, e)) in
      let first = or_none (option_map Node (node_fault b)) _ none in
      let next = or_none (if level_of b == suc l then None else Some Level) _ first.1 in
      let a = anew some in
      let node_c : option_map Node (node_fault c) ≡ None =
      ap (option_map Node) (node some (none_under Node (node_fault b) first.0)) in
      let level_c : (if level_of c == suc l then None else Some Level) ≡ None =
      ap (λ (k : ℕ). if k == suc l then None else Some Level) a.head.level ∙ next.0 in
      rw (node_c, level_c) (items_stand (suc l) lo hi 0 (items_of b) (items_of c) a.items next.1)

-- a node that may stand is accepted
pub node_sound : (level lo hi : ℕ) (b : List ℕ) → level ≢ 0 → cell_fault true (2 ^ 64) level lo hi b ≡ None
    → node_fault b ≡ None
unfolding cell_fault
node_sound zero lo hi b some none = absurd (some refl)
node_sound (suc l) lo hi b some none =
    none_under Node (node_fault b) (or_none (option_map Node (node_fault b)) _ none).0

-- a data block stands as it is
pub data_stands : (level lo hi : ℕ) (b : List ℕ) → level ≡ 0 → cell_fault true (2 ^ 64) level lo hi b ≡ None
unfolding cell_fault
data_stands level lo hi b is = subst (λ (l : ℕ). cell_fault true (2 ^ 64) l lo hi b ≡ None) (sym is) refl
