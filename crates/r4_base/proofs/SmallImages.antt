-- What holds of a content whose root has one pointer.
use Rattle.std.specs.Prelude.{◌≡◌, ◌≢◌, ℕ, zero, ◌^◌, ◌<◌, ◌≤◌, List, [], ◌∷◌, Contains, Option, Some, None, Bool, true, false, not, ◌&&◌, nat_lt, nat_le, ◌==◌, if◌then◌else◌, cond}
use mathlib.Core.Path.{refl, sym, ap, subst, ◌∙◌}
use mathlib.Core.Logic.{inl, inr}
use native.Mathlib.Omega.{arith}
use Rattle.std.proofs.Math.Nat.{le_refl}
use Rattle.std.proofs.lemmas.Bool.{and_parts, cases_lt, eqb-true, le-leb, ltb-true, not-true}
use Rattle.std.proofs.lemmas.Bool.Decides.{nat_tests}
use Rattle.std.proofs.lemmas.List.{append-nil}
use Rattle.std.specs.Option.{option_map, option_or}
use Rattle.std.specs.Ordering.{nat_cmp, eq_by_cmp}
use Rattle.std.specs.FinMap.{empty, entries, entries-insert, get-empty, get-insert, insert}
use Rattle.std.proofs.lemmas.Cmp.{nat_cmp_total}
use Rattle.std.proofs.lemmas.Grind.{common_steps}
use Rattle.std.proofs.lemmas.Option.{same_Some}
use Rattle.std.proofs.Math.Dec.{lit<}
use Rattle.r4_base.specs.Bytes.{FieldsFit, number_at, number_bytes}
use Rattle.r4_base.specs.Image.{Image, block_at}
use Rattle.r4_base.specs.Bitmap.{is_fixed, is_marked}
use Rattle.r4_base.specs.Key.{rank, least, top}
use Rattle.r4_base.specs.Node.{Item, level_of, node_fault}
use Rattle.r4_base.specs.Stat.{stat_body, stat_fields}
use Rattle.r4_base.specs.Extents.{pointer_of}
use Rattle.r4_base.specs.Value.{Value, Stat, Content, at_key}
use Rattle.r4_base.specs.Tree.{Name, Node as Cell, Fits, UnitAt}
use Rattle.r4_base.specs.Cell.{cell_fault, cell_of, items_in_fault, item_body_fault, item_names, item_units, names_in, units_in, names_block, range_is_good}
use Rattle.r4_base.specs.Volume.{HasContent, HasStat, is_directory, root_object}
use Rattle.r4_base.specs.Fresh.{HasOneItem, root_key}
use Rattle.r4_base.specs.Small.{HasOnePointer}
use Rattle.r4_base.specs.declared.items.Attr.{Attr}
use Rattle.r4_base.specs.declared.items.CellFault.{CellFault}
use Rattle.r4_base.specs.declared.items.CellFault.TheVariants.{Node, Pointer, Level, Range}
use Rattle.r4_base.specs.declared.superblock.Super40.{Super40}
use Rattle.r4_base.proofs.Images.{same_Ok}
use Rattle.r4_base.proofs.Numbers.{number_at-bytes, length-number_bytes}
use Rattle.r4_base.proofs.Stats.{attr_again}
use Rattle.r4_base.proofs.Trees.{one_cell, has_parent}
use Rattle.r4_base.proofs.FreshTree.{only}
use Rattle.r4_base.proofs.FreshVolume.{none_in_empty, root_rank, same_attr}
use Rattle.r4_base.proofs.Contents.{decided}
use Rattle.r4_base.proofs.Choices.{nothing_in}

first_none : {F : Type 0} (o p : Option F) → option_or o p ≡ None → o ≡ None
first_none None p e = refl
first_none (Some f) p e = e

passed : {F : Type 0} (t : Bool) (f : F) → ◌≡◌ {A = Option F} (if t then None else Some f) None → t ≡ true
passed true f e = refl
passed false f e = absurd cc

unmapped : {E : Type 0} (f : E → CellFault) (o : Option E) → option_map f o ≡ None → o ≡ None
unmapped f None e = refl
unmapped f (Some x) e = absurd cc

second_none : {F : Type 0} (o p : Option F) → option_or o p ≡ None → p ≡ None
second_none None p e = e
second_none (Some f) p e = absurd cc

-- ---- the map of one unit

at_single : (k : ℕ) (a : Attr) → at_key (insert empty least (Stat a)) k ≡ cond (eq_by_cmp nat_cmp k least) (Some (Stat a)) None
at_single k a = get-insert nat_cmp_total empty least (Stat a) k ∙ ap (cond (eq_by_cmp nat_cmp k least) (Some (Stat a))) (get-empty nat_cmp k)

single_found : (k : ℕ) (v : Value) (a : Attr) → cond (eq_by_cmp nat_cmp k least) (Some (Stat a)) None ≡ Some v → (k ≡ least) × (v ≡ Stat a)
single_found k v a e = grind (arith, common_steps, e)

single_at : (k : ℕ) (v : Value) (a : Attr) → k ≡ least → v ≡ Stat a → cond (eq_by_cmp nat_cmp k least) (Some (Stat a)) None ≡ Some v
single_at k v a is value = grind (arith, common_steps, is, value)

one_attr : (a b : Attr) → ◌≡◌ {A = Option Value} (Some (Stat a)) (Some (Stat b)) → a ≡ b
one_attr a b e = same_attr a b (same_Some (Stat a) (Stat b) e)

-- ---- a pointer's bytes

number_is : (to : ℕ) → to < 2 ^ 64 → number_at 8 0 (number_bytes 8 to) ≡ to
number_is to fits = ap (number_at 8 0) (sym (append-nil (number_bytes 8 to))) ∙ number_at-bytes 8 to [] [] 0 refl fits

pointer_is : (to : ℕ) → to < 2 ^ 64 → 22 ≤ to → pointer_of (number_bytes 8 to) ≡ Some to
unfolding pointer_of
pointer_is to fits le = let t : nat_le 22 to ≡ true = le-leb 22 to le in rw (length-number_bytes 8 to, number_is to fits, t) refl

no_pointer : (to : ℕ) → to < 2 ^ 64 → to < 22 → pointer_of (number_bytes 8 to) ≡ None
unfolding pointer_of
no_pointer to fits lt = let t : nat_le 22 to ≡ false = grind (arith, nat_tests, lt) in rw (length-number_bytes 8 to, number_is to fits, t) refl

-- ---- the twig

abbrev twig_item : ℕ → Item
twig_item to = record { key = root_key; plugin = 3; body = number_bytes 8 to }

twig_fault : (blocks to : ℕ) (b : List ℕ) → HasOneItem b 2 3 (number_bytes 8 to) → cell_fault false blocks 2 least top b
    ≡ option_or (if names_block false blocks (pointer_of (number_bytes 8 to)) then None else Some Pointer)
    (option_or (if range_is_good 2 least top top 0 (twig_item to) then None else Some (Range 0)) None)
unfolding cell_fault items_in_fault item_body_fault
twig_fault blocks to b h = rw (h.sound, h.level_is, h.items) refl

abbrev down_to : ℕ → Name
down_to to = record { id = to; level = 1; lo = least; hi = top }

twig_names : (to : ℕ) (b : List ℕ) → to < 2 ^ 64 → 22 ≤ to → HasOneItem b 2 3 (number_bytes 8 to) → (cell_of 2 least top b).names ≡ down_to to ∷ []
unfolding cell_of names_in item_names rank least
twig_names to b fits le h = rw (h.items, pointer_is to fits le) refl

twig_units : (to : ℕ) (b : List ℕ) → HasOneItem b 2 3 (number_bytes 8 to) → (cell_of 2 least top b).units ≡ []
unfolding cell_of units_in item_units
twig_units to b h = rw h.items refl

leaf_units : (b : List ℕ) (a : Attr) → FieldsFit (stat_fields a) → HasOneItem b 1 0 (stat_body a) → (cell_of 1 least top b).units ≡ (least, Stat a) ∷ []
unfolding cell_of units_in item_units rank least
leaf_units b a fits h = rw (h.items, attr_again a fits) refl

-- ---- the content

module _ (n : ℕ) (image : Image) (m : Content) (super : Super40) (to : ℕ) (c : HasContent n image m) (h : HasOnePointer n image super to) where
  same : c.super ≡ super
  same = same_Ok c.super super (sym c.layout.format ∙ h.format)

  r : Cell Value
  r = c.tree.root_node

  there : c.store 22 ≡ Some r
  unfolding r
  there = subst (λ (i : ℕ). c.store i ≡ Some c.tree.root_node) (ap (λ (s : Super40). s.root_block) same ∙ h.root) c.tree.root_is

  level2 : r.level ≡ 2
  unfolding r
  level2 = c.tree.root_level ∙ ap (λ (s : Super40). s.tree_height) same ∙ h.height

  says : r ≡ cell_of 2 least top (block_at image 22)
  unfolding r
  says = (c.cells 22 r there).says ∙ (λ i. cell_of (level2 i) (c.tree.root_lo i) (c.tree.root_hi i) (block_at image 22))

  sound : cell_fault false c.super.block_count 2 least top (block_at image 22) ≡ None
  unfolding r
  sound = (λ i. cell_fault false c.super.block_count (sym level2 i) (sym c.tree.root_lo i) (sym c.tree.root_hi i) (block_at image 22)) ∙ (c.cells 22 r there).sound

  named : names_block false c.super.block_count (pointer_of (number_bytes 8 to)) ≡ true
  named = passed _ Pointer (first_none _ _ (sym (twig_fault c.super.block_count to (block_at image 22) h.twig) ∙ sound))

  high : 22 ≤ to
  high = elim (cases_lt to 22) [
    | inr ge ↦ ge
    | inl lt ↦ let e : false ≡ true = ap (names_block false c.super.block_count) (sym (no_pointer to h.fits lt)) ∙ named in absurd cc
  ]

  within : (nat_lt to c.super.block_count ≡ true) × (is_fixed c.super.block_count to ≡ false)
  within = let b = and_parts (nat_lt to c.super.block_count) (not (is_fixed c.super.block_count to)) (ap (names_block false c.super.block_count) (sym (pointer_is to h.fits high)) ∙ named) in (b.0, not-true _ b.1)

  -- a pointer past the block count, or to a fixed block
  pub below_count : to < super.block_count
  below_count = let lt = ltb-true to c.super.block_count within.0 in subst (λ (s : Super40). to < s.block_count) same lt

  pub not_fixed : is_fixed super.block_count to ≡ false
  not_fixed = ap (λ (s : Super40). is_fixed s.block_count to) (sym same) ∙ within.1

  names : Contains r.names (down_to to)
  names = subst (λ (l : List Name). Contains l (down_to to)) (sym (ap (λ (x : Cell Value). x.names) says ∙ twig_names to (block_at image 22) h.fits high h.twig)) (zero, omega arith, refl)

  child : (d : Cell Value) × (c.store to ≡ Some d) × Fits (down_to to) d
  child = c.tree.named 22 r (down_to to) there names

  -- a root that names itself
  pub not_itself : to ≢ 22
  not_itself e =
      let same_cell : child.0 ≡ r = one_cell c.store 22 child.0 r (subst (λ (i : ℕ). c.store i ≡ Some child.0) e child.1) there in
      let l = ap (λ (x : Cell Value). x.level) same_cell in
      let f = child.2.level in
      let two = level2 in
      omega (arith, l, f, two)

  -- a block that is not marked
  pub marked : is_marked image to ≡ true
  marked = (c.places to child.0 child.1).2

  child_sound : cell_fault false c.super.block_count 1 least top (block_at image to) ≡ None
  child_sound = (λ i. cell_fault false c.super.block_count (sym child.2.level i) (sym child.2.lo i) (sym child.2.hi i) (block_at image to)) ∙ (c.cells to child.0 child.1).sound

  -- a node that is refused
  pub not_refused : node_fault (block_at image to) ≡ None
  unfolding cell_fault
  not_refused = unmapped Node (node_fault (block_at image to)) (first_none _ _ child_sound)

  -- a node of another level
  pub is_leaf : level_of (block_at image to) ≡ 1
  unfolding cell_fault
  is_leaf = eqb-true (level_of (block_at image to)) 1 (passed (level_of (block_at image to) == 1) Level (first_none _ _ (second_none (option_map Node (node_fault (block_at image to))) _ child_sound)))

  -- ---- a leaf with one item

  module _ (a : Attr) (leaf : HasOneItem (block_at image to) 1 0 (stat_body a)) (fits : FieldsFit (stat_fields a)) where
    units : child.0.units ≡ (least, Stat a) ∷ []
    units = ap (λ (x : Cell Value). x.units) ((c.cells to child.0 child.1).says ∙ (λ i. cell_of (child.2.level i) (child.2.lo i) (child.2.hi i) (block_at image to))) ∙ leaf_units (block_at image to) a fits leaf

    root_names : (x : Name) → Contains r.names x → x ≡ down_to to
    root_names x has = only (down_to to) x (subst (λ (l : List Name). Contains l x) (ap (λ (y : Cell Value). y.names) says ∙ twig_names to (block_at image 22) h.fits high h.twig) has)

    no_units : (u : ℕ × Value) → Contains r.units u → ⊥
    no_units u has = nothing_in u (subst (λ (l : List (ℕ × Value)). Contains l u) (ap (λ (y : Cell Value). y.units) says ∙ twig_units to (block_at image 22) h.twig) has)

    -- above the leaves there is the root alone
    one_twig : (i : ℕ) (d : Cell Value) → c.store i ≡ Some d → 2 ≤ d.level → d ≡ r
    unfolding r
    one_twig i d is two =
        let node = c.tree.nodes i d is in
        let most = c.tree.none_above i d is in
        let tall = ap (λ (s : Super40). s.tree_height) same ∙ h.height in
        let full = node.nonempty in
        let is_root : i ≡ 22 = c.tree.apart i 22 d r d.lo is there (let l = level2 in omega (arith, two, most, tall, l)) (omega (arith, two)) (le_refl d.lo, full)
        (let lo = c.tree.root_lo in let from = node.from_least in omega (arith, lo, from), let hi = c.tree.root_hi in let to_top = node.to_top in omega (arith, hi, full, to_top)) in
        one_cell c.store 22 d r (subst (λ (j : ℕ). c.store j ≡ Some d) is_root is) there

    -- each cell but the root is the leaf
    is_child : (i : ℕ) (d : Cell Value) → c.store i ≡ Some d → d.level ≤ 1 → d ≡ child.0
    is_child i d is low = elim (has_parent c.store _ c.tree i d is) [
      | inl root ↦ absurd (let e : d ≡ r = one_cell c.store 22 d r (subst (λ (j : ℕ). c.store j ≡ Some d) (root ∙ ap (λ (s : Super40). s.root_block) same ∙ h.root) is) there in let l = ap (λ (x : Cell Value). x.level) e in let two = level2 in omega (arith, l, two, low))
      | inr p ↦
          let (j, e, x, te, ex, id) = p in
          let above = c.tree.nodes j e te in
          let two : 2 ≤ e.level = elim (above.below x ex) [ inl q ↦ omega (arith, q) | inr q ↦ omega (arith, q) ] in
          let root = one_twig j e te two in
          let name = root_names x (subst (λ (y : Cell Value). Contains y.names x) root ex) in
          one_cell c.store to d child.0 (subst (λ (k : ℕ). c.store k ≡ Some d) (sym id ∙ ap (λ (y : Name). y.id) name) is) child.1
    ]

    one_unit : (k : ℕ) (v : Value) → UnitAt c.store k v → (k ≡ least) × (v ≡ Stat a)
    one_unit k v (i, d, is, has) = elim (cases_lt d.level 2) [
      | inr two ↦ absurd (no_units (k, v) (subst (λ (y : Cell Value). Contains y.units (k, v)) (one_twig i d is two) has))
      | inl low ↦
          let e = only (least, Stat a) (k, v) (subst (λ (l : List (ℕ × Value)). Contains l (k, v)) units (subst (λ (y : Cell Value). Contains y.units (k, v)) (is_child i d is (omega (arith, low))) has)) in
          (ap (λ (u : ℕ × Value). u.0) e, ap (λ (u : ℕ × Value). u.1) e)
    ]

    unit_there : UnitAt c.store least (Stat a)
    unit_there = (to, child.0, child.1, subst (λ (l : List (ℕ × Value)). Contains l (least, Stat a)) (sym units) (zero, omega arith, refl))

    raw_is : c.raw ≡ insert empty least (Stat a)
    raw_is = decided c.raw (insert empty least (Stat a)) (λ k v. (
      λ at. let u = one_unit k v ((c.units k v).0 at) in at_single k a ∙ single_at k v a u.0 u.1,
      λ at. let u = single_found k v a (sym (at_single k a) ∙ at) in subst (λ (j : ℕ). at_key c.raw j ≡ Some v) (sym u.0) (subst (λ (w : Value). at_key c.raw least ≡ Some w) (sym u.1) ((c.units least (Stat a)).1 unit_there)),
    ))

    listed : entries c.raw ≡ (least, Stat a) ∷ []
    listed = ap (λ (x : Content). entries x) raw_is ∙ entries-insert nat_cmp_total empty least (Stat a) ∙ rw none_in_empty refl

    root_stat : HasStat c.raw root_object a
    root_stat = ((lit< tt, lit< tt, lit< tt), ap (at_key c.raw) root_rank ∙ (c.units least (Stat a)).1 unit_there)

    -- the root is a file
    pub is_dir : is_directory a ≡ true
    is_dir = let s = c.objects.root in ap is_directory (one_attr a s.0 (sym root_stat.1 ∙ s.1.1)) ∙ s.2

    pub two_links : a.nlink ≡ 2
    two_links = (c.objects.directories root_object a root_stat is_dir).1 ∙ rw listed refl

    pub no_entries : a.size ≡ 0
    no_entries = (c.objects.directories root_object a root_stat is_dir).0 ∙ rw listed refl

    pub same_bytes : a.bytes ≡ a.size
    same_bytes = c.files.bytes root_object a root_stat

    pub one_file : super.file_count ≡ 1
    one_file = ap (λ (s : Super40). s.file_count) (sym same) ∙ c.ids.count ∙ rw listed refl
