-- A directory that is opened stands at the first leaf with its entries, and goes on with the next.
use Rattle.std.proofs.Common.{◌≡◌, ◌≢◌, ◌⊎◌, inl, inr, ℕ, zero, suc, ◌+◌, ◌-◌, ◌*◌, ◌/◌, ◌^◌, ◌<◌, ◌≤◌, false, List, [], ◌∷◌, length, refl, sym, ap, subst, ◌∙◌, arith}
use Rattle.std.specs.Prelude.{Contains, Option, Some, None, IfNone, slice_index}
use Rattle.std.proofs.Math.Decide.{dec_le, ℕ_discrete}
use Rattle.std.proofs.Math.Nat.{lt_of_not-le}
use Rattle.std.proofs.lemmas.Option.{same_Some}
use Rattle.r4_base.specs.Dir.{Entry as DirEntry, dir_fault, entry_body, entry_key_at, name_of}
use Rattle.r4_base.specs.Image.{Image, block_at}
use Rattle.r4_base.specs.Key.{rank}
use Rattle.r4_base.specs.Name.{bad_byte, dir_of_key, key_of_name, name_fault}
use Rattle.r4_base.specs.Node.{items_of}
use Rattle.r4_base.specs.Value.{Content, Value, Entry}
use Rattle.r4_base.specs.Volume.{HasContent}
use Rattle.r4_base.specs.declared.items.Target.{Target}
use Rattle.r4_base.specs.declared.key.Key.{Key}
use Rattle.r4_base.proofs.Dirs.{accepted}
use Rattle.r4_base.proofs.EntryLists.{has_form}
use Rattle.r4_base.proofs.Names.{is_name}
use Rattle.r4_cell.specs.Seen.{CellSeen, node_of}
use Rattle.r4_units.specs.Leaf.{AreUpTo}
use Rattle.r4_search.specs.Pool.{StandsInMemory}
use Rattle.r4_list.specs.Walking.{OpenDir, IsLeftAt, NoneLeft}
use Rattle.r4_list.specs.Frame.{EntryAt, IsFrom, FoundFrom, IsNextLeaf, NoEntries, StandsFrom, dir_number}
use Rattle.r4_list.proofs.FrameLeaves.{entry_first, first_high, first_low, items_from, other_above}
use Rattle.r4_list.proofs.FramePlaces.{entry_there, left_between}
use Rattle.r4_list.proofs.FrameSpans.{name_above}
use Rattle.r4_units.proofs.LeafUnits.{dir_accepted, node_units}
use Rattle.r4_units.proofs.ItemUnits.{dir_unit, item_unit}
use Rattle.r4_cell.proofs.NodesAt.{node_at}
use Rattle.r4_base.specs.Cell.{cell_fault, cell_of, items_in_fault}
use Rattle.r4_base.specs.Tree.{Node}
use Rattle.r4_list.proofs.OverPaths.{hi_is, level_is, lo_is}

-- ---- a directory item's key is above its first number alone

not_zero : (x : ℕ) (s : List ℕ) → bad_byte 0 (x ∷ s) ≡ None → x ≢ 0
unfolding bad_byte
not_zero x s e zero_is = none (sym (ap (λ (y : ℕ). bad_byte 0 (y ∷ s)) zero_is) ∙ e)
  where
    none : bad_byte 0 (0 ∷ s) ≡ None → ⊥
    none h = cc

named_above : (d : ℕ) (s : List ℕ) → name_fault s ≡ None → dir_number d * 2 ^ 192 < rank (key_of_name d s)
named_above d [] h = let some = (is_name [] h).some in absurd (some refl)
named_above d (x ∷ s) h = name_above d x s (not_zero x s (is_name (x ∷ s) h).bytes)

sixteen : (a number : ℕ) → a ≡ number * 16 → a / 16 ≡ number
sixteen a number e = omega (arith, e)

first_above : (dir : ℕ) (item : Key) (b : List ℕ) → dir_fault item b ≡ None → slice_index item.el 0 ≡ dir_number dir → dir_number dir * 2 ^ 192 < rank item
unfolding entry_key_at
first_above dir item b good first =
    let a = accepted item b good in
    let k = entry_key_at item b 0 in
    let form = has_form k (entry_body b 0) (a.named 0 a.some) in
    let of : dir_of_key k ≡ dir = sixteen (slice_index item.el 0) dir first in
    let up = subst (λ (d : ℕ). dir_number d * 2 ^ 192 < rank (key_of_name (dir_of_key k) (name_of k (entry_body b 0)))) of (named_above (dir_of_key k) (name_of k (entry_body b 0)) form.legal) in
    let same = form.key in
    let is = a.first in
    omega (arith, up, same, is)

same_number : (a b number k : ℕ) → a ≡ b → number * 2 ^ 192 ≤ k → k < (number + 1) * 2 ^ 192 → a * 2 ^ 192 ≤ k → k < (a + 1) * 2 ^ 192 → b ≡ number
same_number a b number k e low high from to = omega (arith, e, low, high, from, to)

-- ---- the first leaf

module _ {n : ℕ} {image : Image} {m : Content} (c : HasContent n image m) (f : OpenDir) where
  abbrev pub number : ℕ
  number = dir_number f.dir.oid.0

  pub none_at_all : (from : ℕ) → from ≤ f.from ⊎ (from ≤ number * 2 ^ 192) → NoEntries m from ((number + 1) * 2 ^ 192) → NoneLeft m f
  none_at_all from below none k name o l =
      let (low, high) = left_between c f k name o l in
      let left = l.left in
      none k name o l.stands (elim below [ inl le ↦ omega (arith, le, left) | inr le ↦ omega (arith, le, low) ]) high

  module _ (x : CellSeen) (whole : length x.block ≡ 4096) (leaf : x.level ≡ 1) (stands : StandsInMemory x) where
    -- where it is opened
    pub opens_first : (key i : ℕ) → f.from ≡ 0 → key ≡ number * 2 ^ 192 → IsNextLeaf c key x → AreUpTo (items_of x.block) key i → StandsFrom m f x i 0
    opens_first key i zero_from start next up =
        let at_from = next.from in
        let at_high = next.high in
        record {
          from = omega (arith, zero_from);
          above = omega (arith, start, at_from, at_high);
          items = λ j it is le. let high = up.high j it is le in omega (arith, high, start);
          later = λ j h e at from. omega (arith, zero_from);
          left = λ k name o l lt. found k name o l lt;
        }
      where
        found : (k : ℕ) (name : List ℕ) (o : Target) → IsLeftAt m f k name o → k < rank x.hi → FoundFrom x i 0 k name o
        found k name o l lt =
            let (low, high) = left_between c f k name o l in
            let from : rank x.lo ≤ k = elim (dec_le (rank x.lo) k) [ yes le ↦ le | no gt ↦ absurd (next.none k name o l.stands (omega (arith, start, low)) (lt_of_not-le gt)) ] in
            let (j, h, e, at, key_is, named, targets) = entry_there c x leaf next.stored k name o l.stands from lt in
            let place : IsFrom i 0 j h = elim (dec_le i j) [
              | yes le ↦ elim (ℕ_discrete i j) [ yes same ↦ inr (same, omega arith) | no other ↦ inl (omega (arith, le, other)) ]
              | no gt ↦
                  let before = up.low j at.item at.is (lt_of_not-le gt) in
                  let of_dir = same_number (slice_index e.key.el 0) (slice_index at.item.key.el 0) number k (entry_first x whole leaf stands j h e at) low high (subst (λ (r : ℕ). slice_index e.key.el 0 * 2 ^ 192 ≤ r) key_is (first_low e.key)) (subst (λ (r : ℕ). r < (slice_index e.key.el 0 + 1) * 2 ^ 192) key_is (first_high e.key (Rattle.r4_list.proofs.FrameLeaves.entry_key x whole leaf stands j h e at))) in
                  let above = first_above f.dir.oid.0 at.item.key at.item.body (dir_accepted x whole leaf stands j at.item at.is at.plugin) of_dir in
                  absurd (omega (arith, before, above, start))
            ] in
            (j, h, e, at, place, key_is, named, targets)

-- ---- a leaf of the tree is accepted

block_of : (level lo hi : ℕ) (b : List ℕ) → (cell_of level lo hi b).block ≡ b
unfolding cell_of
block_of zero lo hi b = refl
block_of (suc l) lo hi b = refl

module _ {n : ℕ} {image : Image} {m : Content} (c : HasContent n image m) (f : OpenDir) (x : CellSeen) (leaf : x.level ≡ 1) (stored : c.store x.id ≡ Some (node_of x)) where
  accepted_items : items_in_fault false c.super.block_count x.level (rank x.lo) (rank x.hi) 0 (items_of x.block) ≡ None
  accepted_items =
      let is = c.cells x.id (node_of x) stored in
      let b : block_at image x.id ≡ x.block = sym (block_of (node_of x).level (node_of x).lo (node_of x).hi (block_at image x.id)) ∙ (sym (ap (λ (d : Node Value). d.block) is.says) ∙ block_of x.level (rank x.lo) (rank x.hi) x.block) in
      let one = subst (λ (k : List ℕ). cell_fault false c.super.block_count (node_of x).level (node_of x).lo (node_of x).hi k ≡ None) b is.sound in
      let two = subst (λ (l : ℕ). cell_fault false c.super.block_count l (node_of x).lo (node_of x).hi x.block ≡ None) (level_is x) one in
      let three = subst (λ (l : ℕ). cell_fault false c.super.block_count x.level l (node_of x).hi x.block ≡ None) (lo_is x) two in
      let four = subst (λ (l : ℕ). cell_fault false c.super.block_count x.level (rank x.lo) l x.block ≡ None) (hi_is x) three in
      (node_at false c.super.block_count x.level (rank x.lo) (rank x.hi) x.block (omega (arith, leaf)) four).items

  entry_from : (i j : ℕ) (e : DirEntry) → EntryAt x i j e → rank x.lo ≤ rank e.key
  entry_from i j e h =
      let has = subst (λ (us : List (ℕ × Value)). Contains us (rank e.key, Entry e.name e.target)) (sym (node_units x.level (rank x.lo) (rank x.hi) x.block (omega (arith, leaf)))) (item_unit (items_of x.block) i h.item (rank e.key, Entry e.name e.target) h.is (dir_unit h.item j e h.plugin h.at)) in
      let (from, _) = (c.tree.nodes x.id (node_of x) stored).unit_in (rank e.key) (Entry e.name e.target) has in
      let lo = lo_is x in
      omega (arith, from, lo)

  -- a directory goes on there behind another leaf
  pub opens_next : (hi : ℕ) → f.from ≡ hi → dir_number f.dir.oid.0 * 2 ^ 192 ≤ hi → hi ≤ rank x.lo → IsNextLeaf c hi x → StandsFrom m f x 0 0
  opens_next hi from low begins next =
      let at_low = next.low in
      let at_high = next.high in
      record {
        from = omega (arith, from, begins, at_low, at_high);
        above = omega (arith, low, begins, at_low, at_high);
        items = λ j it is le. let lo = items_from false c.super.block_count x.level (rank x.lo) (rank x.hi) 0 (items_of x.block) j it accepted_items is in omega (arith, lo, begins, low);
        later = λ j h e at place. let lo = entry_from j h e at in omega (arith, lo, from, begins);
        left = λ k name o l lt. found k name o l lt;
      }
    where
      first_place : (j h : ℕ) → IsFrom 0 0 j h
      first_place zero h = inr (refl, omega arith)
      first_place (suc j) h = inl (omega arith)

      found : (k : ℕ) (name : List ℕ) (o : Target) → IsLeftAt m f k name o → k < rank x.hi → FoundFrom x 0 0 k name o
      found k name o l lt =
          let left = l.left in
          let at : rank x.lo ≤ k = elim (dec_le (rank x.lo) k) [ yes le ↦ le | no gt ↦ absurd (next.none k name o l.stands (omega (arith, from, left)) (lt_of_not-le gt)) ] in
          let (j, h, e, is, key_is, named, targets) = entry_there c x leaf stored k name o l.stands at lt in
          (j, h, e, is, first_place j h, key_is, named, targets)

-- ---- the next leaf begins where another one ended, or later

module _ {n : ℕ} {image : Image} {m : Content} (c : HasContent n image m) (x y : CellSeen) (one : x.level ≡ 1) (also : y.level ≡ 1) (stored : c.store x.id ≡ Some (node_of x)) where
  pub begins_behind : IsNextLeaf c (rank x.hi) y → rank x.hi ≤ rank y.lo
  begins_behind next = elim (dec_le (rank x.hi) (rank y.lo)) [
    | yes le ↦ le
    | no gt ↦
        let lt = lt_of_not-le gt in
        let from = next.from in
        let high = next.high in
        let some = (c.tree.nodes x.id (node_of x) stored).nonempty in
        let lo_x = lo_is x in
        let hi_x = hi_is x in
        let lo_y = lo_is y in
        let hi_y = hi_is y in
        let inside_x : (node_of x).lo ≤ rank x.hi - 1 = omega (arith, some, hi_x) in
        let inside_y : (node_of y).lo ≤ rank x.hi - 1 = omega (arith, lt, lo_y) in
        let below_x : rank x.hi - 1 < (node_of x).hi = omega (arith, some, hi_x) in
        let below_y : rank x.hi - 1 < (node_of y).hi = omega (arith, from, high, hi_y) in
        let level_x = level_is x ∙ one in
        let is : x.id ≡ y.id = c.tree.apart x.id y.id (node_of x) (node_of y) (rank x.hi - 1) stored next.stored (level_x ∙ sym (level_is y ∙ also)) (omega (arith, level_x)) (inside_x, below_x) (inside_y, below_y) in
        let same : node_of x ≡ node_of y = same_Some (node_of x) (node_of y) (sym stored ∙ (ap c.store is ∙ next.stored)) in
        let hi = ap (λ d. d.hi) same in
        absurd (omega (arith, hi, hi_x, hi_y, from, high))
  ]

-- ---- where there is no leaf, and where there is one

pub start_rank : (a number : ℕ) → a ≡ number → rank (record { el = a ∷ 0 ∷ 0 ∷ 0 ∷ [] }) ≡ number * 2 ^ 192
unfolding rank
start_rank a number e = omega (arith, e)

pub first_none : {X : Type 0} {n : ℕ} {image : Image} {m : Content} (c : HasContent n image m) (f : OpenDir) (dir key : ℕ) (o : Option X) → f.dir.oid.0 ≡ dir → key ≡ dir_number dir * 2 ^ 192 → o ≡ None → IfNone o (NoEntries m key ((dir_number dir + 1) * 2 ^ 192)) → NoneLeft m f
first_none {X} {n} {image} {m} c f dir key (Some x) same start is none = absurd cc
first_none {X} {n} {image} {m} c f dir key None same start is none =
    none_at_all c f key (inr (let d = ap dir_number same in omega (arith, start, d))) (subst (λ (d : ℕ). NoEntries m key ((dir_number d + 1) * 2 ^ 192)) (sym same) none)

pub next_none : {X : Type 0} {n : ℕ} {image : Image} {m : Content} (c : HasContent n image m) (f : OpenDir) (dir key : ℕ) (o : Option X) → f.dir.oid.0 ≡ dir → key ≡ f.from → o ≡ None → IfNone o (NoEntries m key ((dir_number dir + 1) * 2 ^ 192)) → NoneLeft m f
next_none {X} {n} {image} {m} c f dir key (Some x) same start is none = absurd cc
next_none {X} {n} {image} {m} c f dir key None same start is none =
    none_at_all c f key (inl (omega (arith, start))) (subst (λ (d : ℕ). NoEntries m key ((dir_number d + 1) * 2 ^ 192)) (sym same) none)

-- the next leaf begins with another number
pub none_beyond : {n : ℕ} {image : Image} {m : Content} (c : HasContent n image m) (f : OpenDir) (dir : ℕ) (key : Key) → f.dir.oid.0 ≡ dir → rank key ≡ f.from → dir_number dir * 2 ^ 192 ≤ rank key → slice_index key.el 0 ≢ dir_number dir → rank key < (slice_index key.el 0 + 1) * 2 ^ 192 → NoneLeft m f
none_beyond {n} {image} {m} c f dir key same start low other below k name o l =
    let end = other_above (slice_index key.el 0) (dir_number dir) (rank key) other low (first_low key) below in
    let (_, high) = left_between c f k name o l in
    let left = l.left in
    let d = ap dir_number same in
    omega (arith, end, high, left, start, d)
