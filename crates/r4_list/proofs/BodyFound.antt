-- Where a cell has a byte of a file, an item has it: the last one whose key is not above the byte's.
use Rattle.std.proofs.Common.{◌≡◌, inl, inr, ℕ, zero, suc, ◌+◌, ◌-◌, ◌*◌, ◌/◌, ◌^◌, ◌<◌, ◌≤◌, Bool, true, false, List, [], ◌∷◌, length, map, refl, sym, ap, subst, ◌∙◌, arith}
use Rattle.std.specs.Prelude.{Option, Some, None, Contains, ◌==◌, ◌||◌, ◌⊎◌, not, nat_le, if◌then◌else◌, slice_get, slice_index}
use Rattle.std.proofs.Math.Decide.{dec_le}
use Rattle.std.proofs.Math.Nat.{lt_of_not-le}
use Rattle.std.proofs.lemmas.Bool.{and_parts, eqb-true, leb-true}
use Rattle.std.proofs.lemmas.Bool.Decides.{nat_tests}
use Rattle.std.proofs.lemmas.List.Elements.{Contains-append_cases}
use Rattle.std.proofs.lemmas.Option.{same_Some}
use Rattle.r4_base.specs.Cell.{block_names, body_bytes, bytes_from, entry_unit, hole_bytes, item_end, item_names, item_units, items_in_fault, names_in, next_key, offsets_fit, pointer_names, range_is_good, units_in}
use Rattle.r4_base.specs.Dir.{Entry as DirEntry, entries_of}
use Rattle.r4_base.specs.Extents.{blocks_in, pointer_of, units_of}
use Rattle.r4_base.specs.Image.{Image}
use Rattle.r4_base.specs.Key.{IsKey, rank}
use Rattle.r4_base.specs.Node.{Item, fits_level, items_of}
use Rattle.r4_base.specs.Stat.{attr_of}
use Rattle.r4_base.specs.Tree.{InName, InNode, InSpan, Name, Node, Span, UnitAt}
use Rattle.r4_base.specs.Value.{Content, Value, Stat, Entry, Byte}
use Rattle.r4_base.specs.Volume.{HasContent, byte_rank, root_of}
use Rattle.r4_base.specs.declared.items.CellFault.TheVariants.{Range}
use Rattle.r4_base.specs.declared.items.Target.{Target}
use Rattle.r4_base.specs.declared.key.Key.{Key}
use Rattle.r4_base.proofs.FreshTree.{only}
use Rattle.r4_base.proofs.Trees.{block_twig, leaf_holds, one_cell}
use Rattle.r4_base.proofs.Visible.{whole_file}
use Rattle.r4_base.proofs.Choices.{chosen, nothing_in, or_none}
use Rattle.r4_cell.specs.Seen.{CellSeen, node_of}
use Rattle.r4_cell.proofs.ItemRows.{extent_row}
use Rattle.r4_cell.proofs.Items.{good_item}
use Rattle.r4_cell.proofs.NodesAt.{node_at, plugins_at}
use Rattle.r4_cell.proofs.Rows.{row_bytes}
use Rattle.r4_search.specs.Path.{EndsAt}
use Rattle.r4_list.specs.Body.{HasByte, IsFileTo, IsKeyOf}
use Rattle.r4_units.specs.Leaf.{AreUpTo}
use Rattle.r4_search.specs.Pool.{StandsInMemory}
use Rattle.r4_units.proofs.ExtentUnits.{names_of}
use Rattle.r4_list.proofs.OverAnswers.{in_store}
use Rattle.r4_units.proofs.LeafUnits.{node_units}
use Rattle.r4_list.proofs.OverPaths.{hi_is, level_is, lo_is}
use Rattle.r4_units.proofs.ItemUnits.{ends_before, item_is_key, last_up_to, mapped_place, unit_item}

-- ---- an item that has a byte, or names a block

-- how many bytes of a body it has from its key on
pub record HasAt (it : Item) (k : ℕ) : Type 0 where
  pub kind : (it.plugin ≡ 6) ⊎ (it.plugin ≡ 5)
  pub from : rank it.key ≤ k
  pub to : k < rank it.key + body_bytes it

tail_bytes : (it : Item) → it.plugin ≡ 6 → body_bytes it ≡ length it.body
tail_bytes it is = let d : (it.plugin == 5) ≡ false = ap (λ (x : ℕ). x == 5) is in rw d refl

extent_bytes : (it : Item) → it.plugin ≡ 5 → body_bytes it ≡ 4096 * blocks_in (units_of it.body)
extent_bytes it is = let d : (it.plugin == 5) ≡ true = ap (λ (x : ℕ). x == 5) is in rw d refl

stat_byte : (r : ℕ) (v : Value) (k y : ℕ) → ((x : ℕ) → v ≡ Byte x → ⊥) → Contains {X = ℕ × Value} ((r, v) ∷ []) (k, Byte y) → ⊥
stat_byte r v k y other h = other y (sym (ap (λ (u : ℕ × Value). u.1) (only (r, v) (k, Byte y) h)))

entry_byte : (es : List DirEntry) (k y : ℕ) → Contains (map entry_unit es) (k, Byte y) → ⊥
entry_byte es k y h = let (i, e, at, is) = mapped_place entry_unit es (k, Byte y) h in let v : Entry e.name e.target ≡ Byte y = ap (λ (u : ℕ × Value). u.1) is in absurd cc

tail_kind : (level plugin : ℕ) → fits_level level plugin ≡ true → (plugin == 0) ≡ false → (plugin == 2) ≡ false → (plugin == 3) ≡ false → (plugin == 5) ≡ false → plugin ≡ 6
tail_kind level plugin fits a b c d = grind (arith, nat_tests)

pub byte_item : (level : ℕ) (it : Item) (k y : ℕ) → fits_level level it.plugin ≡ true → Contains (item_units it) (k, Byte y) → HasAt it k
unfolding item_units
byte_item level it k y fits h = tested (it.plugin == 0) (it.plugin == 2) (it.plugin == 3) (it.plugin == 5) refl refl refl refl h
  where
    tested : (a b c d : Bool) → (it.plugin == 0) ≡ a → (it.plugin == 2) ≡ b → (it.plugin == 3) ≡ c → (it.plugin == 5) ≡ d
        → Contains (if a then (rank it.key, Stat (attr_of it.body)) ∷ [] else if b then map entry_unit (entries_of it.key it.body) else if c then [] else if d then hole_bytes (rank it.key) (units_of it.body) else bytes_from (rank it.key) it.body) (k, Byte y) → HasAt it k
    tested true b c d e0 e2 e3 e5 u = absurd (stat_byte (rank it.key) (Stat (attr_of it.body)) k y (λ x e. absurd cc) u)
    tested false true c d e0 e2 e3 e5 u = absurd (entry_byte (entries_of it.key it.body) k y u)
    tested false false true d e0 e2 e3 e5 u = absurd (nothing_in (k, Byte y) u)
    tested false false false true e0 e2 e3 e5 u =
        let five : it.plugin ≡ 5 = eqb-true _ _ e5 in
        let within = (extent_row (rank it.key) (units_of it.body)).unit_in k (Byte y) u in
        let size = extent_bytes it five in
        record { kind = inr five; from = within.0; to = omega (arith, within, size) }
    tested false false false false e0 e2 e3 e5 u =
        let six = tail_kind level it.plugin fits e0 e2 e3 e5 in
        let within = (row_bytes (rank it.key) it.body).unit_in k (Byte y) u in
        let size = tail_bytes it six in
        record { kind = inl six; from = within.0; to = omega (arith, within, size) }

-- a block's key is within the item that names it
data_item : (level next : ℕ) (it : Item) (n : Name) (k : ℕ) → 2 ≤ level → n.level ≡ 0 → InName n k → Contains (item_names level next it) n → HasAt it k
unfolding item_names
data_item level next it n k two low at h = tested (it.plugin == 3) (it.plugin == 5) refl refl h
  where
    pointer : (o : Option ℕ) → Contains (pointer_names level (rank it.key) next o) n → ⊥
    pointer None u = nothing_in n u
    pointer (Some to) u = let e = ap (λ (x : Name). x.level) (only (record { id = to; level = level - 1; lo = rank it.key; hi = next }) n u) in absurd (omega (arith, e, low, two))

    tested : (a b : Bool) → (it.plugin == 3) ≡ a → (it.plugin == 5) ≡ b → Contains (if a then pointer_names level (rank it.key) next (pointer_of it.body) else if b then block_names (rank it.key) (units_of it.body) else []) n → HasAt it k
    tested true b e3 e5 u = absurd (pointer (pointer_of it.body) u)
    tested false true e3 e5 u =
        let five : it.plugin ≡ 5 = eqb-true _ _ e5 in
        let row = extent_row (rank it.key) (units_of it.body) in
        let from = row.from n u in
        let to = row.to n u in
        let size = extent_bytes it five in
        record { kind = inr five; from = omega (arith, from, at); to = omega (arith, to, at, size) }
    tested false false e3 e5 u = absurd (nothing_in n u)

name_item : (level hi : ℕ) (items : List Item) (n : Name) → Contains (names_in level hi items) n → (i : ℕ) × (it : Item) × (next : ℕ) × (slice_get items i ≡ Some it) × Contains (item_names level next it) n
unfolding names_in
name_item level hi [] n h = absurd (nothing_in n h)
name_item level hi (it ∷ items) n h = elim (Contains-append_cases (item_names level (next_key hi items) it) (names_in level hi items) n h) [
  | inl here ↦ (0, it, next_key hi items, refl, here)
  | inr later ↦ let (i, x, next, e, g) = name_item level hi items n later in (suc i, x, next, e, g)
]

-- ---- the offsets of an item's bytes fit

range_at : (level lo hi from : ℕ) (items : List Item) (i : ℕ) (it : Item) → items_in_fault true (2 ^ 64) level lo hi from items ≡ None → slice_get items i ≡ Some it → offsets_fit it ≡ true
unfolding items_in_fault
range_at level lo hi from [] i it h is = absurd cc
range_at level lo hi from (x ∷ items) zero it h is =
    let first = or_none _ _ h in
    let rest = or_none (if range_is_good level lo hi (next_key hi items) from x then None else Some (Range from)) _ first.1 in
    let good : range_is_good level lo hi (next_key hi items) from x ≡ true = chosen _ (Range from) rest.0 in
    let a = and_parts _ (nat_le level 1 || not (from == 0) || rank x.key == lo) good in
    let b = and_parts _ (nat_le (item_end x) (next_key hi items)) a.0 in
    let c = and_parts _ (nat_le (item_end x) hi) b.0 in
    let d = and_parts _ (offsets_fit x) c.0 in
    subst (λ (y : Item). offsets_fit y ≡ true) (same_Some x it is) d.1
range_at level lo hi from (x ∷ items) (suc i) it h is = range_at level lo hi (from + 1) items i it (good_item true (2 ^ 64) level lo hi from x items h).rest is

fits_of : (s p d e : Bool) → s ≡ false → p ≡ false → d ≡ false → (s || p || d || e) ≡ true → e ≡ true
fits_of false false false e a b c h = h
fits_of true p d e a b c h = absurd cc
fits_of false true d e a b c h = absurd cc
fits_of false false true e a b c h = absurd cc

kind_tests : (plugin : ℕ) → (plugin ≡ 6) ⊎ (plugin ≡ 5) → ((plugin == 0) ≡ false) × ((plugin == 3) ≡ false) × ((plugin == 2) ≡ false)
kind_tests plugin (inl e) = (ap (λ (x : ℕ). x == 0) e, ap (λ (x : ℕ). x == 3) e, ap (λ (x : ℕ). x == 2) e)
kind_tests plugin (inr e) = (ap (λ (x : ℕ). x == 0) e, ap (λ (x : ℕ). x == 3) e, ap (λ (x : ℕ). x == 2) e)

offsets : (it : Item) → (it.plugin ≡ 6) ⊎ (it.plugin ≡ 5) → offsets_fit it ≡ true → slice_index it.key.el 3 + body_bytes it ≤ 2 ^ 64
offsets it kind h = let t = kind_tests it.plugin kind in leb-true _ _ (fits_of (it.plugin == 0) (it.plugin == 3) (it.plugin == 2) _ t.0 t.1 t.2 h)

end_of : (it : Item) → (it.plugin ≡ 6) ⊎ (it.plugin ≡ 5) → item_end it ≡ rank it.key + body_bytes it
unfolding item_end
end_of it kind = let t = kind_tests it.plugin kind in let a = t.0 in let c = t.1 in let b = t.2 in rw (a, c, b) refl

digits : (a b c d e f g h len : ℕ) → b < 2 ^ 64 → c < 2 ^ 64 → d < 2 ^ 64 → f < 2 ^ 64 → g < 2 ^ 64 → h < 2 ^ 64 → d + len ≤ 2 ^ 64
    → a * 2 ^ 192 + (b * 2 ^ 128 + (c * 2 ^ 64 + d)) ≤ e * 2 ^ 192 + (f * 2 ^ 128 + (g * 2 ^ 64 + h)) → e * 2 ^ 192 + (f * 2 ^ 128 + (g * 2 ^ 64 + h)) < a * 2 ^ 192 + (b * 2 ^ 128 + (c * 2 ^ 64 + d)) + len → (a ≡ e) × (b ≡ f) × (c ≡ g) × (h < d + len) × (d ≤ h)
digits a b c d e f g h len lb lc ld lf lg lh small from to =
    let x : a ≡ e = omega (arith, lb, lc, ld, lf, lg, lh, small, from, to) in
    let y : b ≡ f = omega (arith, x, lc, ld, lg, lh, small, from, to) in
    let z : c ≡ g = omega (arith, x, y, ld, lh, small, from, to) in
    (x, y, z, omega (arith, x, y, z, to), omega (arith, x, y, z, from))

pub has_byte : (it : Item) (key : Key) → IsKey it.key → IsKey key → HasAt it (rank key) → offsets_fit it ≡ true → HasByte it key
unfolding rank
has_byte it key ik kk h fit =
    let small = offsets it h.kind fit in
    let same = digits _ _ _ _ _ _ _ _ (body_bytes it) (ik.small 1) (ik.small 2) (ik.small 3) (kk.small 1) (kk.small 2) (kk.small 3) small h.from h.to in
    let last = same.3 in
    let first = same.4 in
    record { first = same.0; second = same.1; third = same.2; has = kinds h.kind first last }
  where
    kinds : (it.plugin ≡ 6) ⊎ (it.plugin ≡ 5) → slice_index it.key.el 3 ≤ slice_index key.el 3 → slice_index key.el 3 < slice_index it.key.el 3 + body_bytes it → ((it.plugin ≡ 6) × (slice_index key.el 3 - slice_index it.key.el 3 < length it.body)) ⊎ ((it.plugin ≡ 5) × ((slice_index key.el 3 - slice_index it.key.el 3) / 4096 < blocks_in (units_of it.body)))
    kinds (inl six) le lt = inl (six, let size = tail_bytes it six in omega (arith, le, lt, size))
    kinds (inr five) le lt = inr (five, let size = extent_bytes it five in omega (arith, le, lt, size))

-- ---- the last item whose key is not above the byte's

pub record HasFound (x : CellSeen) (key : Key) (count : ℕ) : Type 0 where
  pub place : ℕ
  pub item : Item
  pub is : slice_get (items_of x.block) place ≡ Some item
  pub last : place + 1 ≡ count
  pub byte : HasByte item key

module _ (x : CellSeen) (whole : length x.block ≡ 4096) (some : 1 ≤ x.level) (stands : StandsInMemory x) (key : Key) (kk : IsKey key) (count : ℕ) (up : AreUpTo (items_of x.block) (rank key) count) where
  items_good : items_in_fault true (2 ^ 64) x.level (rank x.lo) (rank x.hi) 0 (items_of x.block) ≡ None
  items_good = (node_at true (2 ^ 64) x.level (rank x.lo) (rank x.hi) x.block some stands).items

  pub fits_at : (i : ℕ) (it : Item) → slice_get (items_of x.block) i ≡ Some it → fits_level x.level it.plugin ≡ true
  fits_at i it is = plugins_at true (2 ^ 64) x.level (rank x.lo) (rank x.hi) x.block whole (node_at true (2 ^ 64) x.level (rank x.lo) (rank x.hi) x.block some stands) i it is

  found_at : (i : ℕ) (it : Item) → slice_get (items_of x.block) i ≡ Some it → HasAt it (rank key) → HasFound x key count
  found_at i it is h =
      let end = end_of it h.kind in
      let to = h.to in
      record {
        place = i;
        item = it;
        is = is;
        last = last_up_to (items_of x.block) (rank key) count i it up is h.from (λ y next. let b = ends_before x.level (rank x.lo) (rank x.hi) 0 (items_of x.block) i it y items_good is next in omega (arith, b, end, to));
        byte = has_byte it key (item_is_key x.block i it is) kk h (range_at x.level (rank x.lo) (rank x.hi) 0 (items_of x.block) i it items_good is);
      }

  -- the cell itself has it
  pub found_unit : (y : ℕ) → Contains (node_of x).units (rank key, Byte y) → HasFound x key count
  found_unit y h =
      let own : Contains (units_in (items_of x.block)) (rank key, Byte y) = subst (λ (us : List (ℕ × Value)). Contains us (rank key, Byte y)) (node_units x.level (rank x.lo) (rank x.hi) x.block some) h in
      let (i, it, is, has) = unit_item (items_of x.block) (rank key, Byte y) own in
      found_at i it is (byte_item x.level it (rank key) y (fits_at i it is) has)

  -- it names the block that has it
  pub found_block : (n : Name) → 2 ≤ x.level → n.level ≡ 0 → InName n (rank key) → Contains (node_of x).names n → HasFound x key count
  found_block n two low at h =
      let own : Contains (names_in x.level (rank x.hi) (items_of x.block)) n = subst (λ (ns : List Name). Contains ns n) (names_of x.level (rank x.lo) (rank x.hi) x.block some) h in
      let (i, it, next, is, has) = name_item x.level (rank x.hi) (items_of x.block) n own in
      found_at i it is (data_item x.level next it n (rank key) two low at has)

  module _ {n : ℕ} {image : Image} {m : Content} (c : HasContent n image m) (stored : c.store x.id ≡ Some (node_of x)) (from : rank x.lo ≤ rank key) (inside : rank key < rank x.hi) where
    within : InNode (node_of x) (rank key)
    within = let lo = lo_is x in let hi = hi_is x in (omega (arith, lo, from), omega (arith, hi, inside))

    in_twig : (y : ℕ) → x.level ≡ 2 → (s : Span) → Contains (node_of x).spans s → InSpan s (rank key) → UnitAt c.store (rank key) (Byte y) → HasFound x key count
    in_twig y two s cs at (j, d, tj, has) =
        let node = c.tree.nodes j d tj in
        let at_d = node.unit_in (rank key) (Byte y) has in
        let level = level_is x in
        elim (dec_le 1 d.level) [
          | no none ↦
              let (a, b, e, r, ta, lb, be, ei, ez, at_e, br, at_r, at_b) = block_twig c.store (root_of c.super) c.tree j d (rank key) tj (omega (arith, lt_of_not-le none)) at_d in
              let is : a ≡ x.id = c.tree.apart a x.id b (node_of x) (rank key) ta stored (omega (arith, lb, level, two)) (omega (arith, lb)) at_b within in
              let same : b ≡ node_of x = one_cell c.store x.id b (node_of x) (subst (λ (i : ℕ). c.store i ≡ Some b) is ta) stored in
              found_block e (omega (arith, two)) ez at_e (subst (λ (z : Node Value). Contains z.names e) same be)
          | yes one ↦ elim (node.unit_low (rank key) (Byte y) has) [
            | inl low ↦ absurd (c.tree.leaf_or_extent j x.id d (node_of x) s (rank key) tj stored (omega (arith, low, one)) cs at_d at)
            | inr span ↦
                let (r, dr, at_r) = span in
                let high = node.spans_in_twigs r dr in
                let is : j ≡ x.id = c.tree.apart j x.id d (node_of x) (rank key) tj stored (omega (arith, high, level, two)) one at_d within in
                let same : d ≡ node_of x = one_cell c.store x.id d (node_of x) (subst (λ (i : ℕ). c.store i ≡ Some d) is tj) stored in
                found_unit y (subst (λ (z : Node Value). Contains z.units (rank key, Byte y)) same has)
          ]
        ]

    pub found : (o : Target) (end : ℕ) → EndsAt x (rank key) → IsKeyOf o key → IsFileTo m o end → slice_index key.el 3 < end → HasFound x key count
    found o end ends is file below =
        let most = file.within in
        let (y, at) = whole_file n image m c o file.attr (slice_index key.el 3) file.stat file.file (omega (arith, below, most)) in
        let unit = subst (λ (k : ℕ). UnitAt c.store k (Byte y)) (sym (ap rank is)) (in_store c (byte_rank o (slice_index key.el 3)) (Byte y) at) in
        elim ends [
          | inl one ↦ found_unit y (leaf_holds c.store (root_of c.super) c.tree x.id (node_of x) (rank key) (Byte y) stored (level_is x ∙ one) within unit)
          | inr h ↦
              let (s, cs, at_s) = h in
              let two = (c.tree.nodes x.id (node_of x) stored).spans_in_twigs s cs in
              in_twig y (sym (level_is x) ∙ two) s cs at_s unit
        ]
