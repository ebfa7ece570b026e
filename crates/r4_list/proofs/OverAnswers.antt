-- What a leaf says of a content, and where a content has nothing.
use Rattle.std.proofs.Common.{◌≡◌, ◌≢◌, ◌⊎◌, inl, inr, ℕ, zero, suc, ◌^◌, ◌<◌, ◌≤◌, Bool, true, false, not, List, refl, sym, ap, subst, ◌∙◌, arith}
use Rattle.std.specs.Prelude.{Option, Some, None, IfSome, IfNone, Result, Err, Contains, slice_get, nat_lt, bytes_eq, if◌then◌else◌}
use Rattle.std.specs.Bool.{Decides}
use Rattle.std.specs.Result.{IsErrAnd}
use Rattle.std.proofs.Math.Decide.{ℕ_discrete}
use Rattle.std.proofs.lemmas.Bool.{lt-ltb}
use Rattle.std.proofs.lemmas.Bool.Decides.{nat_tests}
use Rattle.std.proofs.lemmas.Option.{same_Some, slice_get_within}
use Rattle.std.proofs.lemmas.Slice.Eq.{bytes_eq-Decides}
use Rattle.r4_base.specs.Cell.{cell_fault, cell_of, item_units}
use Rattle.r4_base.specs.Image.{Image, block_at}
use Rattle.r4_base.specs.Key.{rank, least}
use Rattle.r4_base.specs.Name.{key_of_name}
use Rattle.r4_base.specs.Node.{Item, count_of, fits_level, item_at, item_fault, items_of, level_of, node_fault, offset_is_good, order_is_good, plugin_at}
use Rattle.r4_base.specs.Tree.{Node, UnitAt}
use Rattle.r4_base.specs.Value.{Content, Value, Stat, Entry, Byte, at_key}
use Rattle.r4_base.specs.Volume.{HasContent, stat_rank, root_of}
use Rattle.r4_base.specs.declared.items.Attr.{Attr}
use Rattle.r4_base.specs.declared.items.Target.{Target}
use Rattle.r4_base.specs.declared.node.NodeFault.TheVariants.{Offset, Plugin, Order}
use Rattle.r4_base.proofs.Trees.{leaf_holds}
use Rattle.r4_base.proofs.Visible.{in_cell}
use Rattle.r4_node40.proofs.Faults.{each_good, node_parts}
use Rattle.r4_node40.proofs.Laid.{get-items_of, length-items_of}
use Rattle.r4_cell.specs.Seen.{CellSeen, node_of}
use Rattle.r4_cell.proofs.NodesAt.{node_at}
use Rattle.r4_content.specs.Walk.{attr_at, attr_in, may_be_object, target_at, target_in}
use Rattle.r4_search.specs.Path.{EndsAt}
use Rattle.r4_cell.specs.declared.change.Root.{Root}
use Rattle.r4_search.specs.Pool.{PoolState}
use Rattle.r4_search.specs.declared.pool.FetchFault.{FetchFault}
use Rattle.r4_list.specs.Over.{FindsOver, IsUndamaged}
use Rattle.r4_list.proofs.Lookups.{handed}
use Rattle.r4_units.proofs.LeafUnits.{node_units}
use Rattle.r4_list.proofs.OverPaths.{IsStored, found_none, hi_is, level_is, lo_is}
use Rattle.r4_units.proofs.ItemUnits.{IsByte, bytes_are, entry_item, stat_item, unit_item}

-- ---- the units of a cell in which no stat data and no entry stand

abbrev pub IsSeen : Value → Type 0
IsSeen (Stat a) = Unit {0}
IsSeen (Entry n o) = Unit {0}
IsSeen (Byte x) = ⊥

not_seen : (v : Value) → IsSeen v → IsByte v → ⊥
not_seen (Stat a) s b = b
not_seen (Entry n o) s b = b
not_seen (Byte x) s b = s

item_tests : (b : List ℕ) (i : ℕ) → item_fault b i ≡ None → fits_level (level_of b) (plugin_at b i) ≡ true
unfolding item_fault
item_tests b i h = tests (offset_is_good b i) (fits_level (level_of b) (plugin_at b i)) (order_is_good b i) h
  where
    tests : (o p q : Bool) → (if not o then Some (Offset i) else if not p then Some (Plugin i) else if not q then Some (Order i) else None) ≡ None → p ≡ true
    tests false p q h = absurd cc
    tests true false q h = absurd cc
    tests true true q h = refl

-- the plugins of the items are those of the level
plugins_fit : (b : List ℕ) → node_fault b ≡ None → (i : ℕ) (it : Item) → slice_get (items_of b) i ≡ Some it → fits_level (level_of b) it.plugin ≡ true
unfolding item_at
plugins_fit b h i it e =
    let long = length-items_of b in
    let within = slice_get_within (items_of b) i it e in
    let lt : i < count_of b = omega (arith, long, within) in
    let is = same_Some (item_at (count_of b) b i) it (sym (get-items_of b (count_of b) i refl lt) ∙ e) in
    subst (λ (x : Item). fits_level (level_of b) x.plugin ≡ true) is (item_tests b i (each_good b (count_of b) 0 i (node_parts b h).1 (omega arith) (omega (arith, lt))))

twig_plugin : (level plugin : ℕ) → level ≡ 2 → fits_level level plugin ≡ true → (plugin ≡ 3) ⊎ (plugin ≡ 5)
twig_plugin level plugin two fits = grind (arith, nat_tests)

bytes_of_item : (it : Item) → (it.plugin ≡ 3) ⊎ (it.plugin ≡ 5) → (k : ℕ) (v : Value) → IsSeen v → Contains (item_units it) (k, v) → ⊥
bytes_of_item it is k (Stat a) s h =
    let plugin = (stat_item it k a h).plugin in
    elim is [
      | inl three ↦ absurd (omega (arith, plugin, three))
      | inr five ↦ absurd (omega (arith, plugin, five))
    ]
bytes_of_item it is k (Entry n o) s h =
    let plugin = (entry_item it k n o h).plugin in
    elim is [
      | inl three ↦ absurd (omega (arith, plugin, three))
      | inr five ↦ absurd (omega (arith, plugin, five))
    ]
bytes_of_item it is k (Byte x) s h = s

twig_units : (blocks level lo hi : ℕ) (b : List ℕ) → level ≡ 2 → cell_fault false blocks level lo hi b ≡ None → (k : ℕ) (v : Value) → IsSeen v → Contains (cell_of level lo hi b).units (k, v) → ⊥
twig_units blocks level lo hi b two sound k v s h =
    let at = node_at false blocks level lo hi b (omega (arith, two)) sound in
    let (i, it, e, u) = unit_item (items_of b) (k, v) (subst (λ (us : List (ℕ × Value)). Contains us (k, v)) (node_units level lo hi b (omega (arith, two))) h) in
    bytes_of_item it (twig_plugin (level_of b) it.plugin (at.level_is ∙ two) (plugins_fit b at.accepted i it e)) k v s u

block_units : (level lo hi : ℕ) (b : List ℕ) → level ≡ 0 → (k : ℕ) (v : Value) → IsSeen v → Contains (cell_of level lo hi b).units (k, v) → ⊥
unfolding cell_of
block_units zero lo hi b low k v s h = not_seen v s (bytes_are lo b (k, v) h)
block_units (suc l) lo hi b low k v s h = absurd (omega (arith, low))

-- ---- a stat or an entry is in the content where a cell has it

module _ {n : ℕ} {image : Image} {m : Content} (c : HasContent n image m) where
  pub in_content : (k : ℕ) (v : Value) → IsSeen v → UnitAt c.store k v → at_key m k ≡ Some v
  in_content k (Stat a) s u = (c.visible k (Stat a)).1 ((c.units k (Stat a)).1 u, λ p. p)
  in_content k (Entry n o) s u = (c.visible k (Entry n o)).1 ((c.units k (Entry n o)).1 u, λ p. p)
  in_content k (Byte x) s u = absurd s

  pub in_store : (k : ℕ) (v : Value) → at_key m k ≡ Some v → UnitAt c.store k v
  in_store k v e = (c.units k v).0 ((c.visible k v).0 e).0

  -- only leaves have stat data and entries
  in_leaf : (j : ℕ) (d : Node Value) (k : ℕ) (v : Value) → c.store j ≡ Some d → IsSeen v → Contains d.units (k, v) → d.level ≡ 1
  in_leaf j d k v e s h =
      let is = c.cells j d e in
      let has = subst (λ (x : Node Value). Contains x.units (k, v)) is.says h in
      let node = c.tree.nodes j d e in
      elim (ℕ_discrete d.level 0) [
        | yes low ↦ absurd (block_units d.level d.lo d.hi (block_at image j) low k v s has)
        | no some ↦ elim (ℕ_discrete d.level 2) [
          | yes two ↦ absurd (twig_units c.super.block_count d.level d.lo d.hi (block_at image j) two is.sound k v s has)
          | no other ↦ elim (node.unit_low k v h) [
            | inl low ↦ omega (arith, low, some)
            | inr span ↦ let (t, dt, _) = span in absurd (other (node.spans_in_twigs t dt))
          ]
        ]
      ]

  pub none_outside : (k : ℕ) (v : Value) → at_key m k ≡ Some v → least ≤ k
  none_outside k v e = let (_, _, _, _, _, low, _) = in_cell n image m c k v e in low

  -- ---- a cell of the store, and a key in its range

  module _ (x : CellSeen) (is : IsStored c.store x) (k : ℕ) where
    pub leaf_says : (v : Value) → IsSeen v → Contains (node_of x).units (k, v) → at_key m k ≡ Some v
    leaf_says v s h = in_content k v s (x.id, node_of x, is, h)

    pub leaf_has : (v : Value) → x.level ≡ 1 → rank x.lo ≤ k → k < rank x.hi → at_key m k ≡ Some v → Contains (node_of x).units (k, v)
    leaf_has v one from to e =
        leaf_holds c.store (root_of c.super) c.tree x.id (node_of x) k v is (level_is x ∙ one) (subst (λ (l : ℕ). l ≤ k) (sym (lo_is x)) from, subst (λ (h : ℕ). k < h) (sym (hi_is x)) to) (in_store k v e)

    -- where a way ends at no leaf, the key has no stat data and no entry
    pub none_at : (v : Value) → IsSeen v → EndsAt x k → x.level ≢ 1 → at_key m k ≡ Some v → ⊥
    none_at v s (inl one) other e = other one
    none_at v s (inr (t, xt, at)) other e =
        let (j, d, dj, has) = in_store k v e in
        c.tree.leaf_or_extent j x.id d (node_of x) t k dj is (in_leaf j d k v dj s has) xt ((c.tree.nodes j d dj).unit_in k v has) at

  -- ---- attributes and targets

  pub attr_some : (o : Target) (a : Attr) → may_be_object o ≡ true → at_key m (stat_rank o) ≡ Some (Stat a) → Some a ≡ attr_at m o
  attr_some o a may e = rw (may, e) refl

  pub attr_none : (o : Target) → ((a : Attr) → at_key m (stat_rank o) ≡ Some (Stat a) → ⊥) → None ≡ attr_at m o
  attr_none o none = by_object (may_be_object o) (at_key m (stat_rank o)) none
    where
      by_object : (t : Bool) (u : Option Value) → ((a : Attr) → u ≡ Some (Stat a) → ⊥) → None ≡ (if t then attr_in u else None)
      by_object false u none = refl
      by_object true None none = refl
      by_object true (Some (Stat a)) none = absurd (none a refl)
      by_object true (Some (Entry n o)) none = refl
      by_object true (Some (Byte x)) none = refl

  pub target_some : (dir : ℕ) (name : List ℕ) (o : Target) → dir < 2 ^ 60 → at_key m (rank (key_of_name dir name)) ≡ Some (Entry name o) → Some o ≡ target_at m dir name
  target_some dir name o small e =
      let t = lt-ltb dir (2 ^ 60) small in
      let same : bytes_eq name name ≡ true = (bytes_eq-Decides name name).1 refl in
      rw (t, e, same) refl

  pub target_none : (dir : ℕ) (name : List ℕ) → ((o : Target) → at_key m (rank (key_of_name dir name)) ≡ Some (Entry name o) → ⊥) → None ≡ target_at m dir name
  target_none dir name none = by_dir (nat_lt dir (2 ^ 60)) (at_key m (rank (key_of_name dir name))) none
    where
      by_name : (s : List ℕ) (o : Target) (t : Bool) → Decides t (s ≡ name) → ((p : Target) → Some (Entry s o) ≡ Some (Entry name p) → ⊥) → None ≡ (if t then Some o else None)
      by_name s o true same none = absurd (none o (ap (λ (x : List ℕ). Some (Entry x o)) (same.0 refl)))
      by_name s o false other none = refl

      by_dir : (t : Bool) (u : Option Value) → ((o : Target) → u ≡ Some (Entry name o) → ⊥) → None ≡ (if t then target_in name u else None)
      by_dir false u none = refl
      by_dir true None none = refl
      by_dir true (Some (Stat a)) none = refl
      by_dir true (Some (Entry s o)) none = by_name s o (bytes_eq s name) (bytes_eq-Decides s name) none
      by_dir true (Some (Byte x)) none = refl

  module _ (x : CellSeen) (is : IsStored c.store x) (one : x.level ≡ 1) where
    pub attr_read : (o : Target) (r : Option Attr) → may_be_object o ≡ true → rank x.lo ≤ stat_rank o → stat_rank o < rank x.hi
        → IfSome r (λ a. Contains (node_of x).units (stat_rank o, Stat a)) → IfNone r ((a : Attr) → Contains (node_of x).units (stat_rank o, Stat a) → ⊥) → r ≡ attr_at m o
    attr_read o (Some a) may from to some none = attr_some o a may (leaf_says x is (stat_rank o) (Stat a) tt some)
    attr_read o None may from to some none = attr_none o (λ a e. none a (leaf_has x is (stat_rank o) (Stat a) one from to e))

    pub target_read : (dir : ℕ) (name : List ℕ) (r : Option Target) → dir < 2 ^ 60 → rank x.lo ≤ rank (key_of_name dir name) → rank (key_of_name dir name) < rank x.hi
        → IfSome r (λ t. Contains (node_of x).units (rank (key_of_name dir name), Entry name t)) → IfNone r ((t : Target) → Contains (node_of x).units (rank (key_of_name dir name), Entry name t) → ⊥) → r ≡ target_at m dir name
    target_read dir name (Some t) small from to some none = target_some dir name t small (leaf_says x is (rank (key_of_name dir name)) (Entry name t) tt some)
    target_read dir name None small from to some none = target_none dir name (λ t e. none t (leaf_has x is (rank (key_of_name dir name)) (Entry name t) one from to e))

-- what was found before an error that a `?` hands on
pub over_handed : {S T : Type 0} {n : ℕ} {image : Image} {m : Content} (c : HasContent n image m) (root : Root) (new : PoolState) (P : S → Type 0) (Q : T → Type 0) (e : FetchFault) (r : Result T FetchFault) → FindsOver c root (Err e) new P → IsErrAnd r (λ y. y ≡ e) → FindsOver c root r new Q
over_handed {S} {T} {n} {image} {m} c root new P Q e r f is = record { over = f.over; found = found_none Q r e is; undamaged = handed IsUndamaged r e is f.undamaged }
