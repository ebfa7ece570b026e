-- What stands in a leaf under a key, and that nothing else does.
use Rattle.std.proofs.Common.{◌≡◌, ◌≢◌, ℕ, zero, suc, ◌+◌, ◌^◌, ◌≤◌, Bool, true, false, not, List, length, refl, sym, ap, subst, ◌∙◌, arith}
use Rattle.std.specs.Prelude.{Option, Some, None, IfNone, All, Contains, Result, Ok, Err, slice_get, ◌==◌, if◌then◌else◌}
use Rattle.std.specs.Option.{option_map}
use Rattle.std.specs.Borrow.{Bor}
use Rattle.std.proofs.lemmas.List.Elements.{All-contains}
use Rattle.std.proofs.lemmas.Option.{same_Some}
use Rattle.r4_base.specs.Cell.{cell_of, fault_in, item_body_fault, item_units, units_in}
use Rattle.r4_base.specs.Dir.{Entry as DirEntry, dir_fault, entries_of}
use Rattle.r4_base.specs.Key.{IsKey, rank}
use Rattle.r4_base.specs.Node.{Item, items_of}
use Rattle.r4_base.specs.Stat.{attr_of, kind_is_good, mask_is_good, stat_of}
use Rattle.r4_base.specs.Value.{Value, Stat, Entry}
use Rattle.r4_base.specs.declared.items.Attr.{Attr}
use Rattle.r4_base.specs.declared.items.Target.{Target}
use Rattle.r4_base.specs.declared.items.StatFault.{StatFault}
use Rattle.r4_base.specs.declared.items.StatFault.TheVariants.{Mask, Length, Kind}
use Rattle.r4_base.specs.declared.items.CellFault.TheVariants.{Stat as StatData}
use Rattle.r4_base.specs.declared.key.Key.{Key}
use Rattle.r4_base.proofs.Keys.{equal}
use Rattle.r4_cde.specs.Shown.{view_body, view_entries, view_key}
use Rattle.r4_cde.specs.declared.view.DirView.{DirView}
use Rattle.r4_search.specs.r4_cell.Seen.{CellSeen, node_of}
use Rattle.r4_search.proofs.r4_cell.NodesAt.{node_at}
use Rattle.r4_units.specs.Leaf.{AreUpTo}
use Rattle.r4_search.specs.Pool.{StandsInMemory}
use Rattle.r4_units.proofs.Leaves.{body_of, dir_good, keys_rise}
use Rattle.r4_units.proofs.Rising.{rises}
use Rattle.r4_units.proofs.ItemUnits.{at_place, dir_unit, ends_before, entry_is_key, entry_item, entry_within, item_unit, last_up_to, one_entry, stat_item, stat_unit, unit_item}

pub node_units : (level lo hi : ℕ) (b : List ℕ) → 1 ≤ level → (cell_of level lo hi b).units ≡ units_in (items_of b)
unfolding cell_of
node_units zero lo hi b some = absurd (omega (arith, some))
node_units (suc l) lo hi b some = refl

abbrev tested : (m l k : Bool) → Attr → Result Attr StatFault
tested m l k r = if not m then Err Mask else if not l then Err Length else if not k then Err Kind else Ok r

attr_by : (m l k : Bool) (r a : Attr) → tested m l k r ≡ Ok a → a ≡ r
attr_by false l k r a h = absurd cc
attr_by true false k r a h = absurd cc
attr_by true true false r a h = absurd cc
attr_by true true true r a h = cc

attr_is : (b : List ℕ) (a : Attr) → stat_of b ≡ Ok a → a ≡ attr_of b
unfolding stat_of
attr_is b a h = attr_by (mask_is_good b) (length b == 44) (kind_is_good (attr_of b).mode) (attr_of b) a h

none_of_stat : (f : Option StatFault) → option_map StatData f ≡ None → f ≡ None
none_of_stat None h = refl
none_of_stat (Some f) h = absurd cc

stat_good : (it : Item) → it.plugin ≡ 0 → item_body_fault true (2 ^ 64) it ≡ None → fault_in (stat_of it.body) ≡ None
unfolding item_body_fault
stat_good it is h =
    let a : (it.plugin == 0) ≡ true = ap (λ (x : ℕ). x == 0) is in
    let fault : item_body_fault true (2 ^ 64) it ≡ option_map StatData (fault_in (stat_of it.body)) = rw a refl in
    none_of_stat _ (sym fault ∙ h)

pub if_none : {T : Type 0} (r : Option T) {P : Type 0} → P → IfNone r P
if_none {T} None {P} p = p
if_none {T} (Some x) {P} p = tt

pub same_item : {A : Type 0} (xs : List A) (i j : ℕ) (x y : A) → slice_get xs i ≡ Some x → slice_get xs j ≡ Some y → j + 1 ≡ i + 1 → x ≡ y
same_item {A} xs i j x y ex ey same =
    let e : j ≡ i = omega (arith, same) in
    same_Some x y (sym ex ∙ (ap (slice_get xs) (sym e) ∙ ey))

-- the entries that a view of an item shows
pub entries_same : (v : DirView) (k : Key) (b : Bor (List ℕ)) → view_body v ≡ b → view_key v ≡ k → view_entries v ≡ entries_of k b.now
entries_same v k b body key = ap (λ (x : Key). entries_of x v.body.now) key ∙ ap (λ (x : Bor (List ℕ)). entries_of k x.now) body

pub not_found : (item : Key) (b : List ℕ) (key : Key) → IsKey item → IsKey key → All (λ (e : DirEntry). e.key ≢ key) (entries_of item b) → (j : ℕ) (e : DirEntry) → slice_get (entries_of item b) j ≡ Some e → rank e.key ≡ rank key → ⊥
not_found item b key ik kk all j e at same = All-contains (λ (e : DirEntry). e.key ≢ key) (entries_of item b) e all (at_place (entries_of item b) j e at) (equal e.key key (entry_is_key item b j e ik at) kk same)

pub found_key : (es : List DirEntry) (i : ℕ) (e : DirEntry) (k : Key) → slice_get es i ≡ Some e → option_map (λ (x : DirEntry). x.key) (slice_get es i) ≡ Some k → e.key ≡ k
found_key es i e k at h = same_Some e.key k (sym (ap (option_map (λ (x : DirEntry). x.key)) at) ∙ h)

module _ (x : CellSeen) (whole : length x.block ≡ 4096) (leaf : x.level ≡ 1) (stands : StandsInMemory x) where
  some : 1 ≤ x.level
  some = omega (arith, leaf)

  units_are : (node_of x).units ≡ units_in (items_of x.block)
  units_are = node_units x.level (rank x.lo) (rank x.hi) x.block some

  has_unit : (u : ℕ × Value) (i : ℕ) (it : Item) → slice_get (items_of x.block) i ≡ Some it → Contains (item_units it) u → Contains (node_of x).units u
  has_unit u i it is h = subst (λ (us : List (ℕ × Value)). Contains us u) (sym units_are) (item_unit (items_of x.block) i it u is h)

  has_item : (u : ℕ × Value) → Contains (node_of x).units u → (i : ℕ) × (it : Item) × (slice_get (items_of x.block) i ≡ Some it) × Contains (item_units it) u
  has_item u h = unit_item (items_of x.block) u (subst (λ (us : List (ℕ × Value)). Contains us u) units_are h)

  pub stat_found : (key i : ℕ) (it : Item) (a : Attr) → slice_get (items_of x.block) i ≡ Some it → it.plugin ≡ 0 → rank it.key ≡ key → stat_of it.body ≡ Ok a → Contains (node_of x).units (key, Stat a)
  stat_found key i it a is plugin same says =
      subst (λ (b : Attr). Contains (node_of x).units (key, Stat b)) (sym (attr_is it.body a says))
      (subst (λ (k : ℕ). Contains (node_of x).units (k, Stat (attr_of it.body))) same (has_unit (rank it.key, Stat (attr_of it.body)) i it is (stat_unit it plugin)))

  pub stat_accepted : (i : ℕ) (it : Item) (e : StatFault) → slice_get (items_of x.block) i ≡ Some it → it.plugin ≡ 0 → stat_of it.body ≡ Err e → ⊥
  stat_accepted i it e is plugin says = no_fault e (sym (ap fault_in says) ∙ stat_good it plugin (body_of x i it some stands is))
    where
      no_fault : (e : StatFault) → Some e ≡ None → ⊥
      no_fault e h = cc

  pub no_stat : (key n : ℕ) → AreUpTo (items_of x.block) key n → ((i : ℕ) (it : Item) → i + 1 ≡ n → slice_get (items_of x.block) i ≡ Some it → it.plugin ≡ 0 → rank it.key ≡ key → ⊥) → (a : Attr) → Contains (node_of x).units (key, Stat a) → ⊥
  no_stat key n up none a h =
      let (i, it, is, u) = has_item (key, Stat a) h in
      let s = stat_item it key a u in
      let k = s.key in
      let rise = keys_rise x whole some stands in
      none i it (last_up_to (items_of x.block) key n i it up is (omega (arith, k)) (λ y next. let lt = rises (items_of x.block) rise i (i + 1) it y is next (omega arith) in omega (arith, lt, k))) is s.plugin (sym k)

  pub dir_accepted : (i : ℕ) (it : Item) → slice_get (items_of x.block) i ≡ Some it → it.plugin ≡ 2 → dir_fault it.key it.body ≡ None
  dir_accepted i it is plugin = dir_good it plugin (body_of x i it some stands is)

  pub entry_found : (key i j : ℕ) (it : Item) (e : DirEntry) → slice_get (items_of x.block) i ≡ Some it → it.plugin ≡ 2 → slice_get (entries_of it.key it.body) j ≡ Some e → rank e.key ≡ key → Contains (node_of x).units (key, Entry e.name e.target)
  entry_found key i j it e is plugin at same =
      subst (λ (k : ℕ). Contains (node_of x).units (k, Entry e.name e.target)) same (has_unit (rank e.key, Entry e.name e.target) i it is (dir_unit it j e plugin at))

  pub no_entry : (key n : ℕ) (name : List ℕ) → AreUpTo (items_of x.block) key n
      → ((i j : ℕ) (it : Item) (e : DirEntry) → i + 1 ≡ n → slice_get (items_of x.block) i ≡ Some it → it.plugin ≡ 2 → slice_get (entries_of it.key it.body) j ≡ Some e → rank e.key ≡ key → e.name ≡ name → ⊥)
      → (t : Target) → Contains (node_of x).units (key, Entry name t) → ⊥
  no_entry key n name up none t h =
      let (i, it, is, u) = has_item (key, Entry name t) h in
      let s = entry_item it key name t u in
      let k = s.key in
      let (from, to) = entry_within it s.at s.entry s.plugin (dir_accepted i it is s.plugin) s.is in
      let items = (node_at true (2 ^ 64) x.level (rank x.lo) (rank x.hi) x.block some stands).items in
      let last = last_up_to (items_of x.block) key n i it up is (omega (arith, k, from)) (λ y next. let end = ends_before x.level (rank x.lo) (rank x.hi) 0 (items_of x.block) i it y items is next in omega (arith, to, end, k)) in
      none i s.at it s.entry last is s.plugin s.is k s.named

  -- ---- what is read of an item of the leaf

  pub stat_read_some : (key i : ℕ) (it : Item) (r : Result Attr StatFault) → slice_get (items_of x.block) i ≡ Some it → it.plugin ≡ 0 → rank it.key ≡ key → r ≡ stat_of it.body → (a : Attr) → r ≡ Ok a → Contains (node_of x).units (key, Stat a)
  stat_read_some key i it r is plugin same says a ok = stat_found key i it a is plugin same (sym says ∙ ok)

  pub stat_read_none : (i : ℕ) (it : Item) (r : Result Attr StatFault) → slice_get (items_of x.block) i ≡ Some it → it.plugin ≡ 0 → r ≡ stat_of it.body → (e : StatFault) → r ≡ Err e → ⊥
  stat_read_none i it r is plugin says e err = stat_accepted i it e is plugin (sym says ∙ err)

  -- the entry of a key is the one that was found
  pub no_other_entry : (key i f : ℕ) (name : List ℕ) (it : Item) (found : DirEntry) → AreUpTo (items_of x.block) key (i + 1) → slice_get (items_of x.block) i ≡ Some it → it.plugin ≡ 2
      → slice_get (entries_of it.key it.body) f ≡ Some found → rank found.key ≡ key → (found.name ≡ name → ⊥) → (t : Target) → Contains (node_of x).units (key, Entry name t) → ⊥
  no_other_entry key i f name it found up is plugin at same other = no_entry key (i + 1) name up (λ j g jt e last at_j dir at_g k named.
      let one = same_item (items_of x.block) i j it jt is at_j last in
      let at_e = subst (λ (z : Item). slice_get (entries_of z.key z.body) g ≡ Some e) (sym one) at_g in
      let place = one_entry it.key it.body f g found e (dir_accepted i it is plugin) at at_e (same ∙ sym k) in
      let same_e = same_Some found e (sym at ∙ (ap (slice_get (entries_of it.key it.body)) place ∙ at_e)) in
      other (ap (λ (z : DirEntry). z.name) same_e ∙ named))
