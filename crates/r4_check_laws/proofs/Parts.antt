-- Where the parts of bodies stand that a check has found: tails in leaves, extents in twigs.
use Rattle.std.proofs.Common.{◌≡◌, ◌⊎◌, inl, inr, ℕ, zero, suc, ◌^◌, ◌≤◌, Bool, true, false, cond, List, [], ◌∷◌, length, map, refl, sym, ap, subst, ◌∙◌, arith}
use Rattle.std.specs.Prelude.{Contains, None, ◌==◌}
use Rattle.std.specs.List.{flat_map}
use Rattle.std.proofs.lemmas.Bool.Decides.{nat_tests}
use Rattle.r4_base.specs.Cell.{cell_fault, cell_of, item_end}
use Rattle.r4_base.specs.Dir.{Entry as DirEntry, entries_of}
use Rattle.r4_base.specs.Extents.{blocks_in, units_of}
use Rattle.r4_base.specs.Node.{Item, PluginsFit, items_of}
use Rattle.r4_base.specs.Stat.{attr_of}
use Rattle.r4_base.specs.Tree.{IsNode, Node}
use Rattle.r4_base.specs.Value.{Value}
use Rattle.r4_branch.proofs.SoundItems.{IsExtentItem, extent_item}
use Rattle.r4_branch.proofs.Standing.{stand_lie as twig_lie}
use Rattle.r4_branch.specs.Items.{IsSoundItem as IsOfTwig, Lie as LieInTwig}
use Rattle.r4_check.proofs.r4_cell.Faults.{cell_still}
use Rattle.r4_check.proofs.r4_cell.NodesAt.{node_at, plugins_at}
use Rattle.r4_check.specs.Walk.{found_in}
use Rattle.r4_check_objects.specs.Held.{counted, facts_of, held_at, held_by, held_entry, held_in}
use Rattle.r4_check_objects.specs.declared.held.Held.{Held}
use Rattle.r4_check_objects.specs.declared.held.Thing.{Thing}
use Rattle.r4_check_objects.specs.declared.held.Thing.TheVariants.{Entry, Extent, Stat, Tail}
use Rattle.r4_leaf.proofs.SoundItems.{IsTailItem, tail_item}
use Rattle.r4_leaf.proofs.Standing.{stand_lie as leaf_lie}
use Rattle.r4_leaf.specs.Items.{IsSoundItem as IsOfLeaf, Lie as LieInLeaf}
use Rattle.r4_check_laws.proofs.Apart.{is_upper}
use Rattle.r4_check_laws.proofs.Lists.{either_in, here, later, none_in, one_of}
use Rattle.r4_check_laws.proofs.Pairs.{IsTail, dir_held, extent_held, extent_thing, pointer_held, stat_held, tail_held}
use Rattle.r4_check_laws.proofs.Stores.{Cells}

-- A cell that was read from a block in which it has no fault.
pub record IsRead (blocks : ℕ) (c : Node Value) : Type 0 where
  pub block : List ℕ
  pub whole : length block ≡ 4096
  pub sound : cell_fault false blocks c.level c.lo c.hi block ≡ None
  pub says : c ≡ cell_of c.level c.lo c.hi block
  pub node : IsNode c
  pub few : blocks ≤ 2 ^ 64

abbrev pub AreRead : (blocks : ℕ) → Cells → Type 0
AreRead blocks cells = (i : ℕ) (c : Node Value) → Contains cells (i, c) → IsRead blocks c

flat_member : {X Y : Type 0} (f : X → List Y) (xs : List X) (y : Y) → Contains (flat_map f xs) y → (x : X) × Contains xs x × Contains (f x) y
flat_member f [] y at = absurd (none_in y at)
flat_member f (x ∷ xs) y at = elim (either_in (f x) (flat_map f xs) y at) [
  | inl front ↦ (x, here x xs, front)
  | inr back ↦ let rest = flat_member f xs y back in (rest.0, later x xs rest.0 rest.1, rest.2)
]

pub leaf_sound : (from to : ℕ) (xs : List Item) → LieInLeaf from to xs → (x : Item) → Contains xs x → IsOfLeaf x
leaf_sound from to [] lie x at = absurd (none_in x at)
leaf_sound from to (y ∷ xs) lie x at = elim (one_of y xs x at) [
  | inl e ↦ subst IsOfLeaf e lie.1
  | inr more ↦ leaf_sound (item_end y) to xs lie.2 x more
]

pub twig_sound : (from to : ℕ) (xs : List Item) → LieInTwig from to xs → (x : Item) → Contains xs x → IsOfTwig x
twig_sound from to [] lie x at = absurd (none_in x at)
twig_sound from to (y ∷ xs) lie x at = elim (one_of y xs x at) [
  | inl e ↦ subst IsOfTwig e lie.1
  | inr more ↦ twig_sound (item_end y) to xs lie.2 x more
]

pub upper_pointers : (level : ℕ) (items : List Item) → 3 ≤ level → PluginsFit level items → (x : Item) → Contains items x → x.plugin ≡ 3
upper_pointers level [] high fits x at = absurd (none_in x at)
upper_pointers level (y ∷ items) high fits x at = elim (one_of y items x at) [
  | inl e ↦ subst (λ (z : Item). z.plugin ≡ 3) e (elim (is_upper level y.plugin (omega (arith, high)) (fits 0 y refl)) [
    | inl pointer ↦ pointer
    | inr extent ↦ let two = extent.0 in absurd (omega (arith, high, two))
  ])
  | inr more ↦ upper_pointers level items high (λ k. fits (suc k)) x more
]

-- the item by which something is held, of a leaf or of a twig
pub record HasItem (level i : ℕ) (b : List ℕ) (h : Held) : Type 0 where
  pub item : Item
  pub there : Contains (items_of b) item
  pub holds : Contains (held_by i item) h
  pub kind : ((level ≡ 1) × IsOfLeaf item) ⊎ ((level ≡ 2) × IsOfTwig item)

pub cell_held : (i level lo hi : ℕ) (b : List ℕ) → 1 ≤ level → held_in i (cell_of level lo hi b) ≡ flat_map (held_by i) (items_of b)
unfolding cell_of
cell_held i zero lo hi b some = absurd (omega (arith, some))
cell_held i (suc l) lo hi b some = let n : (suc l == 0) ≡ false = grind (arith, nat_tests) in ap (λ (t : Bool). cond t [] (flat_map (held_by i) (items_of b))) n

pub item_of_held : (blocks i level lo hi : ℕ) (b : List ℕ) → blocks ≤ 2 ^ 64 → length b ≡ 4096 → lo ≤ hi → cell_fault false blocks level lo hi b ≡ None → (h : Held) → Contains (held_in i (cell_of level lo hi b)) h → HasItem level i b h
unfolding cell_of
item_of_held blocks i zero lo hi b few whole order sound h at = absurd (none_in h at)
item_of_held blocks i (suc zero) lo hi b few whole order sound h at =
    let (x, has, holds) = flat_member (held_by i) (items_of b) h at in
    record { item = x; there = has; holds = holds; kind = inl (refl, leaf_sound lo hi (items_of b) (leaf_lie lo hi b (whole, cell_still false blocks (2 ^ 64) 1 lo hi b few sound) (inl order)) x has) }
item_of_held blocks i (suc (suc zero)) lo hi b few whole order sound h at =
    let (x, has, holds) = flat_member (held_by i) (items_of b) h at in
    record { item = x; there = has; holds = holds; kind = inr (refl, twig_sound lo hi (items_of b) (twig_lie lo hi b (whole, cell_still false blocks (2 ^ 64) 2 lo hi b few sound)) x has) }
item_of_held blocks i (suc (suc (suc l))) lo hi b few whole order sound h at =
    let (x, has, holds) = flat_member (held_by i) (items_of b) h (subst (λ (hs : List Held). Contains hs h) (cell_held i (suc (suc (suc l))) lo hi b (omega arith)) at) in
    let node = node_at false blocks (suc (suc (suc l))) lo hi b (omega arith) sound in
    let pointer = upper_pointers (suc (suc (suc l))) (items_of b) (omega arith) (plugins_at false blocks (suc (suc (suc l))) lo hi b whole node) x has in
    absurd (none_in h (subst (λ (hs : List Held). Contains hs h) (pointer_held i x pointer) holds))

-- ---- parts of bodies

-- the tail of a leaf by which a part is found
pub record IsTailPart (cells : Cells) (h : Held) (n : ℕ) : Type 0 where
  pub block : ℕ
  pub cell : Node Value
  pub there : Contains cells (block, cell)
  pub level : cell.level ≡ 1
  pub bytes : List ℕ
  pub says : cell ≡ cell_of cell.level cell.lo cell.hi bytes
  pub item : Item
  pub has : Contains (items_of bytes) item
  pub plugin : item.plugin ≡ 6
  pub key : h.key ≡ item.key
  pub long : n ≡ length item.body
  pub tail : IsTailItem item

-- the extent of a twig
pub record IsExtentPart (cells : Cells) (h : Held) (n : ℕ) : Type 0 where
  pub block : ℕ
  pub cell : Node Value
  pub there : Contains cells (block, cell)
  pub level : cell.level ≡ 2
  pub bytes : List ℕ
  pub says : cell ≡ cell_of cell.level cell.lo cell.hi bytes
  pub item : Item
  pub has : Contains (items_of bytes) item
  pub plugin : item.plugin ≡ 5
  pub key : h.key ≡ item.key
  pub long : n ≡ blocks_in (units_of item.body)
  pub extent : IsExtentItem item

pub found_member : (cells : Cells) (h : Held) → Contains (found_in cells) h → (i : ℕ) × (c : Node Value) × Contains cells (i, c) × Contains (held_in i c) h
found_member [] h at = absurd (none_in h at)
found_member (c ∷ cells) h at = elim (either_in (found_in cells) (held_in c.0 c.1) h at) [
  | inl front ↦ let (i, d, there, has) = found_member cells h front in (i, d, later c cells (i, d) there, has)
  | inr back ↦ (c.0, c.1, here c cells, back)
]

-- what was found, by its item
pub record IsFound (cells : Cells) (h : Held) : Type 0 where
  pub block : ℕ
  pub cell : Node Value
  pub there : Contains cells (block, cell)
  pub bytes : List ℕ
  pub says : cell ≡ cell_of cell.level cell.lo cell.hi bytes
  pub item : HasItem cell.level block bytes h

pub found_item : (blocks : ℕ) (cells : Cells) → AreRead blocks cells → (h : Held) → Contains (found_in cells) h → IsFound cells h
found_item blocks cells read h at =
    let (i, c, there, has) = found_member cells h at in
    let r = read i c there in
    let low = r.node.nonempty in
    record { block = i; cell = c; there = there; bytes = r.block; says = r.says; item = item_of_held blocks i c.level c.lo c.hi r.block r.few r.whole (omega (arith, low)) r.sound h (subst (λ (d : Node Value). Contains (held_in i d) h) r.says has) }

is_entry : Thing → Bool
is_entry (Stat f) = false
is_entry (Entry t) = true
is_entry (Tail n) = false
is_entry (Extent n) = false

entry_held : (b : ℕ) (es : List DirEntry) (h : Held) → Contains (map (held_entry b) es) h → is_entry h.thing ≡ true
unfolding is_entry
entry_held b [] h at = absurd (none_in h at)
entry_held b (e ∷ es) h at = elim (one_of (held_entry b e) (map (held_entry b) es) h at) [
  | inl is ↦ ap (λ (x : Held). is_entry x.thing) (sym is)
  | inr more ↦ entry_held b es h more
]

only_one : {X : Type 0} (x y : X) → Contains (x ∷ []) y → x ≡ y
only_one x y at = elim (one_of x [] y at) [ inl e ↦ e | inr more ↦ absurd (none_in y more) ]

-- what a found thing is, by the plugin of its item
thing_at : (h g : Held) → h ≡ g → h.thing ≡ g.thing
thing_at h g e = ap (λ (x : Held). x.thing) e

key_at : (h g : Held) → h ≡ g → h.key ≡ g.key
key_at h g e = ap (λ (x : Held). x.key) e

module _ (h : Held) (b : ℕ) (it : Item) (at : Contains (held_by b it) h) where
  stat_is : it.plugin ≡ 0 → held_at b it.key (Stat (facts_of (attr_of it.body))) ≡ h
  stat_is plugin = only_one (held_at b it.key (Stat (facts_of (attr_of it.body)))) h (subst (λ (hs : List Held). Contains hs h) (stat_held b it plugin) at)

  entry_is : it.plugin ≡ 2 → is_entry h.thing ≡ true
  entry_is plugin = entry_held b (entries_of it.key it.body) h (subst (λ (hs : List Held). Contains hs h) (dir_held b it plugin) at)

  no_pointer : it.plugin ≡ 3 → ⊥
  no_pointer plugin = none_in h (subst (λ (hs : List Held). Contains hs h) (pointer_held b it plugin) at)

  extent_is : it.plugin ≡ 5 → held_at b it.key (extent_thing it) ≡ h
  extent_is plugin = only_one (held_at b it.key (extent_thing it)) h (subst (λ (hs : List Held). Contains hs h) (extent_held b it plugin) at)

  tail_is : it.plugin ≡ 6 → held_at b it.key (Tail (length it.body)) ≡ h
  tail_is plugin =
      let other : IsTail it = record { no_stat = λ e. omega (arith, plugin, e); no_dir = λ e. omega (arith, plugin, e); no_pointer = λ e. omega (arith, plugin, e); no_extent = λ e. omega (arith, plugin, e) } in
      only_one (held_at b it.key (Tail (length it.body))) h (subst (λ (hs : List Held). Contains hs h) (tail_held b it other) at)

bytes_of : Thing → ℕ
bytes_of (Stat f) = 0
bytes_of (Entry t) = 0
bytes_of (Tail n) = n
bytes_of (Extent n) = 0

blocks_of : Thing → ℕ
blocks_of (Stat f) = 0
blocks_of (Entry t) = 0
blocks_of (Tail n) = 0
blocks_of (Extent n) = n

module _ (blocks : ℕ) (cells : Cells) (read : AreRead blocks cells) (h : Held) (n : ℕ) (at : Contains (found_in cells) h) where
  pub tail_part : h.thing ≡ Tail n → IsTailPart cells h n
  unfolding bytes_of is_entry
  tail_part is =
      let f = found_item blocks cells read h at in
      let it = f.item.item in
      let holds = f.item.holds in
      elim f.item.kind [
        | inl leaf ↦ elim leaf.1.plugin [
          | inl stat ↦ let e = thing_at _ h (stat_is h f.block it holds stat) in absurd (cc)
          | inr (inl dir) ↦ let e = entry_is h f.block it holds dir in let never = ap is_entry is in absurd (cc)
          | inr (inr tail) ↦
              let e = tail_is h f.block it holds tail in
              record {
                block = f.block;
                cell = f.cell;
                there = f.there;
                level = leaf.0;
                bytes = f.bytes;
                says = f.says;
                item = it;
                has = f.item.there;
                plugin = tail;
                key = sym (key_at _ h e);
                long = ap bytes_of (sym is ∙ sym (thing_at _ h e));
                tail = tail_item it tail leaf.1;
              }
        ]
        | inr twig ↦ elim twig.1.plugin [
          | inl pointer ↦ absurd (no_pointer h f.block it holds pointer)
          | inr extent ↦ let e = thing_at _ h (extent_is h f.block it holds extent) in absurd (cc)
        ]
      ]

  pub extent_part : h.thing ≡ Extent n → IsExtentPart cells h n
  unfolding blocks_of is_entry
  extent_part is =
      let f = found_item blocks cells read h at in
      let it = f.item.item in
      let holds = f.item.holds in
      elim f.item.kind [
        | inl leaf ↦ elim leaf.1.plugin [
          | inl stat ↦ let e = thing_at _ h (stat_is h f.block it holds stat) in absurd (cc)
          | inr (inl dir) ↦ let e = entry_is h f.block it holds dir in let never = ap is_entry is in absurd (cc)
          | inr (inr tail) ↦ let e = thing_at _ h (tail_is h f.block it holds tail) in absurd (cc)
        ]
        | inr twig ↦ elim twig.1.plugin [
          | inl pointer ↦ absurd (no_pointer h f.block it holds pointer)
          | inr extent ↦
              let e = extent_is h f.block it holds extent in
              let x = extent_item it extent twig.1 in
              let few = x.fits in
              let is_n : n ≡ counted (blocks_in (units_of it.body)) = ap blocks_of (sym is ∙ sym (thing_at _ h e)) in
              record {
                block = f.block;
                cell = f.cell;
                there = f.there;
                level = twig.0;
                bytes = f.bytes;
                says = f.says;
                item = it;
                has = f.item.there;
                plugin = extent;
                key = sym (key_at _ h e);
                long = omega (arith, is_n, few);
                extent = x;
              }
        ]
      ]

-- ---- the levels at which parts stand

module _ (blocks i : ℕ) (c : Node Value) (r : IsRead blocks c) (h : Held) (n : ℕ) (at : Contains (held_in i c) h) where
  item_here : HasItem c.level i r.block h
  item_here = let low = r.node.nonempty in item_of_held blocks i c.level c.lo c.hi r.block r.few r.whole (omega (arith, low)) r.sound h (subst (λ (d : Node Value). Contains (held_in i d) h) r.says at)

  pub tail_in_leaf : h.thing ≡ Tail n → c.level ≡ 1
  tail_in_leaf is =
      let f = item_here in
      elim f.kind [
        | inl leaf ↦ leaf.0
        | inr twig ↦ elim twig.1.plugin [
          | inl pointer ↦ absurd (no_pointer h i f.item f.holds pointer)
          | inr extent ↦ let e = thing_at _ h (extent_is h i f.item f.holds extent) in absurd (cc)
        ]
      ]

  pub extent_in_twig : h.thing ≡ Extent n → c.level ≡ 2
  unfolding is_entry
  extent_in_twig is =
      let f = item_here in
      elim f.kind [
        | inr twig ↦ twig.0
        | inl leaf ↦ elim leaf.1.plugin [
          | inl stat ↦ let e = thing_at _ h (stat_is h i f.item f.holds stat) in absurd (cc)
          | inr (inl dir) ↦ let e = entry_is h i f.item f.holds dir in let never = ap is_entry is in absurd (cc)
          | inr (inr tail) ↦ let e = thing_at _ h (tail_is h i f.item f.holds tail) in absurd (cc)
        ]
      ]
