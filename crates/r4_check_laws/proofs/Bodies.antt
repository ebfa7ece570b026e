-- Which units the parts of bodies are: tails have bytes in leaves, extents in twigs and in the blocks that they name.
use Rattle.std.proofs.Common.{◌≡◌, ◌⊎◌, inl, inr, ℕ, zero, suc, ◌+◌, ◌*◌, ◌-◌, ◌^◌, ◌<◌, ◌≤◌, ◌≢◌, Bool, true, false, List, [], ◌∷◌, length, map, refl, sym, ap, subst, arith}
use Rattle.std.specs.Prelude.{Contains, None, Some, Option, ◌==◌, if◌then◌else◌}
use Rattle.std.specs.List.{flat_map}
use Rattle.std.proofs.lemmas.Bool.{cases_eq, cases_lt}
use Rattle.r4_base.specs.Cell.{block_names, bytes_from, cell_fault, cell_of, entry_unit, hole_bytes, item_names, item_units, names_in, next_key, pointer_names, run_names, units_in, zeros_from}
use Rattle.r4_base.specs.Dir.{Entry as DirEntry, entries_of}
use Rattle.r4_base.specs.Extents.{blocks_in, is_hole, pointer_of, units_of}
use Rattle.r4_base.specs.Key.{rank}
use Rattle.r4_base.specs.Node.{Item, items_of}
use Rattle.r4_base.specs.Stat.{attr_of}
use Rattle.r4_base.specs.Tree.{Name, Node}
use Rattle.r4_base.specs.Value.{Byte, Stat as StatValue, Value}
use Rattle.r4_base.specs.declared.items.Unit.{Unit as ExtentUnit}
use Rattle.r4_branch.proofs.SoundItems.{extent_item}
use Rattle.r4_branch.specs.Items.{IsSoundItem as IsOfTwig}
use Rattle.r4_branch.proofs.Standing.{stand_lie as twig_lie}
use Rattle.r4_check.proofs.r4_cell.Faults.{cell_still}
use Rattle.r4_check.proofs.r4_cell.ItemRows.{extent_row}
use Rattle.r4_check.proofs.r4_cell.NodesAt.{node_at, plugins_at}
use Rattle.r4_check.specs.Walk.{found_in}
use Rattle.r4_check_objects.specs.Held.{counted, held_at, held_by, held_in}
use Rattle.r4_check_objects.specs.declared.held.Held.{Held}
use Rattle.r4_check_objects.specs.declared.held.Thing.TheVariants.{Extent, Tail}
use Rattle.r4_leaf.proofs.Standing.{stand_lie as leaf_lie}
use Rattle.r4_check_laws.proofs.Contents.{Units, is_named}
use Rattle.r4_check_laws.proofs.Lists.{either_in, here, in_back, in_front, later, none_in, one_of}
use Rattle.r4_check_laws.proofs.Pairs.{IsTail, dir_units, extent_held, extent_thing, extent_units, pointer_units, stat_units, tail_held, tail_units}
use Rattle.r4_check_laws.proofs.Parts.{AreRead, IsRead, cell_held, extent_part, leaf_sound, tail_part, twig_sound, upper_pointers}
use Rattle.r4_check_laws.proofs.Stores.{Cells}
use Rattle.r4_check_laws.proofs.Trees.{AreLinked}

-- ---- bytes, zeros and blocks, by their keys

byte_at : (key : ℕ) (s : List ℕ) (k : ℕ) → key ≤ k → k < key + length s → (x : ℕ) × Contains (bytes_from key s) (k, Byte x)
byte_at key [] k low lt = absurd (omega (arith, low, lt))
byte_at key (x ∷ s) k low lt = elim (cases_eq key k) [
  | inl is ↦ (x, subst (λ (j : ℕ). Contains ((key, Byte x) ∷ bytes_from (key + 1) s) (j, Byte x)) is (here (key, Byte x) (bytes_from (key + 1) s)))
  | inr other ↦ let rest = byte_at (key + 1) s k (let ne : key ≢ k = other in omega (arith, low)) (omega (arith, lt)) in (rest.0, later (key, Byte x) (bytes_from (key + 1) s) (k, Byte rest.0) rest.1)
]

zero_at : (key n k : ℕ) → key ≤ k → k < key + n → Contains (zeros_from key n) (k, Byte 0)
zero_at key zero k low lt = absurd (omega (arith, low, lt))
zero_at key (suc n) k low lt = elim (cases_eq key k) [
  | inl is ↦ subst (λ (j : ℕ). Contains ((key, Byte 0) ∷ zeros_from (key + 1) n) (j, Byte 0)) is (here (key, Byte 0) (zeros_from (key + 1) n))
  | inr other ↦ later (key, Byte 0) (zeros_from (key + 1) n) (k, Byte 0) (zero_at (key + 1) n k (let ne : key ≢ k = other in omega (arith, low)) (omega (arith, lt)))
]

bytes_within : (key : ℕ) (s : List ℕ) (u : ℕ × Value) → Contains (bytes_from key s) u → (key ≤ u.0) × (u.0 < key + length s)
bytes_within key [] u at = absurd (none_in u at)
bytes_within key (x ∷ s) u at = elim (one_of (key, Byte x) (bytes_from (key + 1) s) u at) [
  | inl e ↦ let is = ap (λ (p : ℕ × Value). p.0) e in (omega (arith, is), omega (arith, is))
  | inr more ↦ let rest = bytes_within (key + 1) s u more in let a = rest.0 in let b = rest.1 in (omega (arith, a), omega (arith, b))
]

-- the name of a data block
abbrev block_name : (id lo : ℕ) → Name
block_name id lo = record { id = id; level = 0; lo = lo; hi = lo + 4096 }

-- a block of these names has the key
abbrev HasBlock : List Name → ℕ → Type 0
HasBlock names k = (id : ℕ) × (lo : ℕ) × Contains names (block_name id lo) × (lo ≤ k) × (k < lo + 4096)

run_block : (key start width k : ℕ) → key ≤ k → k < key + 4096 * width → HasBlock (run_names key start width) k
run_block key start zero k low lt = absurd (omega (arith, low, lt))
run_block key start (suc w) k low lt = elim (cases_lt k (key + 4096)) [
  | inl near ↦ (start, key, here (block_name start key) (run_names (key + 4096) (start + 1) w), low, near)
  | inr far ↦ let (id, lo, at, a, b) = run_block (key + 4096) (start + 1) w k far (omega (arith, lt)) in (id, lo, later (block_name start key) (run_names (key + 4096) (start + 1) w) (block_name id lo) at, a, b)
]

unit_has : (key : ℕ) (u : ExtentUnit) (hole : Bool) (k : ℕ) → key ≤ k → k < key + 4096 * u.width
    → HasBlock (if hole then [] else run_names key u.start u.width) k ⊎ Contains (if hole then zeros_from key (4096 * u.width) else []) (k, Byte 0)
unit_has key u true k low lt = inr (zero_at key (4096 * u.width) k low lt)
unit_has key u false k low lt = inl (run_block key u.start u.width k low lt)

-- each key of an extent lies in a block or has a zero
pub units_have : (key : ℕ) (us : List ExtentUnit) (k : ℕ) → key ≤ k → k < key + 4096 * blocks_in us → HasBlock (block_names key us) k ⊎ Contains (hole_bytes key us) (k, Byte 0)
units_have key [] k low lt = absurd (omega (arith, low, lt))
units_have key (u ∷ us) k low lt = elim (cases_lt k (key + 4096 * u.width)) [
  | inl near ↦ elim (unit_has key u (is_hole u) k low near) [
    | inl block ↦ let (id, lo, at, a, b) = block in inl (id, lo, in_front (if is_hole u then [] else run_names key u.start u.width) (block_names (key + 4096 * u.width) us) (block_name id lo) at, a, b)
    | inr zero_there ↦ inr (in_front (if is_hole u then zeros_from key (4096 * u.width) else []) (hole_bytes (key + 4096 * u.width) us) (k, Byte 0) zero_there)
  ]
  | inr far ↦ elim (units_have (key + 4096 * u.width) us k far (omega (arith, lt))) [
    | inl block ↦ let (id, lo, at, a, b) = block in inl (id, lo, in_back (if is_hole u then [] else run_names key u.start u.width) (block_names (key + 4096 * u.width) us) (block_name id lo) at, a, b)
    | inr zero_there ↦ inr (in_back (if is_hole u then zeros_from key (4096 * u.width) else []) (hole_bytes (key + 4096 * u.width) us) (k, Byte 0) zero_there)
  ]
]

-- ---- items among others

units_of_item : (items : List Item) (it : Item) (u : ℕ × Value) → Contains items it → Contains (item_units it) u → Contains (units_in items) u
unfolding units_in
units_of_item [] it u at has = absurd (none_in it at)
units_of_item (x ∷ items) it u at has = elim (one_of x items it at) [
  | inl e ↦ in_front (item_units x) (units_in items) u (subst (λ (y : Item). Contains (item_units y) u) (sym e) has)
  | inr more ↦ in_back (item_units x) (units_in items) u (units_of_item items it u more has)
]

item_of_unit : (items : List Item) (u : ℕ × Value) → Contains (units_in items) u → (it : Item) × Contains items it × Contains (item_units it) u
unfolding units_in
item_of_unit [] u at = absurd (none_in u at)
item_of_unit (x ∷ items) u at = elim (either_in (item_units x) (units_in items) u at) [
  | inl front ↦ (x, here x items, front)
  | inr back ↦ let (it, has, units) = item_of_unit items u back in (it, later x items it has, units)
]

item_of_name : (level hi : ℕ) (items : List Item) (n : Name) → Contains (names_in level hi items) n → (it : Item) × (next : ℕ) × Contains items it × Contains (item_names level next it) n
unfolding names_in
item_of_name level hi [] n at = absurd (none_in n at)
item_of_name level hi (x ∷ items) n at = elim (either_in (item_names level (next_key hi items) x) (names_in level hi items) n at) [
  | inl front ↦ (x, next_key hi items, here x items, front)
  | inr back ↦ let (it, next, has, names) = item_of_name level hi items n back in (it, next, later x items it has, names)
]

-- what an extent names does not turn on the item behind it
pub names_of_extent : (level next : ℕ) (it : Item) → it.plugin ≡ 5 → item_names level next it ≡ block_names (rank it.key) (units_of it.body)
unfolding item_names
names_of_extent level next it is =
    let p : (it.plugin == 3) ≡ false = ap (λ (k : ℕ). k == 3) is in
    let t : (it.plugin == 5) ≡ true = ap (λ (k : ℕ). k == 5) is in
    rw (p, t) refl

pub names_of_pointer : (level next : ℕ) (it : Item) → it.plugin ≡ 3 → item_names level next it ≡ pointer_names level (rank it.key) next (pointer_of it.body)
unfolding item_names
names_of_pointer level next it is = let t : (it.plugin == 3) ≡ true = ap (λ (k : ℕ). k == 3) is in rw t refl

pointer_level : (level key next : ℕ) (o : Option ℕ) (n : Name) → Contains (pointer_names level key next o) n → n.level ≡ level - 1
pointer_level level key next None n at = absurd (none_in n at)
pointer_level level key next (Some to) n at = elim (one_of _ [] n at) [
  | inl e ↦ ap (λ (m : Name). m.level) (sym e)
  | inr more ↦ absurd (none_in n more)
]

names_of_item : (level hi : ℕ) (items : List Item) (it : Item) (n : Name) → it.plugin ≡ 5 → Contains items it → Contains (block_names (rank it.key) (units_of it.body)) n → Contains (names_in level hi items) n
unfolding names_in
names_of_item level hi [] it n is at has = absurd (none_in it at)
names_of_item level hi (x ∷ items) it n is at has = elim (one_of x items it at) [
  | inl e ↦ in_front (item_names level (next_key hi items) x) (names_in level hi items) n
      (subst (λ (y : Item). Contains (item_names level (next_key hi items) y) n) (sym e) (subst (λ (l : List Name). Contains l n) (sym (names_of_extent level (next_key hi items) it is)) has))
  | inr more ↦ in_back (item_names level (next_key hi items) x) (names_in level hi items) n (names_of_item level hi items it n is more has)
]

held_of_item : (b : ℕ) (items : List Item) (it : Item) (h : Held) → Contains items it → Contains (held_by b it) h → Contains (flat_map (held_by b) items) h
held_of_item b [] it h at has = absurd (none_in it at)
held_of_item b (x ∷ items) it h at has = elim (one_of x items it at) [
  | inl e ↦ in_front (held_by b x) (flat_map (held_by b) items) h (subst (λ (y : Item). Contains (held_by b y) h) (sym e) has)
  | inr more ↦ in_back (held_by b x) (flat_map (held_by b) items) h (held_of_item b items it h more has)
]

-- ---- cells

cell_units : (level lo hi : ℕ) (b : List ℕ) → 1 ≤ level → (cell_of level lo hi b).units ≡ units_in (items_of b)
unfolding cell_of
cell_units zero lo hi b some = absurd (omega (arith, some))
cell_units (suc l) lo hi b some = refl

cell_names : (level lo hi : ℕ) (b : List ℕ) → 1 ≤ level → (cell_of level lo hi b).names ≡ names_in level hi (items_of b)
unfolding cell_of
cell_names zero lo hi b some = absurd (omega (arith, some))
cell_names (suc l) lo hi b some = refl

data_units : (level lo hi : ℕ) (b : List ℕ) → level ≡ 0 → (cell_of level lo hi b).units ≡ bytes_from lo b
unfolding cell_of
data_units zero lo hi b low = refl
data_units (suc l) lo hi b low = absurd (omega (arith, low))

in_found : (cells : Cells) (i : ℕ) (c : Node Value) (h : Held) → Contains cells (i, c) → Contains (held_in i c) h → Contains (found_in cells) h
in_found [] i c h at has = absurd (none_in (i, c) at)
in_found (x ∷ cells) i c h at has = elim (one_of x cells (i, c) at) [
  | inl e ↦ in_back (found_in cells) (held_in x.0 x.1) h (subst (λ (p : ℕ × Node Value). Contains (held_in p.0 p.1) h) (sym e) has)
  | inr more ↦ in_front (found_in cells) (held_in x.0 x.1) h (in_found cells i c h more has)
]

only_one : {X : Type 0} (x y : X) → Contains (x ∷ []) y → x ≡ y
only_one x y at = elim (one_of x [] y at) [ inl e ↦ e | inr more ↦ absurd (none_in y more) ]

entries_named : (es : List DirEntry) (u : ℕ × Value) → Contains (map entry_unit es) u → is_named u.1 ≡ false → ⊥
entries_named [] u at bare = none_in u at
entries_named (e ∷ es) u at bare = elim (one_of (entry_unit e) (map entry_unit es) u at) [
  | inl is ↦ let named = ap (λ (p : ℕ × Value). is_named p.1) is in absurd (cc)
  | inr more ↦ entries_named es u more bare
]

-- a unit of a leaf, and one of another cell
abbrev pub IsTailUnit : Cells → ℕ → Value → Type 0
IsTailUnit cells k v = (i : ℕ) × (c : Node Value) × Contains cells (i, c) × (c.level ≡ 1) × Contains c.units (k, v)

abbrev pub IsExtentUnit : Cells → ℕ → Value → Type 0
IsExtentUnit cells k v = (i : ℕ) × (c : Node Value) × Contains cells (i, c) × (c.level ≢ 1) × Contains c.units (k, v)

-- the key lies in a part of so many bytes
abbrev pub LiesIn : Held → (long k : ℕ) → Type 0
LiesIn h long k = (rank h.key ≤ k) × (k < rank h.key + long)

abbrev pub IsInTail : Cells → ℕ → Type 0
IsInTail cells k = (h : Held) × (n : ℕ) × Contains (found_in cells) h × (h.thing ≡ Tail n) × LiesIn h n k

abbrev pub IsInExtent : Cells → ℕ → Type 0
IsInExtent cells k = (h : Held) × (n : ℕ) × Contains (found_in cells) h × (h.thing ≡ Extent n) × LiesIn h (4096 * n) k

module _ (blocks : ℕ) (cells : Cells) (read : AreRead blocks cells) where
  -- a tail has a byte at each of its keys
  pub tail_has : (h : Held) (n k : ℕ) → Contains (found_in cells) h → h.thing ≡ Tail n → LiesIn h n k → (x : ℕ) × IsTailUnit cells k (Byte x)
  tail_has h n k at is lies =
      let p = tail_part blocks cells read h n at is in
      let it = p.item in
      let key = ap rank p.key in
      let long = p.long in
      let (x, has) = byte_at (rank it.key) it.body k (omega (arith, key, lies)) (omega (arith, key, long, lies)) in
      let level = p.level in
      let units = sym (cell_units p.cell.level p.cell.lo p.cell.hi p.bytes (omega (arith, level))) in
      let own = subst (λ (us : Units). Contains us (k, Byte x)) (sym p.tail.units) has in
      let all = subst (λ (us : Units). Contains us (k, Byte x)) units (units_of_item (items_of p.bytes) it (k, Byte x) p.has own) in
      (x, (p.block, p.cell, p.there, p.level, subst (λ (c : Node Value). Contains c.units (k, Byte x)) (sym p.says) all))

  -- and its bytes are those of tails
  pub tail_of : (k x : ℕ) → IsTailUnit cells k (Byte x) → IsInTail cells k
  tail_of k x (i, c, there, level, has) =
      let r = read i c there in
      let order = r.node.nonempty in
      let sound : cell_fault false blocks 1 c.lo c.hi r.block ≡ None = subst (λ (l : ℕ). cell_fault false blocks l c.lo c.hi r.block ≡ None) level r.sound in
      let lie = leaf_lie c.lo c.hi r.block (r.whole, cell_still false blocks (2 ^ 64) 1 c.lo c.hi r.block r.few sound) (inl (omega (arith, order))) in
      let mine = subst (λ (d : Node Value). Contains d.units (k, Byte x)) r.says has in
      let units = subst (λ (us : Units). Contains us (k, Byte x)) (cell_units c.level c.lo c.hi r.block (omega (arith, level))) mine in
      let (it, among, own) = item_of_unit (items_of r.block) (k, Byte x) units in
      let good = leaf_sound c.lo c.hi (items_of r.block) lie it among in
      elim good.plugin [
        | inl stat ↦ absurd (no_stat_byte it k x stat own)
        | inr (inl dir) ↦ absurd (no_entry_byte it k x dir own)
        | inr (inr tail) ↦
            let other : IsTail it = record { no_stat = λ e. omega (arith, tail, e); no_dir = λ e. omega (arith, tail, e); no_pointer = λ e. omega (arith, tail, e); no_extent = λ e. omega (arith, tail, e) } in
            let h : Held = held_at i it.key (Tail (length it.body)) in
            let held : Contains (held_by i it) h = subst (λ (hs : List Held). Contains hs h) (sym (tail_held i it other)) (here h []) in
            let in_cell = subst (λ (hs : List Held). Contains hs h) (sym (cell_held i c.level c.lo c.hi r.block (omega (arith, level)))) (held_of_item i (items_of r.block) it h among held) in
            let lies = bytes_within (rank it.key) it.body (k, Byte x) (subst (λ (us : Units). Contains us (k, Byte x)) (tail_units it other) own) in
            (h, length it.body, in_found cells i c h there (subst (λ (d : Node Value). Contains (held_in i d) h) (sym r.says) in_cell), refl, lies)
      ]
    where
      no_stat_byte : (it : Item) (k x : ℕ) → it.plugin ≡ 0 → Contains (item_units it) (k, Byte x) → ⊥
      no_stat_byte it k x stat own =
          let e : ◌≡◌ {A = ℕ × Value} (rank it.key, StatValue (attr_of it.body)) (k, Byte x) = only_one _ _ (subst (λ (us : Units). Contains us (k, Byte x)) (stat_units it stat) own) in
          let v : StatValue (attr_of it.body) ≡ Byte x = ap (λ (p : ℕ × Value). p.1) e in
          cc

      no_entry_byte : (it : Item) (k x : ℕ) → it.plugin ≡ 2 → Contains (item_units it) (k, Byte x) → ⊥
      no_entry_byte it k x dir own = entries_named (entries_of it.key it.body) (k, Byte x) (subst (λ (us : Units). Contains us (k, Byte x)) (dir_units it dir) own) refl

module _ (blocks : ℕ) (cells : Cells) (root : Name) (w : AreLinked cells root) (read : AreRead blocks cells) where
  twig_item_at : (i : ℕ) (c : Node Value) → Contains cells (i, c) → c.level ≡ 2 → (r : IsRead blocks c) → (it : Item) → Contains (items_of r.block) it → IsOfTwig it
  twig_item_at i c there level r it among =
      let sound : cell_fault false blocks 2 c.lo c.hi r.block ≡ None = subst (λ (l : ℕ). cell_fault false blocks l c.lo c.hi r.block ≡ None) level r.sound in
      twig_sound c.lo c.hi (items_of r.block) (twig_lie c.lo c.hi r.block (r.whole, cell_still false blocks (2 ^ 64) 2 c.lo c.hi r.block r.few sound)) it among

  -- an extent has a unit at each of its keys
  pub extent_has : (h : Held) (n k : ℕ) → Contains (found_in cells) h → h.thing ≡ Extent n → LiesIn h (4096 * n) k → (x : ℕ) × IsExtentUnit cells k (Byte x)
  extent_has h n k at is lies =
      let p = extent_part blocks cells read h n at is in
      let it = p.item in
      let key = ap rank p.key in
      let long = p.long in
      let level = p.level in
      let some : 1 ≤ p.cell.level = omega (arith, level) in
      elim (units_have (rank it.key) (units_of it.body) k (omega (arith, key, lies)) (omega (arith, key, long, lies))) [
        | inr zero_there ↦
            let own = subst (λ (us : Units). Contains us (k, Byte 0)) (sym p.extent.units) zero_there in
            let all = subst (λ (us : Units). Contains us (k, Byte 0)) (sym (cell_units p.cell.level p.cell.lo p.cell.hi p.bytes some)) (units_of_item (items_of p.bytes) it (k, Byte 0) p.has own) in
            (0, (p.block, p.cell, p.there, λ one. omega (arith, one, level), subst (λ (c : Node Value). Contains c.units (k, Byte 0)) (sym p.says) all))
        | inl block ↦
            let (id, lo, named, low, high) = block in
            let among = names_of_item p.cell.level p.cell.hi (items_of p.bytes) it (block_name id lo) p.plugin p.has named in
            let own = subst (λ (l : List Name). Contains l (block_name id lo)) (sym (cell_names p.cell.level p.cell.lo p.cell.hi p.bytes some)) among in
            let there = w.named p.block p.cell (block_name id lo) p.there (subst (λ (c : Node Value). Contains c.names (block_name id lo)) (sym p.says) own) in
            data_has k id there.0 there.1 there.2.level (let a = there.2.lo in omega (arith, a, low)) (let a = there.2.lo in omega (arith, a, high))
      ]
    where
      data_has : (k id : ℕ) (d : Node Value) → Contains cells (id, d) → d.level ≡ 0 → d.lo ≤ k → k < d.lo + 4096 → (x : ℕ) × IsExtentUnit cells k (Byte x)
      data_has k id d there zero_level low high =
          let r = read id d there in
          let whole = r.whole in
          let (x, has) = byte_at d.lo r.block k low (omega (arith, whole, high)) in
          let own = subst (λ (us : Units). Contains us (k, Byte x)) (sym (data_units d.level d.lo d.hi r.block zero_level)) has in
          (x, (id, d, there, λ one. omega (arith, one, zero_level), subst (λ (c : Node Value). Contains c.units (k, Byte x)) (sym r.says) own))

  of_item : (i : ℕ) (c : Node Value) → Contains cells (i, c) → (level : c.level ≡ 2) → (r : IsRead blocks c) → (it : Item) → Contains (items_of r.block) it → it.plugin ≡ 5 → (k : ℕ)
      → rank it.key ≤ k → k < rank it.key + 4096 * blocks_in (units_of it.body) → IsInExtent cells k
  of_item i c there level r it among plugin k low high =
      let x = extent_item it plugin (twig_item_at i c there level r it among) in
      let few = x.fits in
      let h : Held = held_at i it.key (extent_thing it) in
      let held : Contains (held_by i it) h = subst (λ (hs : List Held). Contains hs h) (sym (extent_held i it plugin)) (here h []) in
      let in_cell = subst (λ (hs : List Held). Contains hs h) (sym (cell_held i c.level c.lo c.hi r.block (omega (arith, level)))) (held_of_item i (items_of r.block) it h among held) in
      (h, counted (blocks_in (units_of it.body)), in_found cells i c h there (subst (λ (d : Node Value). Contains (held_in i d) h) (sym r.says) in_cell), refl, (low, omega (arith, high, few)))

  -- and the units beside leaves are those of extents
  pub extent_of : (k : ℕ) (v : Value) → IsExtentUnit cells k v → IsInExtent cells k
  extent_of k v (i, c, there, other, has) = by_level c.level refl
    where
      mine : (r : IsRead blocks c) → Contains (cell_of c.level c.lo c.hi r.block).units (k, v)
      mine r = subst (λ (d : Node Value). Contains d.units (k, v)) r.says has

      data_case : c.level ≡ 0 → IsInExtent cells k
      data_case zero_level =
          let high = w.high in
          let (n, from, is, f) = w.parent i c there in
          let in_c = (read i c there).node.unit_in k v has in
          let lv = f.level in
          elim from [
            | inl e ↦ let le = ap (λ (m : Name). m.level) e in absurd (omega (arith, lv, le, high, zero_level))
            | inr by ↦ let (j, d, dj, dn) = by in named_case j d n dj dn (omega (arith, lv, zero_level)) (let a = f.lo in omega (arith, a, in_c)) (let a = f.hi in omega (arith, a, in_c))
          ]
        where
          named_case : (j : ℕ) (d : Node Value) (n : Name) → Contains cells (j, d) → Contains d.names n → n.level ≡ 0 → n.lo ≤ k → k < n.hi → IsInExtent cells k
          named_case j d n dj dn bottom low high =
              let r = read j d dj in
              let level : d.level ≡ 2 = elim (r.node.below n dn) [ inl below ↦ absurd (omega (arith, below, bottom)) | inr twig ↦ twig.0 ] in
              let names = subst (λ (l : List Name). Contains l n) (cell_names d.level d.lo d.hi r.block (omega (arith, level))) (subst (λ (c : Node Value). Contains c.names n) r.says dn) in
              let (it, next, among, own) = item_of_name d.level d.hi (items_of r.block) n names in
              elim (twig_item_at j d dj level r it among).plugin [
                | inl pointer ↦ let lv = pointer_level d.level (rank it.key) next (pointer_of it.body) n (subst (λ (l : List Name). Contains l n) (names_of_pointer d.level next it pointer) own) in absurd (omega (arith, lv, level, bottom))
                | inr extent ↦
                    let row = extent_row (rank it.key) (units_of it.body) in
                    let in_row = subst (λ (l : List Name). Contains l n) (names_of_extent d.level next it extent) own in
                    let a = row.from n in_row in
                    let b = row.to n in_row in
                    of_item j d dj level r it among extent k (omega (arith, a, low)) (omega (arith, b, high))
              ]

      twig_case : c.level ≡ 2 → IsInExtent cells k
      twig_case level =
          let r = read i c there in
          let units = subst (λ (us : Units). Contains us (k, v)) (cell_units c.level c.lo c.hi r.block (omega (arith, level))) (mine r) in
          let (it, among, own) = item_of_unit (items_of r.block) (k, v) units in
          elim (twig_item_at i c there level r it among).plugin [
            | inl pointer ↦ absurd (none_in (k, v) (subst (λ (us : Units). Contains us (k, v)) (pointer_units it pointer) own))
            | inr extent ↦
                let lies = (extent_row (rank it.key) (units_of it.body)).unit_in k v (subst (λ (us : Units). Contains us (k, v)) (extent_units it extent) own) in
                of_item i c there level r it among extent k lies.0 lies.1
          ]

      upper_case : 3 ≤ c.level → IsInExtent cells k
      upper_case high =
          let r = read i c there in
          let units = subst (λ (us : Units). Contains us (k, v)) (cell_units c.level c.lo c.hi r.block (omega (arith, high))) (mine r) in
          let (it, among, own) = item_of_unit (items_of r.block) (k, v) units in
          let node = node_at false blocks c.level c.lo c.hi r.block (omega (arith, high)) r.sound in
          let pointer = upper_pointers c.level (items_of r.block) high (plugins_at false blocks c.level c.lo c.hi r.block r.whole node) it among in
          absurd (none_in (k, v) (subst (λ (us : Units). Contains us (k, v)) (pointer_units it pointer) own))

      by_level : (l : ℕ) → c.level ≡ l → IsInExtent cells k
      by_level zero e = data_case e
      by_level (suc zero) e = absurd (other e)
      by_level (suc (suc zero)) e = twig_case e
      by_level (suc (suc (suc l))) e = upper_case (omega (arith, e))
