-- The cells of leaves that share out a leaf's units.
use Rattle.std.proofs.Common.{◌≡◌, inl, inr, ℕ, ◌+◌, ◌^◌, ◌<◌, true, List, [], ◌∷◌, ◌++◌, length, refl, sym, ap, subst, ◌∙◌}
use Rattle.std.proofs.Common.{arith}
use Rattle.std.specs.Prelude.{Contains, drop, None}
use Rattle.std.proofs.lemmas.List.{append-nil, length-drop}
use Rattle.std.proofs.lemmas.List.Elements.{All-contains}
use Rattle.r4_base.specs.Cell.{cell_fault, units_in}
use Rattle.r4_base.specs.Key.{rank}
use Rattle.r4_base.specs.Node.{Item, items_of, mkfs_id_of}
use Rattle.r4_base.specs.Tree.{IsNode}
use Rattle.r4_base.specs.declared.key.Key.{Key}
use Rattle.r4_patch.proofs.r4_cell.NodesAt.{node_at}
use Rattle.r4_patch.specs.r4_cell.Seen.{CellSeen, node_of}
use Rattle.r4_patch.specs.r4_cell.declared.change.Fresh.{Fresh}
use Rattle.r4_leaf.specs.Leaves.{HaveMkfsId, IsLeaf, Packs}
use Rattle.r4_leaf.specs.Units.{LeafUnit}
use Rattle.r4_leaf.specs.declared.leaf.Leaf.{Leaf}
use Rattle.r4_patch.specs.Joining.{ids_of}
use Rattle.r4_path.specs.LeafSteps.{IsLeafStep, leaf_cells}
use Rattle.r4_path.specs.Levels.{units_of_cells}
use Rattle.r4_path.specs.Sharing.{IsSound}
use Rattle.r4_path.specs.Steps.{CountUp, Follow, IsStep, Step}
use Rattle.r4_path.proofs.CellNodes.{units_are}
use Rattle.r4_path.proofs.Lying.{Good, good_parts}
use Rattle.r4_patch.proofs.Members.{cases, here, later, none}
use Rattle.r4_path.proofs.NewNodes.{leaf_step}
use Rattle.r4_path.proofs.Rising.{hi_is, lo_is}

-- ---- a leaf with units has a range

units_none : units_in [] ≡ []
unfolding units_in
units_none = refl

items_wide : (lo hi : ℕ) (u : LeafUnit) (us : List LeafUnit) (items : List Item) → Good 1 lo hi 0 items → units_in items
    ≡ u ∷ us → lo < hi
items_wide lo hi u us [] good e = absurd (let e' = sym units_none ∙ e in let long = ap length e' in omega (arith, long))
items_wide lo hi u us (it ∷ items) good e =
    let l = (good_parts 1 lo hi 0 it items good).0 in
    let from = l.from in
    let below = l.below in
    omega (arith, from, below)

leaf_wide : (lo hi : ℕ) (u : LeafUnit) (us : List LeafUnit) (x : Leaf) → IsLeaf lo hi (u ∷ us) x → lo < hi
leaf_wide lo hi u us x leaf = items_wide lo hi u us (items_of x.block)
    (node_at true (2 ^ 64) 1 lo hi x.block (omega arith) leaf.stands.1).items leaf.units

packs_wide : (lo hi : ℕ) (u : LeafUnit) (us : List LeafUnit) (leaves : List Leaf) → Packs lo hi (u ∷ us) leaves → lo < hi
packs_wide lo hi u us [] p = absurd p
packs_wide lo hi u us (x ∷ []) leaf = leaf_wide lo hi u us x leaf
packs_wide lo hi u us (x ∷ (y ∷ more)) (first, next, rest, same, from, low, leaf, full, p) =
    let h = packs_wide next.0 hi next rest (y ∷ more) p in omega (arith, low, h)

-- ---- what the cells are

pub record ArePacked (lo hi id next : ℕ) (us : List LeafUnit) (count : ℕ) (cells : List CellSeen) : Type 0 where
  pub follow : Follow 1 lo hi cells
  pub sound : (c : CellSeen) → Contains cells c → IsSound c
  pub units : units_of_cells cells ≡ us
  pub first : ids_of cells ≡ id ∷ ids_of (drop 1 cells)
  pub counts : CountUp next (ids_of (drop 1 cells))
  pub many : length cells ≡ count

module _ (x : Leaf) (id : ℕ) (hi : Key) where
  abbrev cell : CellSeen
  cell = record { id = id; level = 1; lo = x.lo; hi = hi; block = x.block }

  cell_sound : (lo : ℕ) (us : List LeafUnit) → IsLeaf lo (rank hi) us x → IsSound cell
  cell_sound lo us leaf = record {
    whole = leaf.stands.0;
    accepted = subst (λ k. cell_fault true (2 ^ 64) 1 k (rank hi) x.block ≡ None) (sym leaf.from) leaf.stands.1;
  }

  cell_units : (lo hi' : ℕ) (us : List LeafUnit) → IsLeaf lo hi' us x → (node_of cell).units ≡ us
  cell_units lo hi' us leaf = units_are cell 0 refl ∙ leaf.units

pub counts_next : (next : ℕ) (cells : List CellSeen) → ids_of cells ≡ next ∷ ids_of (drop 1 cells)
    → CountUp (next + 1) (ids_of (drop 1 cells)) → CountUp next (ids_of cells)
counts_next next cells first counts = subst (CountUp next) (sym first) (refl, counts)

pub packed : (lo : ℕ) (hi : Key) (id next : ℕ) (us : List LeafUnit) (leaves : List Leaf) → lo < rank hi
    → Packs lo (rank hi) us leaves → ArePacked lo (rank hi) id next us (length leaves) (leaf_cells id next hi leaves)
packed lo hi id next us [] range p = absurd p
packed lo hi id next us (x ∷ []) range leaf = record {
  follow = (refl, leaf.from, range, refl);
  sound = λ c member. elim (cases (cell x id hi) c [] member) [
    | inl is ↦ subst IsSound (sym is) (cell_sound x id hi lo us leaf)
    | inr more ↦ absurd (none c more)
  ];
  units = append-nil (node_of (cell x id hi)).units ∙ cell_units x id hi lo (rank hi) us leaf;
  first = refl;
  counts = tt;
  many = refl;
}
packed lo hi id next us (x ∷ (y ∷ more)) range (first, u, rest, same, from, low, leaf, full, p) =
    let others = packed u.0 hi next (next + 1) (u ∷ rest) (y ∷ more) (packs_wide u.0 (rank hi) u rest (y ∷ more) p) p in
    let mine : IsLeaf lo (rank y.lo) first x = subst (λ k. IsLeaf lo k first x) (sym from) leaf in
    record {
      follow = (
        refl,
        leaf.from,
        subst (λ k. lo < k) (sym from) low,
        subst
            (λ k. Follow 1 k (rank hi) (leaf_cells next (next + 1) hi (y ∷ more))) (sym from) others.follow,
      );
      sound = λ c member. elim (cases (cell x id y.lo) c (leaf_cells next (next + 1) hi (y ∷ more)) member) [
        | inl is ↦ subst IsSound (sym is) (cell_sound x id y.lo lo first mine)
        | inr rest' ↦ others.sound c rest'
      ];
      units = (λ i. cell_units x id y.lo lo (rank y.lo) first mine i ++ others.units i) ∙ sym same;
      first = refl;
      counts = counts_next next (leaf_cells next (next + 1) hi (y ∷ more)) others.first others.counts;
      many = let h = others.many in omega (arith, h);
    }

-- ---- the mkfs_id of the leaves is that of the cells

leaf_ids : (m id next : ℕ) (hi : Key) (leaves : List Leaf) → ((x : Leaf) → Contains leaves x → mkfs_id_of x.block ≡ m)
    → (c : CellSeen) → Contains (leaf_cells id next hi leaves) c → mkfs_id_of c.block ≡ m
leaf_ids m id next hi [] h c member = absurd (none c member)
leaf_ids m id next hi (x ∷ []) h c member = elim (cases (cell x id hi) c [] member) [
  | inl is ↦ ap (λ (d : CellSeen). mkfs_id_of d.block) is ∙ h x (here x [])
  | inr more ↦ absurd (none c more)
]
leaf_ids m id next hi (x ∷ (y ∷ more)) h c member =
    elim (cases (cell x id y.lo) c (leaf_cells next (next + 1) hi (y ∷ more)) member) [
      | inl is ↦ ap (λ (d : CellSeen). mkfs_id_of d.block) is ∙ h x (here x (y ∷ more))
      | inr rest ↦ leaf_ids m next (next + 1) hi (y ∷ more) (λ z at. h z (later x z (y ∷ more) at)) c rest
    ]

-- ---- the lowest step

pub leaves_step : (leaf : CellSeen) (us : List LeafUnit) (leaves : List Leaf) (x : Leaf) (more : List Leaf) (f g : Fresh)
    (s : Step) → IsNode (node_of leaf) → leaf.level ≡ 1
    → leaves ≡ x ∷ more → Packs (rank leaf.lo) (rank leaf.hi) us leaves → s.old ≡ leaf → s.new
    ≡ leaf_cells leaf.id f.next leaf.hi (x ∷ more) → g ≡ record f { next = f.next + length more }
    → HaveMkfsId (mkfs_id_of leaf.block) leaves
    → IsLeafStep leaf us leaves f g s
leaves_step leaf us leaves x more f g s node level parts p old new took ids =
    let some = node.nonempty in
    let lo = lo_is leaf in
    let hi = hi_is leaf in
    let cells = new ∙ ap (leaf_cells leaf.id f.next leaf.hi) (sym parts) in
    let is = subst (ArePacked (rank leaf.lo) (rank leaf.hi) leaf.id f.next us (length leaves)) (sym cells)
    (packed (rank leaf.lo) leaf.hi leaf.id f.next us leaves (omega (arith, some, lo, hi)) p) in
    record {
      old = old;
      cells = cells;
      step = subst (λ (o : CellSeen). IsStep None (record { old = o; new = s.new })) (sym old)
          (leaf_step leaf s.new node level
          (subst (λ l. Follow l (rank leaf.lo) (rank leaf.hi) s.new) (sym level) is.follow) is.sound is.first);
      sound = is.sound;
      counts = is.counts;
      number = took ∙ (λ i. record f {
        next = (let many = is.many in let n = ap length parts in let d = length-drop 1 s.new in
            let same : f.next + length more ≡ f.next + length (drop 1 s.new) = omega (arith, many, n, d) in same) i;
      });
      units = is.units;
      many = is.many;
      mkfs_id = λ c member. leaf_ids (mkfs_id_of leaf.block) leaf.id f.next leaf.hi leaves
          (λ y. All-contains (λ (z : Leaf). mkfs_id_of z.block ≡ mkfs_id_of leaf.block) leaves y ids) c
          (subst (λ cs. Contains cs c) cells member);
    }

pub no_leaves : (lo hi : ℕ) (us : List LeafUnit) (leaves : List Leaf) → length leaves ≡ 0 → Packs lo hi us leaves → ⊥
no_leaves lo hi us [] e p = p
no_leaves lo hi us (x ∷ leaves) e p = omega (arith, e)
