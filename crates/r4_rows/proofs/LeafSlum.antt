-- A slum of leaves that is packed.
use Rattle.std.proofs.Common.{◌≡◌, inl, inr, ℕ, zero, suc, ◌+◌, ◌<◌, ◌≤◌, List, [], ◌∷◌, ◌++◌, length, take, refl, sym}
use Rattle.std.proofs.Common.{ap, subst, ◌∙◌, arith}
use Rattle.std.specs.Prelude.{Contains}
use Rattle.std.proofs.lemmas.List.{append-nil}
use Rattle.r4_base.specs.Key.{rank}
use Rattle.r4_base.specs.declared.key.Key.{Key}
use Rattle.r4_cell.specs.Seen.{CellSeen, node_of}
use Rattle.r4_leaf.specs.Leaves.{IsFull, Packs}
use Rattle.r4_leaf.specs.Units.{LeafUnit, leaf_bytes}
use Rattle.r4_leaf.specs.declared.leaf.Leaf.{Leaf}
use Rattle.r4_node40.specs.Laid.{room_of}
use Rattle.r4_patch.specs.Joining.{ids_of}
use Rattle.r4_path.specs.LeafSteps.{leaf_cells}
use Rattle.r4_path.specs.Levels.{units_of_cells}
use Rattle.r4_path.specs.Sharing.{IsSound}
use Rattle.r4_path.specs.Steps.{Follow}
use Rattle.r4_path.proofs.CellNodes.{units_are}
use Rattle.r4_path.proofs.LeafCells.{packed}
use Rattle.r4_patch.proofs.Members.{cases, here, later, none}
use Rattle.r4_path.proofs.Upwards.{long_ids}
use Rattle.r4_rows.specs.Fewest.{EachFits, joined}
use Rattle.r4_rows.specs.Packed.{AreFullLeaves, ArePackedLeft, IsDense, IsFullLeaf, renumbered, units_each}
use Rattle.r4_rows.proofs.Fewer.{packs_fewest}

-- ---- other numbers

pub long_new : (ids : List ℕ) (cells : List CellSeen) → length cells ≤ length ids
    → length (renumbered ids cells) ≡ length cells
long_new [] [] le = refl
long_new [] (c ∷ cells) le = absurd (omega (arith, le))
long_new (i ∷ ids) [] le = refl
long_new (i ∷ ids) (c ∷ cells) le = ap suc (long_new ids cells (omega (arith, le)))

pub ids_new : (ids : List ℕ) (cells : List CellSeen)
    → ids_of (renumbered ids cells) ≡ take (length (renumbered ids cells)) ids
ids_new [] cells = refl
ids_new (i ∷ ids) [] = refl
ids_new (i ∷ ids) (c ∷ cells) = ap (λ (is : List ℕ). i ∷ is) (ids_new ids cells)

pub follow_new : (level lo hi : ℕ) (ids : List ℕ) (cells : List CellSeen) → length cells ≤ length ids
    → Follow level lo hi cells
    → Follow level lo hi (renumbered ids cells)
follow_new level lo hi [] [] le f = f
follow_new level lo hi [] (c ∷ cells) le f = absurd (omega (arith, le))
follow_new level lo hi (i ∷ ids) [] le f = f
follow_new level lo hi (i ∷ ids) (c ∷ cells) le (l, at, lt, rest) =
    (l, at, lt, follow_new level (rank c.hi) hi ids cells (omega (arith, le)) rest)

pub units_new : (ids : List ℕ) (cells : List CellSeen) → length cells ≤ length ids
    → units_of_cells (renumbered ids cells)
    ≡ units_of_cells cells
units_new [] [] le = refl
units_new [] (c ∷ cells) le = absurd (omega (arith, le))
units_new (i ∷ ids) [] le = refl
units_new (i ∷ ids) (c ∷ cells) le = ap (λ us. (node_of c).units ++ us) (units_new ids cells (omega (arith, le)))

pub sound_new : (ids : List ℕ) (cells : List CellSeen) → ((c : CellSeen) → Contains cells c → IsSound c)
    → (c : CellSeen)
    → Contains (renumbered ids cells) c → IsSound c
sound_new [] cells all c at = absurd (none c at)
sound_new (i ∷ ids) [] all c at = absurd (none c at)
sound_new (i ∷ ids) (d ∷ cells) all c at = elim (cases (record d { id = i }) c (renumbered ids cells) at) [
  | inl is ↦
      let s = all d (zero, omega arith, refl) in
      subst IsSound (sym is) (record { whole = s.whole; accepted = s.accepted })
  | inr more ↦ sound_new ids cells (λ x mx. all x (later d x cells mx)) c more
]

full_again : (i j : ℕ) (c d : CellSeen) → IsFullLeaf c d → IsFullLeaf (record c { id = i }) (record d { id = j })
full_again i j c d h = record { next = h.next; rest = h.rest; units = h.units; full = h.full }

full_new : (ids : List ℕ) (cells : List CellSeen) → AreFullLeaves cells → AreFullLeaves (renumbered ids cells)
full_new [] cells f = tt
full_new (i ∷ ids) [] f = tt
full_new (i ∷ []) (c ∷ []) f = tt
full_new (i ∷ []) (c ∷ (d ∷ cells)) f = tt
full_new (i ∷ (j ∷ ids)) (c ∷ []) f = tt
full_new (i ∷ (j ∷ ids)) (c ∷ (d ∷ cells)) (first, rest) =
    (full_again i j c d first, full_new (j ∷ ids) (d ∷ cells) rest)

dense_new : (ids : List ℕ) (cells : List CellSeen) → ((c : CellSeen) → Contains cells c → IsDense c) → (c : CellSeen)
    → Contains (renumbered ids cells) c → IsDense c
dense_new [] cells all c at = absurd (none c at)
dense_new (i ∷ ids) [] all c at = absurd (none c at)
dense_new (i ∷ ids) (d ∷ cells) all c at = elim (cases (record d { id = i }) c (renumbered ids cells) at) [
  | inl is ↦ subst IsDense (sym is) (all d (here d cells))
  | inr more ↦ dense_new ids cells (λ x mx. all x (later d x cells mx)) c more
]

-- ---- each leaf is dense, and full before the next one

dense_one : (c : CellSeen) (us : List LeafUnit) → (node_of c).units ≡ us → room_of c.block + leaf_bytes us ≡ 4068
    → IsDense c
dense_one c us e h = subst (λ (vs : List LeafUnit). room_of c.block + leaf_bytes vs ≡ 4068) (sym e) h

cells_dense : (lo hi' : ℕ) (hi : Key) (id next : ℕ) (us : List LeafUnit) (leaves : List Leaf) → Packs lo hi' us leaves
    → (c : CellSeen) → Contains (leaf_cells id next hi leaves) c → IsDense c
cells_dense lo hi' hi id next us [] p c at = absurd p
cells_dense lo hi' hi id next us (x ∷ []) leaf c at =
    let mine : CellSeen = record { id = id; level = 1; lo = x.lo; hi = hi; block = x.block } in
    elim (cases (record { id = id; level = 1; lo = x.lo; hi = hi; block = x.block }) c [] at) [
      | inl is ↦ subst IsDense (sym is) (dense_one mine us (units_are mine 0 refl ∙ leaf.units) leaf.room)
      | inr more ↦ absurd (none c more)
    ]
cells_dense lo hi' hi id next us (x ∷ (y ∷ more)) (first, n, rest, same, from, low, leaf, full, p) c at =
    let mine : CellSeen = record { id = id; level = 1; lo = x.lo; hi = y.lo; block = x.block } in
    elim (cases (record { id = id; level = 1; lo = x.lo; hi = y.lo; block = x.block }) c
    (leaf_cells next (next + 1) hi (y ∷ more)) at) [
      | inl is ↦ subst IsDense (sym is) (dense_one mine first (units_are mine 0 refl ∙ leaf.units) leaf.room)
      | inr behind ↦ cells_dense n.0 hi' hi next (next + 1) (n ∷ rest) (y ∷ more) p c behind
    ]

-- the units of the first cell begin with the first unit
first_units : (lo hi' : ℕ) (hi : Key) (id next : ℕ) (us : List LeafUnit) (x : Leaf) (more : List Leaf)
    → Packs lo hi' us (x ∷ more)
    → (c : CellSeen) × (cells : List CellSeen) × (first : List LeafUnit) × (rest : List LeafUnit)
    × (leaf_cells id next hi (x ∷ more) ≡ c ∷ cells) × ((node_of c).units ≡ first) × (us ≡ first ++ rest)
    × (((u : LeafUnit) (vs : List LeafUnit) → us ≡ u ∷ vs → (ws : List LeafUnit) × (first ≡ u ∷ ws)))
first_units lo hi' hi id next us x [] leaf = (
  record { id = id; level = 1; lo = x.lo; hi = hi; block = x.block },
  [],
  us,
  [],
  refl,
  units_are (record { id = id; level = 1; lo = x.lo; hi = hi; block = x.block }) 0 refl ∙ leaf.units,
  sym (append-nil us),
  λ u vs e. (vs, e),
)
first_units lo hi' hi id next us x (y ∷ more) (first, n, rest, is, from, low, leaf, full, p) = (
  record { id = id; level = 1; lo = x.lo; hi = y.lo; block = x.block },
  leaf_cells next (next + 1) hi (y ∷ more),
  first,
  n ∷ rest,
  refl,
  units_are (record { id = id; level = 1; lo = x.lo; hi = y.lo; block = x.block }) 0 refl ∙ leaf.units,
  is,
  λ u vs e. begins u vs first full.some (sym is ∙ e),
)
  where
    begins : (u : LeafUnit) (vs : List LeafUnit) (f : List LeafUnit) → 1 ≤ length f → f ++ n ∷ rest ≡ u ∷ vs
        → (ws : List LeafUnit)
        × (f ≡ u ∷ ws)
    begins u vs [] some e = absurd (omega (arith, some))
    begins u vs (v ∷ ws) some e = (ws, (let head : v ≡ u = cc in ap (λ (w : LeafUnit). w ∷ ws) head))

cells_full : (lo hi' : ℕ) (hi : Key) (id next : ℕ) (us : List LeafUnit) (leaves : List Leaf) → Packs lo hi' us leaves
    → AreFullLeaves (leaf_cells id next hi leaves)
cells_full lo hi' hi id next us [] p = tt
cells_full lo hi' hi id next us (x ∷ []) p = tt
cells_full lo hi' hi id next us (x ∷ (y ∷ more)) (first, n, rest, is, from, low, leaf, full, p) =
    let (c, cells, f, r, same, units, all, begins) = first_units n.0 hi' hi next (next + 1) (n ∷ rest) y more p in
    let (ws, head) = begins n rest refl in
    let others = cells_full n.0 hi' hi next (next + 1) (n ∷ rest) (y ∷ more) p in
    let mine : CellSeen = record { id = id; level = 1; lo = x.lo; hi = y.lo; block = x.block } in
    let says : (node_of mine).units ≡ first = units_are mine 0 refl ∙ leaf.units in
    let between : IsFullLeaf mine c = record {
      next = n;
      rest = ws;
      units = units ∙ head;
      full = subst (λ (vs : List LeafUnit). IsFull vs n) (sym says) full;
    } in
    subst (λ (cs : List CellSeen). AreFullLeaves (mine ∷ cs)) (sym same)
    (between, subst AreFullLeaves same others)

joined_units : (slum : List CellSeen) → units_of_cells slum ≡ joined (units_each slum)
joined_units [] = refl
joined_units (c ∷ slum) = ap (λ us. (node_of c).units ++ us) (joined_units slum)

long_each : (slum : List CellSeen) → length (units_each slum) ≡ length slum
long_each [] = refl
long_each (c ∷ slum) = ap suc (long_each slum)

pub some_each : (level lo hi : ℕ) (slum : List CellSeen) → Follow level lo hi slum → lo < hi → 1 ≤ length slum
some_each level lo hi [] e lt = absurd (omega (arith, e, lt))
some_each level lo hi (c ∷ slum) f lt = omega arith

pub leaves_squeezed : (slum : List CellSeen) (from : ℕ) (hi : Key) (leaves : List Leaf) → Follow 1 from (rank hi) slum
    → from < rank hi
    → EachFits leaf_bytes 4068 (units_each slum) → Packs from (rank hi) (units_of_cells slum) leaves
    → ArePackedLeft slum from (rank hi) (renumbered (ids_of slum) (leaf_cells 0 0 hi leaves))
leaves_squeezed slum from hi leaves follow range fit p =
    let cells = leaf_cells 0 0 hi leaves in
    let are = packed from hi 0 0 (units_of_cells slum) leaves range p in
    let long = long_each slum in
    let some = some_each 1 from (rank hi) slum follow range in
    let fewest = packs_fewest from (rank hi) (units_of_cells slum) leaves (units_each slum) p (joined_units slum) fit
    (omega (arith, long, some)) in
    let many = are.many in
    let ids = long_ids slum in
    let le : length (leaf_cells 0 0 hi leaves) ≤ length (ids_of slum) = omega (arith, fewest, many, long, ids) in
    let same = long_new (ids_of slum) (leaf_cells 0 0 hi leaves) le in
    record {
      few = omega (arith, same, le, ids);
      ids = ids_new (ids_of slum) (leaf_cells 0 0 hi leaves);
      follow = follow_new 1 from (rank hi) (ids_of slum) (leaf_cells 0 0 hi leaves) le are.follow;
      units = units_new (ids_of slum) (leaf_cells 0 0 hi leaves) le ∙ are.units;
      sound = sound_new (ids_of slum) (leaf_cells 0 0 hi leaves) are.sound;
      dense = dense_new (ids_of slum) (leaf_cells 0 0 hi leaves)
          (cells_dense from (rank hi) hi 0 0 (units_of_cells slum) leaves p);
      full = full_new (ids_of slum) (leaf_cells 0 0 hi leaves)
          (cells_full from (rank hi) hi 0 0 (units_of_cells slum) leaves p);
    }
