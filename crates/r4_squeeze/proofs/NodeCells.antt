-- The cells of nodes of pointers that are filled from the left.
use Rattle.std.proofs.Common.{◌≡◌, inl, inr, ℕ, suc, ◌+◌, ◌*◌, ◌^◌, ◌<◌, ◌≤◌, true, List, [], ◌∷◌, ◌++◌, length, take, refl, sym, ap, subst, ◌∙◌, arith}
use Rattle.std.specs.Prelude.{Contains, None}
use Rattle.std.proofs.lemmas.List.{append-nil, length-append}
use Rattle.r4_base.specs.Cell.{cell_fault, next_key}
use Rattle.r4_base.specs.Key.{rank}
use Rattle.r4_base.specs.Node.{Item, items_of}
use Rattle.r4_base.specs.declared.key.Key.{Key}
use Rattle.r4_cell.specs.Seen.{CellSeen}
use Rattle.r4_node40.proofs.Accepted.{good}
use Rattle.r4_patch.proofs.Members.{cases, here, later, none}
use Rattle.r4_patch.specs.Joining.{ids_of}
use Rattle.r4_path.proofs.Finding.{node_weighs}
use Rattle.r4_path.proofs.Lying.{sound}
use Rattle.r4_path.proofs.Parenting.{sound_node}
use Rattle.r4_path.specs.Sharing.{IsSound, items_of_cells}
use Rattle.r4_path.specs.Steps.{Follow}
use Rattle.r4_squeeze.specs.Items.{Stand}
use Rattle.r4_squeeze.specs.Packing.{ArePointers, IsFilledWith, MayStandAll, PacksNodes, cells_filled}
use Rattle.r4_squeeze.specs.declared.filled.Filled.{Filled}
use Rattle.r4_squeeze.proofs.Cells.{cell_pointers}
use Rattle.r4_squeeze.proofs.Standing.{pointers_left, pointers_right, pointers_weigh, stand_below, stand_good}

abbrev pub AreWhole : List Filled → Type 0
AreWhole [] = Unit {0}
AreWhole (x ∷ xs) = (length x.block ≡ 4096) × AreWhole xs

sound_one : (c : CellSeen) → length c.block ≡ 4096 → cell_fault true (2 ^ 64) c.level (rank c.lo) (rank c.hi) c.block ≡ None
    → IsSound c
sound_one c whole stands = record { whole = whole; accepted = stands }

-- ---- the numbers of cells

pub filled_ids : (level : ℕ) (ids : List ℕ) (hi : Key) (xs : List Filled)
    → ids_of (cells_filled level ids hi xs) ≡ take (length (cells_filled level ids hi xs)) ids
filled_ids level [] hi xs = refl
filled_ids level (i ∷ ids) hi [] = refl
filled_ids level (i ∷ ids) hi (x ∷ []) = refl
filled_ids level (i ∷ ids) hi (x ∷ (y ∷ more)) = ap (λ (is : List ℕ). i ∷ is) (filled_ids level ids hi (y ∷ more))

pub filled_many : (level : ℕ) (ids : List ℕ) (hi : Key) (xs : List Filled) → length xs ≤ length ids
    → length (cells_filled level ids hi xs) ≡ length xs
filled_many level [] hi [] le = refl
filled_many level [] hi (x ∷ xs) le = absurd (omega (arith, le))
filled_many level (i ∷ ids) hi [] le = refl
filled_many level (i ∷ ids) hi (x ∷ []) le = refl
filled_many level (i ∷ ids) hi (x ∷ (y ∷ more)) le =
    let h = filled_many level ids hi (y ∷ more) (omega (arith, le)) in omega (arith, h)

-- ---- nodes of pointers

stand_less : (hi : ℕ) (x : Item) (xs : List Item) → Stand hi (x ∷ xs) → rank x.key < hi
stand_less hi x xs (placed, below, end, rest) = let most = stand_below hi xs rest in omega (arith, below, most)

module _ (l m : ℕ) (high : 2 ≤ l) where
  may_stand : (hi : ℕ) (first : Item) (mine : List Item) (x : Filled) → Stand hi (first ∷ mine)
      → IsFilledWith (suc l) m first mine x → cell_fault true (2 ^ 64) (suc l) (rank x.lo) hi x.block ≡ None
  may_stand hi first mine x stand w =
      let from = w.from in
      sound (suc l) (rank x.lo) hi (first ∷ mine) x.block (omega arith) w.node (λ two. omega arith)
      (stand_good (suc l) (rank x.lo) hi 0 (first ∷ mine) stand (omega (arith, from)) (λ at. sym from))

  pub packs_next : (hi : ℕ) (items : List Item) (x : Filled) (more : List Filled) → PacksNodes (suc l) m items (x ∷ more)
      → next_key hi items ≡ rank x.lo
  packs_next hi items x [] (first, mine, is, few, w) = ap (next_key hi) is ∙ sym w.from
  packs_next hi items x (y ∷ more) (first, mine, rest, is, long, w, packs) = ap (next_key hi) is ∙ sym w.from

  module _ (hi : ℕ) (items : List Item) (first : Item) (mine rest : List Item) (is : items ≡ first ∷ (mine ++ rest))
      (p : ArePointers (suc l) hi items) where
    pub left_point : ArePointers (suc l) (next_key hi rest) (first ∷ mine)
    left_point = pointers_left (suc l) hi (first ∷ mine) rest (subst (ArePointers (suc l) hi) is p)

    pub right_point : ArePointers (suc l) hi rest
    right_point = pointers_right (suc l) hi (first ∷ mine) rest (subst (ArePointers (suc l) hi) is p)

  pub nodes_stand : (hi : ℕ) (items : List Item) (xs : List Filled) → PacksNodes (suc l) m items xs
      → ArePointers (suc l) hi items → MayStandAll (suc l) hi xs
  nodes_stand hi items [] packs p = tt
  nodes_stand hi items (x ∷ []) (first, mine, is, few, w) p =
      may_stand hi first mine x (subst (ArePointers (suc l) hi) is p).stand w
  nodes_stand hi items (x ∷ (y ∷ more)) (first, mine, rest, is, long, w, packs) p = (
    subst (λ k. cell_fault true (2 ^ 64) (suc l) (rank x.lo) k x.block ≡ None) (packs_next hi rest y more packs)
        (may_stand (next_key hi rest) first mine x (left_point hi items first mine rest is p).stand w),
    nodes_stand hi rest (y ∷ more) packs (right_point hi items first mine rest is p),
  )

  pub nodes_many : (items : List Item) (xs : List Filled) → PacksNodes (suc l) m items xs → 88 * length xs < length items + 88
  nodes_many items [] packs = absurd packs
  nodes_many items (x ∷ []) (first, mine, is, few, w) = let long = ap length is in omega (arith, long)
  nodes_many items (x ∷ (y ∷ more)) (first, mine, rest, is, full, w, packs) =
      let long = ap length is in
      let both = length-append mine rest in
      let h = nodes_many rest (y ∷ more) packs in
      omega (arith, long, both, full, h)

  pub cells_hold : (lo hi : ℕ) (cells : List CellSeen) → Follow (suc l) lo hi cells
      → ((c : CellSeen) → Contains cells c → IsSound c) → length (items_of_cells cells) ≤ 88 * length cells
  cells_hold lo hi [] follow each = omega arith
  cells_hold lo hi (c ∷ cells) (level, at, lt, rest) each =
      let s = each c (here c cells) in
      let some : 1 ≤ c.level = omega (arith, level) in
      let node = (good c.block s.whole (sound_node c some s).accepted).0 in
      let most = node_weighs c.block node.laid in
      let weigh = pointers_weigh (suc l) (rank c.hi) (items_of c.block) (cell_pointers (suc l) (omega (arith, high)) c level s) in
      let few : length (items_of c.block) ≤ 88 = omega (arith, most, weigh) in
      let more = cells_hold (rank c.hi) hi cells rest (λ d n. each d (later c d cells n)) in
      let long = length-append (items_of c.block) (items_of_cells cells) in
      omega (arith, few, more, long)

  -- ---- their cells

  pub nodes_follow : (ids : List ℕ) (hi : Key) (lo : ℕ) (items : List Item) (xs : List Filled) → length xs ≤ length ids
      → PacksNodes (suc l) m items xs → ArePointers (suc l) (rank hi) items → next_key (rank hi) items ≡ lo
      → Follow (suc l) lo (rank hi) (cells_filled (suc l) ids hi xs)
  nodes_follow ids hi lo items [] le packs p from = absurd packs
  nodes_follow [] hi lo items (x ∷ xs) le packs p from = absurd (omega (arith, le))
  nodes_follow (i ∷ ids) hi lo items (x ∷ []) le (first, mine, is, few, w) p from =
      let at : rank x.lo ≡ lo = w.from ∙ (sym (ap (next_key (rank hi)) is) ∙ from) in
      let less = stand_less (rank hi) first mine (subst (ArePointers (suc l) (rank hi)) is p).stand in
      let begin = w.from in
      (refl, at, omega (arith, at, less, begin), refl)
  nodes_follow (i ∷ ids) hi lo items (x ∷ (y ∷ more)) le (first, mine, rest, is, long, w, packs) p from =
      let at : rank x.lo ≡ lo = w.from ∙ (sym (ap (next_key (rank hi)) is) ∙ from) in
      let next = packs_next (rank hi) rest y more packs in
      let less = stand_less (next_key (rank hi) rest) first mine (left_point (rank hi) items first mine rest is p).stand in
      let begin = w.from in (
        refl,
        at,
        omega (arith, at, less, begin, next),
        nodes_follow ids hi (rank y.lo) rest (y ∷ more) (omega (arith, le)) packs
            (right_point (rank hi) items first mine rest is p) next,
      )

  pub nodes_items : (ids : List ℕ) (hi : Key) (items : List Item) (xs : List Filled) → length xs ≤ length ids
      → PacksNodes (suc l) m items xs → items_of_cells (cells_filled (suc l) ids hi xs) ≡ items
  nodes_items ids hi items [] le packs = absurd packs
  nodes_items [] hi items (x ∷ xs) le packs = absurd (omega (arith, le))
  nodes_items (i ∷ ids) hi items (x ∷ []) le (first, mine, is, few, w) =
      append-nil (items_of x.block) ∙ (w.node.items_are ∙ sym is)
  nodes_items (i ∷ ids) hi items (x ∷ (y ∷ more)) le (first, mine, rest, is, long, w, packs) =
      ap (λ ys. ys ++ items_of_cells (cells_filled (suc l) ids hi (y ∷ more))) w.node.items_are
      ∙ (ap (λ ys. (first ∷ mine) ++ ys) (nodes_items ids hi rest (y ∷ more) (omega (arith, le)) packs) ∙ sym is)

  pub nodes_whole : (items : List Item) (xs : List Filled) → PacksNodes (suc l) m items xs → AreWhole xs
  nodes_whole items [] packs = tt
  nodes_whole items (x ∷ []) (first, mine, is, few, w) = (w.node.node.laid.whole, tt)
  nodes_whole items (x ∷ (y ∷ more)) (first, mine, rest, is, long, w, packs) =
      (w.node.node.laid.whole, nodes_whole rest (y ∷ more) packs)

-- cells of nodes that may stand
pub filled_sound : (level : ℕ) (ids : List ℕ) (hi : Key) (xs : List Filled) → AreWhole xs → MayStandAll level (rank hi) xs
    → (c : CellSeen) → Contains (cells_filled level ids hi xs) c → IsSound c
filled_sound level [] hi xs whole stand c at = absurd (none c at)
filled_sound level (i ∷ ids) hi [] whole stand c at = absurd (none c at)
filled_sound level (i ∷ ids) hi (x ∷ []) whole stand c at =
    let mine : CellSeen = record { id = i; level = level; lo = x.lo; hi = hi; block = x.block } in
    elim (cases (record { id = i; level = level; lo = x.lo; hi = hi; block = x.block }) c [] at) [
      | inl is ↦ subst IsSound (sym is) (sound_one mine whole.0 stand)
      | inr more ↦ absurd (none c more)
    ]
filled_sound level (i ∷ ids) hi (x ∷ (y ∷ more)) whole stand c at =
    let mine : CellSeen = record { id = i; level = level; lo = x.lo; hi = y.lo; block = x.block } in
    elim (cases (record { id = i; level = level; lo = x.lo; hi = y.lo; block = x.block }) c
    (cells_filled level ids hi (y ∷ more)) at) [
      | inl is ↦ subst IsSound (sym is) (sound_one mine whole.0 stand.0)
      | inr behind ↦ filled_sound level ids hi (y ∷ more) whole.1 stand.1 c behind
    ]
