-- The leaves of a slum: their items come behind those of the first.
use Rattle.std.proofs.Common.{◌≡◌, inl, inr, ℕ, ◌+◌, ◌^◌, ◌<◌, ◌≤◌, true, List, [], ◌∷◌, ◌++◌, map, refl, sym, ap, subst, ◌∙◌, ◌-◌, arith, drop, get_or, length, take}
use Rattle.std.specs.Prelude.{Contains, None}
use Rattle.std.proofs.lemmas.List.{take_all}
use Rattle.r4_base.specs.Cell.{cell_fault, item_end, units_in}
use Rattle.r4_base.specs.Key.{rank}
use Rattle.r4_base.specs.Node.{Item, items_of, mkfs_id_of}
use Rattle.r4_cell.specs.Seen.{CellSeen}
use Rattle.r4_leaf.specs.Items.{Lie}
use Rattle.r4_leaf.specs.Leaves.{HaveMkfsId, Packs}
use Rattle.r4_leaf.specs.Remade.{AreWithin, CanPutAll, item_of, units_after}
use Rattle.r4_leaf.specs.Units.{LeafUnit}
use Rattle.r4_leaf.specs.declared.leaf.Leaf.{Leaf}
use Rattle.r4_leaf.specs.declared.remaking.Given.{Given}
use Rattle.r4_leaf.proofs.Filled.{items_append, lie_lower, lie_wider}
use Rattle.r4_leaf.proofs.LeafItems.{lie_rise, spread}
use Rattle.r4_leaf.proofs.Lying.{units_nil}
use Rattle.r4_leaf.proofs.Packed.{lie_order}
use Rattle.r4_leaf.proofs.Rising.{Rise, rise_order}
use Rattle.r4_leaf.proofs.Standing.{stand_lie}
use Rattle.r4_patch.proofs.Members.{cases, here, later, none}
use Rattle.r4_path.proofs.CellNodes.{units_are}
use Rattle.r4_path.specs.Levels.{units_of_cells}
use Rattle.r4_path.specs.Sharing.{IsSound, items_of_cells}
use Rattle.r4_path.specs.Steps.{Follow}
use Rattle.r4_rows.proofs.PutBehind.{can_put_behind, put_all_behind}
use Rattle.r4_rows.specs.Behind.{EachMayBePut, UnitsRise}
use Rattle.r4_squeeze.specs.Packing.{PacksLeaves, filled_leaf}
use Rattle.r4_squeeze.specs.declared.filled.Filled.{Filled}
use Rattle.r4_squeeze.proofs.TwigSlums.{split_first}

lie_join : (from mid to : ℕ) (xs ys : List Item) → Lie from mid xs → Lie mid to ys → Lie from to (xs ++ ys)
lie_join from mid to [] ys h g = lie_lower mid from to ys h g
lie_join from mid to (x ∷ xs) ys h g = (h.0, h.1, lie_join (item_end x) mid to xs ys h.2 g)

pub cells_lie : (lo hi : ℕ) (cells : List CellSeen) → Follow 1 lo hi cells
    → ((c : CellSeen) → Contains cells c → IsSound c) → Lie lo hi (items_of_cells cells)
cells_lie lo hi [] follow sound = omega (arith, follow)
cells_lie lo hi (c ∷ cells) (level, at, lt, rest) sound =
    let s = sound c (here c cells) in
    let stands = subst (λ l. cell_fault true (2 ^ 64) l (rank c.lo) (rank c.hi) c.block ≡ None) level s.accepted in
    lie_join lo (rank c.hi) hi (items_of c.block) (items_of_cells cells)
    (subst (λ k. Lie k (rank c.hi) (items_of c.block)) at
    (stand_lie (rank c.lo) (rank c.hi) c.block (s.whole, stands) (inl (omega (arith, at, lt)))))
    (cells_lie (rank c.hi) hi cells rest (λ d m. sound d (later c d cells m)))

pub units_are_all : (lo hi : ℕ) (cells : List CellSeen) → Follow 1 lo hi cells
    → units_of_cells cells ≡ units_in (items_of_cells cells)
units_are_all lo hi [] follow = sym units_nil
units_are_all lo hi (c ∷ cells) (level, at, lt, rest) =
    ap (λ us. us ++ units_of_cells cells) (units_are c 0 level)
    ∙ (ap (λ us. units_in (items_of c.block) ++ us) (units_are_all (rank c.hi) hi cells rest)
    ∙ sym (items_append (items_of c.block) (items_of_cells cells)))

pub may_each : (lo hi : ℕ) (gs : List Given) → Lie lo hi (map item_of gs) → EachMayBePut gs
may_each lo hi [] h = tt
may_each lo hi (g ∷ gs) h = (
  record { plugin = h.1.plugin; sound = h.1.body },
  may_each (item_end (item_of g)) hi gs h.2,
)

pub within_each : (lo mid hi : ℕ) (gs : List Given) → lo ≤ mid → Lie mid hi (map item_of gs) → AreWithin lo hi gs
within_each lo mid hi [] le h = tt
within_each lo mid hi (g ∷ gs) le h =
    let low = h.0 in
    let over = rise_order (rank (item_of g).key) (item_end (item_of g)) _ (spread (item_of g) h.1).rise in (
      omega (arith, le, low),
      lie_order (item_end (item_of g)) hi (map item_of gs) h.2,
      within_each lo (item_end (item_of g)) hi gs (omega (arith, le, low, over)) h.2,
    )

rise_low : (from to : ℕ) (us : List LeafUnit) → Rise from to us → (w : LeafUnit) → Contains us w → from ≤ w.0
rise_low from to [] h w at = absurd (none w at)
rise_low from to (u ∷ us) (low, rest) w at = elim (cases u w us at) [
  | inl is ↦ let same = ap (λ (x : LeafUnit). x.0) is in omega (arith, low, same)
  | inr more ↦ let over = rise_low (u.0 + 1) to us rest w more in omega (arith, low, over)
]

pub units_rise : (from to : ℕ) (us : List LeafUnit) → Rise from to us → UnitsRise us
units_rise from to [] h = tt
units_rise from to (u ∷ us) (low, rest) = (
  λ w at. let over = rise_low (u.0 + 1) to us rest w at in omega (arith, over),
  units_rise (u.0 + 1) to us rest,
)

-- ---- the first leaf, and the items that come behind its own

module _ (c : CellSeen) (cells : List CellSeen) (from to : ℕ) (less : from < to) (follow : Follow 1 from to (c ∷ cells))
    (sound : (x : CellSeen) → Contains (c ∷ cells) x → IsSound x) (gs : List Given)
    (are : map item_of gs ≡ items_of_cells cells) where
  behind_lie : Lie (rank c.hi) to (map item_of gs)
  behind_lie = subst (Lie (rank c.hi) to) (sym are)
      (cells_lie (rank c.hi) to cells follow.3 (λ d m. sound d (later c d cells m)))

  ends : rank c.hi ≤ to
  ends = lie_order (rank c.hi) to (map item_of gs) behind_lie

  pub first_lies : Lie (rank c.lo) to (items_of c.block)
  first_lies =
      let s = sound c (here c cells) in
      let at = follow.1 in
      let lt = follow.2 in
      let stands = subst (λ l. cell_fault true (2 ^ 64) l (rank c.lo) (rank c.hi) c.block ≡ None) follow.0 s.accepted in
      lie_wider (rank c.lo) (rank c.hi) to (items_of c.block) ends
      (stand_lie (rank c.lo) (rank c.hi) c.block (s.whole, stands) (inl (omega (arith, at, lt))))

  pub behind_within : AreWithin (rank c.lo) to gs
  behind_within =
      let at = follow.1 in
      let lt = follow.2 in
      within_each (rank c.lo) (rank c.hi) to gs (omega (arith, at, lt)) behind_lie

  all_rise : UnitsRise (units_in (items_of c.block) ++ units_in (map item_of gs))
  all_rise =
      let one = ap (λ xs. units_in (items_of c.block) ++ units_in xs) are
      ∙ sym (items_append (items_of c.block) (items_of_cells cells)) in
      subst UnitsRise (sym one)
      (units_rise from to (units_in (items_of_cells (c ∷ cells)))
      (lie_rise from to (items_of_cells (c ∷ cells)) (cells_lie from to (c ∷ cells) follow sound)))

  pub behind_can : CanPutAll gs (units_in (items_of c.block))
  behind_can = can_put_behind gs (units_in (items_of c.block)) (may_each (rank c.hi) to gs behind_lie) all_rise

  pub units_together : units_after [] gs (items_of c.block) ≡ units_of_cells (c ∷ cells)
  units_together = put_all_behind gs (units_in (items_of c.block)) all_rise
      ∙ (ap (λ xs. units_in (items_of c.block) ++ units_in xs) are
      ∙ (sym (items_append (items_of c.block) (items_of_cells cells))
      ∙ sym (units_are_all from to (c ∷ cells) follow)))

  -- what is packed is the slum's
  pub slum_leaves : (leaves : List Leaf) (m : ℕ) (filled : List Filled)
      → ((hi : ℕ) → Lie (rank c.lo) hi (items_of c.block) → AreWithin (rank c.lo) hi gs
      → Packs (rank c.lo) hi (units_after [] gs (items_of c.block)) leaves)
      → HaveMkfsId m leaves → m ≡ mkfs_id_of c.block → filled ≡ map filled_leaf leaves
      → PacksLeaves from to (c ∷ cells) filled
  slum_leaves leaves m filled packs have same is = record {
    leaves = leaves;
    are = is;
    packs = subst (λ us. Packs from to us leaves) units_together
        (subst (λ k. Packs k to (units_after [] gs (items_of c.block)) leaves) follow.1
        (packs to first_lies behind_within));
    mkfs_id = subst (λ n. HaveMkfsId n leaves) same have;
  }

-- ---- the same, as the code has it

pub tail_is : {A : Type 0} (xs : List A) → take (length xs - 1) (drop 1 xs) ≡ drop 1 xs
tail_is [] = refl
tail_is (x ∷ xs) = take_all (length (x ∷ xs) - 1) xs (omega arith)

module _ {A : Type 0} (f : A → CellSeen) (xs : List A) (x : A) (from to lo : ℕ) (less : from < to) (is : x ≡ get_or xs 0 x)
    (follow : Follow 1 from to (map f xs)) (own : IsSound (f x)) (gs items_given : List Given)
    (given : items_given ≡ gs)
    (are : map item_of gs ≡ items_of_cells (map f (drop 1 xs)))
    (sound : (c : CellSeen) → Contains (map f (drop 1 xs)) c → IsSound c)
    (items : List Item) (its : items ≡ items_of (f x).block) (begin : lo ≡ rank (f x).lo) where
  rest : List A
  rest = (split_first f 1 from to xs x is follow less).0

  parts : xs ≡ x ∷ rest
  unfolding rest
  parts = (split_first f 1 from to xs x is follow less).1

  follow_parts : Follow 1 from to (f x ∷ map f rest)
  follow_parts = subst (λ ys. Follow 1 from to (map f ys)) parts follow

  are_parts : map item_of items_given ≡ items_of_cells (map f rest)
  are_parts = ap (map item_of) given ∙ (are ∙ ap (λ ys. items_of_cells (map f (drop 1 ys))) parts)

  sound_parts : (c : CellSeen) → Contains (f x ∷ map f rest) c → IsSound c
  sound_parts c at = elim (cases (f x) c (map f rest) at) [
    | inl same ↦ subst IsSound (sym same) own
    | inr more ↦ subst (λ ys. (c : CellSeen) → Contains (map f (drop 1 ys)) c → IsSound c) parts sound c more
  ]

  pub lies_first : Lie lo to items × AreWithin lo to items_given
  lies_first = (
    subst (λ k. Lie k to items) (sym begin) (subst (Lie (rank (f x).lo) to) (sym its)
        (first_lies (f x) (map f rest) from to less follow_parts sound_parts items_given are_parts)),
    subst (λ k. AreWithin k to items_given) (sym begin)
        (behind_within (f x) (map f rest) from to less follow_parts sound_parts items_given are_parts),
  )

  pub can_first : CanPutAll items_given (units_in items)
  can_first = subst (λ zs. CanPutAll items_given (units_in zs)) (sym its)
      (behind_can (f x) (map f rest) from to less follow_parts sound_parts items_given are_parts)

  pub leaves_first : (leaves : List Leaf) (m : ℕ) (filled : List Filled)
      → ((hi : ℕ) → Lie lo hi items → AreWithin lo hi items_given
      → Packs lo hi (units_after [] items_given items) leaves)
      → HaveMkfsId m leaves → m ≡ mkfs_id_of (f x).block → filled ≡ map filled_leaf leaves
      → PacksLeaves from to (map f xs) filled
  leaves_first leaves m filled packs have same done =
      subst (λ ys. PacksLeaves from to (map f ys) filled) (sym parts)
      (slum_leaves (f x) (map f rest) from to less follow_parts sound_parts items_given are_parts leaves m filled
      (subst (λ k. (hi : ℕ) → Lie k hi (items_of (f x).block) → AreWithin k hi items_given
      → Packs k hi (units_after [] items_given (items_of (f x).block)) leaves) begin
      (subst (λ zs. (hi : ℕ) → Lie lo hi zs → AreWithin lo hi items_given
      → Packs lo hi (units_after [] items_given zs) leaves) its packs)) have same done)
