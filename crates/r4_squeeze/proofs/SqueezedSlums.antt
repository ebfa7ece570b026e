-- A slum that is packed to the left is squeezed.
use Rattle.std.proofs.Common.{◌≡◌, inl, inr, ℕ, zero, suc, ◌^◌, ◌<◌, ◌≤◌, true, false, List, [], ◌∷◌, ◌++◌, length, map, refl, sym, ap, subst, ◌∙◌, arith}
use Rattle.std.specs.Prelude.{Contains, None, Some}
use Rattle.std.proofs.lemmas.List.{append-nil, map-append}
use Rattle.std.proofs.lemmas.List.Elements.{All-head, All-tail, Contains-append_cases}
use Rattle.r4_base.specs.Key.{least, rank, top}
use Rattle.r4_base.specs.Node.{Item, items_of, mkfs_id_of}
use Rattle.r4_base.specs.Tree.{IsNode, Root, Store}
use Rattle.r4_base.specs.Value.{Value}
use Rattle.r4_base.specs.declared.key.Key.{Key}
use Rattle.r4_branch.specs.declared.twig.Twig.{Twig}
use Rattle.r4_cell.proofs.Nodes.{cell_node}
use Rattle.r4_cell.specs.Seen.{CellSeen, node_of}
use Rattle.r4_cell.specs.Patch.{IsChange, patch_of}
use Rattle.r4_cell.specs.declared.change.Change.{Change}
use Rattle.r4_leaf.specs.Leaves.{HaveMkfsId}
use Rattle.r4_leaf.specs.declared.leaf.Leaf.{Leaf}
use Rattle.r4_patch.proofs.Members.{cases, here, later, none}
use Rattle.r4_patch.specs.Effect.{HasEffect}
use Rattle.r4_patch.specs.Joining.{ids_of, patch_of_change}
use Rattle.r4_patch.specs.Part.{MeetsPart}
use Rattle.r4_path.proofs.Rising.{hi_is, lo_is}
use Rattle.r4_path.specs.Grafts.{TwigsHaveMkfsId}
use Rattle.r4_path.specs.Nodes.{pointer_item}
use Rattle.r4_path.specs.Sharing.{IsSound, items_of_cells}
use Rattle.r4_path.specs.Steps.{Follow}
use Rattle.r4_rows.proofs.LeafSlum.{some_each}
use Rattle.r4_rows.proofs.PackedSlum.{packed_slum}
use Rattle.r4_rows.proofs.Pointing.{keeps_units, pointers_point, pointing_row}
use Rattle.r4_rows.proofs.Squeezed.{squeezed_change, squeezed_effect, squeezed_meets}
use Rattle.r4_rows.specs.Packed.{ArePackedLeft}
use Rattle.r4_rows.specs.Pointers.{PointsBelow}
use Rattle.r4_rows.specs.Rows.{AreThere}
use Rattle.r4_rows.specs.Slum.{IsPackedSlum, IsSlum, IsSqueezed, row_for}
use Rattle.r4_squeeze.specs.Over.{ComesOver, IsOver}
use Rattle.r4_squeeze.specs.Packing.{PacksNodes, cells_filled, filled_leaf, filled_twig, first_mkfs_id}
use Rattle.r4_squeeze.specs.Squeezing.{AreFilled, ArePacked, AreSoundButTwigs, Squeezes}
use Rattle.r4_squeeze.specs.declared.filled.Filled.{Filled}
use Rattle.r4_squeeze.proofs.PackedLeft.{IsLeft, all_sound, filled_left, leaves_left}

-- ---- cells that share out the same range

same_end : (l m a b x y : ℕ) (c : CellSeen) (cells : List CellSeen) → Follow l a b (c ∷ cells) → Follow m x y (c ∷ cells)
    → (l ≡ m) × (a ≡ x) × (b ≡ y)
same_end l m a b x y c [] (lc, at, less, end) (mc, ax, lx, ey) = (sym lc ∙ mc, sym at ∙ ax, sym end ∙ ey)
same_end l m a b x y c (d ∷ cells) (lc, at, less, rest) (mc, ax, lx, more) =
    let (e, f, g) = same_end l m (rank c.hi) b (rank c.hi) y d cells rest more in
    (e, sym at ∙ ax, g)

pub same_range : (l m a b x y : ℕ) (cells : List CellSeen) → 1 ≤ length cells → Follow l a b cells → Follow m x y cells
    → (l ≡ m) × (a ≡ x) × (b ≡ y)
same_range l m a b x y [] some f g = absurd (omega (arith, some))
same_range l m a b x y (c ∷ cells) some f g = same_end l m a b x y c cells f g

pub follow_as : (l m a b x y : ℕ) (cells : List CellSeen) → l ≡ m → a ≡ x → b ≡ y → Follow l a b cells → Follow m x y cells
follow_as l m a b x y cells el ea eb f =
    subst (λ k. Follow k x y cells) el (subst (λ k. Follow l k y cells) ea (subst (λ k. Follow l a k cells) eb f))

follow_rises : (level lo hi : ℕ) (cells : List CellSeen) → Follow level lo hi cells → lo ≤ hi
follow_rises level lo hi [] follow = omega (arith, follow)
follow_rises level lo hi (c ∷ cells) (l, at, lt, rest) =
    let h = follow_rises level (rank c.hi) hi cells rest in omega (arith, lt, h)

-- each lies within the range
record IsWithin (level lo hi : ℕ) (c : CellSeen) : Type 0 where
  pub level_is : c.level ≡ level
  pub from : lo ≤ rank c.lo
  pub some : rank c.lo < rank c.hi
  pub to : rank c.hi ≤ hi

within : (level lo hi : ℕ) (cells : List CellSeen) (c : CellSeen) → Follow level lo hi cells → Contains cells c
    → IsWithin level lo hi c
within level lo hi [] c follow at = absurd (none c at)
within level lo hi (d ∷ cells) c (l, from, lt, rest) at = elim (cases d c cells at) [
  | inl is ↦ subst (IsWithin level lo hi) (sym is) (record {
    level_is = l;
    from = omega (arith, from);
    some = omega (arith, from, lt);
    to = follow_rises level (rank d.hi) hi cells rest;
  })
  | inr more ↦
      let w = within level (rank d.hi) hi cells c rest more in
      let low = w.from in
      record { level_is = w.level_is; from = omega (arith, lt, low); some = w.some; to = w.to }
]

-- ---- the parts

module _ (slum cells : List CellSeen) (parent over : CellSeen) (p : ArePacked slum cells) (sound : AreSoundButTwigs slum) where
  pub left : IsLeft slum p.level p.from (rank p.hi) cells
  left = subst (IsLeft slum p.level p.from (rank p.hi)) (sym p.are)
      (filled_left p.level p.from p.hi slum p.filled p.beside p.fill sound)

  some_slum : 1 ≤ length slum
  some_slum = some_each p.level p.from (rank p.hi) slum p.beside.follow p.beside.some

  pub some_cells : 1 ≤ length cells
  some_cells = some_each p.level p.from (rank p.hi) cells left.follow p.beside.some

  ranges : (level from to : ℕ) → Follow level from to slum → Follow level from to cells
  ranges level from to follow =
      let (el, ea, eb) = same_range p.level level p.from (rank p.hi) from to slum some_slum p.beside.follow follow in
      follow_as p.level level p.from (rank p.hi) from to cells el ea eb left.follow

  pub comes : ComesOver slum cells
  comes = record { ranges = ranges; ids = left.ids; some = some_cells; few = left.few }

  pub dense_left : (from to : ℕ) → Follow 1 from to slum → from < to → ArePackedLeft slum from to cells
  dense_left from to follow less =
      let (el, ea, eb) = same_range p.level 1 p.from (rank p.hi) from to slum some_slum p.beside.follow follow in
      let along = subst (λ k. Follow k p.from (rank p.hi) slum) el p.beside.follow in
      subst (λ k. ArePackedLeft slum k to cells) ea (subst (λ k. ArePackedLeft slum p.from k cells) eb
      (subst (ArePackedLeft slum p.from (rank p.hi)) (sym (p.are ∙ ap (λ k. cells_filled k (ids_of slum) p.hi p.filled) el))
      (leaves_left slum p.from p.hi along p.beside.some
      (all_sound 1 p.from (rank p.hi) slum along (λ two. absurd (omega (arith, two))) sound) p.filled (p.fill.leaves el))))

  -- ---- the cell above

  module _ (o : IsOver parent slum cells over) where
    module _ (t : Store Value) (r : Root) (s : IsSlum t r slum parent) where
      parent_node : IsNode (node_of parent)
      parent_node = s.part.nodes parent.id (node_of parent) s.above

      parent_some : rank parent.lo < rank parent.hi
      parent_some = let h = parent_node.nonempty in let lo = lo_is parent in let hi = hi_is parent in omega (arith, h, lo, hi)

      points_below : PointsBelow o.below (row_for slum cells) (row_for (parent ∷ []) (over ∷ []))
      points_below =
          let some = parent_some in
          let low = ap rank o.lo in
          let high = ap rank o.hi in
          record {
            from = rank parent.lo;
            to = rank parent.hi;
            were = (o.stood.level, refl, some, refl);
            are = (o.level ∙ o.stood.level, low, omega (arith, some, high), high);
            sound_old = λ c at. elim (cases parent c [] at) [
              | inl is ↦ subst IsSound (sym is) o.was_sound
              | inr more ↦ absurd (none c more)
            ];
            sound_new = λ c at. elim (cases over c [] at) [
              | inl is ↦ subst IsSound (sym is) o.sound
              | inr more ↦ absurd (none c more)
            ];
            low = o.stood.from;
            high = o.stood.to;
            below_were = o.stood.follow;
            below_are = ranges o.below o.stood.from o.stood.to o.stood.follow;
            before = o.stood.before;
            gone = o.stood.gone;
            come = map pointer_item cells;
            behind = o.stood.behind;
            had = append-nil (items_of parent.block) ∙ o.stood.had;
            have = append-nil (items_of over.block) ∙ o.items;
            point_old = o.stood.points;
            point_new = pointers_point cells o.able;
            next = o.stood.next;
          }

      there_parent : AreThere t (parent ∷ [])
      there_parent c at = elim (cases parent c [] at) [
        | inl is ↦ subst (λ (x : CellSeen). t x.id ≡ Some (node_of x)) (sym is) s.above
        | inr more ↦ absurd (none c more)
      ]

      cell_is_node : (c : CellSeen) → IsSound c → 1 ≤ c.level → least ≤ rank c.lo → rank c.lo < rank c.hi → rank c.hi ≤ top
          → IsNode (node_of c)
      cell_is_node c sure some from lt to = cell_node true (2 ^ 64) c.level (rank c.lo) (rank c.hi) c.block sure.whole some
          from lt to sure.accepted

      nodes : (c : CellSeen) → Contains (cells ++ over ∷ []) c → IsNode (node_of c)
      nodes c at = elim (Contains-append_cases cells (over ∷ []) c at) [
        | inl mine ↦
            let w = within p.level p.from (rank p.hi) cells c left.follow mine in
            let level = w.level_is in
            let branch = p.beside.branch in
            let low = w.from in
            let high = w.to in
            let (bottom, above) = bounds in
            cell_is_node c (left.sound c mine) (omega (arith, level, branch)) (omega (arith, low, bottom)) w.some
            (omega (arith, high, above))
        | inr one ↦ elim (cases over c [] one) [
          | inl is ↦
              let level = o.level in
              let up = o.stood.level in
              let low = ap rank o.lo in
              let high = ap rank o.hi in
              let some = parent_some in
              let bottom = parent_node.from_least in
              let above = parent_node.to_top in
              let lo = lo_is parent in
              let hi = hi_is parent in
              subst (λ (x : CellSeen). IsNode (node_of x)) (sym is) (cell_is_node over o.sound (omega (arith, level, up))
              (omega (arith, bottom, lo, low)) (omega (arith, some, low, high)) (omega (arith, above, hi, high)))
          | inr more ↦ absurd (none c more)
        ]
      ]
        where
          first_bound : (level from to : ℕ) (cs : List CellSeen) → Follow level from to cs → 1 ≤ length cs
              → ((c : CellSeen) → Contains cs c → IsNode (node_of c)) → least ≤ from
          first_bound level from to [] follow some each = absurd (omega (arith, some))
          first_bound level from to (d ∷ cs) follow some each =
              let bottom = (each d (here d cs)).from_least in
              let lo = lo_is d in
              let at = follow.1 in
              omega (arith, bottom, lo, at)

          last_bound : (level from to : ℕ) (cs : List CellSeen) → Follow level from to cs → 1 ≤ length cs
              → ((c : CellSeen) → Contains cs c → IsNode (node_of c)) → to ≤ top
          last_bound level from to [] follow some each = absurd (omega (arith, some))
          last_bound level from to (d ∷ []) follow some each =
              let above = (each d (here d [])).to_top in
              let hi = hi_is d in
              let end = follow.3 in
              omega (arith, above, hi, end)
          last_bound level from to (d ∷ (e ∷ cs)) follow some each =
              last_bound level (rank d.hi) to (e ∷ cs) follow.3 (omega arith) (λ x m. each x (later d x (e ∷ cs) m))

          slum_node : (x : CellSeen) → Contains slum x → IsNode (node_of x)
          slum_node x m = s.part.nodes x.id (node_of x) (s.there x m)

          bounds : (least ≤ p.from) × (rank p.hi ≤ top)
          bounds = (
            first_bound p.level p.from (rank p.hi) slum p.beside.follow some_slum slum_node,
            last_bound p.level p.from (rank p.hi) slum p.beside.follow some_slum slum_node,
          )

      is_packed : IsPackedSlum t slum parent cells over
      is_packed =
          let (el, ea, eb) = same_range p.level o.below p.from (rank p.hi) o.stood.from o.stood.to slum some_slum
          p.beside.follow o.stood.follow in
          let some = p.beside.some in
          record {
            level = o.below;
            from = o.stood.from;
            to = o.stood.to;
            some = omega (arith, some, ea, eb);
            were = o.stood.follow;
            are = ranges o.below o.stood.from o.stood.to o.stood.follow;
            ids = left.ids;
            units = left.units;
            names = left.names;
            nodes = nodes;
            id = o.id;
            row = pointing_row o.below o.stood.low (row_for slum cells) (row_for (parent ∷ []) (over ∷ [])) points_below t
                there_parent;
            own = keeps_units o.below o.stood.low (row_for slum cells) (row_for (parent ∷ []) (over ∷ [])) points_below;
          }

      pub is_squeezed : IsSqueezed slum parent cells over
      is_squeezed = packed_slum t slum cells parent over is_packed

-- ---- the mkfs_ids

abbrev pub AllHaveId : ℕ → List Filled → Type 0
AllHaveId m [] = Unit {0}
AllHaveId m (x ∷ xs) = (mkfs_id_of x.block ≡ m) × AllHaveId m xs

leaves_ids : (m : ℕ) (leaves : List Leaf) → HaveMkfsId m leaves → AllHaveId m (map filled_leaf leaves)
leaves_ids m [] all = tt
leaves_ids m (x ∷ xs) all = (
  All-head (λ (y : Leaf). mkfs_id_of y.block ≡ m) x xs all,
  leaves_ids m xs (All-tail (λ (y : Leaf). mkfs_id_of y.block ≡ m) x xs all),
)

pub twigs_ids : (m : ℕ) (twigs : List Twig) → TwigsHaveMkfsId m twigs → AllHaveId m (map filled_twig twigs)
twigs_ids m [] all = tt
twigs_ids m (x ∷ xs) all = (all x (here x xs), twigs_ids m xs (λ y at. all y (later x y xs at)))

pub nodes_ids : (level m : ℕ) (items : List Item) (xs : List Filled) → PacksNodes level m items xs → AllHaveId m xs
nodes_ids level m items [] packs = tt
nodes_ids level m items (x ∷ []) (first, mine, is, few, w) = (w.mkfs_id_is, tt)
nodes_ids level m items (x ∷ (y ∷ more)) (first, mine, rest, is, long, w, packs) =
    (w.mkfs_id_is, nodes_ids level m rest (y ∷ more) packs)

pub cells_ids : (m level : ℕ) (ids : List ℕ) (hi : Key) (xs : List Filled) → AllHaveId m xs → (c : CellSeen)
    → Contains (cells_filled level ids hi xs) c → mkfs_id_of c.block ≡ m
cells_ids m level [] hi xs all c at = absurd (none c at)
cells_ids m level (i ∷ ids) hi [] all c at = absurd (none c at)
cells_ids m level (i ∷ ids) hi (x ∷ []) all c at =
    elim (cases (record { id = i; level = level; lo = x.lo; hi = hi; block = x.block }) c [] at) [
      | inl is ↦ ap (λ (y : CellSeen). mkfs_id_of y.block) is ∙ all.0
      | inr more ↦ absurd (none c more)
    ]
cells_ids m level (i ∷ ids) hi (x ∷ (y ∷ more)) all c at =
    elim (cases (record { id = i; level = level; lo = x.lo; hi = y.lo; block = x.block }) c
    (cells_filled level ids hi (y ∷ more)) at) [
      | inl is ↦ ap (λ (z : CellSeen). mkfs_id_of z.block) is ∙ all.0
      | inr behind ↦ cells_ids m level ids hi (y ∷ more) all.1 c behind
    ]

filled_have : (level from to : ℕ) (slum : List CellSeen) (filled : List Filled) → 1 ≤ level
    → AreFilled level from to slum filled → AllHaveId (first_mkfs_id slum) filled
filled_have zero from to slum filled low fill = absurd (omega (arith, low))
filled_have (suc zero) from to slum filled low fill =
    let packs = fill.leaves refl in
    subst (AllHaveId (first_mkfs_id slum)) (sym packs.are) (leaves_ids (first_mkfs_id slum) packs.leaves packs.mkfs_id)
filled_have (suc (suc zero)) from to slum filled low fill =
    let packs = fill.twigs refl in
    subst (AllHaveId (first_mkfs_id slum)) (sym packs.are) (twigs_ids (first_mkfs_id slum) packs.twigs packs.mkfs_id)
filled_have (suc (suc (suc k))) from to slum filled low fill =
    nodes_ids (suc (suc (suc k))) (first_mkfs_id slum) (items_of_cells slum) filled (fill.nodes (omega arith))

pub packed_ids : (slum cells : List CellSeen) (p : ArePacked slum cells) (c : CellSeen) → Contains cells c
    → mkfs_id_of c.block ≡ first_mkfs_id slum
packed_ids slum cells p c at = cells_ids (first_mkfs_id slum) p.level (ids_of slum) p.hi p.filled
    (filled_have p.level p.from (rank p.hi) slum p.filled p.beside.branch p.fill) c
    (subst (λ cs. Contains cs c) p.are at)

-- ---- the change

pub squeezes : (slum cells : List CellSeen) (parent over : CellSeen) (c : Change) → ArePacked slum cells
    → AreSoundButTwigs slum → IsOver parent slum cells over → c.old ≡ slum ++ parent ∷ [] → c.new ≡ cells ++ over ∷ []
    → c.root ≡ None → Squeezes slum parent c
squeezes slum cells parent over c p sound o old new root = record {
  cells = cells;
  over = over;
  old = old;
  new = new;
  root = root;
  squeezed = is_squeezed slum cells parent over p sound o;
  few = (left slum cells parent over p sound).few;
  packed = p;
  dense = dense_left slum cells parent over p sound;
  mkfs_ids = packed_ids slum cells p;
  above = o;
}

module _ (slum : List CellSeen) (parent : CellSeen) (c : Change) (s : Squeezes slum parent c) (t : Store Value) (r : Root)
    (is : IsSlum t r slum parent) where
  pub is_change : IsChange c.old c.new c.root
  is_change = subst (λ o. IsChange o c.new c.root) (sym s.old) (subst (λ n. IsChange (slum ++ parent ∷ []) n c.root)
      (sym s.new) (subst (IsChange (slum ++ parent ∷ []) (s.cells ++ s.over ∷ [])) (sym s.root)
      (squeezed_change t r slum s.cells parent s.over is (s.squeezed t r is))))

  pub meets_part : MeetsPart (patch_of_change c) t r
  meets_part = subst (λ o. MeetsPart (patch_of o c.new c.root) t r) (sym s.old)
      (subst (λ n. MeetsPart (patch_of (slum ++ parent ∷ []) n c.root) t r)
      (sym s.new) (subst (λ k. MeetsPart (patch_of (slum ++ parent ∷ []) (s.cells ++ s.over ∷ []) k) t r) (sym s.root)
      (squeezed_meets t r slum s.cells parent s.over is (s.squeezed t r is))))

  pub has_effect : HasEffect (patch_of_change c) (λ k. false) (λ k. None)
  has_effect = subst (λ o. HasEffect (patch_of o c.new c.root) (λ k. false) (λ k. None)) (sym s.old)
      (subst (λ n. HasEffect (patch_of (slum ++ parent ∷ []) n c.root) (λ k. false) (λ k. None))
      (sym s.new) (subst (λ k. HasEffect (patch_of (slum ++ parent ∷ []) (s.cells ++ s.over ∷ []) k) (λ k. false) (λ k. None))
      (sym s.root) (squeezed_effect t r slum s.cells parent s.over is (s.squeezed t r is))))

-- one more of a list of cells
pub pushed : {A : Type 0} (f : A → CellSeen) (xs ys : List A) (x : A) (base : List CellSeen) (y : CellSeen)
    → ys ≡ xs ++ x ∷ [] → map f xs ≡ base → f x ≡ y → map f ys ≡ base ++ y ∷ []
pushed f xs ys x base y is had same = ap (map f) is
    ∙ (map-append f xs (x ∷ []) ∙ (ap (λ zs. zs ++ f x ∷ []) had ∙ ap (λ z. base ++ z ∷ []) same))
