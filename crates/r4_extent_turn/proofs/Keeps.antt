-- What stays of leaves, under other numbers: leaves that may stand, with the units that it is to have.
use Rattle.std.proofs.Common.{◌≡◌, ◌↔◌, ◌⊎◌, inl, inr, ℕ, ◌+◌, ◌<◌, ◌≤◌, Bool, true, false, List, [], ◌∷◌, ◌++◌, length, refl, sym, ap, subst, ◌∙◌, arith, eq-eqb}
use Rattle.std.specs.Prelude.{Contains, Option, None, Some, ◌==◌, if◌then◌else◌, nat_lt, option_map}
use Rattle.std.proofs.lemmas.Bool.{cases_lt, eqb-true, lt-ltb, ltb-true}
use Rattle.std.proofs.lemmas.List.Elements.{Contains-append_cases, Contains-append_left, Contains-append_right}
use Rattle.r4_base.specs.Key.{rank}
use Rattle.r4_base.specs.Tree.{IsNode}
use Rattle.r4_base.specs.Value.{Value}
use Rattle.r4_base.specs.declared.key.Key.{Key}
use Rattle.r4_extent_build.specs.r4_cell.Seen.{CellSeen, node_of}
use Rattle.r4_extent_build.specs.r4_edit.Extents.{given_cells}
use Rattle.r4_extent_build.specs.r4_edit.LeafParts.{HasLeft, HasRight, units_below}
use Rattle.r4_build.proofs.r4_edit.OverLeaf.{leaf_node}
use Rattle.r4_extent_build.specs.Growing.{end_after}
use Rattle.r4_extent_build.specs.r4_extent_edit.Turning.{last_leaf}
use Rattle.r4_extent_build.proofs.r4_extent_edit.ExtentEffect.{is_off, is_on}
use Rattle.r4_extent_build.proofs.r4_extent_edit.GraftEffect.{IsPlacedIn}
use Rattle.r4_extent_build.proofs.r4_extent_edit.TurnEffect.{KeepsFrom, keeps_from}
use Rattle.r4_extent_build.proofs.r4_extent_edit.TurnPieces.{last_in}
use Rattle.r4_build.specs.r4_leaf.Units.{LeafUnit}
use Rattle.r4_build.specs.r4_patch.Effect.{Placed}
use Rattle.r4_build.proofs.r4_patch.Members.{Distinct, cases, here, later, none}
use Rattle.r4_build.specs.r4_path.Steps.{Follow}
use Rattle.r4_build.proofs.r4_path.Rising.{InCell, follow_within, in_cell}
use Rattle.r4_build.specs.r4_reach.Touched.{Body, first_byte}
use Rattle.r4_build.proofs.r4_work.UnitMembers.{filtered, to_filtered}
use Rattle.r4_extent_turn.specs.Turning.{AreKept, IsTurnFor, Kept, Turn, in_turned, kept_cells, last_of, leaves_of, numbered, right_number, with_id}
use Rattle.r4_extent_turn.proofs.Comes.{right_low}

-- ---- their numbers

pub other_number : (x : Turn) (m : ℕ) → right_number x m ≡ x.leaf.id → ⊥
other_number x m = by_test (x.leaf.id == m) refl
  where
    by_test : (t : Bool) → (x.leaf.id == m) ≡ t → (if t then m + 1 else m) ≡ x.leaf.id → ⊥
    by_test true is same = let e = eqb-true x.leaf.id m is in omega (arith, e, same)
    by_test false is same = let bad : true ≡ false = sym (eq-eqb x.leaf.id m (sym same)) ∙ is in cc

pub number_within : (x : Turn) (m : ℕ) → (m ≤ right_number x m) × (right_number x m < m + 2)
number_within x m = by_test (x.leaf.id == m)
  where
    by_test : (t : Bool) → (m ≤ (if t then m + 1 else m)) × ((if t then m + 1 else m) < m + 2)
    by_test true = (omega arith, omega arith)
    by_test false = (omega arith, omega arith)

pub number_taken : (x : Turn) (m : ℕ) → Contains (m ∷ (m + 1) ∷ []) (right_number x m)
number_taken x m = by_test (x.leaf.id == m)
  where
    by_test : (t : Bool) → Contains (m ∷ (m + 1) ∷ []) (if t then m + 1 else m)
    by_test true = later m (m + 1) ((m + 1) ∷ []) (here (m + 1) [])
    by_test false = here m ((m + 1) ∷ [])

pub few_kept : (s : Kept) → length (kept_cells s) ≤ 2
few_kept s = by_both s.left s.right
  where
    by_both : (l o : Option CellSeen) → length (given_cells l ++ given_cells o) ≤ 2
    by_both None None = omega arith
    by_both None (Some c) = omega arith
    by_both (Some l) None = omega arith
    by_both (Some l) (Some c) = omega arith

-- The first leaf's rest has its number, and the last one's another.
pub record AreNumbered (x : Turn) (m : ℕ) (cells : List CellSeen) (count : ℕ) : Type 0 where
  pub distinct : Distinct cells
  pub each : (d : CellSeen) → Contains cells d → (d.id ≡ x.leaf.id) ⊎ (d.id ≡ right_number x m)
  pub long : length cells ≡ count

pub numbers_are : (x : Turn) (from : Key) (m : ℕ) (s : Kept) → HasLeft x.leaf from s.left → AreNumbered x m (kept_cells (numbered x m s)) (length (kept_cells s))
numbers_are x from m s left_is = by_both s.left s.right left_is
  where
    at_most : (c : CellSeen) → Distinct (c ∷ [])
    at_most c = (λ y at. absurd (none y at), tt)

    of_right : (c d : CellSeen) → Contains (with_id (right_number x m) c ∷ []) d → d.id ≡ right_number x m
    of_right c d at = elim (cases (with_id (right_number x m) c) d [] at) [
      | inl is ↦ ap (λ (z : CellSeen). z.id) is
      | inr nothing ↦ absurd (none d nothing)
    ]

    by_both : (l o : Option CellSeen) → HasLeft x.leaf from l
        → AreNumbered x m (given_cells l ++ given_cells (option_map (with_id (right_number x m)) o)) (length (given_cells l ++ given_cells o))
    by_both None None h = record { distinct = tt; each = λ d at. absurd (none d at); long = refl }
    by_both None (Some c) h = record { distinct = at_most (with_id (right_number x m) c); each = λ d at. inr (of_right c d at); long = refl }
    by_both (Some l) None h = record {
      distinct = at_most l;
      each = λ d at. elim (cases l d [] at) [
        | inl is ↦ inl (ap (λ (z : CellSeen). z.id) is ∙ h.1.number)
        | inr nothing ↦ absurd (none d nothing)
      ];
      long = refl;
    }
    by_both (Some l) (Some c) h = record {
      distinct = (
        λ y at same. let id = of_right c y at in let n = h.1.number in other_number x m (omega (arith, id, n, same)),
        at_most (with_id (right_number x m) c),
      );
      each = λ d at. elim (cases l d (with_id (right_number x m) c ∷ []) at) [
        | inl is ↦ inl (ap (λ (z : CellSeen). z.id) is ∙ h.1.number)
        | inr more ↦ inr (of_right c d more)
      ];
      long = refl;
    }

-- what stays of the last leaf under another number
right_under : (leaf : CellSeen) (key : Key) (i m : ℕ) (o : Option CellSeen) → HasRight leaf key i o → HasRight leaf key m (option_map (with_id m) o)
right_under leaf key i m None h = h
right_under leaf key i m (Some c) h = record {
  number = refl;
  level_is = h.level_is;
  from = h.from;
  whole_key = h.whole_key;
  to = h.to;
  units = h.units;
  sound = record { whole = h.sound.whole; accepted = h.sound.accepted };
  mkfs_id = h.mkfs_id;
}

below_members : (k : ℕ) (us : List LeafUnit) (u : LeafUnit) → Contains (units_below k us) u ↔ (Contains us u × (u.0 < k))
below_members k us u = (
  λ h. let x = filtered (λ (w : LeafUnit). nat_lt w.0 k) us u h in (x.0, ltb-true u.0 k x.1),
  λ h. to_filtered (λ (w : LeafUnit). nat_lt w.0 k) us u (lt-ltb u.0 k h.1) h.0,
)

-- a leaf before the last one ends where that begins, or before
pub ends_before : (lo end : ℕ) (leaf : CellSeen) (more : List CellSeen) (c : CellSeen)
    → Follow 1 lo end (leaf ∷ more) → Contains (leaf ∷ more) c
    → (c ≡ last_leaf leaf more) ⊎ (rank c.hi ≤ rank (last_leaf leaf more).lo)
ends_before lo end leaf [] c f at = elim (cases leaf c [] at) [
  | inl is ↦ inl is
  | inr none_is ↦ absurd (none c none_is)
]
ends_before lo end leaf (d ∷ ds) c f at = elim (cases leaf c (d ∷ ds) at) [
  | inl is ↦
      let same : rank c.hi ≡ rank leaf.hi = ap (λ (x : CellSeen). rank x.hi) is in
      let w = follow_within 1 (rank leaf.hi) end (d ∷ ds) (last_leaf d ds) f.3 (last_in d ds) in
      let from = w.from in
      inr (omega (arith, same, from))
  | inr more_at ↦ ends_before (rank leaf.hi) end d ds c f.3 more_at
]

same_kind : (x y : CellSeen) (b : Bool) → x.level ≡ 1 → y.level ≡ 1 → (x.level == 1) ≡ b → (y.level == 1) ≡ b
same_kind x y b one two kind = ap (λ (l : ℕ). l == 1) (two ∙ sym one) ∙ kind

pub leaf_level : (b : Body) (x : Turn) → IsTurnFor b x → (d : CellSeen) → Contains (leaves_of x) d → d.level ≡ 1
leaf_level b x c d at = (follow_within 1 (rank x.leaf.lo) (rank (last_of x).hi) (leaves_of x) d c.beside at).level_as

module _ (b : Body) (x : Turn) (c : IsTurnFor b x) (s : Kept) (k : AreKept b x s) where
  -- ---- they may stand

  left_node : (o : Option CellSeen) → HasLeft x.leaf k.from o → (d : CellSeen) → Contains (given_cells o) d → IsNode (node_of d) × (d.level ≡ 1)
  left_node None h d at = absurd (none d at)
  left_node (Some l) h d at = elim (cases l d [] at) [
    | inl same ↦
        let lo = ap rank h.1.from in
        let hi = ap rank h.1.to in
        let lt = h.0 in
        let is = k.from_is in
        let begins = c.around.begins in
        let node : IsNode (node_of l) = leaf_node x.leaf l (c.nodes x.leaf (here x.leaf x.more)) h.1.level_is (omega (arith, lo)) (omega (arith, lo, hi, lt)) (omega (arith, hi, is, begins)) h.1.sound in
        (subst (λ (y : CellSeen). IsNode (node_of y)) (sym same) node, ap (λ (y : CellSeen). y.level) same ∙ h.1.level_is)
    | inr nothing ↦ absurd (none d nothing)
  ]

  right_node : (m : ℕ) (o : Option CellSeen) → s.right ≡ o → HasRight (last_of x) k.to k.right_id o → (d : CellSeen) → Contains (given_cells (option_map (with_id m) o)) d → IsNode (node_of d) × (d.level ≡ 1)
  right_node m None is h d at = absurd (none d at)
  right_node m (Some l) is h d at = elim (cases (with_id m l) d [] at) [
    | inl same ↦
        let hi = ap rank h.to in
        let low = right_low b x c s k l is in
        let ends = c.around.ends in
        let node : IsNode (node_of l) = leaf_node (last_of x) l (c.nodes (last_of x) (last_in x.leaf x.more)) h.level_is (omega (arith, low, ends)) (omega (arith, hi, low)) (omega (arith, hi)) h.sound in
        (subst (λ (y : CellSeen). IsNode (node_of y)) (sym same) node, ap (λ (y : CellSeen). y.level) same ∙ h.level_is)
    | inr nothing ↦ absurd (none d nothing)
  ]

  pub kept_node : (m : ℕ) (d : CellSeen) → Contains (kept_cells (numbered x m s)) d → IsNode (node_of d) × (d.level ≡ 1)
  kept_node m d at = elim (Contains-append_cases (given_cells s.left) (given_cells (numbered x m s).right) d at) [
    | inl a ↦ left_node s.left k.left d a
    | inr a ↦ right_node (right_number x m) s.right refl k.right d a
  ]

  -- ---- their units

  inside : (d : CellSeen) (j : ℕ) (v : Value) → Contains (leaves_of x) d → Contains (node_of d).units (j, v) → InCell d j
  inside d j v at has = in_cell d j ((c.nodes d at).unit_in j v has)

  below_off : (j : ℕ) → j < first_byte b → in_turned b j ≡ false
  below_off j lt = is_off (first_byte b) (end_after b) j (λ a z. omega (arith, a, lt))

  behind_off : (j : ℕ) → end_after b ≤ j → in_turned b j ≡ false
  behind_off j le = is_off (first_byte b) (end_after b) j (λ a z. omega (arith, z, le))

  off_cases : (j : ℕ) → in_turned b j ≡ false → (j < first_byte b) ⊎ (end_after b ≤ j)
  off_cases j off = elim (cases_lt j (first_byte b)) [
    | inl lt ↦ inl lt
    | inr ge ↦ elim (cases_lt j (end_after b)) [
      | inl low ↦ absurd (by_test (in_turned b j) refl ge low)
      | inr le ↦ inr le
    ]
  ]
    where
      by_test : (t : Bool) → in_turned b j ≡ t → first_byte b ≤ j → j < end_after b → ⊥
      by_test t is ge low = let on = is_on (first_byte b) (end_after b) j ge low in let bad : true ≡ false = sym on ∙ off in cc

  module _ (m : ℕ) where
    right_keeps : KeepsFrom (end_after b) (last_of x) (numbered x m s).right
    right_keeps =
        let is = k.to_is in
        keeps_from k.to (end_after b) (last_of x) (right_number x m) (numbered x m s).right
        (right_under (last_of x) k.to k.right_id (right_number x m) s.right k.right) (leaf_level b x c (last_of x) (last_in x.leaf x.more))
        (λ j v at. (λ a. omega (arith, a, is), λ a. omega (arith, a, is)))

    from_left : (o : Option CellSeen) → HasLeft x.leaf k.from o → (j : ℕ) (u : Placed Value)
        → IsPlacedIn (given_cells o) j u → IsPlacedIn (leaves_of x) j u × (in_turned b j ≡ false)
    from_left None h j u (d, at, has, kind) = absurd (none d at)
    from_left (Some y) h j u (d, at, has, kind) = elim (cases y d [] at) [
      | inr nothing ↦ absurd (none d nothing)
      | inl same ↦
          let units = subst (λ us. Contains us (j, u.0)) (ap (λ (z : CellSeen). (node_of z).units) same ∙ h.1.units) has in
          let mem = (below_members (rank k.from) (node_of x.leaf).units (j, u.0)).0 units in
          let level : d.level ≡ 1 = ap (λ (z : CellSeen). z.level) same ∙ h.1.level_is in
          let low = mem.1 in
          let is = k.from_is in (
            (x.leaf, here x.leaf x.more, mem.0, same_kind d x.leaf u.1 level (leaf_level b x c x.leaf (here x.leaf x.more)) kind),
            below_off j (omega (arith, low, is)),
          )
    ]

    from_right : (j : ℕ) (u : Placed Value) → IsPlacedIn (given_cells (numbered x m s).right) j u → IsPlacedIn (leaves_of x) j u × (in_turned b j ≡ false)
    from_right j u h =
        let (low, le) = (right_keeps j u).0 h in
        let (d, at, has, kind) = low in
        elim (cases (last_of x) d [] at) [
          | inr nothing ↦ absurd (none d nothing)
          | inl same ↦ ((d, subst (λ (z : CellSeen). Contains (leaves_of x) z) (sym same) (last_in x.leaf x.more), has, kind), behind_off j le)
        ]

    to_left : (o : Option CellSeen) → HasLeft x.leaf k.from o → (d : CellSeen) (j : ℕ) (u : Placed Value)
        → Contains (leaves_of x) d → Contains (node_of d).units (j, u.0) → (d.level == 1) ≡ u.1 → j < first_byte b
        → IsPlacedIn (given_cells o) j u
    to_left o h d j u at has kind lt = elim (cases x.leaf d x.more at) [
      | inr more_at ↦
          let w = follow_within 1 (rank x.leaf.hi) (rank (last_of x).hi) x.more d c.beside.3 more_at in
          let low = w.from in
          let i = inside d j u.0 at has in
          let begins = c.around.begins in
          absurd (omega (arith, low, i, begins, lt))
      | inl same ↦ by_left o h (subst (λ (z : CellSeen). Contains (node_of z).units (j, u.0)) same has)
    ]
      where
        by_left : (o : Option CellSeen) → HasLeft x.leaf k.from o → Contains (node_of x.leaf).units (j, u.0)
            → IsPlacedIn (given_cells o) j u
        by_left None h mine = let i = inside x.leaf j u.0 (here x.leaf x.more) mine in let is = k.from_is in absurd (omega (arith, i, h, lt, is))
        by_left (Some y) h mine = (
          y,
          here y [],
          subst (λ us. Contains us (j, u.0)) (sym h.1.units) ((below_members (rank k.from) (node_of x.leaf).units (j, u.0)).1 (mine, let is = k.from_is in omega (arith, lt, is))),
          same_kind d y u.1 (leaf_level b x c d at) h.1.level_is kind,
        )

    to_right : (d : CellSeen) (j : ℕ) (u : Placed Value) → Contains (leaves_of x) d
        → Contains (node_of d).units (j, u.0) → (d.level == 1) ≡ u.1 → end_after b ≤ j → IsPlacedIn (given_cells (numbered x m s).right) j u
    to_right d j u at has kind le = elim (ends_before (rank x.leaf.lo) (rank (last_of x).hi) x.leaf x.more d c.beside at) [
      | inr before_last ↦
          let i = inside d j u.0 at has in
          let ends = c.around.ends in
          absurd (omega (arith, i, before_last, ends, le))
      | inl same ↦ (right_keeps j u).1 ((d, subst (λ (z : CellSeen). Contains (last_of x ∷ []) z) (sym same) (here (last_of x) []), has, kind), le)
    ]

    -- just what stood in the leaves, but for the keys of the blocks that come
    pub kept_units : (j : ℕ) (u : Placed Value) → IsPlacedIn (kept_cells (numbered x m s)) j u ↔ (IsPlacedIn (leaves_of x) j u × (in_turned b j ≡ false))
    kept_units j u = (
      λ (d, at, has, kind). elim (Contains-append_cases (given_cells s.left) (given_cells (numbered x m s).right) d at) [
        | inl a ↦ from_left s.left k.left j u (d, a, has, kind)
        | inr a ↦ from_right j u (d, a, has, kind)
      ],
      λ z. let (low, off) = z in let (d, at, has, kind) = low in elim (off_cases j off) [
        | inl lt ↦ let (y, in_y, has_y, kind_y) = to_left s.left k.left d j u at has kind lt in
            (y, Contains-append_left (given_cells s.left) (given_cells (numbered x m s).right) y in_y, has_y, kind_y)
        | inr le ↦ let (y, in_y, has_y, kind_y) = to_right d j u at has kind le in
            (y, Contains-append_right (given_cells s.left) (given_cells (numbered x m s).right) y in_y, has_y, kind_y)
      ],
    )
