-- A leaf with one item, parted between two of its units.
use Rattle.std.proofs.Common.{◌≡◌, inl, inr, ℕ, zero, suc, false, ◌+◌, ◌/◌, ◌^◌, ◌<◌, ◌≤◌, true, List, [], ◌∷◌, ◌++◌, length, refl, sym, ap, subst, ◌∙◌, arith}
use Rattle.std.specs.Prelude.{◌==◌, Contains, Option, None, Some, slice_get}
use Rattle.std.proofs.lemmas.Bool.{eq-eqb, le-leb, lt-leb, lt-ltb, ne_eqb}
use Rattle.std.proofs.lemmas.List.{append-nil}
use Rattle.std.proofs.lemmas.Option.{none-some, same_Some}
use Rattle.r4_base.specs.Cell.{cell_fault, units_in}
use Rattle.r4_base.specs.Key.{rank}
use Rattle.r4_base.specs.Node.{Item, items_of, mkfs_id_of}
use Rattle.r4_base.specs.Tree.{IsNode as IsTreeNode}
use Rattle.r4_base.specs.declared.key.Key.{Key}
use Rattle.r4_path.specs.r4_cell.Seen.{CellSeen, node_of}
use Rattle.r4_path.specs.r4_cell.declared.change.Fresh.{Fresh}
use Rattle.r4_path.specs.r4_leaf.Leaves.{MayStand}
use Rattle.r4_path.specs.r4_leaf.Units.{IsMiddle, LeafUnit}
use Rattle.r4_path.proofs.r4_leaf.Rising.{Rise, rise_order}
use Rattle.r4_edit.specs.Extents.{given_cells}
use Rattle.r4_edit.specs.LeafParts.{HasLeft, HasRight, IsLeftPart, IsRightPart, PartsLeaf, first_from, right_id, right_takes, units_below, units_from}
use Rattle.r4_path.specs.Sharing.{IsSound}
use Rattle.r4_edit.specs.Splitting.{IsParted, unit_count}
use Rattle.r4_path.specs.Steps.{Follow}
use Rattle.r4_path.proofs.CellNodes.{units_are}
use Rattle.r4_path.proofs.r4_patch.Members.{cases, none}
use Rattle.r4_path.proofs.NewNodes.{leaf_step}
use Rattle.r4_edit.proofs.PartedLeaf.{units_rise}
use Rattle.r4_path.proofs.Rising.{hi_is, lo_is}
use Rattle.r4_edit.proofs.SidesOfKey.{none_from, sides}

-- ---- a unit at a place

pub unit_at : (a b : ℕ) (us : List LeafUnit) (i : ℕ) (u : LeafUnit) → Rise a b us → slice_get us i ≡ Some u
    → (a + i ≤ u.0) × (u.0 < b)
unit_at a b [] i u h is = absurd (none-some u is)
unit_at a b (v ∷ us) zero u h is =
    let same = ap (λ (x : LeafUnit). x.0) (same_Some v u is) in
    let low = h.0 in
    let high = rise_order (v.0 + 1) b us h.1 in
    (omega (arith, same, low), omega (arith, same, high))
unit_at a b (v ∷ us) (suc i) u h is =
    let (low, high) = unit_at (v.0 + 1) b us i u h.1 is in
    let first = h.0 in
    (omega (arith, low, first), high)

-- it is the first from its key on
first_at : (a b : ℕ) (us : List LeafUnit) (i : ℕ) (u : LeafUnit) → Rise a b us → slice_get us i ≡ Some u → first_from u.0 us ≡ Some u.0
first_at a b [] i u h is = absurd (none-some u is)
first_at a b (v ∷ us) zero u h is =
    let same : v.0 ≡ u.0 = ap (λ (x : LeafUnit). x.0) (same_Some v u is) in
    let test = le-leb u.0 v.0 (omega (arith, same)) in
    rw test (ap (λ n. Some n) same)
first_at a b (v ∷ us) (suc i) u h is =
    let low : v.0 + 1 + i ≤ u.0 = (unit_at (v.0 + 1) b us i u h.1 is).0 in
    let test = lt-leb u.0 v.0 (omega (arith, low)) in
    let rest = first_at (v.0 + 1) b us i u h.1 is in
    rw test rest

-- units stand below it and from it on
below_some : (a b : ℕ) (us : List LeafUnit) (i : ℕ) (u : LeafUnit) → Rise a b us → slice_get us i ≡ Some u → 1 ≤ i
    → 1 ≤ length (units_below u.0 us)
below_some a b [] i u h is some = absurd (none-some u is)
below_some a b (v ∷ us) zero u h is some = absurd (omega (arith, some))
below_some a b (v ∷ us) (suc i) u h is some =
    let low : v.0 + 1 + i ≤ u.0 = (unit_at (v.0 + 1) b us i u h.1 is).0 in
    let test = lt-ltb v.0 u.0 (omega (arith, low)) in
    rw test (omega arith)

no_items : (items : List Item) → 1 ≤ length (units_in items) → 1 ≤ length items
unfolding units_in
no_items [] some = absurd (omega (arith, some))
no_items (x ∷ xs) some = omega arith

-- a leaf with a unit is not empty
leaf_some : (c : CellSeen) → c.level ≡ 1 → 1 ≤ length (node_of c).units → 1 ≤ length (items_of c.block)
leaf_some c level some = no_items (items_of c.block) (subst (λ us. 1 ≤ length us) (units_are c 0 level) some)

from_some : (k n : ℕ) (us : List LeafUnit) → first_from k us ≡ Some n → 1 ≤ length (units_from k us)
from_some k n us is = by_length (units_from k us) refl
  where
    by_length : (vs : List LeafUnit) → units_from k us ≡ vs → 1 ≤ length vs
    by_length [] none = absurd (none-some n (sym (none_from k us none) ∙ is))
    by_length (v ∷ vs) e = omega arith

-- ---- the key within the leaf

module _ (leaf : CellSeen) (level : leaf.level ≡ 1) (node : IsTreeNode (node_of leaf))
    (stand : MayStand (rank leaf.lo) (rank leaf.hi) leaf.block) (key : Key) (two : 2 ≤ length (node_of leaf).units)
    (middle : IsMiddle (node_of leaf).units key) where
  abbrev us : List LeafUnit
  us = (node_of leaf).units

  some_range : rank leaf.lo < rank leaf.hi
  some_range = let n = node.nonempty in let lo = lo_is leaf in let hi = hi_is leaf in omega (arith, n, lo, hi)

  rise : Rise (rank leaf.lo) (rank leaf.hi) us
  rise = units_rise leaf level stand some_range

  within : (rank leaf.lo + length us / 2 ≤ rank key) × (rank key < rank leaf.hi)
  within = unit_at (rank leaf.lo) (rank leaf.hi) us (length us / 2) (rank key, middle.value) rise middle.unit

  pub key_behind : rank leaf.lo < rank key
  key_behind = let (low, high) = within in omega (arith, low, two)

  pub key_before : rank key < rank leaf.hi
  key_before = within.1

  first : first_from (rank key) us ≡ Some (rank key)
  first = first_at (rank leaf.lo) (rank leaf.hi) us (length us / 2) (rank key, middle.value) rise middle.unit

  low_some : 1 ≤ length (units_below (rank key) us)
  low_some = below_some (rank leaf.lo) (rank leaf.hi) us (length us / 2) (rank key, middle.value) rise middle.unit
      (omega (arith, two))

  not_first : (rank key == rank leaf.lo) ≡ false
  not_first = let behind = key_behind in ne_eqb (rank key) (rank leaf.lo) (λ e. omega (arith, e, behind))

  module _ (f g : Fresh) (l r : CellSeen) (left : IsLeftPart leaf key l) (right : IsRightPart leaf key f.next r)
      (took : g ≡ record f { next = f.next + 1 }) where
    abbrev cells : List CellSeen
    cells = l ∷ (r ∷ [])

    right_lo : rank r.lo ≡ rank key
    right_lo = same_Some (rank r.lo) (rank key) (sym right.from ∙ first)

    follow : Follow leaf.level (rank leaf.lo) (rank leaf.hi) cells
    follow = (
      left.level_is ∙ sym level,
      ap rank left.from,
      subst (λ (k : Key). rank leaf.lo < rank k) (sym left.to) key_behind,
      (
        right.level_is ∙ sym level,
        right_lo ∙ ap rank (sym left.to),
        (let a = ap rank left.to in let b = ap rank right.to in let high = key_before in omega (arith, a, b, high)),
        ap rank right.to,
      ),
    )

    units : (node_of l).units ++ ((node_of r).units ++ []) ≡ us
    units = ap (λ vs. (node_of l).units ++ vs) (append-nil (node_of r).units)
        ∙ ((λ i. left.units i ++ right.units i) ∙ sym (sides (rank key) (rank leaf.lo) (rank leaf.hi) us rise))

    each : (P : CellSeen → Type 0) → P l → P r → (d : CellSeen) → Contains cells d → P d
    each P in_l in_r d at = elim (cases l d (r ∷ []) at) [
      | inl is ↦ subst P (sym is) in_l
      | inr rest ↦ elim (cases r d [] rest) [ inl is ↦ subst P (sym is) in_r | inr more ↦ absurd (none d more) ]
    ]

    both_parted : IsParted leaf f g (record { old = leaf; new = cells })
    both_parted = record {
      two = refl;
      some = each (λ d. 1 ≤ length (items_of d.block))
          (leaf_some l left.level_is (subst (λ vs. 1 ≤ length vs) (sym left.units) low_some))
          (leaf_some r right.level_is (subst (λ vs. 1 ≤ length vs) (sym right.units)
          (from_some (rank key) (rank key) us first)));
      units = units;
      parts = inl (record {
        old = refl;
        step = leaf_step leaf cells node level follow (each IsSound left.sound right.sound) (ap (λ n. n ∷ (r.id ∷ [])) left.number);
        sound = each IsSound left.sound right.sound;
        counts = (right.number, tt);
        number = took;
        mkfs_id = each (λ d. mkfs_id_of d.block ≡ mkfs_id_of leaf.block) left.mkfs_id right.mkfs_id;
      });
    }

  module _ (f g : Fresh) where
    by_parts : (left right : Option CellSeen) → HasLeft leaf key left → HasRight leaf key (right_id leaf key f) right
        → g ≡ record f { next = f.next + right_takes leaf key right }
        → IsParted leaf f g (record { old = leaf; new = given_cells left ++ given_cells right })
    by_parts None right l r took = let behind = key_behind in absurd (omega (arith, l, behind))
    by_parts (Some a) None l r took = absurd (none-some (rank key) (sym r ∙ first))
    by_parts (Some a) (Some b) l r took =
        let number : right_id leaf key f ≡ f.next = rw not_first refl in
        let one : right_takes leaf key (Some b) ≡ 1 = rw not_first refl in
        both_parted f g a b l.1 (subst (λ n. IsRightPart leaf key n b) number r)
        (took ∙ (λ i. record f { next = f.next + one i }))

    pub leaf_parted : (old : CellSeen) (new : List CellSeen) (left right : Option CellSeen) → old ≡ leaf
        → new ≡ given_cells left ++ given_cells right → PartsLeaf leaf key f g left right
        → IsParted leaf f g (record { old = old; new = new })
    leaf_parted old new left right same are parts = subst (IsParted leaf f g)
        (λ i. record { old = sym same i; new = sym are i }) (by_parts left right parts.left_is parts.right_is parts.number)

-- ---- as the code has it: the leaf was lent

pub lent_stands : (c p : CellSeen) → p ≡ c → c.level ≡ 1 → length p.block ≡ 4096
    → cell_fault true (2 ^ 64) p.level (rank p.lo) (rank p.hi) p.block ≡ None → MayStand (rank c.lo) (rank c.hi) c.block
lent_stands c p is level whole accepted =
    subst (λ (x : CellSeen). MayStand (rank x.lo) (rank x.hi) x.block) is (
      whole,
      subst (λ l. cell_fault true (2 ^ 64) l (rank p.lo) (rank p.hi) p.block ≡ None)
          (ap (λ (x : CellSeen). x.level) is ∙ level) accepted,
    )

pub lent_units : (c p : CellSeen) (items : List Item) → p ≡ c → c.level ≡ 1 → items ≡ items_of p.block
    → units_in items ≡ (node_of c).units
lent_units c p items is level same =
    ap units_in (same ∙ ap (λ (x : CellSeen). items_of x.block) is) ∙ sym (units_are c 0 level)

-- a leaf with two units and fewer than two items has one
pub one_item : (c : CellSeen) → c.level ≡ 1 → 2 ≤ length (node_of c).units → length (items_of c.block) < 2
    → length (items_of c.block) ≡ 1
one_item c level two few =
    let some = leaf_some c level (omega (arith, two)) in
    omega (arith, some, few)

pub unit_count_leaf : (c : CellSeen) → c.level ≡ 1 → 2 ≤ unit_count c → 2 ≤ length (node_of c).units
unit_count_leaf c level two =
    let is = eq-eqb c.level 1 level in
    let same : unit_count c ≡ length (node_of c).units = rw is refl in
    subst (λ n. 2 ≤ n) same two
