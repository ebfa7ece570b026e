-- The leaves that values are packed into, from the first key of their range on, and from the first value's on.
use Rattle.std.proofs.Common.{◌≡◌, inl, inr, ℕ, ◌+◌, ◌-◌, ◌/◌, ◌<◌, ◌≤◌, Bool, true, false, List, [], ◌∷◌, ◌++◌, drop, length, refl, sym, ap, subst, ◌∙◌, arith}
use Rattle.std.specs.Prelude.{Contains, None, Some, nat_le, if◌then◌else◌}
use Rattle.std.proofs.lemmas.Bool.{cases_lt, eq-eqb, le-leb, lt-ltb}
use Rattle.std.proofs.lemmas.Option.{none-some, same_Some}
use Rattle.r4_base.specs.Key.{least, rank, top}
use Rattle.r4_base.specs.Node.{mkfs_id_of}
use Rattle.r4_base.specs.Tree.{IsNode}
use Rattle.r4_base.specs.declared.key.Key.{Key}
use Rattle.r4_extent_build.specs.r4_cell.Seen.{CellSeen, node_of}
use Rattle.r4_extent_build.specs.r4_cell.declared.change.Fresh.{Fresh}
use Rattle.r4_extent_build.specs.r4_edit.LeafParts.{HasRight, IsEmptyLeaf, IsRightPart, first_from, right_id, units_from}
use Rattle.r4_build.proofs.r4_edit.NewLeaves.{leaf_node}
use Rattle.r4_build.specs.r4_leaf.Leaves.{AreFew, Packs}
use Rattle.r4_build.specs.r4_leaf.Units.{LeafUnit, leaf_bytes}
use Rattle.r4_build.specs.r4_leaf.declared.leaf.Leaf.{Leaf}
use Rattle.r4_build.specs.r4_leaf.declared.remaking.KeyRange.{KeyRange}
use Rattle.r4_build.specs.r4_patch.Joining.{ids_of}
use Rattle.r4_build.proofs.r4_patch.Members.{cases, here, later}
use Rattle.r4_build.specs.r4_path.LeafSteps.{IsLeafStep, leaf_cells}
use Rattle.r4_build.specs.r4_path.Levels.{units_of_cells}
use Rattle.r4_build.specs.r4_path.Sharing.{IsSound}
use Rattle.r4_build.specs.r4_path.Steps.{CountUp, Follow, Step}
use Rattle.r4_build.proofs.r4_path.CellNodes.{units_are}
use Rattle.r4_build.proofs.r4_path.LeafCells.{counts_next}
use Rattle.r4_build.proofs.r4_path.Rising.{follow_within, in_cell}
use Rattle.r4_build.proofs.r4_path.Upwards.{long_ids}
use Rattle.r4_build.specs.r4_reach.Needs.{leaves_for, over}
use Rattle.r4_extent_among.specs.Among.{AreLeavesFor}
use Rattle.r4_extent_among.specs.Making.{ArePackedFrom, IsLeafRange}
use Rattle.r4_extent_among.proofs.MadeLeaves.{no_bytes}

-- ---- how many

over_is : (n : ℕ) → 4068 < n → over n ≡ 1 + (n - 4068 + 1023) / 1024
over_is n h = rw (lt-ltb 4068 n h) refl

pub few_length : (us : List LeafUnit) (leaves : List Leaf) → AreFew us leaves → length leaves ≤ 1 + over (leaf_bytes us)
few_length us leaves few = elim (cases_lt 4068 (leaf_bytes us)) [
  | inl lt ↦ let m = few.more lt in let o = over_is (leaf_bytes us) lt in omega (arith, m, o)
  | inr ge ↦ let one = few.one ge in omega (arith, one)
]

over_none : over (leaf_bytes []) ≡ 0
over_none = ap over no_bytes

-- one more than those that are counted, where there are none
pub counted : (us : List LeafUnit) (n : ℕ) → n ≤ 1 + over (leaf_bytes us) → n ≤ leaves_for us + 1
counted [] n few = let z = over_none in omega (arith, few, z)
counted (u ∷ us) n few = omega (arith, few)

-- ---- from the first key of the range on

pub empty_node : (r : KeyRange) (id m : ℕ) (leaf : CellSeen) → IsLeafRange r → IsEmptyLeaf id r.from r.to m leaf → IsNode (node_of leaf)
empty_node r id m leaf range is =
    let lo = ap rank is.from in
    let hi = ap rank is.to in
    let a = range.low in
    let s = range.some in
    let z = range.high in
    leaf_node leaf is.level_is (omega (arith, lo, a)) (omega (arith, lo, hi, s)) (omega (arith, hi, z)) is.sound

-- behind the first leaf there are others only where it has a unit
first_filled : (lo : ℕ) (hi : Key) (id next : ℕ) (us : List LeafUnit) (leaves : List Leaf) → Packs lo (rank hi) us leaves
    → (c : CellSeen) (more : List CellSeen) → leaf_cells id next hi leaves ≡ c ∷ more → (node_of c).units ≡ [] → more ≡ []
first_filled lo hi id next us [] p c more is none_in = absurd p
first_filled lo hi id next us (x ∷ []) p c more is none_in = ap (drop 1) (sym is)
first_filled lo hi id next us (x ∷ (y ∷ ys)) (first, u, rest, same, from, low, leaf, full, p) c more is none_in =
    let cell : CellSeen = record { id = id; level = 1; lo = x.lo; hi = y.lo; block = x.block } in
    let units : (node_of cell).units ≡ first = units_are cell 0 refl ∙ leaf.units in
    let head : cell ≡ c = head_is cell (leaf_cells next (next + 1) hi (y ∷ ys)) c more is in
    let nothing : first ≡ [] = sym units ∙ (ap (λ (d : CellSeen). (node_of d).units) head ∙ none_in) in
    let some = full.some in
    let long = ap length nothing in
    absurd (omega (arith, some, long))
  where
    head_is : (d : CellSeen) (ds : List CellSeen) (c : CellSeen) (cs : List CellSeen) → d ∷ ds ≡ c ∷ cs → d ≡ c
    head_is d ds c cs same = cc

module _ (r : KeyRange) (m : ℕ) (leaf : CellSeen) (f f1 f2 : Fresh) (us : List LeafUnit) (leaves : List Leaf) (s : Step) (range : IsLeafRange r)
    (is : IsEmptyLeaf f.next r.from r.to m leaf) (took : f1 ≡ record f { next = f.next + 1 }) (few : AreFew us leaves)
    (packs : Packs (rank leaf.lo) (rank leaf.hi) us leaves) (step : IsLeafStep leaf us leaves f1 f2 s) where
  old_lo : rank s.old.lo ≡ rank r.from
  old_lo = ap (λ (c : CellSeen). rank c.lo) step.old ∙ ap rank is.from

  old_hi : rank s.old.hi ≡ rank r.to
  old_hi = ap (λ (c : CellSeen). rank c.hi) step.old ∙ ap rank is.to

  old_level : s.old.level ≡ 1
  old_level = ap (λ (c : CellSeen). c.level) step.old ∙ is.level_is

  old_id : s.old.id ≡ f.next
  old_id = ap (λ (c : CellSeen). c.id) step.old ∙ is.number

  next : f1.next ≡ f.next + 1
  next = ap (λ (g : Fresh). g.next) took

  pub packed_from : ArePackedFrom us (rank r.from) (rank r.to) m f.next s.new
  packed_from = record {
    ranges = subst (λ l. Follow l (rank r.from) (rank r.to) s.new) old_level (subst (λ j. Follow s.old.level j (rank r.to) s.new) old_lo (subst (λ j. Follow s.old.level (rank s.old.lo) j s.new) old_hi step.step.ranges));
    units = step.units;
    sound = step.sound;
    few = let k = few_length us leaves few in let n = step.many in omega (arith, k, n);
    mkfs_id_is = λ c at. step.mkfs_id c at ∙ is.mkfs_id_is;
    numbers = counts_next f.next s.new (step.step.first ∙ ap (λ i. i ∷ ids_of (drop 1 s.new)) old_id) (subst (λ i. CountUp i (ids_of (drop 1 s.new))) next step.counts);
    first = λ c more same none_in. first_filled (rank leaf.lo) leaf.hi leaf.id f1.next us leaves packs c more (sym step.cells ∙ same) none_in;
  }

  pub fresh_after : f2 ≡ record f { next = f.next + length s.new }
  fresh_after =
      let a = ap (λ (g : Fresh). g.next) step.number in
      let e : f2.end ≡ f.end = ap (λ (g : Fresh). g.end) step.number ∙ ap (λ (g : Fresh). g.end) took in
      let n = next in
      let ids = ap length step.step.first in
      let one = long_ids s.new in
      let more = long_ids (drop 1 s.new) in
      let at : f2.next ≡ f.next + length s.new = omega (arith, a, n, ids, one, more) in
      λ i. record { next = at i; end = e i }

-- ---- from the first value's key on

filter_all : (k : ℕ) (us : List LeafUnit) → ((u : LeafUnit) → Contains us u → k ≤ u.0) → units_from k us ≡ us
filter_all k [] low = refl
filter_all k (u ∷ us) low = by_test (nat_le k u.0) (le-leb k u.0 (low u (here u us))) (filter_all k us (λ w at. low w (later u w us at)))
  where
    by_test : (t : Bool) → t ≡ true → units_from k us ≡ us → (if t then u ∷ units_from k us else units_from k us) ≡ u ∷ us
    by_test true h rest = ap (λ vs. u ∷ vs) rest
    by_test false h rest = absurd cc

first_all : (k : ℕ) (u : LeafUnit) (us : List LeafUnit) → k ≤ u.0 → first_from k (u ∷ us) ≡ Some u.0
first_all k u us low = rw (le-leb k u.0 low) refl

first_none : (k : ℕ) (us : List LeafUnit) → ((u : LeafUnit) → Contains us u → k ≤ u.0) → first_from k us ≡ None → us ≡ []
first_none k [] low h = refl
first_none k (u ∷ us) low h = absurd (none-some u.0 (sym h ∙ first_all k u us (low u (here u us))))

module _ (us : List LeafUnit) (lo hi m next : ℕ) (c : CellSeen) (more : List CellSeen) (p : ArePackedFrom us lo hi m next (c ∷ more)) (low : least ≤ lo) (high : hi ≤ top) (key : Key) (key_is : rank key ≡ lo) (f : Fresh) where
  node : IsNode (node_of c)
  node =
      let w = follow_within 1 lo hi (c ∷ more) c p.ranges (here c more) in
      let a = w.from in
      let z = w.to in
      leaf_node c w.level_as (omega (arith, a, low)) w.nonempty (omega (arith, z, high)) (p.sound c (here c more))

  in_range : (u : LeafUnit) → Contains (node_of c).units u → (rank key ≤ u.0) × (u.0 < rank c.hi)
  in_range u at =
      let i = in_cell c u.0 (node.unit_in u.0 u.1 at) in
      let begins = p.ranges.1 in
      (omega (arith, i, begins, key_is), i.1)

  pub none_right : HasRight c key (right_id c key f) None → us ≡ []
  none_right h =
      let nothing : (node_of c).units ≡ [] = first_none (rank key) (node_of c).units (λ u at. (in_range u at).0) h in
      let alone : more ≡ [] = p.first c more refl nothing in
      sym p.units ∙ (λ i. nothing i ++ units_of_cells (alone i))

  same_id : right_id c key f ≡ c.id
  same_id = let begins = p.ranges.1 in rw (eq-eqb (rank key) (rank c.lo) (omega (arith, begins, key_is))) refl

  module _ (d : CellSeen) (h : IsRightPart c key (right_id c key f) d) where
    own_units : (node_of d).units ≡ (node_of c).units
    own_units = h.units ∙ filter_all (rank key) (node_of c).units (λ u at. (in_range u at).0)

    pub counts : CountUp next (ids_of (d ∷ more))
    counts = (h.number ∙ (same_id ∙ p.numbers.0), p.numbers.1)

    values : (own vs : List LeafUnit) → (node_of c).units ≡ own → units_of_cells more ≡ vs → own ++ vs ≡ us → AreLeavesFor us hi m (d ∷ more)
    values [] vs own_is vs_is all = absurd (none-some (rank d.lo) (sym (ap (first_from (rank key)) own_is) ∙ h.from))
    values (u ∷ own) vs own_is vs_is all = subst (λ ws. AreLeavesFor ws hi m (d ∷ more)) all (record {
      ranges = (h.level_is, begins, ends, subst (λ j. Follow 1 j hi more) (sym (ap rank h.to)) p.ranges.3);
      units = λ i. (own_units ∙ own_is) i ++ vs_is i;
      sound = λ e at. elim (cases d e more at) [
        | inl same ↦ subst IsSound (sym same) h.sound
        | inr rest ↦ p.sound e (later c e more rest)
      ];
      few = let few = p.few in let same = ap (λ ws. over (leaf_bytes ws)) (sym all) in omega (arith, few, same);
      mkfs_id_is = λ e at. elim (cases d e more at) [
        | inl same ↦ ap (λ (x : CellSeen). mkfs_id_of x.block) same ∙ (h.mkfs_id ∙ p.mkfs_id_is c (here c more))
        | inr rest ↦ p.mkfs_id_is e (later c e more rest)
      ];
    })
      where
        mine : Contains (node_of c).units u
        mine = subst (λ ws. Contains ws u) (sym own_is) (here u own)

        begins : rank d.lo ≡ u.0
        begins = same_Some (rank d.lo) u.0 (sym h.from ∙ (ap (first_from (rank key)) own_is ∙ first_all (rank key) u own (in_range u mine).0))

        ends : u.0 < rank d.hi
        ends = let r = (in_range u mine).1 in let e = ap rank h.to in omega (arith, r, e)

    pub right_leaves : AreLeavesFor us hi m (d ∷ more)
    right_leaves = values (node_of c).units (units_of_cells more) refl refl p.units
