-- The parts of a leaf, and the blocks that stand there.
use Rattle.std.proofs.Common.{◌≡◌, inl, ℕ, ◌+◌, ◌^◌, ◌<◌, ◌≤◌, true, List, [], ◌∷◌, ◌++◌, length, map, refl, sym, ap, subst, ◌∙◌, arith}
use Rattle.std.specs.Prelude.{Option, Some, None, ◌==◌, if◌then◌else◌}
use Rattle.std.specs.Option.{option_map}
use Rattle.std.proofs.lemmas.Bool.{eq-eqb, eqb-true}
use Rattle.std.proofs.lemmas.List.Elements.{All-head}
use Rattle.std.proofs.lemmas.Option.{same_Some}
use Rattle.r4_base.specs.Cell.{cell_fault, item_end, item_units, next_key, units_in}
use Rattle.r4_base.specs.Key.{IsKey, rank}
use Rattle.r4_base.specs.Node.{Item, items_of, level_of, mkfs_id_of, node_fault}
use Rattle.r4_base.specs.declared.items.CellFault.TheVariants.{Node, Level}
use Rattle.r4_base.specs.declared.key.Key.{Key}
use Rattle.r4_base.specs.declared.node.NodeFault.{NodeFault}
use Rattle.r4_base.proofs.Choices.{chosen, none_of_node, or_none}
use Rattle.r4_path.specs.r4_cell.Seen.{CellSeen, node_of}
use Rattle.r4_path.specs.r4_leaf.Items.{Lie}
use Rattle.r4_path.specs.r4_leaf.Leaves.{HaveMkfsId, MayStand}
use Rattle.r4_path.specs.r4_leaf.Measure.{last_or}
use Rattle.r4_path.specs.r4_leaf.Units.{LeafUnit, bytes_behind, cut_units, leaf_bytes}
use Rattle.r4_path.specs.r4_leaf.declared.leaf.Leaf.{Leaf}
use Rattle.r4_path.proofs.r4_leaf.LeafItems.{lie_narrower, lie_rise, no_bytes, spread}
use Rattle.r4_path.proofs.r4_leaf.Lying.{units_cons, units_nil}
use Rattle.r4_path.proofs.r4_leaf.Packed.{lie_good}
use Rattle.r4_path.proofs.r4_leaf.Rising.{Rise}
use Rattle.r4_path.proofs.r4_leaf.Standing.{is_node, stand_lie}
use Rattle.r4_path.proofs.r4_leaf.Weighed.{behind_append}
use Rattle.r4_path.specs.r4_node40.Laid.{room_of}
use Rattle.r4_path.proofs.r4_node40.Accepted.{space}
use Rattle.r4_edit.specs.Editing.{AreLeavesOf}
use Rattle.r4_edit.specs.LeafParts.{HasUnits, IsLeftPart, IsRightPart, first_from, first_item_key, units_below, units_from}
use Rattle.r4_path.specs.Nodes.{weight}
use Rattle.r4_path.proofs.CellNodes.{units_are}
use Rattle.r4_path.proofs.Filling.{weight_cons}
use Rattle.r4_path.proofs.Lying.{Good, good_cons, good_nil, good_parts}
use Rattle.r4_edit.proofs.SidesOfKey.{below_fits, below_twice, cut_before, cut_behind, first_is, from_fits, none_from, rise_below}

-- ---- the bytes of items one after the other

lie_weighs : (lo hi : ℕ) (before : Option LeafUnit) (xs : List Item) → Lie lo hi xs → bytes_behind before (units_in xs) ≤ weight xs
lie_weighs lo hi before [] h = let none = no_bytes before in let same = ap (bytes_behind before) units_nil in omega (arith, none, same)
lie_weighs lo hi before (x ∷ xs) h =
    let same = ap (bytes_behind before) (units_cons x xs) in
    let both = behind_append before (item_units x) (units_in xs) in
    let one = (spread x h.1).weighs before in
    let rest = lie_weighs (item_end x) hi (last_or before (item_units x)) xs h.2 in
    let sum = weight_cons x xs in
    omega (arith, same, both, one, rest, sum)

-- ---- a block that may stand as a leaf

stands_parts : (lo hi : ℕ) (b : List ℕ) → MayStand lo hi b → (node_fault b ≡ None) × (level_of b ≡ 1) × Good 1 lo hi 0 (items_of b)
unfolding cell_fault
stands_parts lo hi b stand =
    let node = or_none (option_map Node (node_fault b)) _ stand.1 in
    let level = or_none (if level_of b == 1 then None else Some Level) _ node.1 in
    (none_of_node (node_fault b) node.0, eqb-true _ _ (chosen _ Level level.0), level.1)

pub stands_level : (lo hi : ℕ) (b : List ℕ) → MayStand lo hi b → (node_fault b ≡ None) × (level_of b ≡ 1)
stands_level lo hi b stand = let is = stands_parts lo hi b stand in (is.0, is.1)

-- it may stand for another range where its items may
stands_with : (lo hi low high : ℕ) (b : List ℕ) → MayStand lo hi b → Good 1 low high 0 (items_of b) → MayStand low high b
unfolding cell_fault
stands_with lo hi low high b stand good =
    let is = stands_level lo hi b stand in
    let node = is.0 in
    let level : (level_of b == 1) ≡ true = eq-eqb _ _ is.1 in
    (stand.0, rw (node, level) good)

pub stands_where : (lo hi low high : ℕ) (b : List ℕ) → MayStand lo hi b → Lie low high (items_of b) → MayStand low high b
stands_where lo hi low high b stand lie = stands_with lo hi low high b stand (lie_good low low high 0 (items_of b) (omega arith) lie)

next_wider : (hi high : ℕ) (xs : List Item) → hi ≤ high → next_key hi xs ≤ next_key high xs
next_wider hi high [] le = le
next_wider hi high (x ∷ xs) le = omega arith

good_wider : (lo hi high i : ℕ) (xs : List Item) → hi ≤ high → Good 1 lo hi i xs → Good 1 lo high i xs
good_wider lo hi high i [] le h = good_nil 1 lo high i
good_wider lo hi high i (x ∷ xs) le h =
    let parts = good_parts 1 lo hi i x xs h in
    let l = parts.0 in
    let below = l.below in
    let end = l.end in
    let before = l.before in
    let next = next_wider hi high xs le in
    good_cons 1 lo high i x xs
    (record { body = l.body; from = l.from; below = omega (arith, below, le); fits = l.fits; end = omega (arith, end, le); before = omega (arith, before, next); first = l.first })
    (good_wider lo hi high (i + 1) xs le parts.1)

pub stands_wider : (lo hi high : ℕ) (b : List ℕ) → hi ≤ high → MayStand lo hi b → MayStand lo high b
stands_wider lo hi high b le stand = stands_with lo hi lo high b stand (good_wider lo hi high 0 (items_of b) le (stands_parts lo hi b stand).2)

pub some_range : (leaf : CellSeen) (key : Key) → rank leaf.lo ≤ rank key → rank key < rank leaf.hi → rank leaf.lo < rank leaf.hi
some_range leaf key from to = omega (arith, from, to)

-- ---- the units of a leaf

module _ (leaf : CellSeen) (level : leaf.level ≡ 1) (stand : MayStand (rank leaf.lo) (rank leaf.hi) leaf.block) (some : rank leaf.lo < rank leaf.hi) where
  lie : Lie (rank leaf.lo) (rank leaf.hi) (items_of leaf.block)
  lie = stand_lie (rank leaf.lo) (rank leaf.hi) leaf.block stand (inl (omega (arith, some)))

  pub units_rise : Rise (rank leaf.lo) (rank leaf.hi) (node_of leaf).units
  units_rise = subst (Rise (rank leaf.lo) (rank leaf.hi)) (sym (units_are leaf 0 level)) (lie_rise (rank leaf.lo) (rank leaf.hi) (items_of leaf.block) lie)

  pub units_fit : leaf_bytes (node_of leaf).units ≤ 4068
  units_fit =
      let same = ap leaf_bytes (units_are leaf 0 level) in
      let all = lie_weighs (rank leaf.lo) (rank leaf.hi) None (items_of leaf.block) lie in
      let sum : room_of leaf.block + weight (items_of leaf.block) ≡ 4068 = space leaf.block (is_node (rank leaf.lo) (rank leaf.hi) leaf.block stand).laid in
      omega (arith, same, all, sum)

  -- what is left of cuts up to an end of the leaf

  module _ (k to : ℕ) (end : to ≡ rank leaf.hi) where
    pub behind_is : cut_units k to (node_of leaf).units ≡ units_below k (node_of leaf).units
    behind_is = cut_behind k to (rank leaf.lo) (rank leaf.hi) (node_of leaf).units (omega (arith, end)) units_rise

    pub behind_one : (leaves : List Leaf) → AreLeavesOf leaf (cut_units k to (node_of leaf).units) leaves → length leaves ≡ 1
    behind_one leaves are =
        let same = ap leaf_bytes behind_is in
        let fits = below_fits k (rank leaf.lo) (rank leaf.hi) (node_of leaf).units units_rise in
        let all = units_fit in
        are.few.one (omega (arith, same, fits, all))

  module _ (k from : ℕ) (begin : from ≡ rank leaf.lo) where
    pub before_is : cut_units from k (node_of leaf).units ≡ units_from k (node_of leaf).units
    before_is = cut_before k from (rank leaf.lo) (rank leaf.hi) (node_of leaf).units (omega (arith, begin)) units_rise

    pub before_one : (leaves : List Leaf) → AreLeavesOf leaf (cut_units from k (node_of leaf).units) leaves → length leaves ≡ 1
    before_one leaves are =
        let same = ap leaf_bytes before_is in
        let fits = from_fits k (rank leaf.lo) (rank leaf.hi) (node_of leaf).units units_rise in
        let all = units_fit in
        are.few.one (omega (arith, same, fits, all))

-- ---- the one leaf that is left

same_head : (x y : List ℕ) → x ∷ [] ≡ y ∷ [] → x ≡ y
same_head x y e = cc

pub has_units : (leaf : CellSeen) (us vs : List LeafUnit) (m : ℕ) (leaves : List Leaf) (b : List ℕ) → us ≡ vs → m ≡ mkfs_id_of leaf.block
    → AreLeavesOf leaf us leaves → HaveMkfsId m leaves → map (λ (x : Leaf). x.block) leaves ≡ b ∷ [] → HasUnits leaf vs b
has_units leaf us vs m [] b same id are have is = absurd cc
has_units leaf us vs m (x ∷ []) b same id are have is =
    subst (HasUnits leaf vs) (same_head x.block b is) (record {
      stands = are.packs.stands;
      units = are.packs.units ∙ same;
      mkfs_id = All-head (λ (y : Leaf). mkfs_id_of y.block ≡ m) x [] have ∙ id;
    })
has_units leaf us vs m (x ∷ (y ∷ more)) b same id are have is = let long = ap length is in absurd (omega (arith, long))

-- ---- the part before a key

module _ (leaf : CellSeen) (key : Key) (b : List ℕ) (some : rank leaf.lo < rank leaf.hi) (from : rank leaf.lo ≤ rank key)
    (has : HasUnits leaf (units_below (rank key) (node_of leaf).units) b) where
  left_lie : Lie (rank leaf.lo) (rank leaf.hi) (items_of b)
  left_lie = stand_lie (rank leaf.lo) (rank leaf.hi) b has.stands (inl (omega (arith, some)))

  left_rise : Rise (rank leaf.lo) (rank key) (units_in (items_of b))
  left_rise =
      let all = lie_rise (rank leaf.lo) (rank leaf.hi) (items_of b) left_lie in
      let low = rise_below (rank key) (rank leaf.lo) (rank leaf.hi) (units_in (items_of b)) from all in
      subst (Rise (rank leaf.lo) (rank key))
      (ap (units_below (rank key)) has.units ∙ (below_twice (rank key) (node_of leaf).units ∙ sym has.units)) low

  pub left_stands : MayStand (rank leaf.lo) (rank key) b
  left_stands = stands_where (rank leaf.lo) (rank leaf.hi) (rank leaf.lo) (rank key) b has.stands
      (lie_narrower (rank leaf.lo) (rank leaf.hi) (rank leaf.lo) (rank key) (items_of b) left_lie left_rise)

  pub left_fits : (lo : Key) → lo ≡ leaf.lo → cell_fault true (2 ^ 64) 1 (rank lo) (rank key) b ≡ None
  left_fits lo is = subst (λ (k : Key). cell_fault true (2 ^ 64) 1 (rank k) (rank key) b ≡ None) (sym is) left_stands.1

  pub left_part_is : (c : CellSeen) (id : ℕ) (lo : Key) → c ≡ record { id = id; level = 1; lo = lo; hi = key; block = b }
      → id ≡ leaf.id → lo ≡ leaf.lo → IsLeftPart leaf key c
  left_part_is c id lo is number begin = subst (IsLeftPart leaf key) (sym is) (record {
    number = number;
    level_is = refl;
    from = begin;
    to = refl;
    units = units_are (record { id = id; level = 1; lo = lo; hi = key; block = b }) 0 refl ∙ has.units;
    sound = record { whole = has.stands.0; accepted = left_fits lo begin };
    mkfs_id = has.mkfs_id;
  })

-- ---- the part behind it

-- Items that begin at a key, and units of which the first from another key on has that key.
pub record Begins (k : ℕ) (us : List LeafUnit) (lo : Key) (hi : ℕ) (items : List Item) : Type 0 where
  pub lie : Lie (rank lo) hi items
  pub first : first_from k us ≡ Some (rank lo)
  pub whole_key : IsKey lo

begins : (low hi k : ℕ) (us : List LeafUnit) (lo : Key) (items : List Item) → first_item_key items ≡ Some lo → Lie low hi items
    → units_in items ≡ units_from k us → Begins k us lo hi items
begins low hi k us lo [] is lie units = absurd cc
begins low hi k us lo (x ∷ xs) is lie units =
    let same : x.key ≡ lo = same_Some x.key lo is in
    let s = spread x lie.1 in
    let rest = s.more ++ units_in xs in
    let first : units_from k us ≡ s.first ∷ rest = sym units ∙ (units_cons x xs ∙ ap (λ vs. vs ++ units_in xs) s.units) in
    let at = ap rank same in
    record {
      lie = (omega (arith, at), lie.1, lie.2);
      first = first_is k us s.first rest first ∙ ap (λ n. Some n) (s.key ∙ at);
      whole_key = subst IsKey same lie.1.key;
    }

no_unit : (k : ℕ) (us : List LeafUnit) (items : List Item) → first_item_key items ≡ None → units_in items ≡ units_from k us → first_from k us ≡ None
no_unit k us [] is units = none_from k us (sym units ∙ units_nil)
no_unit k us (x ∷ xs) is units = absurd cc

module _ (leaf : CellSeen) (k : ℕ) (b : List ℕ) (some : rank leaf.lo < rank leaf.hi)
    (has : HasUnits leaf (units_from k (node_of leaf).units) b) where
  pub right_node : node_fault b ≡ None
  right_node = (stands_level (rank leaf.lo) (rank leaf.hi) b has.stands).0

  pub right_none : (o : Option Key) → o ≡ first_item_key (items_of b) → o ≡ None → first_from k (node_of leaf).units ≡ None
  right_none o are is = no_unit k (node_of leaf).units (items_of b) (sym are ∙ is) has.units

  module _ (lo : Key) (first : first_item_key (items_of b) ≡ Some lo) where
    begin : Begins k (node_of leaf).units lo (rank leaf.hi) (items_of b)
    begin = begins (rank leaf.lo) (rank leaf.hi) k (node_of leaf).units lo (items_of b) first
        (stand_lie (rank leaf.lo) (rank leaf.hi) b has.stands (inl (omega (arith, some)))) has.units

    pub right_fits : (hi : Key) → hi ≡ leaf.hi → cell_fault true (2 ^ 64) 1 (rank lo) (rank hi) b ≡ None
    right_fits hi is = subst (λ (h : Key). cell_fault true (2 ^ 64) 1 (rank lo) (rank h) b ≡ None) (sym is)
        (stands_where (rank leaf.lo) (rank leaf.hi) (rank lo) (rank leaf.hi) b has.stands begin.lie).1

    pub right_part_is : (c : CellSeen) (key : Key) (id want : ℕ) (hi : Key) → rank key ≡ k
        → c ≡ record { id = id; level = 1; lo = lo; hi = hi; block = b } → id ≡ want → hi ≡ leaf.hi → IsRightPart leaf key want c
    right_part_is c key id want hi at is number end = subst (IsRightPart leaf key want) (sym is) (record {
      number = number;
      level_is = refl;
      from = ap (λ n. first_from n (node_of leaf).units) at ∙ begin.first;
      whole_key = begin.whole_key;
      to = end;
      units = units_are (record { id = id; level = 1; lo = lo; hi = hi; block = b }) 0 refl
          ∙ (has.units ∙ ap (λ n. units_from n (node_of leaf).units) (sym at));
      sound = record { whole = has.stands.0; accepted = right_fits hi end };
      mkfs_id = has.mkfs_id;
    })
