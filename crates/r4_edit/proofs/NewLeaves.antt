-- Leaves that are made, without units or with those of one item, and one whose range is made greater.
use Rattle.std.proofs.Common.{◌≡◌, ◌⊎◌, inl, inr, ℕ, ◌+◌, ◌^◌, ◌<◌, ◌≤◌, Bool, true, false, List, [], ◌∷◌, ◌++◌, length, refl, sym, ap, subst, ◌∙◌, arith}
use Rattle.std.specs.Prelude.{slice_get, Contains, Option, Some, None, ◌==◌, nat_le, if◌then◌else◌}
use Rattle.std.specs.Option.{option_map}
use Rattle.std.proofs.lemmas.Bool.{and_parts, leb-true}
use Rattle.std.proofs.lemmas.List.{append-nil}
use Rattle.std.proofs.lemmas.Option.{same_Some}
use Rattle.r4_base.specs.Cell.{cell_fault, fault_in, item_body_fault, item_end, item_units, units_in}
use Rattle.r4_base.specs.Dir.{dir_fault}
use Rattle.r4_base.specs.Key.{IsKey, least, offset_of, rank, top}
use Rattle.r4_base.specs.Node.{Item, count_of, item_at, level_of, mkfs_id_of}
use Rattle.r4_base.specs.Stat.{stat_of}
use Rattle.r4_base.specs.Tree.{IsNode}
use Rattle.r4_base.specs.Value.{Value}
use Rattle.r4_base.specs.declared.items.CellFault.TheVariants.{Dir, Stat, Tail}
use Rattle.r4_base.specs.declared.key.Key.{Key}
use Rattle.r4_base.proofs.Dirs.{accepted}
use Rattle.r4_base.proofs.Choices.{chosen, none_under}
use Rattle.r4_path.specs.r4_cell.Seen.{CellSeen, node_of}
use Rattle.r4_path.proofs.r4_cell.Nodes.{cell_node}
use Rattle.r4_path.specs.r4_leaf.Leaves.{IsGiven, MayStand}
use Rattle.r4_path.specs.r4_leaf.Units.{LeafUnit}
use Rattle.r4_path.proofs.r4_leaf.Lying.{units_cons, units_nil}
use Rattle.r4_path.proofs.r4_leaf.Packed.{lie_good}
use Rattle.r4_path.proofs.r4_leaf.SoundItems.{stat_long}
use Rattle.r4_path.proofs.r4_leaf.Standing.{given_sound}
use Rattle.r4_path.proofs.r4_node40.Laid.{get-items_of, key_fits, length-items_of}
use Rattle.r4_edit.specs.LeafParts.{IsLeftPart, IsNewLeaf, IsRightPart, IsWidened, first_from}
use Rattle.r4_path.specs.Nodes.{IsNodeOf}
use Rattle.r4_path.specs.Sharing.{IsSound}
use Rattle.r4_path.proofs.CellNodes.{units_are}
use Rattle.r4_edit.proofs.LeafLent.{lent_stands}
use Rattle.r4_path.proofs.Lying.{Good, good_nil, sound}
use Rattle.r4_path.proofs.r4_patch.Members.{here, later}
use Rattle.r4_edit.proofs.PartedLeaf.{stands_level, stands_wider}
use Rattle.r4_path.proofs.Rising.{hi_is, lo_is}

-- ---- a given item has a body

pub given_some : (it : Item) → IsGiven it → 1 ≤ length it.body
unfolding item_body_fault
given_some it g = by_plugin g.plugin
  where
    by_plugin : (it.plugin ≡ 0) ⊎ ((it.plugin ≡ 2) ⊎ (it.plugin ≡ 6)) → 1 ≤ length it.body
    by_plugin (inl is) =
        let a : (it.plugin == 0) ≡ true = ap (λ (x : ℕ). x == 0) is in
        let body = g.sound in
        let long = stat_long it.body (none_under Stat (fault_in (stat_of it.body)) (rw a at body)) in
        omega (arith, long)
    by_plugin (inr (inl is)) =
        let a : (it.plugin == 0) ≡ false = ap (λ (x : ℕ). x == 0) is in
        let b : (it.plugin == 2) ≡ true = ap (λ (x : ℕ). x == 2) is in
        let body = g.sound in
        let two = (accepted it.key it.body (none_under Dir (dir_fault it.key it.body) (rw (a, b) at body))).laid.two in
        omega (arith, two)
    by_plugin (inr (inr is)) =
        let a : (it.plugin == 0) ≡ false = ap (λ (x : ℕ). x == 0) is in
        let b : (it.plugin == 2) ≡ false = ap (λ (x : ℕ). x == 2) is in
        let d : (it.plugin == 3) ≡ false = ap (λ (x : ℕ). x == 3) is in
        let e : (it.plugin == 5) ≡ false = ap (λ (x : ℕ). x == 5) is in
        let body = g.sound in
        let t = and_parts (nat_le 1 (length it.body)) (nat_le (offset_of it.key + length it.body) 16384) (chosen _ Tail (rw (a, b, d, e) at body)) in
        leb-true _ _ t.0

-- ---- a block of one item

one_key : (level : ℕ) (it : Item) (b : List ℕ) → IsNodeOf level (it ∷ []) b → IsKey it.key
unfolding item_at
one_key level it b node =
    let n = length-items_of b in
    let long = ap length node.items_are in
    let at = get-items_of b (count_of b) 0 refl (omega (arith, n, long)) in
    let is : item_at (count_of b) b 0 ≡ it = sym (same_Some it (item_at (count_of b) b 0) (sym (ap (λ (xs : List Item). slice_get xs 0) node.items_are) ∙ at)) in
    subst IsKey (ap (λ (x : Item). x.key) is) (key_fits b 0)

one_units : (it : Item) → units_in (it ∷ []) ≡ item_units it
one_units it = units_cons it [] ∙ (ap (λ us. item_units it ++ us) units_nil ∙ append-nil (item_units it))

leaf_good : (lo hi : ℕ) (items : List Item) (b : List ℕ) → IsNodeOf 1 items b → Good 1 lo hi 0 items → cell_fault true (2 ^ 64) 1 lo hi b ≡ None
leaf_good lo hi items b node good = sound 1 lo hi items b (omega arith) node (λ two. absurd (omega (arith, two))) good

pub one_fits : (it : Item) (hi : ℕ) (b : List ℕ) → IsGiven it → item_end it ≤ hi → IsNodeOf 1 (it ∷ []) b → cell_fault true (2 ^ 64) 1 (rank it.key) hi b ≡ None
one_fits it hi b given end node = leaf_good (rank it.key) hi (it ∷ []) b node
    (lie_good (rank it.key) (rank it.key) hi 0 (it ∷ []) (omega arith) (omega arith, given_sound it given (one_key 1 it b node), end))

pub none_fits : (lo hi : ℕ) (b : List ℕ) → IsNodeOf 1 [] b → cell_fault true (2 ^ 64) 1 lo hi b ≡ None
none_fits lo hi b node = leaf_good lo hi [] b node (good_nil 1 lo hi 0)

-- ---- the cells

new_leaf : (items : List Item) (id : ℕ) (lo hi : Key) (m : ℕ) (b : List ℕ) (c : CellSeen) → IsNodeOf 1 items b
    → cell_fault true (2 ^ 64) 1 (rank lo) (rank hi) b ≡ None → mkfs_id_of b ≡ m → c ≡ record { id = id; level = 1; lo = lo; hi = hi; block = b }
    → IsNewLeaf id lo hi (units_in items) m c
new_leaf items id lo hi m b c node good own is = subst (IsNewLeaf id lo hi (units_in items) m) (sym is) (record {
  number = refl;
  level_is = refl;
  from = refl;
  to = refl;
  units = units_are (record { id = id; level = 1; lo = lo; hi = hi; block = b }) 0 refl ∙ ap units_in node.items_are;
  sound = record { whole = node.node.laid.whole; accepted = good };
  mkfs_id_is = own;
})

pub one_leaf : (it : Item) (id : ℕ) (hi : Key) (m : ℕ) (b : List ℕ) (c : CellSeen) → IsGiven it → item_end it ≤ rank hi → IsNodeOf 1 (it ∷ []) b
    → mkfs_id_of b ≡ m → c ≡ record { id = id; level = 1; lo = it.key; hi = hi; block = b } → IsNewLeaf id it.key hi (item_units it) m c
one_leaf it id hi m b c given end node own is =
    subst (λ us. IsNewLeaf id it.key hi us m c) (one_units it) (new_leaf (it ∷ []) id it.key hi m b c node (one_fits it (rank hi) b given end node) own is)

pub no_leaf : (id : ℕ) (lo hi : Key) (m : ℕ) (b : List ℕ) (c : CellSeen) → IsNodeOf 1 [] b → mkfs_id_of b ≡ m
    → c ≡ record { id = id; level = 1; lo = lo; hi = hi; block = b } → IsNewLeaf id lo hi [] m c
no_leaf id lo hi m b c node own is =
    subst (λ us. IsNewLeaf id lo hi us m c) units_nil (new_leaf [] id lo hi m b c node (none_fits (rank lo) (rank hi) b node) own is)

-- ---- a greater range

module _ (leaf : CellSeen) (hi : Key) (level : leaf.level ≡ 1) (whole : length leaf.block ≡ 4096)
    (accepted_there : cell_fault true (2 ^ 64) leaf.level (rank leaf.lo) (rank leaf.hi) leaf.block ≡ None) (wider : rank leaf.hi ≤ rank hi) where
  stand : MayStand (rank leaf.lo) (rank leaf.hi) leaf.block
  stand = lent_stands leaf level leaf.block leaf.lo refl refl whole accepted_there

  wide : MayStand (rank leaf.lo) (rank hi) leaf.block
  wide = stands_wider (rank leaf.lo) (rank leaf.hi) (rank hi) leaf.block wider stand

  module _ (l : ℕ) (lo : Key) (was b : List ℕ) (read : l ≡ level_of was) (lent : was ≡ leaf.block) (begin : lo ≡ leaf.lo) (same : b ≡ leaf.block) where
    one : l ≡ 1
    one = read ∙ (ap level_of lent ∙ (stands_level (rank leaf.lo) (rank leaf.hi) leaf.block stand).1)

    pub wide_fits : cell_fault true (2 ^ 64) l (rank lo) (rank hi) b ≡ None
    wide_fits =
        subst (λ (n : ℕ). cell_fault true (2 ^ 64) n (rank lo) (rank hi) b ≡ None) (sym one)
        (subst (λ (k : Key). cell_fault true (2 ^ 64) 1 (rank k) (rank hi) b ≡ None) (sym begin)
        (subst (λ (x : List ℕ). cell_fault true (2 ^ 64) 1 (rank leaf.lo) (rank hi) x ≡ None) (sym same) wide.1))

    wide_level : l ≡ leaf.level
    wide_level = one ∙ sym level

    pub wide_leaf : (c : CellSeen) (id : ℕ) → c ≡ record { id = id; level = l; lo = lo; hi = hi; block = b } → id ≡ leaf.id → IsWidened leaf hi c
    wide_leaf c id is number =
        let all : c ≡ record leaf { hi = hi } = is ∙ (λ i. record { id = number i; level = wide_level i; lo = begin i; hi = hi; block = same i }) in
        subst (IsWidened leaf hi) (sym all) (record {
          is = refl;
          units = units_are (record leaf { hi = hi }) 0 level ∙ sym (units_are leaf 0 level);
          sound = record {
            whole = whole;
            accepted = subst (λ (n : ℕ). cell_fault true (2 ^ 64) n (rank leaf.lo) (rank hi) leaf.block ≡ None) (sym level) wide.1;
          };
        })

-- ---- leaves as nodes by themselves

pub leaf_node : (c : CellSeen) → c.level ≡ 1 → least ≤ rank c.lo → rank c.lo < rank c.hi → rank c.hi ≤ top → IsSound c → IsNode (node_of c)
leaf_node c level low some high ok =
    cell_node true (2 ^ 64) c.level (rank c.lo) (rank c.hi) c.block ok.whole (omega (arith, level)) low some high ok.accepted

-- a unit from the key on, which is the first
first_there : (k j : ℕ) (us : List LeafUnit) → first_from k us ≡ Some j → (k ≤ j) × (v : Value) × Contains us (j, v)
first_there k j [] e = absurd cc
first_there k j (u ∷ us) e = by_test (nat_le k u.0) refl (λ h. first_there k j us h) e
  where
    by_test : (t : Bool) → nat_le k u.0 ≡ t → (first_from k us ≡ Some j → (k ≤ j) × (v : Value) × Contains us (j, v))
        → (if t then Some u.0 else first_from k us) ≡ Some j → (k ≤ j) × (v : Value) × Contains (u ∷ us) (j, v)
    by_test true is rest h =
        let same = same_Some u.0 j h in
        let low = leb-true k u.0 is in
        (omega (arith, same, low), u.1, subst (λ n. Contains (u ∷ us) (n, u.1)) same (here u us))
    by_test false is rest h = let r = rest h in (r.0, r.1, later u (j, r.1) us r.2)

module _ (leaf : CellSeen) (key : Key) (node : IsNode (node_of leaf)) (c : CellSeen) where
  pub left_node : rank leaf.lo < rank key → rank key < rank leaf.hi → IsLeftPart leaf key c → IsNode (node_of c)
  left_node low high part =
      let lo = lo_is leaf in
      let hi = hi_is leaf in
      let least_is = node.from_least in
      let top_is = node.to_top in
      let from = ap rank part.from in
      let to = ap rank part.to in
      leaf_node c part.level_is (omega (arith, lo, least_is, from)) (omega (arith, low, from, to)) (omega (arith, high, hi, top_is, to)) part.sound

  pub right_range : (id : ℕ) → IsRightPart leaf key id c → (rank key ≤ rank c.lo) × (rank c.lo < rank c.hi)
  right_range id part =
      let first = first_there (rank key) (rank c.lo) (node_of leaf).units part.from in
      let inside = node.unit_in (rank c.lo) first.1 first.2 in
      let hi = hi_is leaf in
      let to = ap rank part.to in
      (first.0, omega (arith, inside.1, hi, to))

  pub right_node : (id : ℕ) → rank leaf.lo ≤ rank key → IsRightPart leaf key id c → IsNode (node_of c)
  right_node id low part =
      let range = right_range id part in
      let lo = lo_is leaf in
      let hi = hi_is leaf in
      let least_is = node.from_least in
      let top_is = node.to_top in
      let to = ap rank part.to in
      leaf_node c part.level_is (omega (arith, lo, least_is, low, range.0)) range.1 (omega (arith, hi, top_is, to)) part.sound
