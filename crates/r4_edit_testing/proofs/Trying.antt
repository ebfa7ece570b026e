-- Trees of two levels for tests: what was tried out on blocks, and their paths.
use Rattle.std.proofs.Common.{◌≡◌, ◌≢◌, ◌⊎◌, inl, inr, Bool, true, false, nat_eq, ℕ, ◌^◌, ◌<◌, ◌≤◌, List, [], ◌∷◌, length, map}
use Rattle.std.proofs.Common.{get_or, refl, sym, ap, subst, ◌∙◌, arith}
use Rattle.std.specs.Prelude.{Contains, IsTrue, MatchBool, not}
use Rattle.std.specs.Cmp.Lexicographic.{told_text, pointwise}
use Rattle.std.proofs.lemmas.Grind.{common_steps}
use Rattle.std.proofs.lemmas.List.{append-nil}
use Rattle.std.proofs.lemmas.List.Elements.{All-contains, filter_passes}
use Rattle.r4_base.specs.Cell.{item_units, units_in}
use Rattle.r4_base.specs.Key.{least, rank, top}
use Rattle.r4_base.specs.Node.{Item, items_of}
use Rattle.r4_base.specs.Value.{Value}
use Rattle.r4_base.specs.declared.key.Key.{Key}
use Rattle.r4_cell.proofs.Nodes.{cell_node}
use Rattle.r4_cell.proofs.NodesAt.{node_at}
use Rattle.r4_cell.specs.Seen.{CellSeen, node_of}
use Rattle.r4_leaf.specs.Leaves.{MayStand, Packs}
use Rattle.r4_leaf.specs.Units.{LeafUnit, cut_units, is_between}
use Rattle.r4_leaf.specs.declared.leaf.Leaf.{Leaf}
use Rattle.r4_edit_testing.specs.Trials.{AreLeaves, FirstMayTake, StandsAlone}
use Rattle.r4_path.proofs.CellNodes.{units_are}
use Rattle.r4_path.proofs.Lying.{Good, Lies, good_parts}
use Rattle.r4_patch.proofs.Members.{none}
use Rattle.r4_path.proofs.Rising.{follow_order, in_cell}

-- ---- units of a block that may stand as a leaf

no_units : units_in [] ≡ []
unfolding units_in
no_units = refl

one_item : (it : Item) → units_in (it ∷ []) ≡ item_units it
unfolding units_in
one_item it = append-nil (item_units it)

module _ (lo hi : Key) (b : List ℕ) (stands : MayStand (rank lo) (rank hi) b) where
  good : Good 1 (rank lo) (rank hi) 0 (items_of b)
  good = (node_at true (2 ^ 64) 1 (rank lo) (rank hi) b (omega arith) stands.1).items

  seen : CellSeen
  seen = record { id = 0; level = 1; lo = lo; hi = hi; block = b }

  pub units_between : least ≤ rank lo → rank hi ≤ top → (k : ℕ) (v : Value) → Contains (units_in (items_of b)) (k, v)
      → (rank lo ≤ k) × (k < rank hi)
  unfolding seen
  units_between from to k v member = go (items_of b) refl
    where
      go : (items : List Item) → items_of b ≡ items → (rank lo ≤ k) × (k < rank hi)
      go [] e = absurd (none (k, v) (subst (λ us. Contains us (k, v)) (ap units_in e ∙ no_units) member))
      go (it ∷ items) e =
          let l = (good_parts 1 (rank lo) (rank hi) 0 it items (subst (Good 1 (rank lo) (rank hi) 0) e good)).0 in
          let low = l.from in
          let high = l.below in
          let node = cell_node true (2 ^ 64) 1 (rank lo) (rank hi) b stands.0 (omega arith) from
          (omega (arith, low, high)) to stands.1 in
          in_cell seen k (node.unit_in k v (subst (λ us. Contains us (k, v)) (sym (units_are seen 0 refl)) member))

-- ---- an item alone

pub alone : (key hi : Key) (b : List ℕ) (it : Item) → it.key ≡ key → least ≤ rank key → rank hi ≤ top → items_of b ≡ it ∷ []
    → ((it.plugin ≡ 0) ⊎ ((it.plugin ≡ 2) ⊎ (it.plugin ≡ 6))) → length it.body ≤ 4030 → MayStand (rank key) (rank hi) b
    → StandsAlone it (rank hi)
alone key hi b it same from to items plugin short stands =
    let l : Lies 1 (rank key) (rank hi)
    (rank hi) 0 it = (good_parts 1 (rank key) (rank hi) 0 it []
    (subst (Good 1 (rank key) (rank hi) 0) items (good key hi b stands))).0 in
    record {
      given = record { plugin = plugin; sound = l.body; short = short };
      below = l.below;
      end = l.end;
      above = λ k v member.
          let w = units_between key hi b stands from to k v
          (subst (λ us. Contains us (k, v)) (sym (ap units_in items ∙ one_item it)) member) in
          let e = ap rank same in
          omega (arith, w, e);
      inside = λ k v member. (units_between key hi b stands from to k v
          (subst (λ us. Contains us (k, v)) (sym (ap units_in items ∙ one_item it)) member)).1;
    }

-- ---- a leaf that is the same without some keys

pub same_bytes : (a b : List ℕ) (r : Bool) → r ≡ pointwise nat_eq a b → IsTrue r → a ≡ b
same_bytes a b r e is = told a b r is (told_text a b r e)
  where
    told : (a b : List ℕ) (r : Bool) → IsTrue r → MatchBool r (a ≡ b) (a ≢ b) → a ≡ b
    told a b true is h = h
    told a b false is h = absurd cc

pub one_leaf : (xs : List Leaf) (x : Leaf) → length xs ≡ 1 → x ≡ get_or xs 0 x → xs ≡ x ∷ []
one_leaf [] x long is = absurd (omega (arith, long))
one_leaf (y ∷ []) x long is = ap (λ (z : Leaf). z ∷ []) (sym is)
one_leaf (y ∷ (z ∷ zs)) x long is = absurd (omega (arith, long))

is_out : (from to k : ℕ) → not (is_between from to k) ≡ true → (k < from) ⊎ (to ≤ k)
is_out from to k h = grind (arith, common_steps)

pub clear : (leaf : CellSeen) (from to : ℕ) (one : Leaf) → leaf.level ≡ 1
    → Packs (rank leaf.lo) (rank leaf.hi) (cut_units from to (node_of leaf).units) (one ∷ []) → one.block ≡ leaf.block
    → (k : ℕ) (v : Value) → Contains (node_of leaf).units (k, v) → (k < from) ⊎ (to ≤ k)
clear leaf from to one level packs same k v member =
    let units : (node_of leaf).units ≡ cut_units from to (node_of leaf).units =
    units_are leaf 0 level ∙ (ap (λ b. units_in (items_of b)) (sym same) ∙ packs.units) in
    is_out from to k (All-contains (λ (u : LeafUnit). not (is_between from to u.0) ≡ true) (cut_units from to (node_of leaf).units) (k, v)
    (filter_passes (λ (u : LeafUnit). not (is_between from to u.0)) (node_of leaf).units)
    (subst (λ us. Contains us (k, v)) units member))

-- ---- the first of the leaves

pub first_level : (cells : List CellSeen) (leaf : CellSeen) (rest : List CellSeen) → cells ≡ leaf ∷ rest → AreLeaves cells
    → (leaf.level ≡ 1) × (rank leaf.lo ≡ least) × (rank leaf.hi ≤ top)
first_level cells leaf rest e are =
    let f = (subst AreLeaves e are).follow in (f.0, f.1, follow_order 1 (rank leaf.hi) top rest f.3)

pub first_of : {A : Type 0} (h : A → CellSeen) (xs : List A) (x : A) → 1 ≤ length (map h xs) → x ≡ get_or xs 0 x
    → (rest : List CellSeen) × (map h xs ≡ h x ∷ rest)
first_of h [] x some e = absurd (omega (arith, some))
first_of h (y ∷ ys) x some e = (map h ys, ap (λ z. h z ∷ map h ys) (sym e))

pub may_take : (cells : List CellSeen) (leaf : CellSeen) (rest : List CellSeen) (it : Item) (end : ℕ) → cells ≡ leaf ∷ rest
    → AreLeaves cells → least ≤ rank it.key → StandsAlone it end → end ≤ rank leaf.hi
    → ((k : ℕ) (v : Value) → Contains (node_of leaf).units (k, v) → (k < rank it.key) ⊎ (end ≤ k)) → FirstMayTake cells it
may_take cells leaf rest it end e are from alone within clear =
    let f = first_level cells leaf rest e are in
    subst (λ cs. FirstMayTake cs it) (sym e) (record {
      given = alone.given;
      from = let lo = f.1 in omega (arith, lo, from);
      to = let to = alone.end in omega (arith, to, within);
      apart = λ k v w mine its.
          let a = alone.above k w its in
          let b = alone.inside k w its in
          elim (clear k v mine) [ inl low ↦ omega (arith, a, low) | inr high ↦ omega (arith, b, high) ];
    })
