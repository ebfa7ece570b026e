-- Edits of leaves one after the other: each has its condition at its turn.
use Rattle.std.proofs.Common.{◌≡◌, ◌≢◌, ◌⊎◌, inl, inr, ℕ, zero, suc, ◌+◌, ◌-◌, ◌*◌, ◌^◌, ◌<◌, ◌≤◌, List, [], ◌∷◌, ◌++◌, drop, length, take, refl, ap, sym, subst, ◌∙◌, arith}
use Rattle.std.specs.Prelude.{Contains, Option, None, Some, min}
use Rattle.std.proofs.lemmas.Bool.{cases_lt}
use Rattle.std.proofs.lemmas.List.{length-append}
use Rattle.std.proofs.lemmas.List.Sums.{sum_by-cons}
use Rattle.std.proofs.lemmas.List.Elements.{Contains-append_cases, Contains-append_left, Contains-append_right}
use Rattle.std.proofs.lemmas.Option.{none-some}
use Rattle.r4_base.specs.Key.{rank}
use Rattle.r4_base.specs.Tree.{Node, Root, Store}
use Rattle.r4_base.specs.Value.{Value}
use Rattle.r4_base.proofs.Trees.{one_cell}
use Rattle.r4_reach.specs.r4_cell.Patch.{by_name, over, place}
use Rattle.r4_reach.specs.r4_cell.Seen.{CellSeen, node_of}
use Rattle.r4_reach.specs.r4_cell.declared.change.Fresh.{Fresh}
use Rattle.r4_reach.specs.r4_patch.Joining.{ids_of, patch_of_change}
use Rattle.r4_reach.specs.r4_patch.Part.{IsPart}
use Rattle.r4_reach.proofs.r4_patch.PartCells.{apart}
use Rattle.r4_reach.specs.r4_leaf.Remade.{AreWithin, CanPutAll, cut_all}
use Rattle.r4_reach.specs.r4_leaf.Units.{leaf_bytes}
use Rattle.r4_work.specs.r4_edit.Editing.{extra_cells}
use Rattle.r4_reach.specs.r4_path.Levels.{Keeps}
use Rattle.r4_work.specs.r4_edit.Remaking.{after_edits}
use Rattle.r4_reach.specs.r4_path.Steps.{Ascends, Climbs, Step, fresh_ids, news, olds}
use Rattle.r4_reach.proofs.r4_path.Begun.{ascends_take}
use Rattle.r4_reach.proofs.r4_patch.Members.{absent, cases, here, later, none}
use Rattle.r4_reach.proofs.r4_path.Rising.{InCell, count_within, hi_is, id_member, in_node, level_is, lo_is}
use Rattle.r4_work.specs.Remaking.{CanRemakeUp, CutsWithin, IsRemakable}
use Rattle.r4_work.specs.Order.{cell_at}
use Rattle.r4_work.specs.Working.{first_and, now_of, path_of, root_of, standing, ups_of}
use Rattle.r4_work.specs.declared.working.WorkingSet.{WorkingSet}
use Rattle.r4_work.proofs.InPlace.{now_part, standing_is}
use Rattle.r4_work.proofs.LeafEffect.{ups_high}
use Rattle.r4_work.proofs.Paths.{found_is, lowest_is, path_ascends}
use Rattle.r4_measure.specs.Budget.{Budget, IsFresh, cells_from, most_from}
use Rattle.r4_measure.specs.Loop.{AreReady, CanRemakeAll, IsDone, IsReady, LeafTurn, StandAtMost, units_now}
use Rattle.r4_measure.specs.Measured.{IsMeasured}
use Rattle.r4_measure.proofs.Suffices.{finds}
use Rattle.r4_measure.proofs.OldCells.{old_stands}
use Rattle.r4_measure.proofs.Placed.{cells_are, still_in}
use Rattle.r4_measure.proofs.Turn.{turn_enough, turn_kept}

first_long : (o : Option CellSeen) (rest : List CellSeen) → length (first_and o rest) ≤ 1 + length rest
first_long None rest = omega arith
first_long (Some c) rest = omega arith

ups_long : (n : ℕ) (cells : List CellSeen) (level k : ℕ) → length (ups_of n cells level k) ≤ n
unfolding ups_of
ups_long zero cells level k = omega arith
ups_long (suc n) cells level k = let h = ups_long n cells (level + 1) k in let g = first_long (cell_at cells level k) (ups_of n cells (level + 1) k) in omega (arith, h, g)

path_is : (cells : List CellSeen) (k : ℕ) (q : CellSeen) → cell_at cells 1 k ≡ Some q → ups_of 8 cells 1 k ≡ q ∷ ups_of 7 cells 2 k
unfolding ups_of
path_is cells k q e = ap (λ o. first_and o (ups_of 7 cells 2 k)) e

-- ---- numbers

-- a new cell has an old one's number or a fresh one
pub from_new : (below : Option Step) (steps : List Step) (o : Option CellSeen) (i : ℕ) → Climbs below steps → Contains (ids_of (news steps o)) i → Contains (ids_of (olds steps)) i ⊎ Contains (fresh_ids steps o) i
from_new below [] None i climbs member = absurd (none i member)
from_new below [] (Some c) i climbs member = inr member
from_new below (s ∷ ss) o i (step, climbs) member = elim (split s.new (news ss o) i member) [
  | inl mine ↦ elim (cases s.old.id i (ids_of (drop 1 s.new)) (subst (λ is. Contains is i) step.first mine)) [
    | inl e ↦ inl (subst (λ j. Contains (s.old.id ∷ ids_of (olds ss)) j) (sym e) (here s.old.id (ids_of (olds ss))))
    | inr more ↦ inr (Contains-append_left (ids_of (drop 1 s.new)) (fresh_ids ss o) i more)
  ]
  | inr rest ↦ elim (from_new (Some s) ss o i climbs rest) [
    | inl h ↦ inl (later s.old.id i (ids_of (olds ss)) h)
    | inr h ↦ inr (Contains-append_right (ids_of (drop 1 s.new)) (fresh_ids ss o) i h)
  ]
]
  where
    ids_append : (xs ys : List CellSeen) → ids_of (xs ++ ys) ≡ ids_of xs ++ ids_of ys
    ids_append [] ys = refl
    ids_append (x ∷ xs) ys = ap (λ is. x.id ∷ is) (ids_append xs ys)

    split : (xs ys : List CellSeen) (i : ℕ) → Contains (ids_of (xs ++ ys)) i → Contains (ids_of xs) i ⊎ Contains (ids_of ys) i
    split xs ys i m = Contains-append_cases (ids_of xs) (ids_of ys) i (subst (λ is. Contains is i) (ids_append xs ys) m)

pub of_id : (cells : List CellSeen) (i : ℕ) → Contains (ids_of cells) i → (x : CellSeen) × Contains cells x × (x.id ≡ i)
of_id [] i m = absurd (none i m)
of_id (c ∷ cs) i m = elim (cases c.id i (ids_of cs) m) [
  | inl e ↦ (c, here c cs, sym e)
  | inr rest ↦ let (x, at, id) = of_id cs i rest in (x, later c x cs at, id)
]

long_ids : (cells : List CellSeen) → length (ids_of cells) ≡ length cells
long_ids [] = refl
long_ids (c ∷ cs) = let h = long_ids cs in omega (arith, h)

long_drop : (cells : List CellSeen) → length cells ≤ 2 → length (drop 1 cells) ≤ 1
long_drop [] h = omega arith
long_drop (c ∷ cs) h = omega (arith, h)

-- at most one number for each level above the lowest
few_fresh : (steps : List Step) (o : Option CellSeen) → ((u : Step) → Contains steps u → Keeps u) → length (fresh_ids steps o) ≤ length steps + 1
few_fresh [] None keep = omega arith
few_fresh [] (Some c) keep = omega arith
few_fresh (s ∷ ss) o keep =
    let h = few_fresh ss o (λ u m. keep u (later s u ss m)) in
    let a = length-append (ids_of (drop 1 s.new)) (fresh_ids ss o) in
    let l = long_ids (drop 1 s.new) in
    let d = long_drop s.new (keep s (here s ss)).few in
    omega (arith, h, a, l, d)

long_olds : (steps : List Step) → length (olds steps) ≡ length steps
long_olds [] = refl
long_olds (s ∷ ss) = let h = long_olds ss in omega (arith, h)

take_short : (n : ℕ) (cells : List CellSeen) → length (take n cells) ≤ length cells
take_short zero cells = omega arith
take_short (suc n) [] = omega arith
take_short (suc n) (c ∷ cs) = let h = take_short n cs in omega (arith, h)

-- ---- one turn

module _ (t : Store Value) (r : Root) (f : Fresh) (w : WorkingSet) (b : Budget) (is : IsMeasured t r f w b) (e : LeafTurn) (i : ℕ) (ready : IsReady t w b e i) where
  abbrev s : Store Value
  s = now_of w t

  part : IsPart s (root_of w r)
  part = now_part t r f w is.working

  x : CellSeen
  x = ready.stands.0

  x_at : s i ≡ Some (node_of x)
  unfolding x
  x_at = subst (λ j. s j ≡ Some (node_of ready.stands.0)) ready.stands.2 (standing_is t r f w is.working ready.stands.0 ready.stands.1)

  x_node : node_of x ≡ ready.node
  x_node = one_cell s i (node_of x) ready.node x_at ready.at

  x_level : x.level ≡ 1
  x_level = sym (level_is x) ∙ (ap (λ (c : Node Value). c.level) x_node ∙ ready.level)

  x_range : InCell x (rank e.key)
  x_range =
      let lo = lo_is x in
      let hi = hi_is x in
      let a = ap (λ (c : Node Value). c.lo) x_node in
      let z = ap (λ (c : Node Value). c.hi) x_node in
      let k = ready.key in
      (omega (arith, lo, a, k), omega (arith, hi, z, k))

  is_found : (q : CellSeen) × (cell_at (standing w) 1 (rank e.key) ≡ Some q)
  unfolding x
  is_found = finds (standing w) 1 (rank e.key) ready.stands.0 ready.stands.1 x_level x_range

  -- a cell of level 1 that stands and has the key is the leaf
  pub the_leaf : (q : CellSeen) → s q.id ≡ Some (node_of q) → q.level ≡ 1 → InCell q (rank e.key) → (q.id ≡ i) × (node_of q ≡ ready.node)
  the_leaf q sq ql at =
      let a = level_is q in
      let c = level_is x in
      let xl = x_level in
      let same : q.id ≡ i = apart s (root_of w r) part q.id i (node_of q) (node_of x) (rank e.key) sq x_at (omega (arith, a, c, ql, xl)) (omega (arith, a, ql)) (in_node q (rank e.key) at) (in_node x (rank e.key) x_range) in
      (same, one_cell s i (node_of q) ready.node (subst (λ j. s j ≡ Some (node_of q)) same sq) ready.at)

  pub units_are : (q : CellSeen) → node_of q ≡ ready.node → after_edits e.cuts e.items q ≡ units_now e ready.node
  units_are q same = ap (units_now e) same

  pub can_turn : f.next + 64 ≤ f.end → IsRemakable t r f w e.key e.cuts e.items
  can_turn numbers =
      let (q, found) = is_found in
      let at = found_is (standing w) 1 (rank e.key) q found in
      let (id, same) = the_leaf q (standing_is t r f w is.working q at.among) at.level_is at.range in
      let path : path_of w (rank e.key) ≡ q ∷ ups_of 7 (standing w) 2 (rank e.key) = path_is (standing w) (rank e.key) q found in
      let us = units_are q same in
      let lo : ready.node.lo ≡ rank q.lo = sym (ap (λ (c : Node Value). c.lo) same) ∙ lo_is q in
      let hi : ready.node.hi ≡ rank q.hi = sym (ap (λ (c : Node Value). c.hi) same) ∙ hi_is q in
      let short = ups_long 7 (standing w) 2 (rank e.key) in
      let come : extra_cells (after_edits e.cuts e.items q) ≤ b 1 q.id = subst (λ v. extra_cells v ≤ b 1 q.id) (sym us) (subst (λ j. extra_cells (units_now e ready.node) ≤ b 1 j) (sym id) ready.come) in
      record {
        working = is.working;
        remake = subst (CanRemakeUp (root_of w r) f e.cuts e.items) (sym path) (record {
          cuts_within = subst (λ k. CutsWithin k (rank q.hi) e.cuts) lo (subst (λ k. CutsWithin ready.node.lo k e.cuts) hi ready.cuts_within);
          within = subst (λ k. AreWithin k (rank q.hi) e.items) lo (subst (λ k. AreWithin ready.node.lo k e.items) hi ready.within);
          keys = ready.keys;
          can = subst (λ (c : Node Value). CanPutAll e.items (cut_all e.cuts c.units)) (sym same) ready.can;
          small = subst (λ v. leaf_bytes v < 58912) (sym us) ready.small;
          edit = record {
            enough = turn_enough t r f w b is (rank e.key) q (ups_of 7 (standing w) 2 (rank e.key)) path (after_edits e.cuts e.items q) come;
            numbers = at_most (extra_cells (after_edits e.cuts e.items q)) (length (ups_of 7 (standing w) 2 (rank e.key))) short numbers;
          };
        });
      }
    where
      at_most : (n m : ℕ) → m ≤ 7 → f.next + 64 ≤ f.end → f.next + (1 + m) + min 15 n < f.end
      at_most n m h g = let k : min 15 n ≤ 15 = omega arith in omega (arith, h, g, k)

  module _ (unplaced : 2 ^ 63 ≤ f.next) (high : f.end < 2 ^ 64) (g : Fresh) (v : WorkingSet) (made : IsDone t r f g w v e) where
    leaf_at : (s made.leaf.id ≡ Some (node_of made.leaf)) × (made.leaf.level ≡ 1) × InCell made.leaf (rank e.key)
    leaf_at = let at = lowest_is (standing w) (rank e.key) made.leaf made.ups made.path in (standing_is t r f w is.working made.leaf at.among, at.level_is, at.range)

    leaf_is : (made.leaf.id ≡ i) × (node_of made.leaf ≡ ready.node)
    leaf_is = let (a, l, k) = leaf_at in the_leaf made.leaf a l k

    come : extra_cells (after_edits e.cuts e.items made.leaf) ≤ b 1 made.leaf.id
    come = subst (λ u. extra_cells u ≤ b 1 made.leaf.id) (sym (units_are made.leaf leaf_is.1)) (subst (λ j. extra_cells (units_now e ready.node) ≤ b 1 j) (sym leaf_is.0) ready.come)

    pub next_measure : (c2 : Budget) × IsMeasured t r g v c2 × ((j : ℕ) → (Contains (ids_of made.edit.new) j → ⊥) → c2 1 j ≡ b 1 j)
        × (most_from c2 (root_of v r) (standing v) ≤ most_from b (root_of w r) (standing w)) × (b (root_of w r).height (root_of w r).id ≡ 0 → (root_of v r ≡ root_of w r) × (c2 (root_of w r).height (root_of w r).id ≡ 0))
    next_measure = turn_kept t r f w b is (rank e.key) made.leaf made.ups made.path v g (after_edits e.cuts e.items made.leaf) made.edit come unplaced high made.takes made.change made.meets made.edits made.put made.working

    ascends : Ascends s None (made.leaf ∷ made.ups)
    ascends = subst (Ascends s None) made.path (path_ascends s (root_of w r) part (standing w) (standing_is t r f w is.working) (rank e.key))

    -- another leaf is none of the change's cells
    not_old : (j : ℕ) (c : Node Value) → s j ≡ Some c → c.level ≡ 1 → j ≢ i → Contains (ids_of (olds (made.edits.lowest ∷ made.edits.more))) j → ⊥
    not_old j c at level ne member = elim (cases made.edits.lowest.old.id j (ids_of (olds made.edits.more)) member) [
      | inl h ↦ ne (h ∙ (ap (λ (y : CellSeen). y.id) made.edits.old ∙ leaf_is.0))
      | inr rest ↦
          let (y, my, id) = of_id (olds made.edits.more) j rest in
          let path : Ascends s (Some made.leaf) (olds made.edits.more) = subst (λ cells. Ascends s (Some made.leaf) cells) (sym made.edits.ups_are) (ascends_take s (Some made.leaf) (length made.edits.more) made.ups ascends.3) in
          let up = ups_high s (root_of w r) part (Some made.leaf) (olds made.edits.more) (leaf_low ascends.1) path y my in
          let sy = stood (olds made.edits.more) (Some made.leaf) path y my in
          let same = one_cell s j c (node_of y) at (subst (λ n. s n ≡ Some (node_of y)) id sy) in
          let l = level_is y in
          let m = ap (λ (z : Node Value). z.level) same in
          absurd (omega (arith, up, l, m, level))
    ]
      where
        leaf_low : 1 ≤ made.leaf.level → 1 ≤ made.leaf.level
        leaf_low h = h

        stood : (cells : List CellSeen) (below : Option CellSeen) → Ascends s below cells → (y : CellSeen) → Contains cells y → s y.id ≡ Some (node_of y)
        stood [] below path y member = absurd (none y member)
        stood (z ∷ zs) below (at, low, named, rest) y member = elim (cases z y zs member) [
          | inl h ↦ subst (λ (x' : CellSeen). s x'.id ≡ Some (node_of x')) (sym h) at
          | inr more ↦ stood zs (Some z) rest y more
        ]

    fresh : (j : ℕ) → Contains (fresh_ids (made.edits.lowest ∷ made.edits.more) made.edits.over) j → IsFresh f j
    fresh j member =
        let h = count_within f.next (fresh_ids (made.edits.lowest ∷ made.edits.more) made.edits.over) j made.edits.counts member in
        let n = ap (λ (y : Fresh). y.next) made.edits.number in
        let takes = made.takes in
        (omega (arith, h), omega (arith, h, n, takes))

    not_new : (j : ℕ) (c : Node Value) → s j ≡ Some c → c.level ≡ 1 → j ≢ i → Contains (ids_of made.edit.new) j → ⊥
    not_new j c at level ne member = elim (from_new None (made.edits.lowest ∷ made.edits.more) made.edits.over j made.edits.climbs (subst (λ cs. Contains (ids_of cs) j) made.edits.levels.new member)) [
      | inl h ↦ not_old j c at level ne h
      | inr h ↦ let fr = fresh j h in none-some c (sym (is.working.free.cells j fr.0 fr.1) ∙ at)
    ]

    pub still_ready : (c2 : Budget) → ((j : ℕ) → (Contains (ids_of made.edit.new) j → ⊥) → c2 1 j ≡ b 1 j) → (e2 : LeafTurn) (j : ℕ) → j ≢ i → IsReady t w b e2 j → IsReady t v c2 e2 j
    still_ready c2 same e2 j ne ready2 =
        let new_out = not_new j ready2.node ready2.at ready2.level ne in
        let new_none : by_name made.edit.new j ≡ None = absent made.edit.new j (λ y m id. new_out (subst (λ n. Contains (ids_of made.edit.new) n) id (id_member made.edit.new y m))) in
        let old_none : by_name made.edit.old j ≡ None = absent made.edit.old j (λ y m id. not_old j ready2.node ready2.at ready2.level ne
        (subst (λ n. Contains (ids_of (olds (made.edits.lowest ∷ made.edits.more))) n) id (id_member (olds (made.edits.lowest ∷ made.edits.more)) y (subst (λ cs. Contains cs y) made.edits.levels.old m)))) in
        let was : place (patch_of_change made.edit) s j ≡ Some ready2.node = ap (λ o. over o (by_name made.edit.old j) (s j)) new_none ∙ (ap (λ o. over None o (s j)) old_none ∙ ready2.at) in
        let stood : (x : CellSeen) → Contains made.edit.old x → Contains (standing w) x = λ x at. old_stands w (rank e.key) made.leaf made.ups made.path (after_edits e.cuts e.items made.leaf) f g made.edit made.edits x at in
        let same_cells = cells_are t r f w b is v g made.edit made.change made.meets stood made.put made.working in
        let (y, my, id) = ready2.stands in
        record {
          node = ready2.node;
          at = ap (λ (u : Store Value). u j) same_cells ∙ was;
          stands = (y, still_in t r f w b is v g made.edit made.change made.meets stood made.put made.working j y id old_none my, id);
          level = ready2.level;
          key = ready2.key;
          cuts_within = ready2.cuts_within;
          within = ready2.within;
          keys = ready2.keys;
          can = ready2.can;
          small = ready2.small;
          come = subst (λ n. extra_cells (units_now e2 ready2.node) ≤ n) (sym (same j new_out)) ready2.come;
        }

    -- at most 64 numbers are taken
    pub few_numbers : (g.next ≤ f.next + 64) × (g.end ≡ f.end)
    few_numbers =
        let n = ap (λ (y : Fresh). y.next) made.edits.number in
        let m = few_fresh made.edits.more made.edits.over made.edits.keep in
        let a = length-append (ids_of (drop 1 made.edits.lowest.new)) (fresh_ids made.edits.more made.edits.over) in
        let l = long_ids (drop 1 made.edits.lowest.new) in
        let o = long_olds made.edits.more in
        let p = ap length made.edits.ups_are in
        let q = take_short (length made.edits.more) made.ups in
        let u = ups_long 8 (standing w) 1 (rank e.key) in
        let pl = ap length made.path in
        let d = lowest_few in
        let takes = made.takes in
        (omega (arith, n, m, a, l, o, p, q, u, pl, d), takes.2)
      where
        cases_le : (k : ℕ) → (k ≤ 4068) ⊎ (4068 < k)
        cases_le k = by_lt (cases_lt 4068 k)
          where
            by_lt : (4068 < k) ⊎ (k ≤ 4068) → (k ≤ 4068) ⊎ (4068 < k)
            by_lt (inl h) = inr h
            by_lt (inr h) = inl h

        drop_one : (cells : List CellSeen) → length (drop 1 cells) ≤ length cells - 1
        drop_one [] = omega arith
        drop_one (c ∷ cs) = omega arith

        lowest_few : length (drop 1 made.edits.lowest.new) ≤ 54
        lowest_few =
            let small : leaf_bytes (after_edits e.cuts e.items made.leaf) < 58912 = subst (λ us. leaf_bytes us < 58912) (sym (units_are made.leaf leaf_is.1)) ready.small in
            let d = drop_one made.edits.lowest.new in
            elim (cases_le (leaf_bytes (after_edits e.cuts e.items made.leaf))) [
              | inl fits ↦ let h = made.edits.one fits in omega (arith, h, d)
              | inr big ↦ let h = made.edits.several big in omega (arith, h, d, small)
            ]

-- ---- all of them

still_all : (t : Store Value) (w v : WorkingSet) (b c2 : Budget) (i : ℕ) → ((e2 : LeafTurn) (j : ℕ) → j ≢ i → IsReady t w b e2 j → IsReady t v c2 e2 j) → (es : List LeafTurn) (is : List ℕ) → ((j : ℕ) → Contains is j → j ≢ i) → AreReady t w b es is → AreReady t v c2 es is
still_all t w v b c2 i still [] [] ne h = tt
still_all t w v b c2 i still [] (j ∷ js) ne h = absurd h
still_all t w v b c2 i still (e ∷ es) [] ne h = absurd h
still_all t w v b c2 i still (e ∷ es) (j ∷ js) ne (h, apart2, rest) = (still e j (ne j (here j js)) h, apart2, still_all t w v b c2 i still es js (λ k m. ne k (later j k js m)) rest)

pub all_turns : (t : Store Value) (r : Root) (es : List LeafTurn) (is : List ℕ) (f : Fresh) (w : WorkingSet) (b : Budget) → IsMeasured t r f w b → AreReady t w b es is → 2 ^ 63 ≤ f.next → f.end < 2 ^ 64 → f.next + 64 * length es ≤ f.end → CanRemakeAll t r es f w
all_turns t r [] is f w b measured ready unplaced high numbers = tt
all_turns t r (e ∷ es) [] f w b measured ready unplaced high numbers = absurd ready
all_turns t r (e ∷ es) (i ∷ is) f w b measured (ready, apart2, rest) unplaced high numbers = (
  can_turn t r f w b measured e i ready (omega (arith, numbers)),
  λ g v made.
      let (c2, next, same, few_cells, stays) = next_measure t r f w b measured e i ready unplaced high g v made in
      let few = few_numbers t r f w b measured e i ready unplaced high g v made in
      let takes = made.takes in
      all_turns t r es is g v c2 next
      (still_all t w v b c2 i (λ e2 j ne ready2. still_ready t r f w b measured e i ready unplaced high g v made c2 same e2 j ne ready2) es is apart2 rest)
      (omega (arith, unplaced, takes)) (omega (arith, high, few)) (omega (arith, numbers, few)),
)

-- ---- how many cells stand then

long_sum : (b : Budget) (cells : List CellSeen) → length cells ≤ cells_from b cells
long_sum b [] = omega arith
long_sum b (c ∷ cs) = let a = sum_by-cons (λ (x : CellSeen). 1 + b x.level x.id) c cs in let h = long_sum b cs in omega (arith, a, h)

pub few_stand : (most : ℕ) (t : Store Value) (r : Root) (es : List LeafTurn) (is : List ℕ) (f : Fresh) (w : WorkingSet) (b : Budget) → IsMeasured t r f w b → AreReady t w b es is → 2 ^ 63 ≤ f.next → f.end < 2 ^ 64 → f.next + 64 * length es ≤ f.end
    → most_from b (root_of w r) (standing w) ≤ most → StandAtMost most t r es f w
few_stand most t r [] is f w b measured ready unplaced high numbers few = let h = long_sum b (standing w) in omega (arith, few, h)
few_stand most t r (e ∷ es) [] f w b measured ready unplaced high numbers few = absurd ready
few_stand most t r (e ∷ es) (i ∷ is) f w b measured (ready, apart2, rest) unplaced high numbers few = λ g v made.
    let (c2, next, same, fewer, stays) = next_measure t r f w b measured e i ready unplaced high g v made in
    let taken = few_numbers t r f w b measured e i ready unplaced high g v made in
    let takes = made.takes in
    few_stand most t r es is g v c2 next
    (still_all t w v b c2 i (λ e2 j ne ready2. still_ready t r f w b measured e i ready unplaced high g v made c2 same e2 j ne ready2) es is apart2 rest)
    (omega (arith, unplaced, takes)) (omega (arith, high, taken)) (omega (arith, numbers, taken)) (omega (arith, few, fewer))
