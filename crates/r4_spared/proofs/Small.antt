-- What a command asks of a part of a tree, where its keys lie in leaves, stays small; and that it can be built.
use Rattle.std.specs.Prelude.{◌≡◌, ℕ, ◌+◌, ◌*◌, ◌^◌, ◌<◌, ◌≤◌, Bool, true, false, List, Contains, Option, Some, None}
use Rattle.std.specs.Prelude.{if◌then◌else◌}
use Rattle.std.specs.FinMap.{find}
use Rattle.std.specs.List.{filter}
use Rattle.std.specs.Ordering.{nat_cmp}
use Rattle.std.proofs.Common.{arith, inl, refl, sym, ap, subst, ◌∙◌}
use Rattle.std.proofs.lemmas.Bool.Decides.{nat_tests}
use Rattle.r4_base.specs.Cell.{cell_fault}
use Rattle.r4_base.specs.Key.{rank}
use Rattle.r4_base.specs.Tree.{Node, Root, Store}
use Rattle.r4_base.specs.Value.{Value}
use Rattle.r4_base.proofs.Trees.{one_cell}
use Rattle.r4_search.specs.r4_cell.Seen.{CellSeen, node_of}
use Rattle.r4_search.specs.r4_cell.declared.change.Fresh.{Fresh}
use Rattle.r4_content.specs.Edited.{Edits, Intervals, Pairs, changed, is_between, is_in}
use Rattle.r4_content.specs.Listed.{list_edited}
use Rattle.r4_content.specs.declared.command.Command.{Command}
use Rattle.r4_build.specs.r4_leaf.Leaves.{MayStand}
use Rattle.r4_build.specs.r4_leaf.Units.{leaf_bytes}
use Rattle.r4_build.specs.r4_leaf_edits.Made.{spread_keys}
use Rattle.r4_build.specs.r4_patch.Part.{IsPart}
use Rattle.r4_build.proofs.r4_path.Rising.{hi_is, in_cell, level_is, lo_is}
use Rattle.r4_build.specs.r4_reach.Demand.{Demand}
use Rattle.r4_build.specs.r4_reach.Needs.{Ask, demand_of, demand_on, over, units_after}
use Rattle.r4_build.specs.r4_reach.Touched.{Body, body_on, edits_on, reads_on}
use Rattle.r4_suited.specs.Suited.{end_of_bytes}
use Rattle.r4_suited.proofs.Cells.{IsFitting, leaf_fits}
use Rattle.r4_suited.proofs.Small.{leaf_small}
use Rattle.r4_suited.proofs.Walked.{edits_made}
use Rattle.r4_build.specs.r4_measure.Asked.{asked_of}
use Rattle.r4_build.specs.r4_measure.Begin.{IsQuiet}
use Rattle.r4_build.specs.Building.{CanBuild, HaveLawfulKeys, LiesInLeaf}
use Rattle.r4_build.proofs.Pairs.{found_in}
use Rattle.r4_spared.specs.Spared.{AreAccepted, ChangesLeaves, HasTask, IsAskedInLeaves, MayRise, Spares}
use Rattle.r4_spared.proofs.Charges.{AreCharged, charge_most, charge_of, charge_up, leaf_charged}
use Rattle.r4_spared.proofs.Climbing.{asked_bound}
use Rattle.r4_spared.proofs.Shapes.{made_charged}
use Rattle.r4_spared.proofs.Spared.{all_spared, asked_in_leaves, no_true, own_edits, unspread}

ends_in_tails : (b : Option Body) → spread_keys b ≡ None → end_of_bytes b ≡ 16384
ends_in_tails None h = refl
ends_in_tails (Some b) h = ap (λ (v : Bool). let end : ℕ = if v then 2 ^ 64 else 16384 in end) (unspread b h)

is_inside : (lo hi k : ℕ) → lo ≤ k → k < hi → is_between lo hi k ≡ true
is_inside lo hi k low high = grind (arith, nat_tests, low, high)

module _ (b : Option Body) (e : Edits) (tails : spread_keys b ≡ None) (h : AreCharged e) (t : Store Value) (root : Root)
    (it : IsPart t root) (accepted : AreAccepted t) (i : ℕ) (c : Node Value) (at : t i ≡ Some c)
    (one : c.level ≡ 1) where
  fits : IsFitting c.units
  fits =
      let x = (accepted.cells i c at).0 in
      let same = (accepted.cells i c at).1 in
      let whole = (accepted.cells i c at).2 in
      let good_cell = (accepted.cells i c at).3 in
      let level : x.level ≡ 1 = sym (level_is x) ∙ (ap (λ (y : Node Value). y.level) (sym same) ∙ one) in
      let stand : MayStand (rank x.lo) (rank x.hi) x.block
      = (whole, subst (λ (l : ℕ). cell_fault true (2 ^ 64) l (rank x.lo) (rank x.hi) x.block ≡ None) level good_cell) in
      let lo = ap (λ (y : Node Value). y.lo) same ∙ lo_is x in
      let hi = ap (λ (y : Node Value). y.hi) same ∙ hi_is x in
      let some = (it.nodes i c at).nonempty in
      subst (λ (y : Node Value). IsFitting y.units) (sym same) (leaf_fits x level stand (omega (arith, lo, hi, some)))

  outside : (k : ℕ) → is_between c.lo c.hi k ≡ false → find nat_cmp k c.units ≡ None
  outside k out = by_found (find nat_cmp k c.units) refl
    where
      by_found : (o : Option Value) → find nat_cmp k c.units ≡ o → o ≡ None
      by_found None is = refl
      by_found (Some v) is =
          let (low, high) = (it.nodes i c at).unit_in k v (found_in k c.units v is) in
          absurd (no_true (is_between c.lo c.hi k) (is_inside c.lo c.hi k low high) out)

  pub leaf_asks_few : 1024 * over (leaf_bytes (units_after b e c)) + charge_of e h c.lo ≤ charge_of e h c.hi
  leaf_asks_few =
      let some = (it.nodes i c at).nonempty in
      let most = leaf_charged c.lo c.hi (omega (arith, some)) e h.first h.bytes h.values h.puts h.lawful h.zeros c.units
      fits.rises outside fits.few in
      let same = ap (λ (f : Edits). over (leaf_bytes (filter (λ u. is_between c.lo c.hi u.0) (list_edited f c.units))))
      (own_edits b e tails) in
      omega (arith, most, same)

module _ (c : Command) (s : Pairs) (in_extents : Bool) (t : Store Value) (root : Root)
    (is : ChangesLeaves c s in_extents t root) where
  abbrev b : Option Body
  b = body_on c s in_extents

  abbrev e : Edits
  e = edits_on c s

  spared : Spares b e t
  spared = all_spared t root b e is.part is.accepted is.tails is.lie

  pub asks_few : (reads rs : Intervals) (l i : ℕ) → asked_of (demand_of b e reads rs) t l i ≤ 26
  asks_few reads rs l i =
      let h = made_charged s in_extents e is.rises (edits_made c s is.lawful is.paths) (ends_in_tails b is.tails) in
      asked_bound b e reads rs spared.come t root is.part is.accepted spared.still (charge_of e h) (charge_up e h)
      (λ j n at one. leaf_asks_few b e is.tails h t root is.part is.accepted j n at one) l i 26
      (λ k below. let most = charge_most e h k in omega (arith, most))

  -- what it asks for as a command
  same_asked : IsAskedInLeaves c s in_extents
  same_asked = asked_in_leaves c s in_extents is.tails

  pub command_asks_few : (l i : ℕ) → asked_of (demand_on c s in_extents) t l i ≤ 26
  command_asks_few l i =
      subst (λ (d : Demand Ask). asked_of d t l i ≤ 26) (sym same_asked)
      (asks_few (reads_on c s in_extents) (changed e) l i)

  pub is_quiet : (reads rs : Intervals) → MayRise (demand_of b e reads rs) t root → IsQuiet b e reads rs t root
  is_quiet reads rs low = record {
    quiet = spared.come;
    seen = λ i n at. ((is.accepted.cells i n at).0, (is.accepted.cells i n at).1);
    still = spared.still;
    small = λ l i. let few = asks_few reads rs l i in omega (arith, few);
    low = low;
  }

  -- ---- of a task

  module _ (f : Fresh) (cells : List CellSeen) (keys : HaveLawfulKeys e)
      (task : HasTask (demand_of b e (reads_on c s in_extents) (changed e)) t root f cells) where
    lies : (k : ℕ) → is_in (changed e) k ≡ true → LiesInLeaf cells k
    lies k on =
        let (low, high) = keys k on in
        let (i, leaf, at, level, inside) = is.lie k on low high in
        let (x, member, id) = task.written i (leaf, at, inl (k, on, inl (omega (arith, level), inside))) in
        let same : node_of x ≡ leaf = one_cell t i (node_of x) leaf
        (subst (λ (j : ℕ). t j ≡ Some (node_of x)) id (task.cells_in.stand x member)) at in
        let l = level_is x in
        let one : (node_of x).level ≡ 1 = subst (λ (n : Node Value). n.level ≡ 1) (sym same) level in
        (x, member, sym l ∙ one, in_cell x k (subst (λ (n : Node Value). (n.lo ≤ k) × (k < n.hi)) (sym same) inside))

    small : (x : CellSeen) → Contains cells x → x.level ≡ 1 → leaf_bytes (units_after b e (node_of x)) < 58912
    small x member one =
        let own = fits b e is.tails
        (made_charged s in_extents e is.rises (edits_made c s is.lawful is.paths) (ends_in_tails b is.tails))
        t root is.part is.accepted x.id (node_of x) (task.cells_in.stand x member) (level_is x ∙ one) in
        leaf_small c s in_extents (node_of x) is.paths is.rises is.lawful own.rises own.few

    can_build : CanBuild b e (reads_on c s in_extents) t root f cells
    can_build = record {
      reached = record {
        quiet = is_quiet (reads_on c s in_extents) (changed e) task.low;
        height = task.height;
        cells_in = task.cells_in;
        written = task.written;
      };
      tails = is.tails;
      names = task.names;
      lie = lies;
      small = λ x member one met. small x member one;
      unplaced = task.unplaced;
      numbers = task.numbers;
    }

  pub builds : (f : Fresh) (cells : List CellSeen) → HaveLawfulKeys e
      → HasTask (demand_on c s in_extents) t root f cells
      → CanBuild b e (reads_on c s in_extents) t root f cells
  builds f cells keys task = can_build f cells keys
      (subst (λ (d : Demand Ask). HasTask d t root f cells) same_asked task)
