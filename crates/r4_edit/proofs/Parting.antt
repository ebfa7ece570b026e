-- A node parted in two, and the change that climbs from there.
use Rattle.std.proofs.Common.{◌≡◌, inl, ℕ, zero, suc, ◌+◌, ◌^◌, ◌<◌, ◌≤◌, true, List, [], length, drop, refl, sym, ap, subst, ◌∙◌, arith}
use Rattle.std.specs.Prelude.{All, Contains, Some, None, slice_get}
use Rattle.std.proofs.lemmas.List.{length-drop}
use Rattle.r4_base.specs.Cell.{cell_fault, names_in, spans_in, units_in}
use Rattle.r4_base.specs.Key.{rank}
use Rattle.r4_base.specs.Node.{KeysRise, PluginsFit, items_of, level_of, mkfs_id_of}
use Rattle.r4_base.specs.Tree.{IsNode as IsTreeNode}
use Rattle.r4_path.specs.r4_cell.Seen.{CellSeen, node_of}
use Rattle.r4_path.specs.r4_cell.declared.change.Fresh.{Fresh}
use Rattle.r4_path.proofs.r4_cell.NodesAt.{IsNodeAt, plugins_at}
use Rattle.r4_path.specs.r4_node40.Laid.{IsNode}
use Rattle.r4_path.specs.r4_node40.View.{view_block, view_items}
use Rattle.r4_path.proofs.r4_node40.Accepted.{good}
use Rattle.r4_path.specs.Levels.{units_of_cells}
use Rattle.r4_edit.specs.Splitting.{IsParted}
use Rattle.r4_path.specs.Nodes.{weight, weight_of}
use Rattle.r4_path.specs.Rows.{row_items, row_level, row_more, with_pointers}
use Rattle.r4_path.specs.Sharing.{AreSome, HasItems, IsRowOf, IsSound, items_of_cells}
use Rattle.r4_path.specs.Steps.{Follow, IsStep}
use Rattle.r4_path.specs.declared.row.Row.{Row}
use Rattle.r4_path.proofs.CellUnits.{own_units as units_of_items, units_parts}
use Rattle.r4_path.proofs.Cuts.{both_parts}
use Rattle.r4_path.proofs.Finding.{bodied, node_weighs, weighs_length}
use Rattle.r4_path.proofs.Lying.{Good}
use Rattle.r4_path.proofs.Parenting.{alike, in_naming, in_spanning, naming_in, sound_node, spanning_in}
use Rattle.r4_path.proofs.NewNodes.{leaf_step as step_of_leaves}
use Rattle.r4_path.proofs.Rising.{hi_is, lo_is}
use Rattle.r4_path.proofs.Stepping.{bodied_row}
use Rattle.r4_path.proofs.CellNodes.{names_are, spans_are}

-- ---- the row of a node as it is

module _ (c : CellSeen) (w : Row) (s : IsSound c) (one : 1 ≤ c.level) (range : rank c.lo < rank c.hi)
    (view : (view_block w.node).now ≡ c.block) (at_zero : w.at ≡ 0) (none_come : row_more w ≡ [])
    (two : 2 ≤ length (items_of c.block)) where
  at : IsNodeAt true (2 ^ 64) c.level (rank c.lo) (rank c.hi) c.block
  at = sound_node c one s

  node : IsNode c.block
  node = (good c.block s.whole at.accepted).0

  items : view_items w.node ≡ items_of c.block
  items = ap items_of view

  pub same_row : row_items w ≡ items_of c.block
  same_row = (λ i. with_pointers (items i) (at_zero i) (none_come i)) ∙ sym (both_parts 1 (items_of c.block))

  level_same : row_level w ≡ c.level
  level_same = ap level_of view ∙ at.level_is

  fit : PluginsFit c.level (items_of c.block)
  fit = plugins_at true (2 ^ 64) c.level (rank c.lo) (rank c.hi) c.block s.whole at

  within : w.at < length (view_items w.node)
  within = let a = ap length items in let z = at_zero in let n = two in omega (arith, a, z, n)

  pub own_row : w.mkfs_id ≡ mkfs_id_of c.block → IsRowOf c w
  own_row mkfs_id = record {
    row = record {
      within = within;
      few = let a = ap length items in let d = weighs_length (items_of c.block) in let m = node_weighs c.block node.laid in
          let n = ap length none_come in omega (arith, a, d, m, n);
      level = let head = node.head.level in let a = ap level_of view in (omega (arith, head, a), omega (arith, head, a));
      rise = subst KeysRise (sym same_row) node.keys;
      fit = subst (PluginsFit (row_level w)) (sym same_row) (subst (λ l. PluginsFit l (items_of c.block)) (sym level_same) fit);
      bodies = bodied_row (view_items w.node) w.at (row_more w)
          (λ k x e. bodied c.block node.laid k x (subst (λ xs. slice_get xs k ≡ Some x) items e));
    };
    narrow = record {
      fits = let m = node_weighs c.block node.laid in let a = ap weight items in omega (arith, m, a);
      few = let n = ap length none_come in omega (arith, n);
      alike = λ high. subst (All (λ x. weight_of x ≡ 46)) (sym same_row)
          (alike c.level (rank c.lo) (rank c.hi) 0 (items_of c.block)
          (let l = level_same in omega (arith, high, l)) fit at.items);
    };
    level = sym level_same;
    branch = one;
    range = range;
    some = let a = ap length same_row in let n = two in omega (arith, a, n);
    good = subst (Good c.level (rank c.lo) (rank c.hi) 0) (sym same_row) at.items;
    mkfs_id = mkfs_id;
  }

  pub own_two : 2 ≤ length (row_items w)
  own_two = let a = ap length same_row in let n = two in omega (arith, a, n)

  -- ---- the step

  module _ (next : ℕ) (cells : List CellSeen) (has : HasItems c (row_items w) next cells)
      (tree_node : IsTreeNode (node_of c)) where
    all_items : items_of_cells cells ≡ items_of c.block
    all_items = has.items_are ∙ same_row

    leaf_step : c.level ≡ 1 → IsStep None (record { old = c; new = cells })
    leaf_step leaf = step_of_leaves c cells tree_node leaf has.ranges has.sound has.first

    branch_step : (l : ℕ) → 1 ≤ l → c.level ≡ suc l → IsStep None (record { old = c; new = cells })
    branch_step l low up =
        let follow : Follow (suc l) (rank c.lo) (rank c.hi) cells = subst
        (λ k. Follow k (rank c.lo) (rank c.hi) cells) up has.ranges in
        let names : (node_of c).names ≡ names_in (suc l) (rank c.hi) (items_of_cells cells) = names_are c l up
        ∙ ap (names_in (suc l) (rank c.hi)) (sym all_items) in
        let spans : (node_of c).spans ≡ spans_in (rank c.hi) (items_of_cells cells) = spans_are c l up
        ∙ ap (spans_in (rank c.hi)) (sym all_items) in
        record {
          first = has.first;
          ranges = has.ranges;
          names = λ n. (
            (λ h. subst (λ ns. Contains ns n) (sym names)
                (naming_in l low (rank c.lo) (rank c.hi) cells follow has.sound n h)),
            (λ h. in_naming l low (rank c.lo) (rank c.hi) cells follow has.sound n (subst (λ ns. Contains ns n) names h)),
          );
          spans = λ v. (
            (λ h. subst (λ vs. Contains vs v) (sym spans)
                (spanning_in l low (rank c.lo) (rank c.hi) cells follow has.sound v h)),
            (λ h. in_spanning l low (rank c.lo) (rank c.hi) cells follow has.sound v (subst (λ vs. Contains vs v) spans h)),
          );
        }

    pub own_step : IsStep None (record { old = c; new = cells })
    own_step = by_level c.level refl one
      where
        by_level : (k : ℕ) → c.level ≡ k → 1 ≤ k → IsStep None (record { old = c; new = cells })
        by_level zero e some = absurd (omega (arith, some))
        by_level (suc zero) e some = leaf_step e
        by_level (suc (suc l)) e some = branch_step (suc l) (omega arith) e

    pub own_units : units_of_cells cells ≡ (node_of c).units
    own_units = units_parts c.level (rank c.lo) (rank c.hi) cells one has.ranges
        ∙ (ap units_in all_items ∙ sym (units_of_items c one))

-- ---- as the code has it: the cell was lent

pub record Lent (c p q : CellSeen) (w : Row) : Type 0 where
  pub p_is : p ≡ c
  pub q_is : q ≡ c
  pub view : (view_block w.node).now ≡ p.block
  pub whole : length p.block ≡ 4096
  pub accepted : cell_fault true (2 ^ 64) p.level (rank p.lo) (rank p.hi) p.block ≡ None
  pub mkfs_id : w.mkfs_id ≡ mkfs_id_of p.block
  pub at_zero : w.at ≡ 0
  pub none_come : row_more w ≡ []
  pub tree_node : IsTreeNode (node_of c)
  pub low : 1 ≤ c.level
  pub two : 2 ≤ length (items_of c.block)

module _ (c p q : CellSeen) (w : Row) (lent : Lent c p q w) where
  sound_cell : IsSound c
  sound_cell = subst IsSound lent.p_is (record { whole = lent.whole; accepted = lent.accepted })

  view_cell : (view_block w.node).now ≡ c.block
  view_cell = lent.view ∙ ap (λ (x : CellSeen). x.block) lent.p_is

  wide : rank c.lo < rank c.hi
  wide = let n = lent.tree_node.nonempty in let lo = lo_is c in let hi = hi_is c in omega (arith, n, lo, hi)

  pub lent_row : IsRowOf q w
  lent_row = subst (λ x. IsRowOf x w) (sym lent.q_is)
      (own_row c w sound_cell lent.low wide view_cell lent.at_zero lent.none_come lent.two
      (lent.mkfs_id ∙ ap (λ (x : CellSeen). mkfs_id_of x.block) lent.p_is))

  pub lent_two : 2 ≤ length (row_items w)
  lent_two = own_two c w sound_cell lent.low wide view_cell lent.at_zero lent.none_come lent.two

  pub lent_parted : (f g : Fresh) (old : CellSeen) (cells : List CellSeen) → old ≡ c → HasItems q (row_items w) f.next cells
      → length cells ≡ 2 → AreSome cells → g ≡ record f { next = f.next + 1 }
      → IsParted c f g (record { old = old; new = cells })
  lent_parted f g old cells same has two some took =
      let mine : HasItems c (row_items w) f.next cells = subst (λ x. HasItems x (row_items w) f.next cells) lent.q_is has in
      let all = same_row c w sound_cell lent.low wide view_cell lent.at_zero lent.none_come lent.two in
      let own : HasItems c (items_of c.block) f.next cells = subst (λ items. HasItems c items f.next cells) all mine in
      record {
        two = two;
        some = some;
        units = own_units c w sound_cell lent.low wide view_cell lent.at_zero lent.none_come lent.two f.next cells mine lent.tree_node;
        parts = inl (record {
          old = same;
          step = subst (λ x. IsStep None (record { old = x; new = cells })) (sym same)
              (own_step c w sound_cell lent.low wide view_cell lent.at_zero lent.none_come lent.two f.next cells mine lent.tree_node);
          sound = own.sound;
          counts = own.fresh;
          number = took ∙ (λ i. record f {
            next = (let d = length-drop 1 cells in
                let one : f.next + 1 ≡ f.next + length (drop 1 cells) = omega (arith, d, two) in one) i;
          });
          mkfs_id = own.mkfs_id;
        });
      }
