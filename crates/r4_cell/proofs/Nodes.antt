-- A block that may stand as a cell is a node by itself.
use Rattle.std.proofs.Common.{◌≡◌, inl, ℕ, zero, suc, ◌+◌, ◌<◌, ◌≤◌, List, [], ◌∷◌, length, refl, subst, arith}
use Rattle.std.specs.Prelude.{Bool, false, ◌&&◌, ◌==◌, nat_lt, Option, Some, None, if◌then◌else◌}
use Rattle.std.specs.Option.{option_map}
use Rattle.std.proofs.lemmas.Bool.{eqb-true}
use Rattle.std.proofs.lemmas.Bool.Decides.{nat_tests}
use Rattle.r4_base.specs.Key.{least, top}
use Rattle.r4_base.specs.Node.{Item, PluginsFit, count_of, items_of, level_of, node_fault}
use Rattle.r4_base.specs.Tree.{IsNode, Name, Span}
use Rattle.r4_base.specs.Value.{Value}
use Rattle.r4_base.specs.Cell.{bytes_from, cell_fault, cell_of, items_in_fault, names_in, next_key, spans_in, units_in}
use Rattle.r4_base.specs.declared.items.CellFault.TheVariants.{Level, Node}
use Rattle.r4_base.specs.declared.node.NodeFault.{NodeFault}
use Rattle.r4_node40.proofs.Accepted.{good}
use Rattle.r4_node40.proofs.Laid.{length-items_of}
use Rattle.r4_base.proofs.Choices.{chosen, none_of_node, nothing_in, or_none, some_items}
use Rattle.r4_cell.proofs.Rows.{IsRow, row_bytes}
use Rattle.r4_cell.proofs.Parts.{IsPart, part_wider}
use Rattle.r4_cell.proofs.Items.{good_item, items_part}

pub data_node : (lo : ℕ) (b : List ℕ) → length b ≡ 4096 → least ≤ lo → lo + 4096 ≤ top → IsNode (cell_of 0 lo (lo + 4096) b)
unfolding cell_of
data_node lo b whole low high =
    let r : IsRow lo (lo + 4096) [] (bytes_from lo b) = subst (λ (n : ℕ). IsRow lo (lo + n) [] (bytes_from lo b)) whole (row_bytes lo b) in
    record {
      from_least = low;
      nonempty = omega arith;
      to_top = high;
      below = λ n h. absurd (nothing_in n h);
      name_nonempty = λ n h. absurd (nothing_in n h);
      name_from = λ n h. absurd (nothing_in n h);
      name_to = λ n h. absurd (nothing_in n h);
      names_apart = λ n m k x _ _ _ _. absurd (nothing_in n x);
      spans_apart = λ n s k x _ _ _. absurd (nothing_in n x);
      span_from = λ s h. absurd (nothing_in s h);
      span_to = λ s h. absurd (nothing_in s h);
      spans_in_twigs = λ s h. absurd (nothing_in s h);
      covered = λ k two _. absurd (omega (arith, two));
      data_in_span = λ n h _. absurd (nothing_in n h);
      unit_in = r.unit_in;
      unit_low = λ k v h. inl (omega arith);
      unit_in_hole = λ n k v x _ _ _. nothing_in n x;
      one_unit = r.one_unit;
    }

-- ---- nodes

part_node : (level lo hi : ℕ) (b : List ℕ) (names : List Name) (spans : List Span) (units : List (ℕ × Value)) → least ≤ lo → lo < hi → hi ≤ top → IsPart level lo hi names spans units
    → IsNode (record { level = level; lo = lo; hi = hi; block = b; names = names; spans = spans; units = units })
part_node level lo hi b names spans units low lt high p = record {
  from_least = low;
  nonempty = lt;
  to_top = high;
  below = p.below;
  name_nonempty = p.row.nonempty;
  name_from = p.row.from;
  name_to = p.row.to;
  names_apart = λ n m k x y _ at bt. p.row.apart n m k x y at bt;
  spans_apart = p.spans_apart;
  span_from = p.span_from;
  span_to = p.span_to;
  spans_in_twigs = p.in_twigs;
  covered = λ k two at. p.covered k two at.0 at.1;
  data_in_span = p.data_in_span;
  unit_in = p.row.unit_in;
  unit_low = p.unit_low;
  unit_in_hole = λ n k v x _ y at. p.row.hole n k v x y at;
  one_unit = p.row.one_unit;
}

-- where the first item begins
first_key : (in_memory : Bool) (blocks level lo hi : ℕ) (items : List Item) → lo < hi → (2 ≤ level → 0 < length items) → items_in_fault in_memory blocks level lo hi 0 items ≡ None
    → (lo ≤ next_key hi items) × (2 ≤ level → next_key hi items ≡ lo)
first_key in_memory blocks level lo hi [] lt some h = (omega (arith, lt), λ two. absurd (omega (arith, some two)))
first_key in_memory blocks level lo hi (it ∷ items) lt some h = let g = good_item in_memory blocks level lo hi 0 it items h in (g.range.low, λ two. g.range.first two refl)

pub cell_node : (in_memory : Bool) (blocks level lo hi : ℕ) (b : List ℕ) → length b ≡ 4096 → 1 ≤ level → least ≤ lo → lo < hi → hi ≤ top → cell_fault in_memory blocks level lo hi b ≡ None → IsNode (cell_of level lo hi b)
unfolding cell_fault cell_of
cell_node in_memory blocks zero lo hi b whole one low lt high h = absurd (omega (arith, one))
cell_node in_memory blocks (suc l) lo hi b whole one low lt high h =
    let node = or_none (option_map Node (node_fault b)) _ h in
    let level = or_none (if level_of b == suc l then None else Some Level) _ node.1 in
    let is : level_of b ≡ suc l = eqb-true _ _ (chosen _ Level level.0) in
    let laid = good b whole (none_of_node _ node.0) in
    let items = items_of b in
    let fits : PluginsFit (suc l) items = subst (λ (k : ℕ). PluginsFit k items) is laid.0.plugins in
    let count = length-items_of b in
    let some : 2 ≤ suc l → 0 < length items = λ two. let c = some_items (level_of b) (count_of b) laid.1 (omega (arith, two, is)) in omega (arith, c, count) in
    let first = first_key in_memory blocks (suc l) lo hi items lt some level.1 in
    let p = items_part in_memory blocks (suc l) lo hi 0 items one fits level.1 in
    part_node (suc l) lo hi b (names_in (suc l) hi items) (spans_in hi items) (units_in items) low lt high
    (part_wider (suc l) (next_key hi items) lo hi (names_in (suc l) hi items) (spans_in hi items) (units_in items) first.0 first.1 p)
