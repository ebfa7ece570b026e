-- Where a row is cut.
use Rattle.std.proofs.Common.{◌≡◌, ℕ, ◌+◌, ◌*◌, ◌/◌, ◌<◌, ◌≤◌, false, List, [], ◌∷◌, length, take, drop, refl, ap, arith}
use Rattle.std.specs.Prelude.{nat_le}
use Rattle.std.specs.Arc.{arc_value}
use Rattle.std.proofs.lemmas.Bool.Decides.{nat_tests}
use Rattle.std.proofs.lemmas.List.{length-drop}
use Rattle.r4_base.specs.Node.{Item}
use Rattle.r4_leaf.specs.r4_node40.View.{view_items}
use Rattle.r4_path.specs.Nodes.{weight}
use Rattle.r4_path.specs.Rows.{IsCut, IsNarrow, IsRow, row_items, row_level, row_more, row_part}
use Rattle.r4_path.specs.declared.row.Row.{Row}
use Rattle.r4_path.proofs.CellNodes.{long_map}
use Rattle.r4_path.proofs.Cuts.{beside, halved}
use Rattle.r4_path.proofs.RowPlaces.{row_length}

pub not_le : (a b : ℕ) → false ≡ nat_le a b → b < a
not_le a b h = grind (arith, nat_tests, h)

module _ (w : Row) (row : IsRow w) (narrow : IsNarrow w) where
  long : length (row_items w) ≡ length (view_items w.node) + length (row_more w)
  long = row_length (view_items w.node) w.at (row_more w) row.within

  pub more_long : length (row_more w) ≡ length w.more.now
  more_long = long_map arc_value w.more.now

  pub cut_before : row_level w ≤ 2 → 4068 < weight (row_items w)
      → weight (row_part w (w.at + 1) (length (row_items w))) ≤ 4068 → IsCut w (w.at + 1)
  cut_before low over fits =
      let b = beside (view_items w.node) w.at (row_more w) row.within in
      let before = b.before in
      let sum = b.items_weigh in
      let most = narrow.fits in
      let whole = b.whole in
      let within = row.within in
      let l = long in
      record {
        some = omega arith;
        below = some_come (w.at + 1) (length (view_items w.node)) (length (row_more w))
            (omega (arith, within)) whole sum most over l;
        left = omega (arith, before, sum, most);
        right = fits;
        filled = λ high. absurd (omega (arith, high, low));
      }
    where
      some_come : (k n m : ℕ) → k ≤ n → weight (row_items w)
          ≡ weight (take (w.at + 1) (view_items w.node)) +
          (46 * length (row_more w) + weight (drop (w.at + 1) (view_items w.node))) → weight (view_items w.node)
          ≡ weight (take (w.at + 1) (view_items w.node)) + weight (drop (w.at + 1) (view_items w.node))
          → weight (view_items w.node) ≤ 4068 → 4068 < weight (row_items w)
          → length (row_items w) ≡ n + length (row_more w) → k < length (row_items w)
      some_come k n m le whole sum most over total = omega (arith, le, whole, sum, most, over, total)

  pub cut_behind : row_level w ≤ 2 → 4068 < weight (row_part w (w.at + 1) (length (row_items w)))
      → IsCut w (w.at + 1 + length (row_more w))
  cut_behind low over =
      let b = beside (view_items w.node) w.at (row_more w) row.within in
      let after = b.after in
      let sum = b.items_weigh in
      let most = narrow.fits in
      let few = narrow.few in
      let left = b.before_behind in
      let right = b.after_behind in
      let l = long in
      record {
        some = omega arith;
        below = some_left;
        left = omega (arith, left, sum, most, after, over, few);
        right = omega (arith, right, sum, most);
        filled = λ high. absurd (omega (arith, high, low));
      }
    where
      none_left : [] ≡ drop (w.at + 1) (view_items w.node) → ⊥
      none_left e =
          let b = beside (view_items w.node) w.at (row_more w) row.within in
          let after = b.after in
          let few = narrow.few in
          let zero_left : 0 ≡ weight (drop (w.at + 1) (view_items w.node)) = ap weight e in
          omega (arith, after, few, zero_left, over)

      grind_left : (rest : List Item) → rest ≡ drop (w.at + 1) (view_items w.node)
          → w.at + 1 + length (row_more w) < length (row_items w)
      grind_left [] e = absurd (none_left e)
      grind_left (x ∷ xs) e =
          let d = length-drop (w.at + 1) (view_items w.node) in
          let n = ap length e in
          let l = long in
          omega (arith, d, n, l)

      some_left : w.at + 1 + length (row_more w) < length (row_items w)
      some_left = grind_left (drop (w.at + 1) (view_items w.node)) refl

  pub cut_half : 2 ≤ length (row_items w) → 3 ≤ row_level w → IsCut w (length (row_items w) / 2)
  cut_half two high =
      let n = length (row_items w) in
      let half : n / 2 ≤ n = omega arith in
      let h = halved (row_items w) (n / 2) half (narrow.alike high) in
      let left = h.left in
      let right = h.right in
      let whole = h.whole in
      let b = beside (view_items w.node) w.at (row_more w) row.within in
      let total = b.whole in
      let sum = b.items_weigh in
      let most = narrow.fits in
      let few = narrow.few in
      record {
        some = omega (arith, two);
        below = omega (arith, two);
        left = omega (arith, left, whole, total, sum, most, few);
        right = omega (arith, right, whole, total, sum, most, few);
        filled = λ _ over. (omega (arith, left, whole, over), omega (arith, right, whole, over));
      }
