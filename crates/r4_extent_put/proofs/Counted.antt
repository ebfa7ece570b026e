-- How many leaves come to twigs, and how many numbers suffice.
use Rattle.std.proofs.Common.{◌≡◌, ℕ, ◌+◌, ◌-◌, ◌*◌, ◌/◌, ◌<◌, ◌≤◌, Bool, true, false, List, [], ◌∷◌, length, refl, sym, ap, subst, arith}
use Rattle.std.specs.Prelude.{◌&&◌, ◌==◌, None, Option, if◌then◌else◌, nat_le, nat_lt, sum_by}
use Rattle.std.proofs.lemmas.Bool.{and_parts, leb-true}
use Rattle.std.proofs.lemmas.Grind.{common_steps}
use Rattle.std.proofs.lemmas.List.Sums.{sum_by-cons}
use Rattle.r4_base.specs.Tree.{Node}
use Rattle.r4_base.specs.Value.{Value}
use Rattle.r4_content.specs.Edited.{Edits}
use Rattle.r4_extent_among.specs.AmongIn.{numbers_among}
use Rattle.r4_extent_turned.proofs.r4_extent_growth.r4_extent_change.r4_extent_build.r4_extent_demands.r4_leaf_demands.Alike.{in_leaves_edits}
use Rattle.r4_extent_turned.specs.r4_extent_growth.r4_extent_change.r4_extent_counts.Coming.{twig_cells}
use Rattle.r4_extent_turned.specs.r4_extent_growth.r4_extent_demands.Sizes.{AreExtentEdits}
use Rattle.r4_extent_turned.specs.r4_extent_growth.r4_extent_demands.r4_leaf_demands.Leaves.{IsInLeaves}
use Rattle.r4_extent_turned.specs.r4_extent_growth.r4_measure.r4_cell.Seen.{CellSeen, node_of}
use Rattle.r4_extent_turned.specs.r4_extent_growth.r4_measure.r4_cell.declared.change.Fresh.{Fresh}
use Rattle.r4_extent_turned.specs.r4_extent_growth.r4_measure.r4_leaf.Units.{LeafUnit, leaf_bytes}
use Rattle.r4_extent_turned.specs.r4_extent_growth.r4_measure.r4_reach.Needs.{put_among}
use Rattle.r4_extent_turned.specs.r4_extent_growth.r4_measure.r4_reach.Touched.{Body}
use Rattle.r4_extent_put.specs.Allowing.{has_numbers}
use Rattle.r4_extent_put.specs.Putting.{leaves_put, numbers_put}
use Rattle.r4_extent_put.specs.Whole.{is_putting, putting_among}
use Rattle.r4_extent_put.proofs.PutSteps.{suits}
use Rattle.r4_extent_put.proofs.PutWhole.{units_same}

-- twigs may be asked for edits without a body too
pub edits_alone : (b : Option Body) (e : Edits) → IsInLeaves b → AreExtentEdits b e → AreExtentEdits None e
edits_alone b e leaves h = record {
  body = tt;
  suit = suits b e leaves h.suit;
  small = λ n rises few. subst (λ (us : List LeafUnit). leaf_bytes us < 58912) (units_same b e n leaves) (h.small n rises few);
}

module _ (b : Option Body) (e : Edits) (leaves : IsInLeaves b) where
  alone : (n : Node Value) → put_among None e n ≡ put_among b e n
  alone n = ap (λ (x : Edits). put_among None x n) (sym (in_leaves_edits b e leaves))

  pub one_twig : (c : CellSeen) → c.level ≡ 2 → sum_by (twig_cells None e) (c ∷ []) ≡ put_among b e (node_of c)
  one_twig c two =
      let n = ap (λ (l : ℕ). if l == 2 then put_among None e (node_of c) + 0 else 0) two in
      let m = alone (node_of c) in
      omega (arith, n, m)

  leaves_more : (c : CellSeen) (cs : List CellSeen) → leaves_put b e (c ∷ cs) ≡ twig_cells None e c + leaves_put b e cs
  leaves_more c cs = by_tests (c.level == 2) (nat_lt 0 (put_among b e (node_of c))) refl refl
    where
      sum : sum_by (λ (d : CellSeen). put_among b e (node_of d)) (c ∷ putting_among b e cs) ≡ put_among b e (node_of c) + leaves_put b e cs
      sum = sum_by-cons (λ (d : CellSeen). put_among b e (node_of d)) c (putting_among b e cs)

      kept : (v : Bool) → is_putting b e c ≡ v → leaves_put b e (c ∷ cs) ≡ sum_by (λ (d : CellSeen). put_among b e (node_of d)) (if v then c ∷ putting_among b e cs else putting_among b e cs)
      kept v h = ap (λ (t : Bool). sum_by (λ (d : CellSeen). put_among b e (node_of d)) (if t then c ∷ putting_among b e cs else putting_among b e cs)) h

      cells : (v : Bool) → (c.level == 2) ≡ v → twig_cells None e c ≡ (if v then put_among None e (node_of c) + 0 else 0)
      cells v h = ap (λ (t : Bool). if t then put_among None e (node_of c) + 0 else 0) h

      none_put : (n : ℕ) → nat_lt 0 n ≡ false → n ≡ 0
      none_put n h = grind (arith, common_steps, h)

      by_tests : (v w : Bool) → (c.level == 2) ≡ v → nat_lt 0 (put_among b e (node_of c)) ≡ w → leaves_put b e (c ∷ cs) ≡ twig_cells None e c + leaves_put b e cs
      by_tests true true h g = let k = kept true (λ i. h i && g i) in let n = cells true h in let m = alone (node_of c) in omega (arith, k, n, m, sum)
      by_tests true false h g = let k = kept false (λ i. h i && g i) in let n = cells true h in let m = alone (node_of c) in let z = none_put (put_among b e (node_of c)) g in omega (arith, k, n, m, z)
      by_tests false w h g = let k = kept false (λ i. h i && g i) in let n = cells false h in omega (arith, k, n)

  pub all_twigs : (cells : List CellSeen) → sum_by (twig_cells None e) cells ≡ leaves_put b e cells
  all_twigs [] = refl
  all_twigs (c ∷ cs) =
      let a = sum_by-cons (twig_cells None e) c cs in
      let n = leaves_more c cs in
      let m = all_twigs cs in
      omega (arith, a, n, m)

-- ---- numbers

numbers_few : (b : Option Body) (e : Edits) (cells : List CellSeen) → sum_by (numbers_among b e) (putting_among b e cells) ≤ leaves_put b e cells + 64 * length cells
numbers_few b e [] = omega arith
numbers_few b e (c ∷ cs) = by_test (is_putting b e c) (numbers_few b e cs)
  where
    by_test : (v : Bool) → sum_by (numbers_among b e) (putting_among b e cs) ≤ leaves_put b e cs + 64 * length cs
        → sum_by (numbers_among b e) (if v then c ∷ putting_among b e cs else putting_among b e cs)
        ≤ sum_by (λ (d : CellSeen). put_among b e (node_of d)) (if v then c ∷ putting_among b e cs else putting_among b e cs) + 64 * length (c ∷ cs)
    by_test true more =
        let n = sum_by-cons (numbers_among b e) c (putting_among b e cs) in
        let m = sum_by-cons (λ (d : CellSeen). put_among b e (node_of d)) c (putting_among b e cs) in
        omega (arith, n, m, more)
    by_test false more = omega (arith, more)

pub enough : (b : Option Body) (e : Edits) (f : Fresh) (cells : List CellSeen) → has_numbers b e f cells ≡ true → f.next + numbers_put b e cells ≤ f.end
enough b e f cells h =
    let (order, more) = and_parts (nat_le f.next f.end) _ h in
    let (leaves, count) = and_parts (nat_le (leaves_put b e cells) (f.end - f.next)) _ more in
    let up = leb-true f.next f.end order in
    let few = leb-true (leaves_put b e cells) (f.end - f.next) leaves in
    let cells_few = leb-true (length cells) ((f.end - f.next - leaves_put b e cells) / 128) count in
    let turns = numbers_few b e cells in
    omega (arith, up, few, cells_few, turns)
