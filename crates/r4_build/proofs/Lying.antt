-- Where the keys of edits lie that touch no extent.
use Rattle.std.proofs.Common.{◌≡◌, inl, inr, ◌<◌, ◌≤◌, ℕ, true, false, List, sym, subst, ◌∙◌, arith}
use Rattle.std.specs.Prelude.{Option, Some}
use Rattle.r4_base.specs.Tree.{Node, Root, Store}
use Rattle.r4_base.specs.Value.{Value}
use Rattle.r4_base.proofs.Trees.{one_cell}
use Rattle.r4_measure.specs.r4_cell.Seen.{CellSeen, node_of}
use Rattle.r4_measure.specs.r4_cell.declared.change.Fresh.{Fresh}
use Rattle.r4_content.specs.Edited.{Edits, Intervals, changed, is_in}
use Rattle.r4_measure.proofs.r4_path.Rising.{in_cell, level_is}
use Rattle.r4_measure.specs.r4_reach.Needs.{demand_of}
use Rattle.r4_measure.specs.r4_reach.Reach.{HasTouched}
use Rattle.r4_measure.specs.r4_reach.Touched.{Body}
use Rattle.r4_measure.specs.Begin.{IsReachedFor}
use Rattle.r4_build.specs.Building.{HaveLawfulKeys, LiesInLeaf, SparesExtents}
use Rattle.r4_build.proofs.MetKeys.{key_met}

pub lies_in_leaf : (b : Option Body) (e : Edits) (reads : Intervals) (t : Store Value) (r : Root) (f : Fresh) (cells : List CellSeen) → IsReachedFor b e reads (changed e) t r f cells → HasTouched (demand_of b e reads (changed e)) t → SparesExtents e t → HaveLawfulKeys e
    → (k : ℕ) → is_in (changed e) k ≡ true → LiesInLeaf cells k
lies_in_leaf b e reads t r f cells reached touched spares lawful k on =
    let (low, high) = lawful k on in
    let (i, c, at, covers) = touched.piece k (inr on) low high in
    elim covers [
      | inr spans ↦
          let (s, has, (from, to)) = spans in
          let bad : true ≡ false = sym (key_met (changed e) s.lo s.hi k on from to) ∙ spares i c s at has in
          absurd cc
      | inl leaf ↦
          let (level, inside) = leaf in
          let (x, member, id) = reached.written i (c, at, inl (k, on, inl (omega (arith, level), inside))) in
          let same : node_of x ≡ c = one_cell t i (node_of x) c (subst (λ j. t j ≡ Some (node_of x)) id (reached.cells_in.stand x member)) at in
          let l = level_is x in
          let one : (node_of x).level ≡ 1 = subst (λ (n : Node Value). n.level ≡ 1) (sym same) level in
          (x, member, sym l ∙ one, in_cell x k (subst (λ (n : Node Value). (n.lo ≤ k) × (k < n.hi)) (sym same) inside))
    ]
