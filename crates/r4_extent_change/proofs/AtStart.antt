-- A working set at its start, where the cells are measured, and once data blocks among them got other bytes.
use Rattle.std.proofs.Common.{◌≡◌, inl, inr, ◌+◌, ◌≤◌, List, [], ◌∷◌, length, sym, ap, subst, ◌∙◌, arith}
use Rattle.std.specs.Prelude.{Contains, None, Some, min}
use Rattle.std.proofs.lemmas.List.Elements.{Contains-append_right}
use Rattle.std.proofs.lemmas.List.Sorted.{Contains-permutation, sum_by-IsPermutation}
use Rattle.std.proofs.lemmas.List.Sums.{sum_by-append}
use Rattle.r4_base.specs.Key.{rank}
use Rattle.r4_base.specs.Tree.{Root, Store}
use Rattle.r4_base.specs.Value.{Value}
use Rattle.r4_build.proofs.Made.{start_of}
use Rattle.r4_build.specs.Making.{IsOf}
use Rattle.r4_content.specs.Edited.{Edits}
use Rattle.r4_extent_renew.specs.Overwriting.{AreSetAmong, AreStandingCells}
use Rattle.r4_extent_renew.proofs.Picked.{of_cells}
use Rattle.r4_build.proofs.r4_measure.Loop.{of_id}
use Rattle.r4_build.proofs.r4_measure.r4_patch.Members.{Distinct, cases, distinct, none}
use Rattle.r4_build.proofs.r4_measure.r4_work.Starting.{start_working}
use Rattle.r4_build.specs.r4_measure.Budget.{AreSeen, Budget, IsBudget, cells_from, most_from}
use Rattle.r4_build.specs.r4_measure.Measured.{IsMeasured}
use Rattle.r4_build.specs.r4_measure.r4_cell.Patch.{HaveNames, Patch, patch_of, place, root_after}
use Rattle.r4_build.specs.r4_measure.r4_cell.Seen.{CellSeen}
use Rattle.r4_build.specs.r4_measure.r4_cell.declared.change.Fresh.{Fresh}
use Rattle.r4_build.specs.r4_measure.r4_patch.Joining.{ids_of, patch_of_change}
use Rattle.r4_build.specs.r4_measure.r4_work.Working.{AreCellsIn, IsStart, IsWorking, now_of, root_of, standing}
use Rattle.r4_build.specs.r4_measure.r4_work.declared.working.WorkingSet.{WorkingSet}
use Rattle.r4_extent_loss.specs.r4_extent_build.r4_twig_turns.r4_twig_work.Renewing.{IsRenewed, StandAsBefore}
use Rattle.r4_extent_change.specs.Changing.{AreMeasured}

-- two of the cells that have one name are one cell
pub one_named : (cells : List CellSeen) → Distinct cells → (x y : CellSeen) → Contains cells x → Contains cells y → x.id ≡ y.id → x ≡ y
one_named [] apart x y at other same = absurd (none x at)
one_named (c ∷ cs) (first, rest) x y at other same = elim (cases c x cs at) [
  | inl x_is ↦ elim (cases c y cs other) [
    | inl y_is ↦ x_is ∙ sym y_is
    | inr y_in ↦ absurd (first y y_in (sym (ap (λ (z : CellSeen). z.id) x_is) ∙ same))
  ]
  | inr x_in ↦ elim (cases c y cs other) [
    | inl y_is ↦ absurd (first x x_in (sym (ap (λ (z : CellSeen). z.id) y_is) ∙ sym same))
    | inr y_in ↦ one_named cs rest x y x_in y_in same
  ]
]

module _ (cells : List CellSeen) (w : WorkingSet) (start : IsStart cells w) where
  same : patch_of_change w.change ≡ patch_of [] [] None
  same = λ j. patch_of (start.old j) (start.new j) (start.root j)

  pub standing_in : (x : CellSeen) → Contains cells x → Contains (standing w) x
  standing_in x m = Contains-append_right w.made w.kept x (Contains-permutation cells w.kept x start.kept m)

  module _ (t : Store Value) (r : Root) (f : Fresh) (are : AreCellsIn t r f cells) where
    as_before : now_of w t ≡ t
    as_before = ap (λ (p : Patch Value). place p t) same

    root_as_before : root_of w r ≡ r
    root_as_before = ap (λ (p : Patch Value). root_after p r) same

    working : IsWorking t r f w
    working = start_working cells w start t r f are

    module _ (u : Budget) (is : AreMeasured t r u cells) where
      pub start_measured : IsMeasured t r f w u
      start_measured = record {
        working = working;
        seen = subst AreSeen (sym as_before) is.seen;
        budget = subst (λ (s : Store Value). IsBudget s (root_of w r) u) (sym as_before) (subst (λ (q : Root). IsBudget t q u) (sym root_as_before) is.budget);
        height = subst (λ (q : Root). q.height ≤ 8) (sym root_as_before) is.height;
        kept = λ i c n at names low some. let (x, member, id) = is.kept i c n (subst (λ (s : Store Value). s i ≡ Some c) as_before at) names low some in (x, standing_in x member, id);
      }

      pub start_few : most_from u (root_of w r) (standing w) ≤ most_from u r cells
      start_few =
          let top = ap (λ (q : Root). min 1 (u q.height q.id)) root_as_before in
          let a = sum_by-append (λ (c : CellSeen). 1 + u c.level c.id) w.made w.kept in
          let m = ap (cells_from u) start.made in
          let p = sum_by-IsPermutation (λ (c : CellSeen). 1 + u c.level c.id) cells w.kept start.kept in
          omega (arith, top, a, m, p)

    pub start_stands : HaveNames cells → f.next ≤ f.end → ((c : CellSeen) → Contains cells c → c.level ≡ 0 → (rank c.hi ≡ rank c.lo + 4096) × (length c.block ≡ 4096)) → AreStandingCells t r f w cells
    start_stands names numbers blocks = record {
      working = working;
      numbers = numbers;
      each = λ c at level. let b = blocks c at level in record { stands = standing_in c at; level = level; wide = b.0; whole = b.1 };
      names = names;
    }

  -- ---- once blocks among them are others

  module _ (e : Edits) (now : WorkingSet) (olds news : List CellSeen) (names : HaveNames cells) (among : AreSetAmong e cells olds) where
    no_block : (c : CellSeen) → Contains cells c → 1 ≤ c.level → Contains (ids_of olds) c.id → ⊥
    no_block c at high m =
        let (x, member, id) = of_id olds c.id m in
        let (in_cells, low) = of_cells e cells olds among x member in
        let one = ap (λ (z : CellSeen). z.level) (one_named cells (distinct cells names) x c in_cells at id) in
        omega (arith, one, low, high)

    -- cells that are no blocks stand
    pub still_stand : (t : Store Value) (r : Root) (f : Fresh) → IsRenewed t r f w now olds news → (c : CellSeen) → Contains cells c → 1 ≤ c.level → Contains (standing now) c
    still_stand t r f is c at high = (is.stand c).1 (inr (standing_in c at, no_block c at high))

  pub renewed_of : (now : WorkingSet) (f : Fresh) → StandAsBefore w now → IsOf cells f.next f now
  renewed_of now f is =
      let was = start_of cells w f start in
      record {
        old = λ c at. elim (is.old c at) [ inl o ↦ was.old c o | inr k ↦ was.kept c k ];
        kept = λ c at. was.kept c (is.kept c at);
        new = λ c at. elim (is.new c at) [
          | inl o ↦ inl o
          | inr n ↦ let (x, m, id) = of_id w.change.new c.id n in absurd (none x (subst (λ cs. Contains cs x) start.new m))
        ];
      }
