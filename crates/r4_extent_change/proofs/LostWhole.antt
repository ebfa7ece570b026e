-- The change of a body that loses blocks, step by step: what each step needs, and what it leaves for the next one.
use Rattle.std.proofs.Common.{◌≡◌, inl, inr, ℕ, ◌+◌, ◌*◌, ◌^◌, ◌<◌, ◌≤◌, Bool, true, false, List, [], ◌∷◌, length, map, refl, sym, ap, subst, ◌∙◌, arith}
use Rattle.std.specs.Prelude.{◌||◌, Contains, None, Option, Some, if◌then◌else◌}
use Rattle.std.specs.List.{list_any}
use Rattle.r4_base.specs.Tree.{Root, Store}
use Rattle.r4_base.specs.Value.{Value}
use Rattle.r4_build.proofs.Changing.{same_effect}
use Rattle.r4_build.proofs.Made.{all_keys, few_new, start_of}
use Rattle.r4_build.specs.Building.{set_by}
use Rattle.r4_build.specs.Making.{AreMadeIn, CanMake, IsOf, MakeAtMost, changed_among}
use Rattle.r4_content.specs.Edited.{Edits, changed, is_in}
use Rattle.r4_extent_loss.specs.r4_extent_build.Looping.{AreTurned, behind_all}
use Rattle.r4_extent_loss.proofs.AllLost.{all_lost}
use Rattle.r4_extent_loss.proofs.AllReady.{may_lose}
use Rattle.r4_extent_loss.specs.Losing.{Loss, in_gone, no_value}
use Rattle.r4_extent_loss.specs.LosingEach.{CanLoseAll, IsLossIn, MayGo, gone_of_each, losing_turns}
use Rattle.r4_build.proofs.r4_measure.r4_patch.Members.{cases, distinct, have_names, here, later, none}
use Rattle.r4_build.specs.r4_measure.Budget.{Budget}
use Rattle.r4_build.specs.r4_measure.Measured.{IsMeasured}
use Rattle.r4_build.specs.r4_measure.r4_cell.Patch.{HaveNames}
use Rattle.r4_build.specs.r4_measure.r4_cell.Seen.{CellSeen, node_of}
use Rattle.r4_build.specs.r4_measure.r4_cell.declared.change.Fresh.{Fresh}
use Rattle.r4_build.specs.r4_measure.r4_patch.Effect.{HasEffect, Placed, either, later as value_later}
use Rattle.r4_build.specs.r4_measure.r4_patch.Joining.{patch_of_change}
use Rattle.r4_build.specs.r4_measure.r4_path.Grafts.{extra_twigs}
use Rattle.r4_build.specs.r4_measure.r4_path.Steps.{OnlyTakes}
use Rattle.r4_build.specs.r4_measure.r4_reach.Needs.{pieces_after}
use Rattle.r4_build.specs.r4_measure.r4_reach.Touched.{Body}
use Rattle.r4_build.specs.r4_measure.r4_work.Remaking.{Changes}
use Rattle.r4_build.specs.r4_measure.r4_work.Working.{HasNoEffect, IsStart, standing}
use Rattle.r4_build.specs.r4_measure.r4_work.declared.working.WorkingSet.{WorkingSet}
use Rattle.r4_extent_change.specs.Among.{is_losing, loss_among, losing_twigs, losses_among}
use Rattle.r4_extent_change.specs.Beside.{without_bytes}
use Rattle.r4_extent_change.specs.Losing.{CanLose, LeavesWider, leaves_coming, lost_keys, lost_values, most_lost}
use Rattle.r4_extent_change.specs.Wider.{GoesOn}
use Rattle.r4_extent_change.proofs.AllTurned.{left_over}
use Rattle.r4_extent_change.proofs.AtStart.{standing_in, start_few, start_measured}
use Rattle.r4_extent_change.proofs.Chosen.{picked_apart}
use Rattle.r4_extent_change.proofs.LeafTurns.{can_make, few_made}
use Rattle.r4_extent_change.proofs.LossAmong.{loss_in}
use Rattle.r4_extent_change.proofs.LostTurns.{leaves_wider, still_of_cells}

-- ---- the twigs of what goes

of_twigs : (b : Body) (cells twigs : List CellSeen) → map (λ (x : Loss). x.twig) (map (loss_among b cells) twigs) ≡ twigs
of_twigs b cells [] = refl
of_twigs b cells (c ∷ cs) = ap (λ ds. c ∷ ds) (of_twigs b cells cs)

twig_of : (b : Body) (cells twigs : List CellSeen) (x : Loss) → Contains (map (loss_among b cells) twigs) x → (c : CellSeen) × Contains twigs c × (x ≡ loss_among b cells c)
twig_of b cells [] x at = absurd (none x at)
twig_of b cells (c ∷ cs) x at = elim (cases (loss_among b cells c) x (map (loss_among b cells) cs) at) [
  | inl is ↦ (c, here c cs, is)
  | inr more ↦ let (d, m, is) = twig_of b cells cs x more in (d, later c d cs m, is)
]

gone_are : (b : Body) (cells twigs : List CellSeen) (k : ℕ) → gone_of_each b (map (loss_among b cells) twigs) k ≡ list_any (λ (c : CellSeen). in_gone b c k) twigs
gone_are b cells [] k = refl
gone_are b cells (c ∷ cs) k = ap (λ v. in_gone b c k || v) (gone_are b cells cs k)

-- ---- both kinds of steps, as one effect

keys_again : (one two all : Bool) → all ≡ two → (all || one) ≡ ((false || one) || two)
keys_again one two true h = by_two one two h
  where
    by_two : (one two : Bool) → true ≡ two → true ≡ ((false || one) || two)
    by_two true two h = refl
    by_two false two h = h
keys_again one two false h = by_two one two h
  where
    by_two : (one two : Bool) → false ≡ two → one ≡ ((false || one) || two)
    by_two true true h = refl
    by_two true false h = refl
    by_two false true h = h
    by_two false false h = refl

values_again : (one two all : Bool) (x : Option (Placed Value)) → all ≡ two → (if two then x else (if one then None else None)) ≡ (if all then x else None)
values_again one true true x h = refl
values_again true false false x h = refl
values_again false false false x h = refl
values_again one true false x h = absurd cc
values_again one false true x h = absurd cc

module _ (b : Body) (e : Edits) (u : Budget) (t : Store Value) (r : Root) (f : Fresh) (cells : List CellSeen) (is : CanLose b e u t r f cells) (w0 : WorkingSet) (start : IsStart cells w0) where
  abbrev xs : List Loss
  xs = losses_among b cells

  abbrev beside : Edits
  beside = without_bytes e

  measured : IsMeasured t r f w0 u
  measured = start_measured cells w0 start t r f is.cells_in u is.measured

  stand : (c : CellSeen) → Contains cells c → Contains (standing w0) c
  stand = standing_in cells w0 start

  pub may_go : MayGo b is.first e t r xs f w0 u
  may_go = record {
    losing = is.losing;
    measured = measured;
    quiet = is.quiet;
    each = λ x at.
        let (c, m, same) = twig_of b cells (losing_twigs b cells) x at in
        subst (IsLossIn b w0) (sym same) (loss_in t r f w0 measured.working b cells is.names stand is.sound c m (is.twigs c m).loss);
    come = λ x at.
        let (c, m, same) = twig_of b cells (losing_twigs b cells) x at in
        subst (λ (y : Loss). extra_twigs (pieces_after (Some b) e (node_of y.twig) []) ≤ u 2 y.twig.id) (sym same) (is.twigs c m).come;
    names = subst HaveNames (sym (of_twigs b cells (losing_twigs b cells))) (have_names (losing_twigs b cells) (picked_apart (is_losing b) cells (distinct cells is.names)));
    unplaced = is.unplaced;
    numbers = let n = is.numbers in omega (arith, n);
  }

  pub can_losses : CanLoseAll b e t r xs f w0
  can_losses = may_lose b is.first e t r xs f w0 u may_go

  module _ (w1 : WorkingSet) (turned : AreTurned t r (losing_turns b e xs) f w0 w1) where
    abbrev left : Fresh
    left = behind_all (losing_turns b e xs) f

    wider : LeavesWider b e u t r f w0 w1 xs
    wider = leaves_wider b is.first e u t r f w0 w1 xs may_go turned

    goes_on : (c : CellSeen) → Contains cells c → c.level ≡ 1 → GoesOn w1 c
    goes_on c at one = wider.leaves c (stand c at) one

    pub left_low : 2 ^ 63 ≤ left.next
    left_low = let n = (left_over (losing_turns b e xs) f).0 in let low = is.unplaced.0 in omega (arith, n, low)

    left_high : left.end < 2 ^ 64
    left_high = let n = (left_over (losing_turns b e xs) f).1 in let high = is.unplaced.1 in omega (arith, n, high)

    left_enough : left.next + 64 * length cells ≤ left.end
    left_enough = let n = left_over (losing_turns b e xs) f in let m = is.numbers in omega (arith, n, m)

    pub left_ends : left.next ≤ left.end
    left_ends = let n = left_enough in omega (arith, n)

    pub can_leaves : CanMake t r beside cells left w1
    can_leaves = can_make beside t r left w1 wider.left wider.measured cells is.names goes_on is.room left_low left_high left_enough

    few_leaves : MakeAtMost (most_lost b u r cells) t r beside cells left w1
    few_leaves =
        let a = start_few cells w0 start t r f is.cells_in u is.measured in
        let g = wider.few in
        let twigs = ap (leaves_coming b) (of_twigs b cells (losing_twigs b cells)) in
        few_made beside t r left w1 wider.left wider.measured cells is.names goes_on is.room left_low left_high left_enough (most_lost b u r cells) (omega (arith, a, g, twigs))

    of_those : IsOf cells f.next left w1
    of_those = still_of_cells b is.first e u t r f w0 w1 xs may_go turned cells f.next (omega arith) (start_of cells w0 f start)

    twigs_change : Changes w0 w1 (gone_of_each b xs) no_value
    twigs_change = all_lost b is.first e is.losing t r xs f w0 w1 can_losses.each can_losses.turns is.unplaced.0 turned

    module _ (g : Fresh) (now : WorkingSet) (made : AreMadeIn t r beside cells left g w1 now) where
      pub few_lost : length now.change.new ≤ most_lost b u r cells
      few_lost = few_new (most_lost b u r cells) t r g now made.working (made.few (most_lost b u r cells) few_leaves)

      pub of_cells : IsOf cells f.next g now
      of_cells =
          let n = (left_over (losing_turns b e xs) f).0 in
          made.stays cells f.next (omega (arith, n)) of_those

      pub effect_is : HasNoEffect w0 → HasEffect (patch_of_change now.change) (lost_keys b e cells) (lost_values e)
      effect_is none =
          let nothing : ℕ → Bool = λ k. false in
          let no_values : ℕ → Option (Placed Value) = λ k. None in
          let one : ℕ → Bool = gone_of_each b xs in
          let two : ℕ → Bool = changed_among beside cells in
          let all = made.changes (either nothing one) (value_later one no_value no_values) (twigs_change nothing no_values none) in
          same_effect (patch_of_change now.change) (either (either nothing one) two) (lost_keys b e cells) (value_later two (set_by beside) (value_later one no_value no_values)) (lost_values e) all
          (λ k. ap (λ v. is_in (changed beside) k || v) (sym (gone_are b cells (losing_twigs b cells) k)) ∙ keys_again (one k) (two k) (is_in (changed beside) k) (all_keys beside cells is.lie k))
          (λ k on. values_again (one k) (two k) (is_in (changed beside) k) (set_by beside k) (all_keys beside cells is.lie k))

-- the numbers that all steps take
pub takes_more : (b : Body) (e : Edits) (f : Fresh) (those : List Loss) (left g : Fresh) → left ≡ behind_all (losing_turns b e those) f → OnlyTakes left g → OnlyTakes f g
takes_more b e f those left g is takes =
    let (n, m) = left_over (losing_turns b e those) f in
    let a = ap (λ (h : Fresh). h.next) is in
    let z = ap (λ (h : Fresh). h.end) is in
    (omega (arith, n, a, takes), omega (arith, takes), takes.2 ∙ (z ∙ m))
