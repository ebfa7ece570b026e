-- Several twigs, one after the other.
use Rattle.std.proofs.Common.{◌≡◌, ◌≢◌, inl, inr, ◌+◌, ◌<◌, ◌≤◌, List, [], ◌∷◌, ◌++◌, length, refl, sym, ap, subst, arith}
use Rattle.std.specs.Prelude.{Contains, Option, sum_by}
use Rattle.std.proofs.lemmas.List.{length-append}
use Rattle.std.proofs.lemmas.List.Elements.{Contains-append_cases}
use Rattle.std.proofs.lemmas.List.Sums.{sum_by-cons}
use Rattle.r4_base.specs.Tree.{Root, Store}
use Rattle.r4_base.specs.Value.{Value}
use Rattle.r4_build.specs.Building.{set_by}
use Rattle.r4_build.specs.Making.{IsOf}
use Rattle.r4_build.proofs.Changing.{changes_both, changes_none}
use Rattle.r4_extent_build.specs.r4_cell.Seen.{CellSeen}
use Rattle.r4_extent_build.specs.r4_cell.declared.change.Fresh.{Fresh}
use Rattle.r4_content.specs.Edited.{Edits}
use Rattle.r4_extent_build.specs.Looping.{AreTurned}
use Rattle.r4_extent_build.specs.r4_twig_turns.Turning.{behind}
use Rattle.r4_build.specs.r4_measure.Budget.{Budget}
use Rattle.r4_build.proofs.r4_patch.Members.{Distinct, distinct, distinct_append, have_names, here, later, none}
use Rattle.r4_build.specs.r4_reach.Needs.{leaf_edits}
use Rattle.r4_build.specs.r4_reach.Touched.{Body}
use Rattle.r4_build.specs.r4_work.Remaking.{Changes}
use Rattle.r4_build.specs.r4_work.Working.{standing}
use Rattle.r4_build.specs.r4_work.declared.working.WorkingSet.{WorkingSet}
use Rattle.r4_extent_among.specs.Among.{AreNewLeaves, among_turn, is_put_among, numbered}
use Rattle.r4_extent_among.specs.AmongEach.{CanPutEach, HasPutEach, LeavesAll, MayPutEach, is_put_in_each}
use Rattle.r4_extent_among.specs.AmongIn.{HasPutAmong, MayPutAmong, numbers_among, turns_among}
use Rattle.r4_extent_among.specs.LeavesLeft.{LeavesLeaves}
use Rattle.r4_extent_among.proofs.LeftSet.{twig_leaves}
use Rattle.r4_extent_among.proofs.Numbered.{numbered_distinct, numbered_long}
use Rattle.r4_extent_among.proofs.Ready.{can_put, set_among}
use Rattle.r4_extent_among.proofs.TurnOf.{few_leaves}

module _ (b : Option Body) (e : Edits) (t : Store Value) (r : Root) where
  module _ (x : CellSeen) (xs : List CellSeen) (f : Fresh) (w : WorkingSet) (u : Budget) (m : MayPutEach b e t r (x ∷ xs) f w u) where
    all_numbers : sum_by (numbers_among b e) (x ∷ xs) ≡ numbers_among b e x + sum_by (numbers_among b e) xs
    all_numbers = sum_by-cons (numbers_among b e) x xs

    first_may : MayPutAmong b e t r x f w u
    first_may = record {
      measured = m.measured;
      quiet = m.quiet;
      among = m.each x (here x xs);
      room = m.room x (here x xs);
      come = m.come x (here x xs);
      unplaced = m.unplaced;
      numbers = let n = m.numbers in let a = all_numbers in omega (arith, n, a);
    }

    apart : (y : CellSeen) → Contains xs y → y.id ≢ x.id
    apart y at same = (distinct (x ∷ xs) m.names).0 y at (sym same)

    module _ (cells : List CellSeen) (v : WorkingSet) (are : AreNewLeaves b e x cells) (turned : AreTurned t r (turns_among x cells) f w v) where
      first_leaves : LeavesLeaves u t r f w v x cells
      first_leaves = twig_leaves b e t r x cells f w v u first_may are turned

      others_may : MayPutEach b e t r xs (behind (among_turn x cells) f) v first_leaves.left
      others_may =
          let done = first_leaves in
          record {
            measured = done.measured;
            quiet = done.quiet;
            each = λ y at. let h = m.each y (later x y xs at) in let two = h.level in record {
              stands = (done.others y h.stands (omega (arith, two)) (apart y at)).0;
              sound = h.sound;
              level = h.level;
              free = h.free;
            };
            room = λ y at. m.room y (later x y xs at);
            come = λ y at.
                let h = m.each y (later x y xs at) in
                let two = h.level in
                let same = subst (λ l. done.left l y.id ≡ u l y.id) two (done.others y h.stands (omega (arith, two)) (apart y at)).1 in
                let few = m.come y (later x y xs at) in
                omega (arith, few, same);
            names = have_names xs (distinct (x ∷ xs) m.names).1;
            unplaced = let low = m.unplaced.0 in (omega (arith, low), m.unplaced.1);
            numbers =
                let n = m.numbers in
                let a = all_numbers in
                let few = few_leaves b e x cells are in
                omega (arith, n, a, few);
          }

  pub can_each : (xs : List CellSeen) (f : Fresh) (w : WorkingSet) (u : Budget) → MayPutEach b e t r xs f w u → CanPutEach b e t r xs f w
  can_each [] f w u m = tt
  can_each (x ∷ xs) f w u m = (
    can_put b e t r x f w u (first_may x xs f w u m),
    λ cells v are turned. can_each xs (behind (among_turn x cells) f) v (first_leaves x xs f w u m cells v are turned).left (others_may x xs f w u m cells v are turned),
  )

  pub sets_each : (xs cells : List CellSeen) (f after : Fresh) (w now : WorkingSet) → CanPutEach b e t r xs f w → HasPutEach b e xs f after w now cells → Changes w now (is_put_in_each b e xs) (set_by (leaf_edits b e))
  sets_each [] cells f after w now can (after_is, now_is, cells_are) =
      subst (λ z. Changes w z (is_put_in_each b e []) (set_by (leaf_edits b e))) (sym now_is) (changes_none w (is_put_in_each b e []) (set_by (leaf_edits b e)) (λ k. refl))
  sets_each (x ∷ xs) cells f after w now can (mid, v, mine, others, h, rest, cells_are) =
      let turned = h.turned t r can.0 in
      let more = subst (λ g. CanPutEach b e t r xs g v) (sym h.left) (can.1 h.leaves v h.are turned) in
      changes_both w v now (is_put_among b e x) (is_put_in_each b e xs) (set_by (leaf_edits b e))
      (set_among b e t r x h.leaves f w v can.0 h.are turned) (sets_each xs others mid after v now more rest)

  -- ---- what they leave

  none_left : (f : Fresh) (w : WorkingSet) (u : Budget) → MayPutEach b e t r [] f w u → LeavesAll u t r f f w w []
  none_left f w u m = record {
    left = u;
    measured = m.measured;
    quiet = m.quiet;
    few = omega arith;
    leaves = λ c at one. at;
    come = λ c at. absurd (none c at);
    taken = λ c at. absurd (none c at);
    names = have_names [] tt;
    rises = omega arith;
    stays = λ cells from low was. was;
  }

  module _ (x : CellSeen) (xs : List CellSeen) (f after mid : Fresh) (w v now : WorkingSet) (u : Budget) (leaves mine others : List CellSeen) (one : LeavesLeaves u t r f w v x leaves)
      (own : mine ≡ numbered f.next leaves) (mid_is : mid ≡ behind (among_turn x leaves) f) (more : LeavesAll one.left t r mid after v now others) where
    next : mid.next ≡ f.next + (0 + (length leaves + 64))
    next = ap (λ (g : Fresh). g.next) mid_is

    come_first : (c : CellSeen) → Contains mine c → Contains (standing v) c × (c.level ≡ 1)
    come_first c at = one.come c (subst (λ cs. Contains cs c) own at)

    taken_first : (c : CellSeen) → Contains mine c → (f.next ≤ c.id) × (c.id < mid.next)
    taken_first c at = let h = one.taken c (subst (λ cs. Contains cs c) own at) in let n = next in (h.0, omega (arith, h, n))

    both_names : Distinct (mine ++ others)
    both_names = distinct_append mine others (subst Distinct (sym own) (numbered_distinct f.next leaves)) (distinct others more.names)
        (λ c d at_c at_d same. let a = taken_first c at_c in let z = more.taken d at_d in omega (arith, a, z, same))

    both : LeavesAll u t r f after w now (mine ++ others)
    both = record {
      left = more.left;
      measured = more.measured;
      quiet = more.quiet;
      few = let a = one.few in let z = more.few in let l = length-append mine others in let k = ap length own in let n = numbered_long f.next leaves in omega (arith, a, z, l, k, n);
      leaves = λ c at level. more.leaves c (one.leaves c at level) level;
      come = λ c at. elim (Contains-append_cases mine others c at) [
        | inl m ↦ let h = come_first c m in (more.leaves c h.0 h.1, h.1)
        | inr m ↦ more.come c m
      ];
      taken = λ c at. elim (Contains-append_cases mine others c at) [
        | inl m ↦ let h = taken_first c m in let z = more.rises in (h.0, omega (arith, h, z))
        | inr m ↦ let h = more.taken c m in let n = next in (omega (arith, h, n), h.1)
      ];
      names = have_names (mine ++ others) both_names;
      rises = let n = next in let z = more.rises in omega (arith, n, z);
      stays = λ cells from low was. more.stays cells from (let n = next in omega (arith, n, low)) (subst (λ g. IsOf cells from g v) (sym mid_is) (one.stays cells from low was));
    }

  pub leaves_each : (xs cells : List CellSeen) (f after : Fresh) (w now : WorkingSet) (u : Budget) → MayPutEach b e t r xs f w u → HasPutEach b e xs f after w now cells → LeavesAll u t r f after w now cells
  leaves_each [] cells f after w now u m (after_is, now_is, cells_are) =
      subst (λ cs. LeavesAll u t r f after w now cs) (sym cells_are) (subst (λ z. LeavesAll u t r f after w z []) (sym now_is) (subst (λ g. LeavesAll u t r f g w w []) (sym after_is) (none_left f w u m)))
  leaves_each (x ∷ xs) cells f after w now u m (mid, v, mine, others, h, rest, cells_are) =
      let turned = h.turned t r (can_put b e t r x f w u (first_may x xs f w u m)) in
      let one = first_leaves x xs f w u m h.leaves v h.are turned in
      let may = subst (λ g. MayPutEach b e t r xs g v one.left) (sym h.left) (others_may x xs f w u m h.leaves v h.are turned) in
      subst (λ cs. LeavesAll u t r f after w now cs) (sym cells_are)
      (both x xs f after mid w v now u h.leaves mine others one h.cells_are h.left (leaves_each xs others mid after v now one.left may rest))

-- ---- as they are called

first_one : (b : Option Body) (e : Edits) (t : Store Value) (r : Root) (xs : List CellSeen) (x : CellSeen) (ys : List CellSeen) (f : Fresh) (w : WorkingSet) → xs ≡ x ∷ ys → CanPutEach b e t r xs f w → CanPutEach b e t r (x ∷ ys) f w
first_one b e t r xs x ys f w is can = subst (λ zs. CanPutEach b e t r zs f w) is can

pub others_can : (b : Option Body) (e : Edits) (t : Store Value) (r : Root) (xs : List CellSeen) (x : CellSeen) (ys : List CellSeen) (f mid : Fresh) (w v : WorkingSet) (mine : List CellSeen) → xs ≡ x ∷ ys → CanPutEach b e t r xs f w → HasPutAmong b e x f mid w v mine → CanPutEach b e t r ys mid v
others_can b e t r xs x ys f mid w v mine is can h =
    let all = first_one b e t r xs x ys f w is can in
    subst (λ g. CanPutEach b e t r ys g v) (sym h.left) (all.1 h.leaves v h.are (h.turned t r all.0))
