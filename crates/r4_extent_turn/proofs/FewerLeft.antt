-- A change that is put in its place takes as many cells of those that may stand in the end as it takes of its own.
use Rattle.std.proofs.Common.{inl, inr, ℕ, ◌+◌, ◌≤◌, Bool, true, false, List, ◌++◌, ap, sym, arith, ◌∙◌}
use Rattle.std.specs.Prelude.{Contains, if◌then◌else◌, min, sum_by}
use Rattle.std.proofs.lemmas.List.Elements.{Contains-append_cases, Contains-append_left, Contains-append_right}
use Rattle.std.proofs.lemmas.List.Sorted.{Contains-permutation, IsPermutation-sym, sum_by-IsPermutation}
use Rattle.std.proofs.lemmas.List.Sums.{sum_by-append}
use Rattle.std.proofs.lemmas.Option.{none-some}
use Rattle.r4_base.specs.Tree.{Root, Store}
use Rattle.r4_base.specs.Value.{Value}
use Rattle.r4_extent_build.specs.r4_cell.Patch.{IsChange, root_after}
use Rattle.r4_extent_build.specs.r4_cell.Seen.{CellSeen, node_of}
use Rattle.r4_extent_build.specs.r4_cell.declared.change.Change.{Change}
use Rattle.r4_extent_build.specs.r4_cell.declared.change.Fresh.{Fresh}
use Rattle.r4_build.proofs.r4_measure.Few.{members_and_others, outside, sum_without, sums_less}
use Rattle.r4_build.specs.r4_measure.Budget.{Budget, IsFresh, most_from}
use Rattle.r4_build.specs.r4_measure.Measured.{IsMeasured}
use Rattle.r4_build.proofs.r4_patch.Followed.{followed_root}
use Rattle.r4_build.proofs.r4_patch.Members.{distinct}
use Rattle.r4_build.specs.r4_patch.Following.{AreInTurn, is_among, without}
use Rattle.r4_build.specs.r4_patch.Joining.{ids_of, patch_of_change}
use Rattle.r4_build.specs.r4_patch.Part.{MeetsPart}
use Rattle.r4_build.proofs.r4_work.InPlace.{standing_is}
use Rattle.r4_build.specs.r4_work.Working.{IsPutInPlace, now_of, root_of, standing}
use Rattle.r4_build.specs.r4_work.declared.working.WorkingSet.{WorkingSet}

module _ (t : Store Value) (r : Root) (f : Fresh) (w : WorkingSet) (u : Budget) (is : IsMeasured t r f w u) (now : WorkingSet) (d : Change) (change : IsChange d.old d.new d.root) (meets : MeetsPart (patch_of_change d) (now_of w t) (root_of w r))
    (old_stands : (x : CellSeen) → Contains d.old x → Contains (standing w) x) (put : IsPutInPlace w d now) (left : Budget) (less : (l i : ℕ) → (IsFresh f i → ⊥) → left l i ≤ u l i) where
  abbrev was_each : CellSeen → ℕ
  was_each c = 1 + u c.level c.id

  abbrev now_each : CellSeen → ℕ
  now_each c = 1 + left c.level c.id

  turn : AreInTurn w.change d t r
  turn = record { part = is.working.part; one_is = is.working.change; one_meets = is.working.meets; two_is = change; two_meets = meets }

  stood : (x : CellSeen) → Contains (standing w) x → IsFresh f x.id → ⊥
  stood x m fr = none-some (node_of x) (sym (is.working.free.cells x.id fr.0 fr.1) ∙ standing_is t r f w is.working x m)

  was_made : (x : CellSeen) → Contains w.change.new x → Contains (standing w) x
  was_made x m = Contains-append_left w.made w.kept x (Contains-permutation w.change.new w.made x is.working.made m)

  one_of : (x : CellSeen) → Contains (standing w) x → Contains (w.change.new ++ w.kept) x
  one_of x m = elim (Contains-append_cases w.made w.kept x m) [
    | inl made ↦ Contains-append_left w.change.new w.kept x (Contains-permutation w.made w.change.new x (IsPermutation-sym w.change.new w.made is.working.made) made)
    | inr kept ↦ Contains-append_right w.change.new w.kept x kept
  ]

  -- cells that stay
  stay_few : (cells : List CellSeen) → ((x : CellSeen) → Contains cells x → Contains (standing w) x) → sum_by now_each (without (ids_of d.old) cells) ≤ sum_by (outside (ids_of d.old) was_each) cells
  stay_few cells stand =
      let e = sum_without (ids_of d.old) now_each cells in
      let h = sums_less (outside (ids_of d.old) now_each) (outside (ids_of d.old) was_each) cells (λ c m. by_test (is_among (ids_of d.old) c.id) (now_each c) (was_each c) (let k = less c.level c.id (stood c (stand c m)) in omega (arith, k))) in
      omega (arith, e, h)
    where
      by_test : (v : Bool) (n m : ℕ) → n ≤ m → (if v then 0 else n) ≤ (if v then 0 else m)
      by_test true n m h = omega arith
      by_test false n m h = h

  pub fewer_left : (gone come : ℕ) → most_from left (root_after (patch_of_change d) (root_of w r)) d.new + gone ≤ most_from u (root_of w r) d.old + come
      → most_from left (root_of now r) (standing now) + gone ≤ most_from u (root_of w r) (standing w) + come
  fewer_left gone come few =
      let top = ap (λ (q : Root). min 1 (left q.height q.id)) (followed_root w.change d now.change t r turn put.followed) in
      let a = sum_by-append now_each now.made now.kept in
      let p = sum_by-IsPermutation now_each now.change.new now.made put.made in
      let n = ap (sum_by now_each) put.followed.new in
      let m = sum_by-append now_each d.new (without (ids_of d.old) w.change.new) in
      let k = ap (sum_by now_each) put.kept in
      let one = stay_few w.change.new was_made in
      let two = stay_few w.kept (λ x at. Contains-append_right w.made w.kept x at) in
      let others = members_and_others was_each d.old (w.change.new ++ w.kept) (distinct d.old change.old_names) (λ x at. one_of x (old_stands x at)) in
      let x = sum_by-append (outside (ids_of d.old) was_each) w.change.new w.kept in
      let y = sum_by-append was_each w.change.new w.kept in
      let z = sum_by-append was_each w.made w.kept in
      let q = sum_by-IsPermutation was_each w.change.new w.made is.working.made in
      omega (arith, few, top, a, p, n, m, k, one, two, others, x, y, z, q)
