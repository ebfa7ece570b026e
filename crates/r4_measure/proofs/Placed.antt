-- A change that is put in its place, of which is known what it leaves of a budget.
use Rattle.std.proofs.Common.{Bool, true, false, ◌≡◌, inl, inr, ℕ, ◌+◌, ◌≤◌, List, ◌++◌, refl, ap, sym, subst, ◌∙◌, arith}
use Rattle.std.specs.Prelude.{Contains, Option, None, Some, if◌then◌else◌, min, sum_by}
use Rattle.std.proofs.lemmas.List.Elements.{Contains-append_cases, Contains-append_left, Contains-append_right}
use Rattle.std.proofs.lemmas.List.Sorted.{Contains-permutation, IsPermutation-sym, sum_by-IsPermutation}
use Rattle.std.proofs.lemmas.List.Sums.{sum_by-append}
use Rattle.std.proofs.lemmas.Option.{none-some}
use Rattle.r4_base.specs.Tree.{Name, Node}
use Rattle.r4_reach.specs.r4_cell.Patch.{IsChange, by_name, over, place, root_after}
use Rattle.r4_reach.specs.r4_cell.declared.change.Change.{Change}
use Rattle.r4_reach.specs.r4_patch.Joining.{ids_of, patch_of_change}
use Rattle.r4_reach.specs.r4_patch.Part.{IsPart, MeetsPart}
use Rattle.r4_reach.proofs.r4_patch.Members.{found}
use Rattle.r4_reach.specs.r4_patch.Following.{AreInTurn, is_among, without}
use Rattle.r4_work.specs.Working.{IsPutInPlace, IsWorking}
use Rattle.r4_reach.proofs.r4_patch.Followed.{followed_cells, followed_root, some_by_name, to_without}
use Rattle.r4_reach.proofs.r4_patch.Members.{distinct}
use Rattle.r4_measure.specs.Budget.{AreSeen, IsBudget, IsFresh}
use Rattle.r4_measure.proofs.Few.{members_and_others, outside, sum_without, sums_less}
use Rattle.r4_base.specs.Tree.{Root, Store}
use Rattle.r4_base.specs.Value.{Value}
use Rattle.r4_reach.specs.r4_cell.Seen.{CellSeen, node_of}
use Rattle.r4_reach.specs.r4_cell.declared.change.Fresh.{Fresh}
use Rattle.r4_work.specs.Working.{now_of, root_of, standing}
use Rattle.r4_work.specs.declared.working.WorkingSet.{WorkingSet}
use Rattle.r4_work.proofs.InPlace.{now_part, standing_is}
use Rattle.r4_measure.specs.Budget.{Budget, most_from}
use Rattle.r4_measure.specs.Measured.{IsMeasured}

module _ (t : Store Value) (r : Root) (fresh : Fresh) (w : WorkingSet) (b : Budget) (is : IsMeasured t r fresh w b) (now : WorkingSet) (after : Fresh) (d : Change) (change : IsChange d.old d.new d.root)
    (meets : MeetsPart (patch_of_change d) (now_of w t) (root_of w r)) (old_stands : (x : CellSeen) → Contains d.old x → Contains (standing w) x) (put : IsPutInPlace w d now) (working : IsWorking t r after now) where
  abbrev s : Store Value
  s = now_of w t

  abbrev root : Root
  root = root_of w r

  part : IsPart s root
  part = now_part t r fresh w is.working

  turn : AreInTurn w.change d t r
  turn = record { part = is.working.part; one_is = is.working.change; one_meets = is.working.meets; two_is = change; two_meets = meets }

  pub cells_are : now_of now t ≡ place (patch_of_change d) s
  cells_are = followed_cells w.change d now.change t r turn put.followed

  root_is : root_of now r ≡ root_after (patch_of_change d) root
  root_is = followed_root w.change d now.change t r turn put.followed

  not_among : (i : ℕ) → by_name d.old i ≡ None → (v : Bool) → is_among (ids_of d.old) i ≡ v → is_among (ids_of d.old) i ≡ false
  not_among i gone false h = h
  not_among i gone true h = let (x, member, id, says) = some_by_name d.old i (distinct d.old change.old_names) h in absurd (none-some (node_of x) (sym gone ∙ says))

  -- what is new once the change is in place was made
  now_made : (x : CellSeen) → Contains (d.new ++ without (ids_of d.old) w.change.new) x → Contains (standing now) x
  now_made x new = Contains-append_left now.made now.kept x
      (Contains-permutation now.change.new now.made x put.made (subst (λ cs. Contains cs x) (sym put.followed.new) new))

  pub still_in : (i : ℕ) (x : CellSeen) → x.id ≡ i → by_name d.old i ≡ None → Contains (standing w) x → Contains (standing now) x
  still_in i x id gone member =
      let out : is_among (ids_of d.old) x.id ≡ false = ap (is_among (ids_of d.old)) id ∙ not_among i gone (is_among (ids_of d.old) i) refl in
      elim (Contains-append_cases w.made w.kept x member) [
        | inl made ↦
            let new = Contains-permutation w.made w.change.new x (IsPermutation-sym w.change.new w.made is.working.made) made in
            now_made x (Contains-append_right d.new (without (ids_of d.old) w.change.new) x (to_without (ids_of d.old) w.change.new x new out))
        | inr kept ↦ Contains-append_right now.made now.kept x (subst (λ cs. Contains cs x) (sym put.kept) (to_without (ids_of d.old) w.kept x kept out))
      ]

  kept2 : (c2 : Budget) → ((l i : ℕ) → (IsFresh fresh i → ⊥) → c2 l i ≤ b l i) → (i : ℕ) (c : Node Value) (n : Name) → place (patch_of_change d) s i ≡ Some c → Contains c.names n → 1 ≤ n.level → 1 ≤ c2 n.level n.id → (x : CellSeen) × Contains (standing now) x × (x.id ≡ i)
  kept2 c2 less i c n at names low some = by_new (by_name d.new i) refl (by_name d.old i) refl at
    where
      by_new : (o : Option (Node Value)) → by_name d.new i ≡ o → (p : Option (Node Value)) → by_name d.old i ≡ p → over o p (s i) ≡ Some c → (x : CellSeen) × Contains (standing now) x × (x.id ≡ i)
      by_new (Some m) o p q h =
          let (x, member, id_is, says) = found d.new i m o in
          (x, now_made x (Contains-append_left d.new (without (ids_of d.old) w.change.new) x member), id_is)
      by_new None o (Some m) q h = absurd (none-some c h)
      by_new None o None q h =
          let l = less n.level n.id (λ fr. is.working.free.names n.id fr.0 fr.1 (n, (i, c, h, names), refl)) in
          let (x, member, id_is) = is.kept i c n h names low (omega (arith, l, some)) in
          (x, still_in i x id_is q member, id_is)

  -- ---- how many cells there may be in the end

  stood : (x : CellSeen) → Contains (standing w) x → IsFresh fresh x.id → ⊥
  stood x m fr = none-some (node_of x) (sym (is.working.free.cells x.id fr.0 fr.1) ∙ standing_is t r fresh w is.working x m)

  was_made : (x : CellSeen) → Contains w.change.new x → Contains (standing w) x
  was_made x m = Contains-append_left w.made w.kept x (Contains-permutation w.change.new w.made x is.working.made m)

  one_of : (x : CellSeen) → Contains (standing w) x → Contains (w.change.new ++ w.kept) x
  one_of x m = elim (Contains-append_cases w.made w.kept x m) [
    | inl made ↦ Contains-append_left w.change.new w.kept x (Contains-permutation w.made w.change.new x (IsPermutation-sym w.change.new w.made is.working.made) made)
    | inr kept ↦ Contains-append_right w.change.new w.kept x kept
  ]

  module _ (c2 : Budget) (less : (l i : ℕ) → (IsFresh fresh i → ⊥) → c2 l i ≤ b l i) where
    abbrev was_each : CellSeen → ℕ
    was_each c = 1 + b c.level c.id

    abbrev now_each : CellSeen → ℕ
    now_each c = 1 + c2 c.level c.id

    -- cells that stay
    stay_few : (cells : List CellSeen) → ((x : CellSeen) → Contains cells x → Contains (standing w) x) → sum_by now_each (without (ids_of d.old) cells) ≤ sum_by (outside (ids_of d.old) was_each) cells
    stay_few cells stand =
        let e = sum_without (ids_of d.old) now_each cells in
        let h = sums_less (outside (ids_of d.old) now_each) (outside (ids_of d.old) was_each) cells (λ c m. by_test (is_among (ids_of d.old) c.id) (now_each c) (was_each c) (let k = less c.level c.id (stood c (stand c m)) in omega (arith, k))) in
        omega (arith, e, h)
      where
        by_test : (v : Bool) (n m : ℕ) → n ≤ m → (if v then 0 else n) ≤ (if v then 0 else m)
        by_test true n m h = omega arith
        by_test false n m h = h

    all_few : (extra : ℕ) → most_from c2 (root_after (patch_of_change d) root) d.new ≤ most_from b root d.old + extra → most_from c2 (root_of now r) (standing now) ≤ most_from b root (standing w) + extra
    all_few extra few =
        let top = ap (λ (q : Root). min 1 (c2 q.height q.id)) root_is in
        let a = sum_by-append now_each now.made now.kept in
        let p = sum_by-IsPermutation now_each now.change.new now.made put.made in
        let n = ap (sum_by now_each) put.followed.new in
        let m = sum_by-append now_each d.new (without (ids_of d.old) w.change.new) in
        let k = ap (sum_by now_each) put.kept in
        let one = stay_few w.change.new was_made in
        let two = stay_few w.kept (λ x at. Contains-append_right w.made w.kept x at) in
        let others = members_and_others was_each d.old (w.change.new ++ w.kept) (distinct d.old change.old_names)
        (λ x at. one_of x (old_stands x at)) in
        let x = sum_by-append (outside (ids_of d.old) was_each) w.change.new w.kept in
        let y = sum_by-append was_each w.change.new w.kept in
        let z = sum_by-append was_each w.made w.kept in
        let q = sum_by-IsPermutation was_each w.change.new w.made is.working.made in
        omega (arith, few, top, a, p, n, m, k, one, two, others, x, y, z, q)

  module _ (c2 : Budget) (budget : IsBudget (place (patch_of_change d) s) (root_after (patch_of_change d) root) c2) (seen2 : AreSeen (place (patch_of_change d) s)) (height2 : (root_after (patch_of_change d) root).height ≤ 8)
      (less : (l i : ℕ) → (IsFresh fresh i → ⊥) → c2 l i ≤ b l i) where
    pub placed_measured : IsMeasured t r after now c2
    placed_measured = record {
      working = working;
      seen = subst AreSeen (sym cells_are) seen2;
      budget = subst (λ (u : Store Value). IsBudget u (root_of now r) c2) (sym cells_are) (subst (λ (q : Root). IsBudget (place (patch_of_change d) s) q c2) (sym root_is) budget);
      height = subst (λ (q : Root). q.height ≤ 8) (sym root_is) height2;
      kept = λ i c n at names low some. kept2 c2 less i c n (subst (λ (u : Store Value). u i ≡ Some c) cells_are at) names low some;
    }

    pub placed_few : (extra : ℕ) → most_from c2 (root_after (patch_of_change d) root) d.new ≤ most_from b root d.old + extra → most_from c2 (root_of now r) (standing now) ≤ most_from b root (standing w) + extra
    placed_few extra few = all_few c2 less extra few

  pub placed_root : (c2 : Budget) → (b root.height root.id ≡ 0 → (root_after (patch_of_change d) root ≡ root) × (c2 root.height root.id ≡ 0)) → b root.height root.id ≡ 0 → (root_of now r ≡ root) × (c2 root.height root.id ≡ 0)
  placed_root c2 stays zero_root = let h = stays zero_root in (root_is ∙ h.0, h.1)
