-- What stands where data blocks came in the place of others.
use Rattle.std.proofs.Common.{◌≡◌, ◌↔◌, inl, inr, ℕ, ◌+◌, ◌≤◌, Bool, true, false, List, [], ◌∷◌, ◌++◌, length, refl, sym, ap, subst, ◌∙◌, arith}
use Rattle.std.specs.Prelude.{Contains, ◌≢◌, ◌⊎◌, if◌then◌else◌, not, sum_by}
use Rattle.std.specs.List.{filter}
use Rattle.std.specs.List.Sorted.{IsPermutation}
use Rattle.std.proofs.lemmas.List.{length-append, length-map}
use Rattle.std.proofs.lemmas.List.Elements.{Contains-append_cases, Contains-append_left, Contains-append_right, filter-append}
use Rattle.std.proofs.lemmas.List.Filters.{length-filter_both}
use Rattle.std.proofs.lemmas.List.Kept.{AllPairs-filter}
use Rattle.std.proofs.lemmas.List.Sorted.{Contains-permutation, IsPermutation-sym, length_permutation, sum_by-IsPermutation}
use Rattle.std.proofs.lemmas.List.Sums.{sum_by-cons}
use Rattle.r4_measure.specs.r4_cell.Patch.{HaveNames}
use Rattle.r4_measure.specs.r4_cell.Seen.{CellSeen}
use Rattle.r4_measure.proofs.Few.{members_and_others, outside, sum_without}
use Rattle.r4_measure.proofs.Loop.{of_id}
use Rattle.r4_measure.proofs.r4_patch.Followed.{among_cell, among_or_not, cell_among, in_without, to_without}
use Rattle.r4_measure.proofs.r4_patch.Members.{Distinct, cases, distinct, here, later, none}
use Rattle.r4_measure.specs.r4_patch.Following.{is_among, without}
use Rattle.r4_measure.specs.r4_patch.Joining.{ids_of}
use Rattle.r4_measure.proofs.r4_path.Rising.{id_member}
use Rattle.r4_twig_work.specs.Renewing.{AllStand, StandAsBefore, renewing}
use Rattle.r4_measure.specs.r4_work.Working.{IsPutInPlace, standing}
use Rattle.r4_measure.specs.r4_work.declared.working.WorkingSet.{WorkingSet}

-- ---- how many cells are left

one_each : CellSeen → ℕ
one_each c = 1

count_is : (cells : List CellSeen) → sum_by one_each cells ≡ length cells
unfolding one_each
count_is [] = refl
count_is (c ∷ cs) = let a = sum_by-cons one_each c cs in let h = count_is cs in omega (arith, a, h)

left_is : (ids : List ℕ) (cells : List CellSeen) → sum_by (outside ids one_each) cells ≡ length (without ids cells)
left_is ids cells = sym (sum_without ids one_each cells) ∙ count_is (without ids cells)

-- members of different names, and the cells that are left without them
few_left : (olds cells : List CellSeen) → Distinct olds → ((c : CellSeen) → Contains olds c → Contains cells c) → length olds + length (without (ids_of olds) cells) ≤ length cells
few_left olds cells apart among =
    let h = members_and_others one_each olds cells apart among in
    let a = count_is olds in
    let b = left_is (ids_of olds) cells in
    let n = count_is cells in
    omega (arith, h, a, b, n)

same_cell : (cells : List CellSeen) (x y : CellSeen) → Distinct cells → Contains cells x → Contains cells y → x.id ≡ y.id → x ≡ y
same_cell [] x y d in_x in_y same = absurd (none x in_x)
same_cell (c ∷ cs) x y (first, rest) in_x in_y same = elim (cases c x cs in_x) [
  | inl x_is ↦ elim (cases c y cs in_y) [
    | inl y_is ↦ x_is ∙ sym y_is
    | inr y_more ↦ absurd (first y y_more (ap (λ (z : CellSeen). z.id) (sym x_is) ∙ same))
  ]
  | inr x_more ↦ elim (cases c y cs in_y) [
    | inl y_is ↦ absurd (first x x_more (ap (λ (z : CellSeen). z.id) (sym y_is) ∙ sym same))
    | inr y_more ↦ same_cell cs x y rest x_more y_more same
  ]
]

in_pass : (b : Bool) (test : CellSeen → Bool) (y x : CellSeen) (ys : List CellSeen) → test y ≡ b → (Contains (filter test ys) x → Contains ys x × (test x ≡ true)) → Contains (filter test (y ∷ ys)) x → Contains (y ∷ ys) x × (test x ≡ true)
in_pass true test y x ys e more h = elim (cases y x (filter test ys) (subst (λ cs. Contains cs x) (kept (test y) e) h)) [
  | inl same ↦ (subst (Contains (y ∷ ys)) (sym same) (here y ys), ap test same ∙ e)
  | inr beyond ↦ let g = more beyond in (later y x ys g.0, g.1)
]
  where
    kept : (t : Bool) → t ≡ true → (if t then y ∷ filter test ys else filter test ys) ≡ y ∷ filter test ys
    kept true g = refl
    kept false g = absurd cc
in_pass false test y x ys e more h = let g = more (subst (λ cs. Contains cs x) (left_out (test y) e) h) in (later y x ys g.0, g.1)
  where
    left_out : (t : Bool) → t ≡ false → (if t then y ∷ filter test ys else filter test ys) ≡ filter test ys
    left_out true g = absurd cc
    left_out false g = refl

in_filter : (test : CellSeen → Bool) (cells : List CellSeen) (x : CellSeen) → Contains (filter test cells) x → Contains cells x × (test x ≡ true)
in_filter test [] x at = absurd (none x at)
in_filter test (y ∷ ys) x at = in_pass (test y) test y x ys refl (in_filter test ys x) at

-- where no two of the cells have one name, no more are left out than there are members
many_left : (olds cells : List CellSeen) → HaveNames cells → ((c : CellSeen) → Contains olds c → Contains cells c) → length cells ≤ length olds + length (without (ids_of olds) cells)
many_left olds cells names among =
    let those : List CellSeen = filter (λ (c : CellSeen). is_among (ids_of olds) c.id) cells in
    let both = length-filter_both (λ (c : CellSeen). is_among (ids_of olds) c.id) (λ (c : CellSeen). not (is_among (ids_of olds) c.id)) (λ c. refl) cells in
    let apart : Distinct those = distinct those (AllPairs-filter (λ (c d : CellSeen). c.id ≢ d.id) (λ (c : CellSeen). is_among (ids_of olds) c.id) cells names) in
    let h = few_left those olds apart an_old in
    omega (arith, both, h)
  where
    an_old : (c : CellSeen) → Contains (filter (λ (d : CellSeen). is_among (ids_of olds) d.id) cells) c → Contains olds c
    an_old c at =
        let (there, is) = in_filter (λ (d : CellSeen). is_among (ids_of olds) d.id) cells c at in
        let (o, in_olds, id) = cell_among olds c.id is in
        subst (Contains olds) (same_cell cells o c (distinct cells names) (among o in_olds) there id) in_olds

-- ---- with the change in place

module _ (w now : WorkingSet) (olds news : List CellSeen) (ids : ids_of news ≡ ids_of olds) (names : HaveNames olds) (made : IsPermutation w.change.new w.made) (put : IsPutInPlace w (renewing olds news) now) where
  was_made : (c : CellSeen) → Contains w.made c → Contains w.change.new c
  was_made c at = Contains-permutation w.made w.change.new c (IsPermutation-sym w.change.new w.made made) at

  pub stand_now : (c : CellSeen) → Contains (standing now) c ↔ (Contains news c ⊎ (Contains (standing w) c × (Contains (ids_of olds) c.id → ⊥)))
  stand_now c = (to_them, from_them)
    where
      out_of : is_among (ids_of olds) c.id ≡ false → Contains (ids_of olds) c.id → ⊥
      out_of off m =
          let (o, at, id) = of_id olds c.id m in
          let on = among_cell olds c.id o at id in
          let bad : true ≡ false = sym on ∙ off in cc

      no_among : (Contains (ids_of olds) c.id → ⊥) → is_among (ids_of olds) c.id ≡ false
      no_among out = elim (among_or_not (ids_of olds) c.id) [
        | inr off ↦ off
        | inl on ↦ let (o, at, id) = cell_among olds c.id on in absurd (out (subst (Contains (ids_of olds)) id (id_member olds o at)))
      ]

      to_them : Contains (standing now) c → Contains news c ⊎ (Contains (standing w) c × (Contains (ids_of olds) c.id → ⊥))
      to_them at = elim (Contains-append_cases now.made now.kept c at) [
        | inl m ↦ elim (Contains-append_cases news (without (ids_of olds) w.change.new) c
            (subst (λ cs. Contains cs c) put.followed.new (Contains-permutation now.made now.change.new c (IsPermutation-sym now.change.new now.made put.made) m))) [
              | inl new ↦ inl new
              | inr was ↦
                  let (there, off) = in_without (ids_of olds) w.change.new c was in
                  inr (Contains-append_left w.made w.kept c (Contains-permutation w.change.new w.made c made there), out_of off)
            ]
        | inr k ↦
            let (there, off) = in_without (ids_of olds) w.kept c (subst (λ cs. Contains cs c) put.kept k) in
            inr (Contains-append_right w.made w.kept c there, out_of off)
      ]

      new_now : Contains (news ++ without (ids_of olds) w.change.new) c → Contains (standing now) c
      new_now m = Contains-append_left now.made now.kept c (Contains-permutation now.change.new now.made c put.made (subst (λ cs. Contains cs c) (sym put.followed.new) m))

      from_them : Contains news c ⊎ (Contains (standing w) c × (Contains (ids_of olds) c.id → ⊥)) → Contains (standing now) c
      from_them h = elim h [
        | inl new ↦ new_now (Contains-append_left news (without (ids_of olds) w.change.new) c new)
        | inr was ↦ elim (Contains-append_cases w.made w.kept c was.0) [
          | inl m ↦ new_now (Contains-append_right news (without (ids_of olds) w.change.new) c (to_without (ids_of olds) w.change.new c (was_made c m) (no_among was.1)))
          | inr k ↦ Contains-append_right now.made now.kept c (subst (λ cs. Contains cs c) (sym put.kept) (to_without (ids_of olds) w.kept c k (no_among was.1)))
        ]
      ]

  -- ---- how many cells stand

  count_now : length (standing now) ≡ length olds + length (without (ids_of olds) (standing w))
  count_now =
      let a = length-append now.made now.kept in
      let p = length_permutation now.change.new now.made put.made in
      let n = ap length put.followed.new in
      let m = length-append news (without (ids_of olds) w.change.new) in
      let k = ap length put.kept in
      let i = sym (length-map news (λ (c : CellSeen). c.id)) ∙ (ap length ids ∙ length-map olds (λ (c : CellSeen). c.id)) in
      let f = ap length (filter-append (λ (c : CellSeen). not (is_among (ids_of olds) c.id)) w.made w.kept) in
      let g = length-append (without (ids_of olds) w.made) (without (ids_of olds) w.kept) in
      let s = sum_by-IsPermutation (outside (ids_of olds) one_each) w.change.new w.made made in
      let x = left_is (ids_of olds) w.made in
      let y = left_is (ids_of olds) w.change.new in
      omega (arith, a, p, n, m, k, i, f, g, s, x, y)

  -- ---- where the others stood

  module _ (stood : AllStand w olds) where
    old_kept : (c : CellSeen) → Contains olds c → is_among (ids_of w.change.new) c.id ≡ false → Contains w.kept c
    old_kept c at new = elim (Contains-append_cases w.made w.kept c (stood c at)) [
      | inr k ↦ k
      | inl m ↦
          let among = among_cell w.change.new c.id c (was_made c m) refl in
          let bad : true ≡ false = sym among ∙ new in cc
    ]

    old_now : (c : CellSeen) → Contains (w.change.old ++ without (ids_of w.change.new) olds) c → Contains now.change.old c
    old_now c at = subst (λ cs. Contains cs c) (sym put.followed.old) at

    new_number : (c : CellSeen) → Contains news c → Contains (ids_of now.change.old) c.id ⊎ Contains (ids_of w.change.new) c.id
    new_number c at =
        let (o, in_olds, id) = of_id olds c.id (subst (λ is. Contains is c.id) ids (id_member news c at)) in
        elim (among_or_not (ids_of w.change.new) o.id) [
          | inl on ↦ let (x, m, same) = cell_among w.change.new o.id on in inr (subst (Contains (ids_of w.change.new)) (same ∙ id) (id_member w.change.new x m))
          | inr off ↦ inl (subst (Contains (ids_of now.change.old)) id
              (id_member now.change.old o (old_now o (Contains-append_right w.change.old (without (ids_of w.change.new) olds) o (to_without (ids_of w.change.new) olds o in_olds off)))))
        ]

    pub as_before : StandAsBefore w now
    as_before = record {
      few = let n = count_now in let h = few_left olds (standing w) (distinct olds names) stood in omega (arith, n, h);
      as_many = λ own. let n = count_now in let h = few_left olds (standing w) (distinct olds names) stood in let g = many_left olds (standing w) own stood in omega (arith, n, h, g);
      old = λ c at. elim (Contains-append_cases w.change.old (without (ids_of w.change.new) olds) c (subst (λ cs. Contains cs c) put.followed.old at)) [
        | inl m ↦ inl m
        | inr m ↦ let (there, off) = in_without (ids_of w.change.new) olds c m in inr (old_kept c there off)
      ];
      still_old = λ c at. old_now c (Contains-append_left w.change.old (without (ids_of w.change.new) olds) c at);
      kept = λ c at. (in_without (ids_of olds) w.kept c (subst (λ cs. Contains cs c) put.kept at)).0;
      new = λ c at. elim (Contains-append_cases news (without (ids_of olds) w.change.new) c (subst (λ cs. Contains cs c) put.followed.new at)) [
        | inl m ↦ new_number c m
        | inr m ↦ inr (id_member w.change.new c (in_without (ids_of olds) w.change.new c m).0)
      ];
    }
