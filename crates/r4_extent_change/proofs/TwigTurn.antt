-- A twig at its turn: what is known of the set afterwards.
use Rattle.std.proofs.Common.{◌≡◌, ◌≢◌, ◌⊎◌, inl, inr, ℕ, ◌+◌, ◌^◌, ◌<◌, ◌≤◌, List, [], ◌∷◌, ◌++◌, refl, ap, sym, subst, ◌∙◌, arith}
use Rattle.std.specs.Prelude.{Contains, Some, true, false}
use Rattle.std.proofs.lemmas.List.Elements.{Contains-append_cases, Contains-append_left, Contains-append_right}
use Rattle.std.proofs.lemmas.List.Sorted.{Contains-permutation, IsPermutation-sym}
use Rattle.std.proofs.lemmas.Option.{none-some}
use Rattle.r4_base.specs.Key.{rank}
use Rattle.r4_base.specs.Tree.{Node, Root, Store}
use Rattle.r4_base.specs.Value.{Value}
use Rattle.r4_base.proofs.Trees.{one_cell}
use Rattle.r4_build.specs.Making.{IsOf}
use Rattle.r4_extent_loss.proofs.r4_extent_build.r4_twig_turns.TurnByTurn.{at_twig, new_are, new_id, next_working, old_at, olds_stand, ours}
use Rattle.r4_extent_loss.specs.r4_extent_build.r4_twig_turns.Turning.{IsReady, IsTurned, TwigTurn, behind}
use Rattle.r4_build.proofs.r4_measure.Kept.{block_is}
use Rattle.r4_build.proofs.r4_measure.Loop.{of_id}
use Rattle.r4_build.proofs.r4_measure.Placed.{still_in}
use Rattle.r4_build.proofs.r4_measure.r4_patch.Followed.{among_cell, among_or_not, cell_among, in_without, to_without}
use Rattle.r4_build.proofs.r4_measure.r4_patch.Members.{absent}
use Rattle.r4_build.proofs.r4_measure.r4_path.Rising.{hi_is, id_member, level_is, lo_is}
use Rattle.r4_build.proofs.r4_measure.r4_work.InPlace.{standing_is}
use Rattle.r4_build.specs.r4_measure.Budget.{Budget}
use Rattle.r4_build.specs.r4_measure.Grafting.{Beside, IsQuietBelow}
use Rattle.r4_build.specs.r4_measure.Measured.{IsMeasured}
use Rattle.r4_build.specs.r4_measure.r4_cell.Seen.{CellSeen, node_of}
use Rattle.r4_build.specs.r4_measure.r4_cell.declared.change.Fresh.{Fresh}
use Rattle.r4_build.specs.r4_measure.r4_patch.Following.{is_among, without}
use Rattle.r4_build.specs.r4_measure.r4_patch.Joining.{ids_of}
use Rattle.r4_build.specs.r4_measure.r4_work.Working.{IsWorking, now_of, standing}
use Rattle.r4_build.specs.r4_measure.r4_work.declared.working.WorkingSet.{WorkingSet}
use Rattle.r4_extent_change.specs.Wider.{GoesOn, IsWider}

ids_append : (xs ys : List CellSeen) → ids_of (xs ++ ys) ≡ ids_of xs ++ ids_of ys
ids_append [] ys = refl
ids_append (x ∷ xs) ys = ap (λ is. x.id ∷ is) (ids_append xs ys)

ids_left : (xs ys : List CellSeen) (i : ℕ) → Contains (ids_of xs) i → Contains (ids_of (xs ++ ys)) i
ids_left xs ys i m = let (x, at, id) = of_id xs i m in subst (Contains (ids_of (xs ++ ys))) id (id_member (xs ++ ys) x (Contains-append_left xs ys x at))

-- ---- cells that are wider than others

pub as_wide : (c : CellSeen) → IsWider c c
as_wide c = record { id = refl; level = refl; lo = refl; hi = omega arith; block = refl }

pub wider_still : (c d z : CellSeen) → IsWider c d → IsWider d z → IsWider c z
wider_still c d z one two = record {
  id = two.id ∙ one.id;
  level = two.level ∙ one.level;
  lo = two.lo ∙ one.lo;
  hi = let a = one.hi in let b = two.hi in omega (arith, a, b);
  block = two.block ∙ one.block;
}

-- two cells of one node and one number
same_cells : (c d z : CellSeen) → c.id ≡ d.id → node_of c ≡ node_of d → IsWider c z → IsWider d z
same_cells c d z id node wide = record {
  id = wide.id ∙ id;
  level = wide.level ∙ (sym (level_is c) ∙ (ap (λ (y : Node Value). y.level) node ∙ level_is d));
  lo = wide.lo ∙ (sym (lo_is c) ∙ (ap (λ (y : Node Value). y.lo) node ∙ lo_is d));
  hi = let h = wide.hi in let e : rank c.hi ≡ rank d.hi = sym (hi_is c) ∙ (ap (λ (y : Node Value). y.hi) node ∙ hi_is d) in omega (arith, h, e);
  block = wide.block ∙ (sym (block_is c) ∙ (ap (λ (y : Node Value). y.block) node ∙ block_is d));
}

module _ (t : Store Value) (r : Root) (f : Fresh) (w : WorkingSet) (u : Budget) (is : IsMeasured t r f w u) (quiet : IsQuietBelow u) (e : TwigTurn) (i : ℕ) (ready : IsReady t w u e i) (unplaced : 2 ^ 63 ≤ f.next) (high : f.end < 2 ^ 64)
    (numbers : f.next + (e.blocks + (e.leaves + 64)) ≤ f.end) (after : Fresh) (v : WorkingSet) (made : IsTurned t r e f after w v) where
  abbrev s : Store Value
  s = now_of w t

  abbrev x : Beside
  x = e.beside f.next

  working : IsWorking t r (behind e f) v
  working = next_working t r f w u is quiet e i ready unplaced high numbers after v made

  stood : (z : CellSeen) → Contains made.edit.old z → Contains (standing w) z
  stood = olds_stand t r f w u is quiet e i ready unplaced high numbers after v made

  -- a cell of another twig, or one below a twig that does not go, is none of the old cells
  not_old : (d : CellSeen) → Contains (standing w) d → d.level ≤ 2 → d.id ≢ i → ((z : CellSeen) → Contains x.below.old z → z.id ≢ d.id) → (z : CellSeen) → Contains made.edit.old z → z.id ≢ d.id
  not_old d at low ne beside z m same =
      let h = old_at t r f w u is quiet e i ready unplaced high numbers after v made z m in
      elim h.1 [
        | inl goes ↦ beside z goes same
        | inr rest ↦ elim rest [
          | inl is_twig ↦ ne (sym same ∙ (ap (λ (y : CellSeen). y.id) is_twig ∙ (at_twig t r f w u is quiet e i ready unplaced high numbers after v made).0))
          | inr up ↦
              let one : node_of z ≡ node_of d = one_cell s d.id (node_of z) (node_of d) (subst (λ k. s k ≡ Some (node_of z)) same h.0) (standing_is t r f w is.working d at) in
              let lz = level_is z in
              let ld = level_is d in
              let l = ap (λ (y : Node Value). y.level) one in
              omega (arith, up, lz, ld, l, low)
        ]
      ]

  -- such a cell stands as before, and is no new cell
  pub stays : (d : CellSeen) → Contains (standing w) d → d.level ≤ 2 → d.id ≢ i → ((z : CellSeen) → Contains x.below.old z → z.id ≢ d.id) → Contains (standing v) d × (Contains (ids_of made.edit.new) d.id → ⊥)
  stays d at low ne beside = (
    still_in t r f w u is v (behind e f) made.edit made.change made.meets stood made.put working d.id d refl (absent made.edit.old d.id (not_old d at low ne beside)) at,
    λ m. elim (new_id t r f w u is quiet e i ready unplaced high numbers after v made d.id m) [
      | inl old ↦ let (z, zm, id) = of_id made.edit.old d.id old in not_old d at low ne beside z zm id
      | inr own ↦ none-some (node_of d) (sym (is.working.free.cells d.id own.0 (omega (arith, own, numbers))) ∙ standing_is t r f w is.working d at)
    ],
  )

  -- what comes below the twig stands
  comes : (d : CellSeen) → Contains x.below.new d → Contains (standing v) d
  comes d at =
      let mine = ours t r f w u is quiet e i ready unplaced high numbers after v made in
      let new : Contains made.edit.new d = subst (λ cs. Contains cs d) (sym (new_are t r f w u is quiet e i ready unplaced high numbers after v made))
      (Contains-append_left (x.below.new ++ mine) x.blocks d (Contains-append_left x.below.new mine d at)) in
      Contains-append_left v.made v.kept d (Contains-permutation v.change.new v.made d made.put.made
      (subst (λ cs. Contains cs d) (sym made.put.followed.new) (Contains-append_left made.edit.new (without (ids_of made.edit.old) w.change.new) d new)))

  leaf_apart : (d : CellSeen) → Contains (standing w) d → d.level ≡ 1 → d.id ≢ i
  leaf_apart d at one id =
      let same : node_of d ≡ ready.node = one_cell s i (node_of d) ready.node (subst (λ j. s j ≡ Some (node_of d)) id (standing_is t r f w is.working d at)) ready.at in
      let l = ap (λ (z : Node Value). z.level) same in
      let ld = level_is d in
      let two = ready.level in
      omega (arith, l, ld, two, one)

  -- a leaf that is none of those that go stands as before
  pub leaf_stays : (d : CellSeen) → Contains (standing w) d → d.level ≡ 1 → ((z : CellSeen) → Contains x.below.old z → z.id ≢ d.id) → Contains (standing v) d
  leaf_stays d at one beside = (stays d at (omega (arith, one)) (leaf_apart d at one) beside).0

  -- where each leaf that goes goes on, so does each leaf
  pub leaf_goes_on : ((z : CellSeen) → Contains x.below.old z → z.level ≡ 1 → (y : CellSeen) × Contains x.below.new y × IsWider z y) → (d : CellSeen) → Contains (standing w) d → d.level ≡ 1 → GoesOn v d
  leaf_goes_on wider d at one = elim (among_or_not (ids_of x.below.old) d.id) [
    | inl among ↦
        let (z, m, id) = cell_among x.below.old d.id among in
        let same : node_of z ≡ node_of d = one_cell s d.id (node_of z) (node_of d) (subst (λ k. s k ≡ Some (node_of z)) id (standing_is t r f w is.working z (ready.goes f.next z m))) (standing_is t r f w is.working d at) in
        let level : z.level ≡ 1 = sym (level_is z) ∙ (ap (λ (y : Node Value). y.level) same ∙ (level_is d ∙ one)) in
        let (y, new, wide) = wider z m level in
        (y, comes y new, same_cells z d y id same wide)
    | inr out ↦ (d, leaf_stays d at one (λ z m same. let bad : true ≡ false = sym (among_cell x.below.old d.id z m same) ∙ out in cc), as_wide d)
  ]

  -- ---- of which cells the set is

  module _ (cells : List CellSeen) (from : ℕ) (low : from ≤ f.next) (was : IsOf cells from f w) where
    abbrev g : Fresh
    g = behind e f

    old_kept : (z : CellSeen) → Contains made.edit.old z → is_among (ids_of w.change.new) z.id ≡ false → Contains w.kept z
    old_kept z at new = elim (Contains-append_cases w.made w.kept z (stood z at)) [
      | inr is_kept ↦ is_kept
      | inl m ↦
          let among = among_cell w.change.new z.id z (Contains-permutation w.made w.change.new z (IsPermutation-sym w.change.new w.made is.working.made) m) refl in
          let bad : true ≡ false = sym among ∙ new in cc
    ]

    abbrev IsNumbered : ℕ → Type 0
    IsNumbered i = Contains (ids_of v.change.old) i ⊎ ((from ≤ i) × (i < g.next))

    was_new : (z : CellSeen) → Contains w.change.new z → IsNumbered z.id
    was_new z m = elim (was.new z m) [
      | inl old ↦ inl (subst (λ cs. Contains (ids_of cs) z.id) (sym made.put.followed.old) (ids_left w.change.old (without (ids_of w.change.new) made.edit.old) z.id old))
      | inr taken ↦ inr (taken.0, omega (arith, taken))
    ]

    of_old : (z : CellSeen) → Contains made.edit.old z → IsNumbered z.id
    of_old z at = elim (among_or_not (ids_of w.change.new) z.id) [
      | inl among ↦ let (y, m, id) = cell_among w.change.new z.id among in subst IsNumbered id (was_new y m)
      | inr new ↦ inl (subst (λ cs. Contains (ids_of cs) z.id) (sym made.put.followed.old)
          (id_member (w.change.old ++ without (ids_of w.change.new) made.edit.old) z
          (Contains-append_right w.change.old (without (ids_of w.change.new) made.edit.old) z (to_without (ids_of w.change.new) made.edit.old z at new))))
    ]

    of_new : (z : CellSeen) → Contains made.edit.new z → IsNumbered z.id
    of_new z at = elim (new_id t r f w u is quiet e i ready unplaced high numbers after v made z.id (id_member made.edit.new z at)) [
      | inl old ↦ let (y, m, id) = of_id made.edit.old z.id old in subst IsNumbered id (of_old y m)
      | inr own ↦ inr (omega (arith, own, low), own.1)
    ]

    pub now_of_cells : IsOf cells from g v
    now_of_cells = record {
      old = λ z at. elim (Contains-append_cases w.change.old (without (ids_of w.change.new) made.edit.old) z (subst (λ cs. Contains cs z) made.put.followed.old at)) [
        | inl m ↦ was.old z m
        | inr m ↦ let (there, new) = in_without (ids_of w.change.new) made.edit.old z m in was.kept z (old_kept z there new)
      ];
      kept = λ z at. was.kept z (in_without (ids_of made.edit.old) w.kept z (subst (λ cs. Contains cs z) made.put.kept at)).0;
      new = λ z at. elim (Contains-append_cases made.edit.new (without (ids_of made.edit.old) w.change.new) z (subst (λ cs. Contains cs z) made.put.followed.new at)) [
        | inl m ↦ of_new z m
        | inr m ↦ was_new z (in_without (ids_of made.edit.old) w.change.new z m).0
      ];
    }
