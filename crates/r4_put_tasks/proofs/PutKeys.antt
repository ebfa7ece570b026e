-- The keys that are put: which they are, and that the edits change them.
use Rattle.std.proofs.Common.{◌≡◌, inl, inr, ℕ, ◌+◌, ◌<◌, ◌≤◌, Bool, true, false, List, [], ◌∷◌, refl, sym, ap, ◌∙◌}
use Rattle.std.proofs.Common.{arith}
use Rattle.std.specs.Prelude.{◌==◌, ◌&&◌, ◌||◌, Contains, Option}
use Rattle.std.specs.List.{list_any}
use Rattle.std.proofs.lemmas.Bool.{and_parts, eq-eqb, eqb-true, le-leb, lt-ltb, or_cases, or_left, or_right}
use Rattle.r4_base.specs.Key.{rank, top}
use Rattle.r4_base.specs.Value.{Value}
use Rattle.r4_content.specs.Edited.{Edits, Intervals, changed, is_between, is_in}
use Rattle.r4_turned_tasks.proofs.r4_extent_put.Spared.{value_changes}
use Rattle.r4_turned_tasks.proofs.r4_extent_put.r4_extent_growth.r4_extent_change.Chosen.{kept_in}
use Rattle.r4_turned_tasks.proofs.r4_extent_put.r4_extent_growth.r4_extent_change.r4_extent_build.r4_extent_demands.PutsInto.{any_there, there_any}
use Rattle.r4_turned_tasks.specs.r4_extent_put.Whole.{is_putting, put_keys, putting_among}
use Rattle.r4_turned_tasks.specs.r4_extent_put.r4_extent_growth.r4_build.Building.{HaveLawfulKeys}
use Rattle.r4_turned_tasks.specs.r4_extent_put.r4_extent_growth.r4_build.Making.{changed_among, changed_in}
use Rattle.r4_turned_tasks.specs.r4_extent_put.r4_extent_demands.r4_leaf_demands.Leaves.{IsInLeaves}
use Rattle.r4_turned_tasks.specs.r4_extent_put.r4_extent_growth.r4_measure.r4_cell.Seen.{CellSeen}
use Rattle.r4_turned_tasks.specs.r4_extent_put.r4_extent_growth.r4_measure.r4_leaf.Units.{LeafUnit}
use Rattle.r4_turned_tasks.specs.r4_extent_put.r4_extent_growth.r4_measure.r4_reach.Touched.{Body}
use Rattle.r4_turned_tasks.specs.r4_extent_put.r4_extent_among.Among.{is_put_among, values_among}
use Rattle.r4_turned_tasks.specs.r4_extent_put.r4_extent_among.AmongEach.{is_put_in_each}
use Rattle.r4_turned_tasks.proofs.r4_task_moves.BodyMoves.{in_singles, singles}

-- a key changes in a leaf among cells, if it does in one of them
among_is : (e : Edits) (cells : List CellSeen) (k : ℕ)
    → changed_among e cells k ≡ list_any (λ (c : CellSeen). changed_in e c k) cells
among_is e [] k = refl
among_is e (c ∷ cells) k = ap (λ (t : Bool). changed_in e c k || t) (among_is e cells k)

module _ (b : Option Body) (e : Edits) (cells : List CellSeen) where
  -- ---- a leaf's key that changes is put, and one at which a value comes

  pub leaf_key : (k : ℕ) (c : CellSeen) → Contains cells c → c.level ≡ 1 → rank c.lo ≤ k → k < rank c.hi
      → is_in (changed e) k ≡ true → put_keys b e cells k ≡ true
  leaf_key k c at level low high on =
      or_left (changed_among e cells k) (is_put_in_each b e (putting_among b e cells) k)
      (among_is e cells k ∙ any_there (λ (x : CellSeen). changed_in e x k) cells c at
      (rw (eq-eqb c.level 1 level, le-leb (rank c.lo) k low, lt-ltb k (rank c.hi) high, on) refl))

  pub twig_key : (k : ℕ) (c : CellSeen) → Contains cells c → is_putting b e c ≡ true → (v : Value)
      → Contains (values_among b e c) (k, v) → put_keys b e cells k ≡ true
  twig_key k c at on v has =
      or_right (changed_among e cells k) (is_put_in_each b e (putting_among b e cells) k)
      (any_there (λ (x : CellSeen). is_put_among b e x k) (putting_among b e cells) c
      (kept_in (is_putting b e) cells c on at)
      (any_there (λ (u : LeafUnit). u.0 == k) (values_among b e c) (k, v) has (eq-eqb k k refl)))

  -- ---- and such a key changes

  module _ (leaves : IsInLeaves b) where
    by_leaf : (k : ℕ) → changed_among e cells k ≡ true → is_in (changed e) k ≡ true
    by_leaf k on =
        let (c, at, is) = there_any (λ (x : CellSeen). changed_in e x k) cells (sym (among_is e cells k) ∙ on) in
        (and_parts (is_between (rank c.lo) (rank c.hi) k) (is_in (changed e) k)
        (and_parts (c.level == 1) (is_between (rank c.lo) (rank c.hi) k && is_in (changed e) k) is).1).1

    by_twig : (k : ℕ) → is_put_in_each b e (putting_among b e cells) k ≡ true → is_in (changed e) k ≡ true
    by_twig k on =
        let (c, at, among) = there_any (λ (x : CellSeen). is_put_among b e x k) (putting_among b e cells) on in
        let (u, has, is) = there_any (λ (w : LeafUnit). w.0 == k) (values_among b e c) among in
        let same : k ≡ u.0 = sym (eqb-true u.0 k is) in
        ap (is_in (changed e)) same ∙ value_changes b e c leaves u has

    pub put_changes : (k : ℕ) → put_keys b e cells k ≡ true → is_in (changed e) k ≡ true
    put_changes k on =
        elim (or_cases (changed_among e cells k) (is_put_in_each b e (putting_among b e cells) k) on) [
          | inl leaf ↦ by_leaf k leaf
          | inr twig ↦ by_twig k twig
        ]

    -- ---- the intervals, where keys are such as items may have

    pub keys : Intervals
    keys = singles (put_keys b e cells) 0 top

    pub keys_are : HaveLawfulKeys e → (k : ℕ) → is_in keys k ≡ put_keys b e cells k
    unfolding keys
    keys_are lawful k = in_singles (put_keys b e cells) 0 top k ∙ by_test (put_keys b e cells k) refl
      where
        by_test : (t : Bool) → put_keys b e cells k ≡ t → (is_between 0 (0 + top) k && t) ≡ t
        by_test true on =
            let high = (lawful k (put_changes k on)).1 in
            rw (le-leb 0 k (omega arith), lt-ltb k (0 + top) (omega (arith, high))) refl
        by_test false off = by_other (is_between 0 (0 + top) k)
          where
            by_other : (x : Bool) → (x && false) ≡ false
            by_other true = refl
            by_other false = refl
