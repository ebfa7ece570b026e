-- Of which cells a working set is, and which numbers its new cells have.
use Rattle.std.proofs.Common.{◌≡◌, ◌⊎◌, inl, inr, ℕ, ◌+◌, ◌<◌, ◌≤◌, true, false, List, ◌∷◌, ◌++◌, length, refl, sym, ap, subst, ◌∙◌, arith}
use Rattle.std.specs.Prelude.{Contains, None}
use Rattle.std.specs.List.Sorted.{IsPermutation}
use Rattle.std.proofs.lemmas.List.Elements.{Contains-append_cases, Contains-append_left, Contains-append_right}
use Rattle.std.proofs.lemmas.List.Sorted.{Contains-permutation, IsPermutation-sym}
use Rattle.r4_base.specs.Key.{rank}
use Rattle.r4_base.specs.Tree.{Root, Store}
use Rattle.r4_base.specs.Value.{Value}
use Rattle.r4_base.specs.declared.key.Key.{Key}
use Rattle.r4_measure.specs.r4_cell.Seen.{CellSeen}
use Rattle.r4_measure.specs.r4_cell.declared.change.Fresh.{Fresh}
use Rattle.r4_measure.specs.r4_leaf.declared.remaking.Given.{Given}
use Rattle.r4_measure.specs.r4_leaf.declared.remaking.KeyRange.{KeyRange}
use Rattle.r4_measure.specs.r4_patch.Following.{is_among, without}
use Rattle.r4_measure.specs.r4_patch.Joining.{ids_of}
use Rattle.r4_measure.proofs.r4_patch.Followed.{among_cell, among_or_not, cell_among, in_without, to_without}
use Rattle.r4_measure.specs.r4_path.Steps.{Step, fresh_ids, olds}
use Rattle.r4_measure.proofs.r4_path.Rising.{count_within, id_member}
use Rattle.r4_measure.specs.r4_work.Remaking.{IsRemade}
use Rattle.r4_measure.specs.r4_work.Working.{standing}
use Rattle.r4_measure.specs.r4_work.declared.working.WorkingSet.{WorkingSet}
use Rattle.r4_measure.specs.r4_edit.Remaking.{after_edits}
use Rattle.r4_measure.proofs.Loop.{from_new, of_id}
use Rattle.r4_measure.proofs.OldCells.{old_stands}
use Rattle.r4_build.specs.Making.{IsOf, StaysOf}

ids_left : (xs ys : List CellSeen) (i : ℕ) → Contains (ids_of xs) i → Contains (ids_of (xs ++ ys)) i
ids_left xs ys i m = let (x, at, id) = of_id xs i m in subst (Contains (ids_of (xs ++ ys))) id (id_member (xs ++ ys) x (Contains-append_left xs ys x at))

module _ (t : Store Value) (r : Root) (before after : Fresh) (w now : WorkingSet) (key : Key) (cuts : List KeyRange) (items : List Given) (same_made : IsPermutation w.change.new w.made) (made : IsRemade t r before after w now key cuts items) where
  abbrev steps : List Step
  steps = made.edits.lowest ∷ made.edits.more

  edit_old : (c : CellSeen) → Contains made.edit.old c → Contains (standing w) c
  edit_old = old_stands w (rank key) made.leaf made.ups made.path (after_edits cuts items made.leaf) before after made.edit made.edits

  module _ (cells : List CellSeen) (first : ℕ) (low : first ≤ before.next) (was : IsOf cells first before w) where
    -- an old cell of the edit that was not made before
    old_kept : (c : CellSeen) → Contains made.edit.old c → is_among (ids_of w.change.new) c.id ≡ false → Contains w.kept c
    old_kept c at new = elim (Contains-append_cases w.made w.kept c (edit_old c at)) [
      | inr kept ↦ kept
      | inl m ↦
          let among = among_cell w.change.new c.id c (Contains-permutation w.made w.change.new c (IsPermutation-sym w.change.new w.made same_made) m) refl in
          let bad : true ≡ false = sym among ∙ new in cc
    ]

    old_of : (c : CellSeen) → Contains now.change.old c → Contains cells c
    old_of c at = elim (Contains-append_cases w.change.old (without (ids_of w.change.new) made.edit.old) c (subst (λ cs. Contains cs c) made.put.followed.old at)) [
      | inl m ↦ was.old c m
      | inr m ↦ let (there, new) = in_without (ids_of w.change.new) made.edit.old c m in was.kept c (old_kept c there new)
    ]

    kept_of : (c : CellSeen) → Contains now.kept c → Contains cells c
    kept_of c at = was.kept c (in_without (ids_of made.edit.old) w.kept c (subst (λ cs. Contains cs c) made.put.kept at)).0

    abbrev IsNumbered : ℕ → Type 0
    IsNumbered i = Contains (ids_of now.change.old) i ⊎ ((first ≤ i) × (i < after.next))

    old_id : (i : ℕ) → Contains (ids_of w.change.old) i → Contains (ids_of now.change.old) i
    old_id i m = subst (λ cs. Contains (ids_of cs) i) (sym made.put.followed.old) (ids_left w.change.old (without (ids_of w.change.new) made.edit.old) i m)

    was_new : (c : CellSeen) → Contains w.change.new c → IsNumbered c.id
    was_new c m = elim (was.new c m) [
      | inl old ↦ inl (old_id c.id old)
      | inr taken_one ↦ let takes = made.takes in inr (taken_one.0, omega (arith, taken_one, takes))
    ]

    of_old : (c : CellSeen) → Contains made.edit.old c → IsNumbered c.id
    of_old c at = elim (among_or_not (ids_of w.change.new) c.id) [
      | inl among ↦ let (x, m, id) = cell_among w.change.new c.id among in subst IsNumbered id (was_new x m)
      | inr new ↦ inl (subst (λ cs. Contains (ids_of cs) c.id) (sym made.put.followed.old)
          (id_member (w.change.old ++ without (ids_of w.change.new) made.edit.old) c
          (Contains-append_right w.change.old (without (ids_of w.change.new) made.edit.old) c (to_without (ids_of w.change.new) made.edit.old c at new))))
    ]

    edit_new : (c : CellSeen) → Contains made.edit.new c → IsNumbered c.id
    edit_new c at = elim (from_new None steps made.edits.over c.id made.edits.climbs (subst (λ cs. Contains (ids_of cs) c.id) made.edits.levels.new (id_member made.edit.new c at))) [
      | inl old ↦ let (y, m, id) = of_id (olds steps) c.id old in subst IsNumbered id (of_old y (subst (λ cs. Contains cs y) (sym made.edits.levels.old) m))
      | inr new ↦
          let h = count_within before.next (fresh_ids steps made.edits.over) c.id made.edits.counts new in
          let n : after.next ≡ before.next + length (fresh_ids steps made.edits.over) = ap (λ (f : Fresh). f.next) made.edits.number in
          inr (omega (arith, h, low), omega (arith, h, n))
    ]

    new_of : (c : CellSeen) → Contains now.change.new c → IsNumbered c.id
    new_of c at = elim (Contains-append_cases made.edit.new (without (ids_of made.edit.old) w.change.new) c (subst (λ cs. Contains cs c) made.put.followed.new at)) [
      | inl m ↦ edit_new c m
      | inr m ↦ was_new c (in_without (ids_of made.edit.old) w.change.new c m).0
    ]

    now_of_cells : IsOf cells first after now
    now_of_cells = record { old = old_of; kept = kept_of; new = new_of }

  pub stays_of : StaysOf before after w now
  stays_of cells first low was = now_of_cells cells first low was
