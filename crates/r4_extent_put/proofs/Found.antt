-- What may be put among the extents of cells, as the tests of them say.
use Rattle.std.proofs.Common.{◌≡◌, inl, inr, suc, true, List, [], ◌∷◌, map, sym, ap, arith}
use Rattle.std.specs.Prelude.{◌==◌, Contains, Option, nat_le, nat_lt}
use Rattle.std.specs.List.{list_all}
use Rattle.std.proofs.lemmas.Bool.{and_parts, eqb-true, leb-true}
use Rattle.r4_base.specs.Tree.{Root, Store}
use Rattle.r4_base.specs.Value.{Value}
use Rattle.r4_content.specs.Edited.{Edits}
use Rattle.r4_extent_among.specs.Among.{among_need}
use Rattle.r4_extent_turned.proofs.r4_extent_growth.Turns.{each}
use Rattle.r4_extent_turned.proofs.r4_extent_growth.r4_extent_change.Chosen.{picked}
use Rattle.r4_extent_turned.proofs.r4_extent_growth.r4_extent_change.r4_extent_build.r4_extent_edit.SpanBorders.{sound_pieces}
use Rattle.r4_extent_turned.proofs.r4_extent_growth.r4_measure.r4_patch.Members.{cases}
use Rattle.r4_extent_turned.specs.r4_extent_growth.Coming.{SufficesFor}
use Rattle.r4_extent_turned.specs.r4_extent_growth.r4_extent_change.Changing.{AreMeasured}
use Rattle.r4_extent_turned.specs.r4_extent_growth.r4_extent_demands.r4_leaf_demands.Leaves.{IsInLeaves}
use Rattle.r4_extent_turned.specs.r4_extent_growth.r4_measure.Budget.{AreUnplaced, Budget}
use Rattle.r4_extent_turned.specs.r4_extent_growth.r4_measure.Grafting.{IsQuietBelow}
use Rattle.r4_extent_turned.specs.r4_extent_growth.r4_measure.r4_cell.Patch.{HaveNames}
use Rattle.r4_extent_turned.specs.r4_extent_growth.r4_measure.r4_cell.Seen.{CellSeen, node_of}
use Rattle.r4_extent_turned.specs.r4_extent_growth.r4_measure.r4_cell.declared.change.Fresh.{Fresh}
use Rattle.r4_extent_turned.specs.r4_extent_growth.r4_measure.r4_path.TwigPieces.{twig_pieces}
use Rattle.r4_extent_turned.specs.r4_extent_growth.r4_measure.r4_reach.Needs.{put_among}
use Rattle.r4_extent_turned.specs.r4_extent_growth.r4_measure.r4_reach.Touched.{Body}
use Rattle.r4_extent_turned.specs.r4_extent_growth.r4_measure.r4_work.Working.{AreCellsIn}
use Rattle.r4_extent_put.specs.Allowing.{MayPutAll, has_numbers}
use Rattle.r4_extent_put.specs.Putting.{CanPut, TakesValues}
use Rattle.r4_extent_put.specs.Taking.{IsKnown, is_spared, takes_values, twigs_beside, twigs_putting}
use Rattle.r4_extent_put.specs.Whole.{is_putting, putting_among}
use Rattle.r4_extent_put.proofs.Counted.{enough}
use Rattle.r4_extent_put.proofs.Spared.{free_for, value_changes}

takes : (b : Option Body) (e : Edits) (c : CellSeen) → IsInLeaves b → IsKnown b e c → is_putting b e c ≡ true → takes_values b e c ≡ true → TakesValues b e c
takes b e c leaves known on h =
    let (spared, room) = and_parts (list_all (is_spared e) (twig_pieces c)) (nat_le (among_need b e c) 16000) h in
    let level = eqb-true c.level 2 (and_parts (c.level == 2) (nat_lt 0 (put_among b e (node_of c))) on).0 in
    let sound = known on in
    record {
      sound = sound;
      free = λ v at. free_for e c (sound_pieces c sound level) spared v.0 (value_changes b e c leaves v at);
      room = leb-true (among_need b e c) 16000 room;
    }

pub put_found : (b : Option Body) (e : Edits) (f : Fresh) (cells : List CellSeen) → IsInLeaves b → has_numbers b e f cells ≡ true
    → list_all (takes_values b e) (putting_among b e cells) ≡ true → ((c : CellSeen) → Contains cells c → IsKnown b e c) → MayPutAll b e f cells
put_found b e f cells leaves numbers all known = record {
  in_leaves = leaves;
  twigs = λ c at.
      let (among, on) = picked (is_putting b e) cells c at in
      takes b e c leaves (known c among) on (each (takes_values b e) (putting_among b e cells) all c at);
  numbers = enough b e f cells numbers;
}

-- ---- with what is known of the part and of the budget

told_in : (b : Option Body) (e : Edits) (xs : List CellSeen) (c : CellSeen) → Contains xs c → Contains (map (twigs_beside b e) xs) (twigs_beside b e c)
told_in b e [] c (k, lt, is) = absurd (omega (arith, lt))
told_in b e (x ∷ xs) c at = elim (cases x c xs at) [
  | inl is ↦ (0, omega arith, ap (twigs_beside b e) (sym is))
  | inr more ↦ let (k, lt, same) = told_in b e xs c more in (suc k, omega (arith, lt), same)
]

pub can_put : (b : Option Body) (e : Edits) (u : Budget) (t : Store Value) (r : Root) (f : Fresh) (cells : List CellSeen) → MayPutAll b e f cells → AreCellsIn t r f cells → HaveNames cells
    → AreMeasured t r u cells → IsQuietBelow u → AreUnplaced f → SufficesFor u (twigs_putting b e cells) → CanPut b e u t r f cells
can_put b e u t r f cells may in_part names measured quiet unplaced suffices = record {
  in_leaves = may.in_leaves;
  cells_in = in_part;
  names = names;
  measured = measured;
  quiet = quiet;
  twigs = λ c at. record {
    takes = may.twigs c at;
    come = suffices (twigs_beside b e c) (told_in b e (putting_among b e cells) c at);
  };
  unplaced = unplaced;
  numbers = may.numbers;
}
