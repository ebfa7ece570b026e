-- Rows over rows.
use Rattle.std.proofs.Common.{◌≡◌, inl, inr, ℕ, suc, ◌^◌, List, [], ◌∷◌, ◌++◌, length, refl, sym, ap, subst, ◌∙◌, arith}
use Rattle.std.specs.Prelude.{All, Contains, true}
use Rattle.std.proofs.lemmas.List.Elements.{All-cons, All-nil}
use Rattle.r4_base.specs.Cell.{names_block, next_key}
use Rattle.r4_base.specs.Node.{Item}
use Rattle.r4_work.specs.r4_cell.Seen.{CellSeen}
use Rattle.r4_work.proofs.r4_patch.Members.{cases, none}
use Rattle.r4_work.specs.r4_path.Nodes.{IsPointable}
use Rattle.r4_work.specs.r4_path.Sharing.{IsSound, items_of_cells}
use Rattle.r4_rows.specs.Pointers.{PointTo}
use Rattle.r4_squeeze.proofs.Cells.{cells_pointers}
use Rattle.r4_squeeze.proofs.Rewriting.{accepted_pointer, pointer_long}
use Rattle.r4_squeeze.specs.Items.{Stand}
use Rattle.r4_row_edit.specs.Over.{StandsOver}
use Rattle.r4_row_gather.specs.Rising.{AreRowsOver, IsRowAbove, MayStandOver, PointFirst, StandBeside}

-- ---- a row over one

stand_behind : (hi : ℕ) (xs ys : List Item) → Stand hi (xs ++ ys) → Stand hi ys
stand_behind hi [] ys s = s
stand_behind hi (x ∷ xs) ys s = stand_behind hi xs ys s.3

record Parted (hi end : ℕ) (items : List Item) (low : List CellSeen) : Type 0 where
  pub pointers : List Item
  pub behind : List Item
  pub are : items ≡ pointers ++ behind
  pub point : PointTo pointers low
  pub next : next_key hi behind ≡ end
  pub able : All (λ (c : CellSeen). IsPointable c.id) low

parted : (hi end : ℕ) (items : List Item) (low : List CellSeen) → Stand hi items → PointFirst hi end items low
    → Parted hi end items low
parted hi end items [] stand p = record {
  pointers = [];
  behind = items;
  are = refl;
  point = tt;
  next = p;
  able = All-nil (λ (c : CellSeen). IsPointable c.id);
}
parted hi end [] (c ∷ low) stand p = absurd p
parted hi end (x ∷ items) (c ∷ low) stand p =
    let r = parted hi end items low stand.3 p.1 in
    let named = accepted_pointer x p.0.plugin stand.0.body in
    record {
      pointers = x ∷ r.pointers;
      behind = r.behind;
      are = ap (λ xs. x ∷ xs) r.are;
      point = (p.0.plugin, p.0.to, p.0.key, r.point);
      next = r.next;
      able = All-cons (λ (d : CellSeen). IsPointable d.id) c low (
        (pointer_long x.body c.id p.0.to).1,
        ap (names_block true (2 ^ 64)) (sym p.0.to) ∙ named,
      ) r.able;
    }

pub stands_over : (l : ℕ) (low row : List CellSeen) (m : MayStandOver l low row)
    → ((c : CellSeen) → Contains row c → IsSound c) → (before from : List Item)
    → items_of_cells row ≡ before ++ from → PointFirst m.above.hi m.below.hi from low → StandsOver l low row
stands_over l low row m sound before from are point =
    let branch = m.branch in
    let stand = (cells_pointers (suc l) (omega (arith, branch)) l m.above.lo m.above.hi row refl m.above.along sound).stand in
    let r = parted m.above.hi m.below.hi from low
    (stand_behind m.above.hi before from (subst (Stand m.above.hi) are stand)) point in
    record {
      low = m.branch;
      from = m.above.lo;
      to = m.above.hi;
      some = m.above.some;
      along = m.above.along;
      begin = m.below.lo;
      end = m.below.hi;
      one = m.below.some;
      below = m.below.along;
      before = before;
      pointers = r.pointers;
      behind = r.behind;
      had = are ∙ ap (λ xs. before ++ xs) r.are;
      point = r.point;
      next = r.next;
      able = r.able;
    }

-- ---- rows up to one cell

pub one_cell : (cells : List CellSeen) (level : ℕ) (low : List CellSeen) → length low ≡ 1 → StandBeside level low
    → AreRowsOver cells level low []
one_cell cells level [] one b = absurd (omega (arith, one))
one_cell cells level (c ∷ []) one b = record {
  up = record {
    cell = c;
    one = refl;
    level = b.along.0;
    some = let lo = b.along.1 in let less = b.along.2 in omega (arith, lo, less);
    top = λ none. absurd (omega (arith, none));
  };
  among = λ row at. absurd (none row at);
}
one_cell cells level (c ∷ (d ∷ low)) one b = absurd (omega (arith, one))

pub one_more_above : (cells : List CellSeen) (level : ℕ) (low row : List CellSeen) (rows : List (List CellSeen))
    → IsRowAbove cells level low row → AreRowsOver cells (suc level) row rows → AreRowsOver cells level low (row ∷ rows)
one_more_above cells level low row rows is over = record {
  up = (is.over, over.up);
  among = λ r at. elim (cases row r rows at) [
    | inl same ↦ subst (λ (xs : List CellSeen). (c : CellSeen) → Contains xs c → Contains cells c) (sym same) is.among
    | inr more ↦ over.among r more
  ];
}
