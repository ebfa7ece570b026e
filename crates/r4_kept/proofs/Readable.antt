-- What is kept of the cells in memory is what a step of reading asks for.
use Rattle.std.proofs.Common.{◌≡◌, ◌⊎◌, inl, inr, ⊎_elim, ℕ, ◌<◌, Bool, true, false, ◌||◌, Option, Some, None}
use Rattle.std.proofs.Common.{refl, sym, ap, subst, ◌∙◌}
use Rattle.std.specs.Prelude.{IsSome}
use Rattle.std.specs.Option.{option_map}
use Rattle.std.proofs.lemmas.Bool.{cond-true, or_left}
use Rattle.r4_buffer.specs.Reading.{IsReadable, captured_in}
use Rattle.r4_buffer.specs.Seen.{BufferSeen, EntrySeen, buffered, cell_at, is_above_dirty, is_captured, is_captured_by}
use Rattle.r4_buffer.specs.Seen.{is_dirty_by}
use Rattle.r4_history.specs.r4_cell.Seen.{CellSeen}
use Rattle.r4_outside.specs.Device.{State}
use Rattle.r4_kept.specs.Cells.{AreCells, AreReadable}
use Rattle.r4_kept.specs.View.{CoreSeen, blocks_of}

first_false : (x y : Bool) → (x || y) ≡ false → x ≡ false
first_false false y h = refl
first_false true y h = h

-- one that is not captured is not dirty
pub not_dirty : (b : BufferSeen) (i : ℕ) (e : EntrySeen) → buffered b i ≡ Some e → is_captured b i ≡ false
    → e.dirty ≡ false
not_dirty b i e at not =
    first_false e.dirty (is_above_dirty b e.cell) (sym (ap (λ (o : Option EntrySeen). is_captured_by b o) at) ∙ not)

pub readable : (d : State) (b : BufferSeen) (blocks : ℕ) → AreReadable d b blocks → IsReadable d b blocks
readable d b blocks h = record {
  accepted = λ i e at not. h.accepted i e at (not_dirty b i e at not);
  same = λ tells i e at not. h.same tells i e at (not_dirty b i e at not);
  names = h.names;
}

-- one that is dirty is captured
pub captured_dirty : (b : BufferSeen) (i : ℕ) → is_dirty_by (buffered b i) ≡ true → is_captured b i ≡ true
captured_dirty b i dirty = by (buffered b i) dirty
  where
    by : (o : Option EntrySeen) → is_dirty_by o ≡ true → is_captured_by b o ≡ true
    by None h = absurd (cc h)
    by (Some e) h = or_left e.dirty (is_above_dirty b e.cell) h

-- the root can be read: it is captured, or has a block
pub root_there : {D : Type 0} (d : State) (c : CoreSeen D) → AreCells d c
    → IsSome (captured_in c.buffer c.tree.id.0) ⊎ (c.tree.id.0 < blocks_of c)
root_there d c h =
    ⊎_elim (λ low. inr low.0)
    (λ high.
    (let dirty = h.root_stands high.0 in
    inl (subst IsSome (sym (cond-true (is_captured c.buffer c.tree.id.0) (cell_at c.buffer c.tree.id.0) None
    (captured_dirty c.buffer c.tree.id.0 dirty))) (some_cell (buffered c.buffer c.tree.id.0) dirty)))) h.root
  where
    some_cell : (o : Option EntrySeen) → is_dirty_by o ≡ true
        → IsSome {T = CellSeen} (option_map (λ (e : EntrySeen). e.cell) o)
    some_cell None h = absurd (cc h)
    some_cell (Some e) h = refl
