-- A cell of the atom under its new name is a cell on disk.
use Rattle.std.proofs.Common.{◌≡◌, ⊎_elim, inl, ℕ, ◌^◌, ◌<◌, ◌≤◌, true, false, List, Option}
use Rattle.std.proofs.Common.{Some, None, refl, sym, ◌∙◌, ap, subst, arith}
use Rattle.std.specs.Prelude.{Contains, IsSome, nat_lt}
use Rattle.std.specs.Arc.{arc_value}
use Rattle.std.proofs.lemmas.Bool.{ltb-true, or_cases}
use Rattle.r4_base.specs.Bitmap.{is_fixed}
use Rattle.r4_base.specs.Cell.{cell_fault}
use Rattle.r4_base.specs.Key.{rank}
use Rattle.r4_base.specs.Tree.{Name}
use Rattle.r4_base.specs.declared.things.AtomNo.{AtomNo}
use Rattle.r4_renaming.specs.r4_buffer.Seen.{EntrySeen, buffered, is_captured, is_captured_by, is_dirty_by}
use Rattle.r4_accounting.specs.r4_cell.Seen.{CellSeen, node_of}
use Rattle.r4_renaming.proofs.r4_flushed.FlushedCells.{FitsOnDisk}
use Rattle.r4_renaming.specs.r4_flush.Anew.{BecomeBlocks}
use Rattle.r4_renaming.specs.r4_flush.Prepared.{IsPrepared, WasCell}
use Rattle.r4_renaming.specs.r4_flush.declared.cells.RenamedCell.{RenamedCell}
use Rattle.r4_renaming.specs.r4_flush.declared.preparing.Prepared.{Prepared}
use Rattle.r4_renaming.proofs.r4_flush.Choosing.{names_become}
use Rattle.r4_renaming.proofs.r4_flush.Faults.{block_stands}
use Rattle.r4_renaming.proofs.r4_flush.Joining.{cell_agrees}
use Rattle.r4_outside.specs.Device.{State}
use Rattle.r4_accounting.proofs.r4_cell.Faults.{cell_still}
use Rattle.r4_renaming.specs.r4_sets.Renaming.{IsRenamed}
use Rattle.r4_accounting.specs.r4_kept.Cells.{HasNames, IsAccepted, IsName}
use Rattle.r4_accounting.specs.r4_kept.Naming.{Naming}
use Rattle.r4_accounting.specs.r4_kept.View.{CoreSeen, blocks_of}
use Rattle.r4_accounting.proofs.r4_kept.Readable.{captured_dirty}
use Rattle.r4_flushing.specs.Sealing.{super_to_come}
use Rattle.r4_flushing.proofs.Facts as facts
use Rattle.r4_flushing.proofs.Facts.{Sealing}

module _ {D : Type 0} (r : Naming) (d : State) (c new : CoreSeen D) (a : AtomNo) (given : List CellSeen) (p : Prepared)
    (z : Sealing r d c new a given p) where
  abbrev f : ℕ → ℕ
  f = facts.f r d c new a given p z

  abbrev x : IsPrepared given a (super_to_come c a.0) c.volume.prev c.space p
  x = facts.x r d c new a given p z

  pub become : BecomeBlocks f
  become = names_become c.space z.sealable.space 22 x.cells x.answers x.chosen

  -- an entry that is captured is there
  there : (i : ℕ) → is_captured c.buffer i ≡ true → (e : EntrySeen) × (buffered c.buffer i ≡ Some e)
  there i hit = by (buffered c.buffer i) refl hit
    where
      by : (o : Option EntrySeen) → buffered c.buffer i ≡ o → is_captured_by c.buffer o ≡ true
          → (e : EntrySeen) × (buffered c.buffer i ≡ Some e)
      by None at is = absurd (cc is)
      by (Some e) at is = (e, at)

  -- a new cell that a cell of the atom names is the atom's
  pub named_own : (y : CellSeen) (n : Name) → Contains given y → Contains (node_of y).names n → 2 ^ 63 ≤ n.id
      → (w : CellSeen) × Contains given w × (w.id ≡ n.id)
  named_own y n has among high =
      let (e, at, same) = facts.entry_of r d c new a given p z y has in
      let in_entry : Contains (node_of e.cell).names n =
      subst (λ (v : CellSeen). Contains (node_of v).names n) (sym same) among in
      let captured =
      captured_dirty c.buffer y.id
      (ap is_dirty_by at ∙ facts.dirty_of r d c new a given p z y e has at) in
      let stands = (z.kept.cells.clean z.can.sound).names y.id e at captured n in_entry in
      let few : blocks_of c ≤ 1048576 = z.kept.cells.super40.blocks.1 in
      let (g, there_g) = ⊎_elim
      (λ low. (let lt = ltb-true n.id (blocks_of c) low in absurd (omega (arith, lt, high, few))))
      (λ hit. there n.id hit) (or_cases (nat_lt n.id (blocks_of c)) (is_captured c.buffer n.id) stands) in
      let own =
      (z.sealable.named y.id n (record { entry = e; is = at; among = in_entry }) high
      (subst IsSome (sym there_g) refl)).0
      (facts.owned r d c new a given p z y has) in
      let (in_given, named) = facts.is_given r d c new a given p z n.id g there_g own in
      (g.cell, in_given, named)

  module _ (disk : FitsOnDisk) (y : CellSeen) (q : RenamedCell) (has : Contains given y) (made : WasCell f y q) where
    abbrev v : CellSeen
    v = arc_value q.cell

    pub is_renamed : IsRenamed f (node_of y) (node_of v)
    is_renamed = cell_agrees f f become y v (z.sealable.may y has) (λ n among. refl) made.cell

    -- what it names is a block of the volume that is not fixed
    pub names_blocks : (m : Name) → Contains (node_of v).names m
        → (m.id < blocks_of c) × (is_fixed (blocks_of c) m.id ≡ false)
    names_blocks m among =
        let (n, there, is) = is_renamed.names_from m among in
        let (e, at, same) = facts.entry_of r d c new a given p z y has in
        let name =
        (z.kept.cells.buffered_names y.id e at).named n
        (subst (λ (w : CellSeen). Contains (node_of w).names n) (sym same) there) in
        let id : m.id ≡ f n.id = ap (λ (u : Name). u.id) is in
        ⊎_elim
        (λ block.
        let few : blocks_of c ≤ 1048576 = z.kept.cells.super40.blocks.1 in
        let within = block.0 in
        let stays : f n.id ≡ n.id =
        facts.old_stays r d c new a given p z n.id (omega (arith, within, few)) in
        subst (λ (i : ℕ). (i < blocks_of c) × (is_fixed (blocks_of c) i ≡ false)) (sym (id ∙ stays)) block)
        (λ fresh.
        let (w, in_given, named) = named_own y n has there fresh.0 in
        subst (λ (i : ℕ). (i < blocks_of c) × (is_fixed (blocks_of c) i ≡ false)) (ap f named ∙ sym id)
        (facts.new_block r d c new a given p z w in_given))
        name

    stands : cell_fault true (2 ^ 64) v.level (rank v.lo) (rank v.hi) v.block ≡ None
    stands =
        (λ i. cell_fault true (2 ^ 64) (made.cell.level i) (rank (made.cell.lo i)) (rank (made.cell.hi i)) v.block)
        ∙ block_stands f become y.level (rank y.lo) (rank y.hi) y.block v.block made.cell.bytes made.cell.block
        (λ some sound. (made.cell.block some).node ∙ sound)
        (cell_still true (2 ^ 63) (2 ^ 64) y.level (rank y.lo) (rank y.hi) y.block (omega arith) (z.sealable.may y has))

    pub accepted : IsAccepted (blocks_of c) v
    accepted = disk (blocks_of c) v.level (rank v.lo) (rank v.hi) v.block stands names_blocks

    pub has_names : HasNames (blocks_of c) c.numbers.next_name v
    has_names = record {
      own = subst (IsName (blocks_of c) c.numbers.next_name) (sym made.cell.id)
          (inl (facts.new_block r d c new a given p z y has));
      named = λ m among. inl (names_blocks m among);
    }
