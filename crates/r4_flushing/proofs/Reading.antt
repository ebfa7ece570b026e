-- What can be read once the atom's cells have their new names.
use Rattle.std.proofs.Common.{◌≡◌, ◌⊎◌, inl, inr, ⊎_elim, ℕ, ◌^◌, ◌&&◌, true, List}
use Rattle.std.proofs.Common.{Option, Some, None, refl, sym, ◌∙◌, ap, subst}
use Rattle.std.specs.Prelude.{Contains, IsSome, nat_le, nat_lt}
use Rattle.std.specs.Arc.{arc_value}
use Rattle.std.proofs.lemmas.Bool.{cases_Bool, cases_eq, cases_lt, lt-ltb, or_cases, or_left, or_right}
use Rattle.r4_atoms.specs.Atoms.{owner_of}
use Rattle.r4_base.proofs.Choices.{never_both}
use Rattle.r4_base.specs.Key.{rank}
use Rattle.r4_base.specs.declared.things.AtomNo.{AtomNo}
use Rattle.r4_renaming.specs.r4_buffer.Reading.{NamesStand}
use Rattle.r4_renaming.specs.r4_buffer.Seen.{EntrySeen, IsAncestor, buffered, is_above, is_captured, is_dirty_by}
use Rattle.r4_renaming.proofs.r4_buffer.Captured.{captured_is, is_captured_from}
use Rattle.r4_accounting.specs.r4_cell.Seen.{CellSeen, node_of}
use Rattle.r4_renaming.proofs.r4_flushed.FlushedCells.{FitsOnDisk}
use Rattle.r4_renaming.specs.r4_flush.declared.cells.RenamedCell.{RenamedCell}
use Rattle.r4_renaming.specs.r4_flush.declared.preparing.Prepared.{Prepared}
use Rattle.r4_outside.specs.Device.{State}
use Rattle.r4_accounting.specs.r4_kept.Cells.{AreReadable}
use Rattle.r4_accounting.specs.r4_kept.Naming.{Naming}
use Rattle.r4_accounting.specs.r4_kept.View.{CoreSeen, blocks_of}
use Rattle.r4_accounting.proofs.r4_kept.Readable.{captured_dirty}
use Rattle.r4_renaming.specs.Renaming.{was_named}
use Rattle.r4_flushing.proofs.Accepted.{names_blocks}
use Rattle.r4_flushing.proofs.Facts as facts
use Rattle.r4_flushing.proofs.Facts.{IsRenamed, IsSame, Sealing}

-- an ancestor of a cell is one of each cell with its level and its least key
above_alike : (x y v : CellSeen) → v.level ≡ y.level → v.lo ≡ y.lo → is_above x v ≡ is_above x y
above_alike x y v level lo = λ i.
    nat_lt (level i) x.level && (nat_le (rank x.lo) (rank (lo i)) && nat_lt (rank (lo i)) (rank x.hi))

some_owner : (o : Option ℕ) → IsSome o → (n : ℕ) × (o ≡ Some n)
some_owner None h = absurd (cc h)
some_owner (Some n) h = (n, refl)

module _ {D : Type 0} (r : Naming) (d : State) (c new : CoreSeen D) (a : AtomNo) (given : List CellSeen) (p : Prepared)
    (z : Sealing r d c new a given p) (disk : FitsOnDisk) where
  abbrev f : ℕ → ℕ
  f = facts.f r d c new a given p z

  abbrev rs : List RenamedCell
  rs = p.renamed.items

  -- each entry of the old cells in memory is a cell of the atom, or stays
  pub record StaysThere (i : ℕ) (e : EntrySeen) : Type 0 where
    pub now : buffered new.buffer i ≡ Some e
    pub same : IsSame r d c new a given p z i e

  pub stays_or_given : (i : ℕ) (e : EntrySeen) → buffered c.buffer i ≡ Some e
      → (Contains given e.cell × (e.cell.id ≡ i)) ⊎ StaysThere i e
  stays_or_given i e at = elim (cases_Bool e.dirty) [
    | inl dirty ↦
        (let (n, own) = some_owner (owner_of c.atoms i) ((z.kept.cells.dirty i e at).0 dirty) in
        elim (cases_eq n a.0) [
          | inl mine ↦ inl (facts.is_given r d c new a given p z i e at (own ∙ ap (λ (j : ℕ). Some j) mine))
          | inr other ↦ inr (stays (λ is. other (cc (sym own ∙ is))))
        ])
    | inr clean ↦
        inr (stays
        (λ is. never_both e.dirty ((z.kept.cells.dirty i e at).1 (subst IsSome (sym is) refl)) clean))
  ]
    where
      stays : (owner_of c.atoms i ≡ Some a.0 → ⊥) → StaysThere i e
      stays not =
          let (miss, old) =
          facts.other_misses r d c new a given p z i not (λ clear. absurd (cc (sym clear.cell ∙ at))) in
          record {
            now = facts.same_there r d c new a given p z i miss old ∙ at;
            same = record { was = at; not_new = miss; not_old = old };
          }

  -- ---- which are captured

  ancestor_before : (x : CellSeen) → IsAncestor new.buffer x → IsAncestor c.buffer x
  ancestor_before x h =
      ⊎_elim
      (λ g. record {
        name = g.cell.id;
        entry = g.entry;
        is = g.was;
        dirty = facts.dirty_of r d c new a given p z g.cell g.entry g.among g.was;
        above =
            ap (is_above x) g.held
            ∙ sym (above_alike x g.cell (arc_value g.renamed.cell) g.made.cell.level g.made.cell.lo)
            ∙ ap (λ (e : EntrySeen). is_above x e.cell) (sym g.is) ∙ h.above;
      })
      (λ g. record { name = h.name; entry = h.entry; is = g.was; dirty = h.dirty; above = h.above })
      (facts.entry_cases r d c new a given p z h.name h.entry h.is)

  ancestor_then : (x : CellSeen) → IsAncestor c.buffer x → IsAncestor new.buffer x
  ancestor_then x h =
      ⊎_elim
      (λ mine.
      let (has, named) = mine in
      let at = ap (buffered c.buffer) named ∙ h.is in
      let (q, in_rs, made, now) = facts.renamed_there r d c new a given p z h.entry.cell h.entry has at in
      record {
        name = f h.entry.cell.id;
        entry = record h.entry { cell = arc_value q.cell };
        is = now;
        dirty = h.dirty;
        above = above_alike x h.entry.cell (arc_value q.cell) made.cell.level made.cell.lo ∙ h.above;
      })
      (λ g. record { name = h.name; entry = h.entry; is = g.now; dirty = h.dirty; above = h.above })
      (stays_or_given h.name h.entry h.is)

  captured_before : (i : ℕ) (e : EntrySeen) → IsSame r d c new a given p z i e → buffered new.buffer i ≡ Some e
      → is_captured new.buffer i ≡ true → is_captured c.buffer i ≡ true
  captured_before i e same now hit =
      let h = captured_is new.buffer z.sealable.after i hit in
      let cell : h.entry ≡ e = cc (sym h.is ∙ now) in
      is_captured_from c.buffer z.sealable.buffer i (record {
        entry = e;
        is = same.was;
        why = ⊎_elim (λ dirty. inl (ap (λ (g : EntrySeen). g.dirty) (sym cell) ∙ dirty))
            (λ above. inr (ancestor_before e.cell (subst (λ (g : EntrySeen). IsAncestor new.buffer g.cell) cell above)))
            h.why;
      })

  captured_then : (i : ℕ) → is_captured c.buffer i ≡ true → (e : EntrySeen) → buffered c.buffer i ≡ Some e
      → StaysThere i e → is_captured new.buffer i ≡ true
  captured_then i hit e at stays =
      let h = captured_is c.buffer z.sealable.buffer i hit in
      let cell : h.entry ≡ e = cc (sym h.is ∙ at) in
      is_captured_from new.buffer z.sealable.after i (record {
        entry = e;
        is = stays.now;
        why = ⊎_elim (λ dirty. inl (ap (λ (g : EntrySeen). g.dirty) (sym cell) ∙ dirty))
            (λ above. inr (ancestor_then e.cell (subst (λ (g : EntrySeen). IsAncestor c.buffer g.cell) cell above)))
            h.why;
      })

  -- ---- what captured ones name

  names_stay : (i : ℕ) (e : EntrySeen) → IsSame r d c new a given p z i e → is_captured c.buffer i ≡ true
      → NamesStand new.buffer (blocks_of c) e.cell
  names_stay i e same hit n among = ⊎_elim
      (λ low. or_left (nat_lt n.id (blocks_of c)) (is_captured new.buffer n.id) low)
      (λ captured. or_right (nat_lt n.id (blocks_of c)) (is_captured new.buffer n.id) (there captured))
      (or_cases (nat_lt n.id (blocks_of c)) (is_captured c.buffer n.id)
      ((z.kept.cells.clean z.can.sound).names i e same.was hit n among))
    where
      mine : (g : EntrySeen) → buffered c.buffer n.id ≡ Some g → Contains given g.cell → g.cell.id ≡ n.id
          → is_captured new.buffer n.id ≡ true
      mine g at has named = elim (cases_lt n.id (2 ^ 63)) [
        | inl low ↦
            (let (q, in_rs, made, now) =
            facts.renamed_there r d c new a given p z g.cell g has (ap (buffered c.buffer) named ∙ at) in
            let stays : f g.cell.id ≡ n.id =
            ap f named ∙ facts.old_stays r d c new a given p z n.id low in
            captured_dirty new.buffer n.id
            (ap is_dirty_by (ap (buffered new.buffer) (sym stays) ∙ now)
            ∙ facts.dirty_of r d c new a given p z g.cell g has (ap (buffered c.buffer) named ∙ at)))
        | inr high ↦
            -- then the cell that names it would be the atom's
            (let own =
            (z.sealable.named i n (record { entry = e; is = same.was; among = among }) high
            (subst IsSome (sym at) refl)).1
            (ap (owner_of c.atoms) (sym named) ∙ facts.owned r d c new a given p z g.cell has) in
            let (in_given, at_i) = facts.is_given r d c new a given p z i e same.was own in
            absurd (never_both (was_named rs i)
            (subst (λ (j : ℕ). was_named rs j ≡ true) at_i (facts.given_was r d c new a given p z e.cell in_given))
            same.not_old))
      ]

      there : is_captured c.buffer n.id ≡ true → is_captured new.buffer n.id ≡ true
      there captured =
          let h = captured_is c.buffer z.sealable.buffer n.id captured in
          ⊎_elim (λ own. mine h.entry h.is own.0 own.1) (λ stays. captured_then n.id captured h.entry h.is stays)
          (stays_or_given n.id h.entry h.is)

  -- ---- all

  not_dirty : (i : ℕ) (e : EntrySeen) → IsRenamed r d c new a given p z i e → e.dirty ≡ true
  not_dirty i e g =
      ap (λ (h : EntrySeen). h.dirty) g.is ∙ facts.dirty_of r d c new a given p z g.cell g.entry g.among g.was

  pub readable_sealed : AreReadable d new.buffer (blocks_of c)
  readable_sealed = record {
    accepted = λ i e at clean. ⊎_elim
        (λ g. absurd (never_both e.dirty (not_dirty i e g) clean))
        (λ g. k.accepted i e g.was clean)
        (facts.entry_cases r d c new a given p z i e at);
    same = λ tells i e at clean. ⊎_elim
        (λ g. absurd (never_both e.dirty (not_dirty i e g) clean))
        (λ g. k.same tells i e g.was clean)
        (facts.entry_cases r d c new a given p z i e at);
    names = λ i e at hit. ⊎_elim
        (λ g n among.
        or_left (nat_lt n.id (blocks_of c)) (is_captured new.buffer n.id)
        (lt-ltb n.id (blocks_of c)
        (names_blocks r d c new a given p z disk g.cell g.renamed g.among g.made n
        (subst (λ (h : EntrySeen). Contains (node_of h.cell).names n) g.is among)).0))
        (λ g. names_stay i e g (captured_before i e g at hit))
        (facts.entry_cases r d c new a given p z i e at);
  }
    where
      k : AreReadable d c.buffer (blocks_of c)
      k = z.kept.cells.clean z.can.sound
