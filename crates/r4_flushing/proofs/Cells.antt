-- Group D, the cells in memory.
--     names    each cell has a name that a cell may have, before and then; the number of a new cell is named as before,
--              by the same cells, since what the atom's cells name are blocks then
--     given    what tasks were given is none of the atom's, and stays where it stood
--     dirty    the atom's cells stay dirty, and the atom owns their new names
--     clean    a cell that is captured stays so, and what it names is a block or captured still
--     commit   the plan may be written (r4_flushing/proofs/Writing.antt)
use Rattle.std.proofs.Common.{◌≡◌, ◌⊎◌, inl, inr, ⊎_elim, ℕ, ◌^◌, ◌≤◌, ◌++◌, true, false, List}
use Rattle.std.proofs.Common.{Option, Some, None, refl, sym, ◌∙◌, ap, subst, arith}
use Rattle.std.specs.Prelude.{◌↔◌, Contains, IsSome}
use Rattle.std.specs.Option.{option_map}
use Rattle.std.proofs.lemmas.Bool.{cases_Bool, cases_eq}
use Rattle.r4_atoms.specs.Atoms.{numbers, owner_of}
use Rattle.r4_base.proofs.Choices.{never_both}
use Rattle.r4_base.specs.Tree.{Name}
use Rattle.r4_base.specs.declared.things.AtomNo.{AtomNo}
use Rattle.r4_renaming.specs.r4_buffer.Changed.{Standing, has_name}
use Rattle.r4_renaming.specs.r4_buffer.Seen.{EntrySeen, buffered, is_dirty_by}
use Rattle.r4_accounting.specs.r4_cell.Seen.{CellSeen, node_of}
use Rattle.r4_renaming.specs.r4_flush.Prepared.{cells_of}
use Rattle.r4_renaming.specs.r4_flush.declared.cells.RenamedCell.{RenamedCell}
use Rattle.r4_renaming.specs.r4_flush.declared.preparing.Prepared.{Prepared}
use Rattle.r4_renaming.proofs.r4_flush.Choosing.{same_count}
use Rattle.r4_renaming.proofs.r4_flushed.FlushedCells.{FitsOnDisk}
use Rattle.r4_accounting.specs.r4_history.Held.{IsOut}
use Rattle.r4_outside.specs.Device.{State}
use Rattle.r4_space.specs.Space.{Space, sealed_in}
use Rattle.r4_renaming.specs.r4_turns.Turns.{TurnsSeen}
use Rattle.r4_renaming.specs.r4_turns.declared.out.Out.{Out}
use Rattle.r4_accounting.specs.r4_kept.Cells.{AreCells, AreNamedOnce, HasNames, IsName, IsStillThere, NamesAt}
use Rattle.r4_accounting.specs.r4_kept.Naming.{Naming}
use Rattle.r4_accounting.specs.r4_kept.View.{CoreSeen, blocks_of}
use Rattle.r4_accounting.specs.r4_kept.declared.parts.Commit.{Commit}
use Rattle.r4_renaming.specs.Renaming.{name_then, turns_with_pins, was_named}
use Rattle.r4_flushing.specs.Sealing.{root_renamed}
use Rattle.r4_flushing.proofs.Accepted.{has_names, names_blocks}
use Rattle.r4_flushing.proofs.Facts as facts
use Rattle.r4_flushing.proofs.Facts.{IsSame, Sealing}
use Rattle.r4_flushing.proofs.Pins.{out_before}
use Rattle.r4_flushing.proofs.Reading.{readable_sealed, stays_or_given}
use Rattle.r4_flushing.proofs.SealedAtoms.{owner_before, owner_mine, owner_named, owner_other}
use Rattle.r4_flushing.proofs.TasksApart.{reach_stays}
use Rattle.r4_flushing.proofs.Writing.{writes}

module _ {D : Type 0} (r : Naming) (d : State) (c new : CoreSeen D) (a : AtomNo) (given : List CellSeen) (p : Prepared)
    (z : Sealing r d c new a given p) (disk : FitsOnDisk) where
  abbrev g : AreCells d c
  g = z.kept.cells

  abbrev rs : List RenamedCell
  rs = p.renamed.items

  abbrev blocks : ℕ
  blocks = blocks_of c

  abbrev next : ℕ
  next = c.numbers.next_name

  abbrev turns : TurnsSeen
  turns = turns_with_pins (name_then rs) c.turns

  abbrev root : ℕ
  root = name_then rs c.tree.id.0

  -- ---- the root

  root_cases : ((y : CellSeen) × Contains given y × (y.id ≡ c.tree.id.0) × (root ≡ facts.f r d c new a given p z y.id))
      ⊎ ((was_named rs c.tree.id.0 ≡ false) × (root ≡ c.tree.id.0))
  root_cases = elim (cases_Bool (was_named rs c.tree.id.0)) [
    | inl hit ↦
        (let (y, has, same) = facts.was_given r d c new a given p z c.tree.id.0 hit in
        inl (y, has, same, ap (name_then rs) (sym same) ∙ facts.name_given r d c new a given p z y has))
    | inr miss ↦ inr (miss, facts.name_other r d c new a given p z c.tree.id.0 miss)
  ]

  root_name : IsName blocks next root
  root_name = ⊎_elim
      (λ mine.
      let (y, has, same, at) = mine in
      subst (IsName blocks next) (sym at) (inl (facts.new_block r d c new a given p z y has)))
      (λ other. subst (IsName blocks next) (sym other.1) g.root) root_cases

  -- the root is one without a block only where it was, and stays where it stood
  root_high : 2 ^ 63 ≤ root → (root ≡ c.tree.id.0) × (was_named rs c.tree.id.0 ≡ false)
  root_high high = ⊎_elim
      (λ mine.
      let (y, has, same, at) = mine in
      let low = facts.new_low r d c new a given p z y has in
      absurd (omega (arith, high, low, at)))
      (λ other. (other.1, other.0)) root_cases

  root_stands_then : 2 ^ 63 ≤ root → is_dirty_by (buffered new.buffer root) ≡ true
  root_stands_then high =
      let (same, miss) = root_high high in
      ap (λ (i : ℕ). is_dirty_by (buffered new.buffer i)) same
      ∙ by miss (buffered c.buffer c.tree.id.0) refl (g.root_stands (subst (λ (i : ℕ). 2 ^ 63 ≤ i) same high))
    where
      by : was_named rs c.tree.id.0 ≡ false → (o : Standing) → buffered c.buffer c.tree.id.0 ≡ o
          → is_dirty_by o ≡ true → is_dirty_by (buffered new.buffer c.tree.id.0) ≡ true
      by miss None at e = absurd (cc e)
      by miss (Some e) at dirty = ⊎_elim
          (λ mine.
          absurd (never_both (was_named rs c.tree.id.0)
          (subst (λ (i : ℕ). was_named rs i ≡ true) mine.1 (facts.given_was r d c new a given p z e.cell mine.0)) miss))
          (λ stays. ap is_dirty_by stays.now ∙ dirty)
          (stays_or_given r d c new a given p z disk c.tree.id.0 e at)

  -- ---- names

  names_then : (i : ℕ) (e : EntrySeen) → buffered new.buffer i ≡ Some e → HasNames blocks next e.cell
  names_then i e at = ⊎_elim
      (λ h.
      subst (λ (w : EntrySeen). HasNames blocks next w.cell) (sym h.is)
      (has_names r d c new a given p z disk h.cell h.renamed h.among h.made))
      (λ same. g.buffered_names i e same.was)
      (facts.entry_cases r d c new a given p z i e at)

  reached_then : (s : ℕ) (out : Out) (y : CellSeen) → IsOut turns s out → Contains (out.reads ++ out.writes) y
      → HasNames blocks next y
  reached_then s out y is has =
      let (was, there, same) = out_before (name_then rs) c.turns s out is in
      g.reached_names s was y there (subst (λ (o : Out). Contains (o.reads ++ o.writes) y) same has)

  owned_then : (i : ℕ) → IsSome (owner_of new.atoms i) → IsName blocks next i
  owned_then i some = by (owner_of new.atoms i) refl some
    where
      by : (o : Option ℕ) → owner_of new.atoms i ≡ o → IsSome o → IsName blocks next i
      by None at e = absurd (cc e)
      by (Some n) at e = elim (cases_eq n a.0) [
        | inl mine ↦
            ⊎_elim
            (λ hit.
            let (y, has, named) = facts.named_given r d c new a given p z i hit in
            subst (IsName blocks next) named (inl (facts.new_block r d c new a given p z y has)))
            (λ old. g.owned_names i (subst IsSome (sym old.1) refl))
            (owner_mine a.0 rs i (owner_of c.atoms i)
            (sym (z.has.owners i) ∙ at ∙ ap (λ (j : ℕ). Some j) mine))
        | inr other ↦
            g.owned_names i
            (subst IsSome (sym (owner_before a.0 rs i (owner_of c.atoms i) n other (sym (z.has.owners i) ∙ at)).0) refl)
      ]

  -- the number of a new cell is named then by a cell that stays
  pub named_before : (i : ℕ) (n : Name) → NamesAt new.buffer i n → 2 ^ 63 ≤ n.id → NamesAt c.buffer i n
  named_before i n h high = ⊎_elim
      (λ q.
      let few : blocks ≤ 1048576 = g.super40.blocks.1 in
      let low =
      (names_blocks r d c new a given p z disk q.cell q.renamed q.among q.made n
      (subst (λ (w : EntrySeen). Contains (node_of w.cell).names n) q.is h.among)).0 in
      absurd (omega (arith, high, few, low)))
      (λ same. record { entry = h.entry; is = same.was; among = h.among })
      (facts.entry_cases r d c new a given p z i h.entry h.is)

  named_then : AreNamedOnce new.buffer root
  named_then = record {
    once = λ i j n m one two same high.
        g.named.once i j n m (named_before i n one high)
        (named_before j m two (subst (λ (k : ℕ). 2 ^ 63 ≤ k) same high)) same high;
    not_root = λ i n one same high.
        (let (at, miss) = root_high high in
        g.named.not_root i n (named_before i n one (subst (λ (k : ℕ). 2 ^ 63 ≤ k) (sym same) high)) (same ∙ at)
        (subst (λ (k : ℕ). 2 ^ 63 ≤ k) at high));
  }

  -- ---- what tasks were given

  still_then : c.broken ≡ None → (s : ℕ) (out : Out) (y : CellSeen) → IsOut turns s out
      → Contains (out.reads ++ out.writes) y → IsStillThere new.buffer blocks y
  still_then sound s out y is has =
      let (was, there, same) = out_before (name_then rs) c.turns s out is in
      let has_was = subst (λ (o : Out). Contains (o.reads ++ o.writes) y) same has in
      let stays = reach_stays r d c new a given p z s was there y has_was in
      let old = g.given_cells sound s was y there has_was in
      record {
        dirty = λ e.
            ap (option_map (λ (w : EntrySeen). w.cell)) stays ∙ old.dirty (ap is_dirty_by (sym stays) ∙ e);
        clean = λ e. old.clean (ap is_dirty_by (sym stays) ∙ e);
      }

  -- ---- owners and marks

  pub same_owner : (i : ℕ) (e : EntrySeen) → IsSame r d c new a given p z i e
      → owner_of new.atoms i ≡ owner_of c.atoms i
  same_owner i e same =
      z.has.owners i ∙ owner_other a.0 rs i (owner_of c.atoms i) same.not_new (λ own.
      (let (in_given, named) = facts.is_given r d c new a given p z i e same.was own in
      never_both (was_named rs i)
      (subst (λ (n : ℕ). was_named rs n ≡ true) named (facts.given_was r d c new a given p z e.cell in_given))
      same.not_old))

  dirty_then : (i : ℕ) (e : EntrySeen) → buffered new.buffer i ≡ Some e
      → (e.dirty ≡ true) ↔ IsSome (owner_of new.atoms i)
  dirty_then i e at = ⊎_elim
      (λ h. (
        λ is.
            subst IsSome (sym (z.has.owners i ∙ owner_named a.0 rs i (owner_of c.atoms i)
            (subst (λ (n : ℕ). has_name (cells_of rs) n ≡ true) h.named
            (facts.given_named r d c new a given p z h.cell h.among)))) refl,
        λ some.
            ap (λ (w : EntrySeen). w.dirty) h.is
            ∙ facts.dirty_of r d c new a given p z h.cell h.entry h.among h.was,
      ))
      (λ same. (
        λ is. subst IsSome (sym (same_owner i e same)) ((g.dirty i e same.was).0 is),
        λ some. (g.dirty i e same.was).1 (subst IsSome (same_owner i e same) some),
      ))
      (facts.entry_cases r d c new a given p z i e at)

  fresh_then : (i : ℕ) (e : EntrySeen) → buffered new.buffer i ≡ Some e → 2 ^ 63 ≤ i → e.dirty ≡ true
  fresh_then i e at high = ⊎_elim
      (λ h.
      ap (λ (w : EntrySeen). w.dirty) h.is ∙ facts.dirty_of r d c new a given p z h.cell h.entry h.among h.was)
      (λ same. g.fresh i e same.was high)
      (facts.entry_cases r d c new a given p z i e at)

  abbrev commit : Commit
  commit = record { atom = a; nodes = z.has.nodes; work = Some p.plan }

  pub cells_sealed : (after : CoreSeen D) → after ≡ record after {
    turns = turns;
    atoms = new.atoms;
    buffer = new.buffer;
    space = sealed_in p.space a;
    tree = root_renamed (name_then rs) c.tree;
    numbers = c.numbers;
    volume = c.volume;
    broken = c.broken;
    commit = Some commit;
  } → AreCells d after
  cells_sealed after same = subst (AreCells d) (sym same) (record {
    super40 = g.super40;
    space =
        ap (λ (s : Space). s.block_count) z.has.prepared.planned.held ∙ same_count c.space z.has.prepared.answers
        ∙ g.space;
    root = root_name;
    height = g.height;
    root_stands = root_stands_then;
    buffered_names = names_then;
    reached_names = reached_then;
    owned_names = owned_then;
    named = named_then;
    given_cells = still_then;
    dirty = dirty_then;
    fresh = fresh_then;
    clean = λ sound. readable_sealed r d c new a given p z disk;
    nodes = λ other at.
        (let one : commit ≡ other = cc at in
        subst (λ (k : Commit). (i : ℕ) → Contains (numbers k.nodes) i ↔ (owner_of new.atoms i ≡ Some k.atom.0)) one
        z.has.owned);
    commit = writes r d c new a given p z disk;
  })
