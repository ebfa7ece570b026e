-- Group A, the history: the trace has one entry more, which is legal, since the atom is open, its transactions have
-- ended and nothing is under way; the tables tell it, and the names of cells are no part of what they tell. The atom
-- is not committed, and its journal header is not written. There is room for the entries to come.
use Rattle.std.proofs.Common.{◌≡◌, ℕ, Bool, true, false, List, ◌∷◌, Option, Some, None, refl, sym, ◌∙◌, ap}
use Rattle.std.proofs.Common.{subst, arith, true≢false}
use Rattle.std.specs.Prelude.{nat_le}
use Rattle.std.specs.Option.{option_map}
use Rattle.r4_atoms.specs.Atoms.{is_committed}
use Rattle.r4_base.specs.declared.things.AtomNo.{AtomNo}
use Rattle.r4_accounting.specs.r4_cell.Seen.{CellSeen}
use Rattle.r4_content.specs.Locality.{commands}
use Rattle.r4_content.specs.Meaning.{greatest_size}
use Rattle.r4_accounting.specs.r4_durable.Meaning.{Beginning, BeginsWith, start_of}
use Rattle.r4_renaming.specs.r4_flush.declared.preparing.Prepared.{Prepared}
use Rattle.r4_accounting.specs.r4_history.Tables.{Tables, with_sealed}
use Rattle.r4_accounting.specs.r4_history.Told.{IsTold}
use Rattle.r4_accounting.proofs.r4_history.AtomSteps.{committed_sealed}
use Rattle.r4_accounting.proofs.r4_history.DrawnSteps.{drawn_entry}
use Rattle.r4_accounting.proofs.r4_history.RunSteps.{told_owners}
use Rattle.r4_accounting.proofs.r4_history.Told.{told_sealed}
use Rattle.r4_outside.specs.Device.{State}
use Rattle.r4_trace.specs.Order.{IsOrdered}
use Rattle.r4_trace.specs.declared.entry.Entry.{Entry}
use Rattle.r4_trace.specs.declared.entry.Entry.TheVariants.{Sealed}
use Rattle.r4_renaming.specs.r4_turns.Turns.{TurnsSeen}
use Rattle.r4_accounting.specs.r4_kept.History.{IsHistory, is_headed}
use Rattle.r4_accounting.specs.r4_kept.Naming.{Naming, names_in}
use Rattle.r4_accounting.specs.r4_kept.Steps.{with_entry}
use Rattle.r4_accounting.specs.r4_kept.View.{CoreSeen, committing, tables_of}
use Rattle.r4_accounting.specs.r4_kept.declared.parts.Commit.{Commit}
use Rattle.r4_accounting.proofs.r4_kept.Owing.{owes_two}
use Rattle.r4_renaming.specs.Renaming.{name_then, turns_with_pins}
use Rattle.r4_flushing.proofs.Facts.{Sealing}
use Rattle.r4_flushing.proofs.Pins.{drawn_then, owed_then, told_then}
use Rattle.r4_flushing.proofs.SealedAtoms.{committed_then}

module _ {D : Type 0} (r : Naming) (d : State) (c new : CoreSeen D) (a : AtomNo) (given : List CellSeen) (p : Prepared)
    (z : Sealing r d c new a given p) where
  abbrev h : IsHistory r d c
  h = z.kept.history

  abbrev f : ℕ → ℕ
  f = name_then p.renamed.items

  abbrev turns : TurnsSeen
  turns = turns_with_pins f c.turns

  abbrev trace : List Entry
  trace = Sealed a ∷ c.trace.entries

  abbrev commit : Commit
  commit = record { atom = a; nodes = z.has.nodes; work = Some p.plan }

  abbrev now : Tables
  now = record { turns = turns; atoms = new.atoms; commit = Some a.0; broken = c.broken }

  told_now : (o : Option Beginning) → BeginsWith (names_in r) d.blocks o
      → IsTold (commands greatest_size) (option_map start_of o) d.clock now trace
  told_now o named =
      let sealed =
      told_sealed (commands greatest_size) (option_map start_of o) d.clock (tables_of c) c.trace.entries
      (h.told o named) a z.can.sound (ap committing z.can.rest) z.can.opened z.can.closed in
      let owned =
      told_owners (commands greatest_size) (option_map start_of o) d.clock
      (record (tables_of c) { atoms = with_sealed c.atoms a.0; commit = Some a.0 }) trace sealed new.atoms z.has.txns
      z.has.states in
      told_then f (record (tables_of c) { atoms = new.atoms; commit = Some a.0 }) (commands greatest_size)
      (option_map start_of o) d.clock trace owned

  pub legal_now : IsOrdered trace
  legal_now = (told_now None tt).legal.order

  uncommitted : is_committed new.atoms a.0 ≡ false
  uncommitted =
      committed_then c.atoms new.atoms a.0 z.has.txns z.has.states (h.told None tt).atoms.states
      z.can.opened.atom.begun a.0
      ∙ not_yet (is_committed c.atoms a.0) refl
    where
      not_yet : (y : Bool) → is_committed c.atoms a.0 ≡ y → y ≡ false
      not_yet false is = refl
      not_yet true is =
          let told = (h.told None tt).atoms in
          let begun = z.can.opened.atom.begun in
          let was = (told.committed a.0 begun).0 is in
          let also =
          (told.sealed a.0 begun).1 (committed_sealed c.trace.entries a.0 (h.told None tt).legal.order was) in
          absurd (true≢false (sym also ∙ z.can.opened.unsealed))

  pub history_sealed : (after : CoreSeen D) → after ≡ record after {
    turns = turns;
    atoms = new.atoms;
    numbers = c.numbers;
    commit = Some commit;
    broken = c.broken;
    trace = with_entry c.trace (Sealed a);
  } → IsHistory r d after
  history_sealed after same = subst (IsHistory r d) (sym same) (record {
    told = told_now;
    job = h.job;
    first = h.first;
    drawn =
        drawn_then f c.turns h.first c.numbers.next_oid trace
        (drawn_entry h.first c.turns c.numbers.next_oid c.trace.entries h.drawn (Sealed a) tt);
    begins = h.begins;
    committed = λ other at.
        (let one : commit ≡ other = cc at in
        subst (λ (k : Commit). is_committed new.atoms k.atom.0 ≡ is_headed k.work) one
        (uncommitted ∙ sym (ap (nat_le 2) z.has.prepared.planned.part)));
    room =
        let first = z.has.prepared.planned.part in
        let two = owes_two p.plan (omega (arith, first)) in
        let same = owed_then f c.turns in
        let enough = z.can.entries in
        omega (arith, two, same, enough);
  })
