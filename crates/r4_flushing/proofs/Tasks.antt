-- Group E, the tasks that are out.
--     uses      a cell is used as often under its new name, and kept as often or more often
--     numbers   those of next commands are none that a cell gets; and no cell names another one than before
--     given     what a task was given stays: where it reaches the root, that is none of the atom's cells
use Rattle.std.proofs.Common.{◌≡◌, inl, inr, ⊎_elim, ℕ, ◌^◌, ◌<◌, ◌≤◌, ◌++◌, List}
use Rattle.std.proofs.Common.{Some, None, refl, sym, ◌∙◌, ap, subst, arith}
use Rattle.std.specs.Prelude.{Contains}
use Rattle.std.proofs.lemmas.Bool.{cases_Bool}
use Rattle.r4_atoms.specs.Atoms.{owner_of, without_owner}
use Rattle.r4_base.specs.Tree.{Name}
use Rattle.r4_base.specs.declared.things.AtomNo.{AtomNo}
use Rattle.r4_renaming.specs.r4_buffer.Changed.{Standing, has_name, uses_of}
use Rattle.r4_renaming.specs.r4_buffer.Seen.{EntrySeen, buffered}
use Rattle.r4_accounting.specs.r4_cell.Seen.{CellSeen}
use Rattle.r4_accounting.specs.r4_cell.declared.change.Root.{Root}
use Rattle.r4_content.specs.Meaning.{with_id}
use Rattle.r4_content.specs.declared.command.Command.{Command}
use Rattle.r4_renaming.specs.r4_flush.Prepared.{cells_of}
use Rattle.r4_renaming.specs.r4_flush.declared.cells.RenamedCell.{RenamedCell}
use Rattle.r4_renaming.specs.r4_flush.declared.preparing.Prepared.{Prepared}
use Rattle.r4_renaming.proofs.r4_flushed.FlushedCells.{FitsOnDisk}
use Rattle.r4_accounting.specs.r4_history.Drawn.{numbers_of}
use Rattle.r4_accounting.specs.r4_history.Held.{IsOut}
use Rattle.r4_accounting.specs.r4_history.Tables.{next_at}
use Rattle.r4_outside.specs.Device.{State}
use Rattle.r4_renaming.specs.r4_turns.Turns.{IsScript, TurnsSeen, turn_at}
use Rattle.r4_renaming.specs.r4_turns.declared.out.Numbers.{Numbers}
use Rattle.r4_renaming.specs.r4_turns.declared.out.Out.{Out}
use Rattle.r4_accounting.specs.r4_kept.Cells.{NamesAt}
use Rattle.r4_accounting.specs.r4_kept.Naming.{Naming}
use Rattle.r4_accounting.specs.r4_kept.TasksOut.{AreOut, IsGiven, pins_on}
use Rattle.r4_accounting.specs.r4_kept.View.{CoreSeen}
use Rattle.r4_renaming.specs.Renaming.{name_then, turns_with_pins, was_named, with_pins}
use Rattle.r4_flushing.specs.Sealing.{root_renamed}
use Rattle.r4_flushing.proofs.Cells.{named_before}
use Rattle.r4_flushing.proofs.Facts as facts
use Rattle.r4_flushing.proofs.Facts.{Sealing}
use Rattle.r4_flushing.proofs.Pins.{next_then, numbers_then, out_before, pins_then, scripts_before}
use Rattle.r4_flushing.proofs.SealedAtoms.{owner_high}
use Rattle.r4_flushing.proofs.TasksApart.{reach_misses}

module _ {D : Type 0} (r : Naming) (d : State) (c new : CoreSeen D) (a : AtomNo) (given : List CellSeen) (p : Prepared)
    (z : Sealing r d c new a given p) (disk : FitsOnDisk) where
  abbrev g : AreOut c
  g = z.kept.tasks

  abbrev rs : List RenamedCell
  rs = p.renamed.items

  abbrev turns : TurnsSeen
  turns = turns_with_pins (name_then rs) c.turns

  numbers_before : (s : ℕ) (n : Numbers) → numbers_of (turn_at turns s) ≡ Some n
      → numbers_of (turn_at c.turns s) ≡ Some n
  numbers_before s n is = sym (numbers_then (name_then rs) c.turns s) ∙ is

  script_before : (s : ℕ) → IsScript turns s → IsScript c.turns s
  script_before s is = scripts_before (name_then rs) c.turns s is

  -- the numbers of a next command are no blocks
  high : (s : ℕ) (n : Numbers) → IsScript turns s → numbers_of (turn_at turns s) ≡ Some n → 2 ^ 63 ≤ n.fresh.next
  high s n has is = (g.drawn s n (script_before s has) (numbers_before s n is)).least

  -- ---- uses

  uses_then : (i : ℕ) → uses_of (buffered new.buffer i) ≤ pins_on turns.turns i
  uses_then i = by (buffered new.buffer i) refl
    where
      by : (o : Standing) → buffered new.buffer i ≡ o → uses_of o ≤ pins_on turns.turns i
      by None at = omega arith
      by (Some e) at = ⊎_elim
          (λ h.
          let same : e.uses ≡ h.entry.uses = ap (λ (w : EntrySeen). w.uses) h.is in
          let was = ap uses_of h.was in
          let le = g.uses h.cell.id in
          let more =
          pins_then (name_then rs) c.turns h.cell.id i
          (facts.name_given r d c new a given p z h.cell h.among ∙ h.named) in
          omega (arith, same, was, le, more))
          (λ same.
          let was = ap uses_of same.was in
          let le = g.uses i in
          let more =
          pins_then (name_then rs) c.turns i i (facts.name_other r d c new a given p z i same.not_old) in
          omega (arith, was, le, more))
          (facts.entry_cases r d c new a given p z i e at)

  -- ---- numbers

  unused_then : (s i : ℕ) (n : Numbers) (e : EntrySeen) → IsScript turns s → numbers_of (turn_at turns s) ≡ Some n
      → buffered new.buffer i ≡ Some e → n.fresh.next ≤ i → i < n.fresh.end → ⊥
  unused_then s i n e has is at from to = ⊎_elim
      (λ h.
      let least = high s n has is in
      let low = facts.new_low r d c new a given p z h.cell h.among in
      let same = h.named in
      absurd (omega (arith, least, low, same, from)))
      (λ same. g.unused s i n e (script_before s has) (numbers_before s n is) same.was from to)
      (facts.entry_cases r d c new a given p z i e at)

  unnamed_then : (s i : ℕ) (n : Numbers) (m : Name) → IsScript turns s → numbers_of (turn_at turns s) ≡ Some n
      → NamesAt new.buffer i m → n.fresh.next ≤ m.id → m.id < n.fresh.end → ⊥
  unnamed_then s i n m has is names from to =
      let least = high s n has is in
      g.unnamed s i n m (script_before s has) (numbers_before s n is)
      (named_before r d c new a given p z disk i m names (omega (arith, least, from))) from to

  unowned_then : (s i : ℕ) (n : Numbers) → IsScript turns s → numbers_of (turn_at turns s) ≡ Some n
      → n.fresh.next ≤ i → i < n.fresh.end → owner_of new.atoms i ≡ None
  unowned_then s i n has is from to =
      let least = high s n has is in
      let none = g.unowned s i n (script_before s has) (numbers_before s n is) from to in
      z.has.owners i
      ∙ owner_high a.0 rs i (owner_of c.atoms i) (elim (cases_Bool (has_name (cells_of rs) i)) [
        | inl hit ↦
            (let (y, in_given, named) = facts.named_given r d c new a given p z i hit in
            let low = facts.new_low r d c new a given p z y in_given in
            absurd (omega (arith, least, from, low, named)))
        | inr miss ↦ miss
      ]) (omega (arith, least, from))
      ∙ ap (without_owner a.0) none

  -- ---- what tasks were given

  given_then : (s : ℕ) (out : Out) (x : Command) → IsOut turns s out → next_at turns s ≡ Some x
      → IsGiven (root_renamed (name_then rs) c.tree) (with_id out.numbers.oid x) out
  given_then s out x is at =
      let (was, there, same) = out_before (name_then rs) c.turns s out is in
      subst (λ (o : Out). IsGiven (root_renamed (name_then rs) c.tree) (with_id o.numbers.oid x) o) (sym same)
      (kept s was x there (sym (next_then (name_then rs) c.turns s) ∙ at))
    where
      kept : (s : ℕ) (was : Out) (x : Command) → IsOut c.turns s was → next_at c.turns s ≡ Some x
          → IsGiven (root_renamed (name_then rs) c.tree) (with_id was.numbers.oid x) (with_pins (name_then rs) was)
      kept s was x there at =
          let h = g.given s was x there at in
          record {
            root = h.root;
            met = h.met;
            rises = h.rises;
            reach = h.reach;
            seen = h.seen;
            lawful = h.lawful;
            kind = h.kind;
            can = h.can;
            small = h.small;
            top = λ y has top.
                (let tree = h.top y has top in
                let (miss, old) = reach_misses r d c new a given p z s was there y has in
                let id : c.tree.id.0 ≡ y.id = ap (λ (q : Root). q.id.0) (sym tree) ∙ sym top in
                tree
                ∙ ap (λ (i : ℕ). record c.tree { id = record { 0 = i } })
                (sym (facts.name_other r d c new a given p z c.tree.id.0
                (ap (was_named rs) id ∙ old))));
            cells = h.cells;
            claims = h.claims;
          }

  pub tasks_sealed : (after : CoreSeen D) → after ≡ record after {
    turns = turns;
    atoms = new.atoms;
    buffer = new.buffer;
    tree = root_renamed (name_then rs) c.tree;
    numbers = c.numbers;
  } → AreOut after
  tasks_sealed after same = subst AreOut (sym same) (record {
    uses = uses_then;
    drawn = λ s n has is. g.drawn s n (script_before s has) (numbers_before s n is);
    apart = λ s q n m has also other is_n is_m. g.apart s q n m (script_before s has) (script_before q also) other
        (numbers_before s n is_n) (numbers_before q m is_m);
    unused = unused_then;
    unnamed = unnamed_then;
    unreached = λ s q n out y has is_n is_out in_reach.
        (let (was, there, same) = out_before (name_then rs) c.turns q out is_out in
        g.unreached s q n was y (script_before s has) (numbers_before s n is_n) there
        (subst (λ (o : Out). Contains (o.reads ++ o.writes) y) same in_reach));
    unowned = unowned_then;
    given = given_then;
  })
