-- Group B, the tables: a task that is out was given none of the atom's cells, so what it was given is owned as it was;
-- and only the names of the nodes that are kept for it change.
use Rattle.std.proofs.Common.{◌≡◌, List, None, sym, ◌∙◌, ap}
use Rattle.std.proofs.Common.{subst}
use Rattle.r4_atoms.specs.Atoms.{owner_of}
use Rattle.r4_base.specs.declared.things.AtomNo.{AtomNo}
use Rattle.r4_accounting.specs.r4_cell.Seen.{CellSeen}
use Rattle.r4_renaming.specs.r4_flush.declared.cells.RenamedCell.{RenamedCell}
use Rattle.r4_renaming.specs.r4_flush.declared.preparing.Prepared.{Prepared}
use Rattle.r4_accounting.specs.r4_history.Held.{OwnersFollow}
use Rattle.r4_accounting.proofs.r4_history.TaskSteps.{tasks_other, tasks_owned}
use Rattle.r4_outside.specs.Device.{State}
use Rattle.r4_renaming.specs.r4_turns.Turns.{TurnsSeen}
use Rattle.r4_accounting.specs.r4_kept.Naming.{Naming}
use Rattle.r4_accounting.specs.r4_kept.Tables.{AreTables}
use Rattle.r4_accounting.specs.r4_kept.View.{CoreSeen, committing, tables_of}
use Rattle.r4_accounting.proofs.r4_done.Named.{reached_one}
use Rattle.r4_renaming.specs.Renaming.{name_then, turns_with_pins}
use Rattle.r4_flushing.proofs.Facts.{Sealing}
use Rattle.r4_flushing.proofs.Pins.{scripts_before, tasks_then}
use Rattle.r4_flushing.proofs.SealedAtoms.{atom_then, owner_other}
use Rattle.r4_flushing.proofs.TasksApart.{not_mine, reach_misses}

module _ {D : Type 0} (r : Naming) (d : State) (c new : CoreSeen D) (a : AtomNo) (given : List CellSeen) (p : Prepared)
    (z : Sealing r d c new a given p) where
  abbrev rs : List RenamedCell
  rs = p.renamed.items

  abbrev turns : TurnsSeen
  turns = turns_with_pins (name_then rs) c.turns

  follow : OwnersFollow (tables_of c) new.atoms
  follow s out node n is reached owned =
      let (y, has, same) = reached_one out node reached in
      let (miss, old) = reach_misses r d c new a given p z s out is y has in
      let stays =
      owner_other a.0 rs y.id (owner_of c.atoms y.id) miss (not_mine r d c new a given p z s out is y has) in (
        n,
        ap (owner_of c.atoms) (sym same) ∙ sym (z.has.owners y.id ∙ stays) ∙ ap (owner_of new.atoms) same ∙ owned,
        λ e.
            atom_then c.atoms new.atoms a.0 z.has.txns z.has.states (z.kept.history.told None tt).atoms.states
            z.can.opened.atom.begun out.txn.0 ∙ e,
      )

  pub tables_sealed : (after : CoreSeen D) → after ≡ record after {
    turns = turns;
    locks = c.locks;
    atoms = new.atoms;
  } → AreTables after
  tables_sealed after same = subst AreTables (sym same) (record {
    tasks =
        (let owned = tasks_owned (tables_of c) c.locks z.kept.tables.tasks new.atoms follow in
        let moved = tasks_then (name_then rs) (record (tables_of c) { atoms = new.atoms }) c.locks owned in
        tasks_other (record (tables_of c) { turns = turns; atoms = new.atoms }) c.locks moved
        (committing after.commit) after.broken);
    ordered = λ s is. z.kept.tables.ordered s (scripts_before (name_then rs) c.turns s is);
  })
