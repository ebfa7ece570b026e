-- No task that is out was given a cell of an atom that may be sealed: its transaction is open.
use Rattle.std.proofs.Common.{◌≡◌, ℕ, ◌++◌, false, List}
use Rattle.std.proofs.Common.{Some, None, refl, sym, ◌∙◌, ap, subst}
use Rattle.std.specs.Prelude.{Contains}
use Rattle.r4_atoms.specs.Atoms.{owner_of}
use Rattle.r4_base.specs.declared.things.AtomNo.{AtomNo}
use Rattle.r4_base.specs.declared.things.TxnNo.{TxnNo}
use Rattle.r4_atoms.specs.Atoms.{IsBegun, txn_of}
use Rattle.r4_renaming.specs.r4_buffer.Changed.{has_name}
use Rattle.r4_renaming.specs.r4_buffer.Seen.{buffered}
use Rattle.r4_accounting.specs.r4_cell.Seen.{CellSeen}
use Rattle.r4_content.specs.Locality.{commands}
use Rattle.r4_content.specs.Meaning.{greatest_size}
use Rattle.r4_renaming.specs.r4_flush.Prepared.{cells_of}
use Rattle.r4_renaming.specs.r4_flush.declared.preparing.Prepared.{Prepared}
use Rattle.r4_accounting.specs.r4_history.Held.{IsOut}
use Rattle.r4_accounting.proofs.r4_history.RunSteps.{open_in_both}
use Rattle.r4_outside.specs.Device.{State}
use Rattle.r4_renaming.specs.r4_turns.declared.out.Out.{Out}
use Rattle.r4_accounting.specs.r4_kept.Naming.{Naming}
use Rattle.r4_accounting.specs.r4_kept.View.{CoreSeen, tables_of}
use Rattle.r4_accounting.proofs.r4_done.Named.{node_of_need}
use Rattle.r4_renaming.specs.Renaming.{was_named}
use Rattle.r4_flushing.proofs.Facts as facts
use Rattle.r4_flushing.proofs.Facts.{Sealing}

module _ {D : Type 0} (r : Naming) (d : State) (c new : CoreSeen D) (a : AtomNo) (given : List CellSeen) (p : Prepared)
    (z : Sealing r d c new a given p) (s : ℕ) (out : Out) (is : IsOut c.turns s out) (y : CellSeen)
    (has : Contains (out.reads ++ out.writes) y) where
  pub not_mine : owner_of c.atoms y.id ≡ Some a.0 → ⊥
  not_mine own =
      let v = z.kept.tables.tasks.served s out is in
      let told = z.kept.history.told None tt in
      let open_txn =
      open_in_both (commands greatest_size) None d.clock (tables_of c) c.trace.entries told s v.within is.is_script
      v.transaction in
      let txn : v.within.txn.0 ≡ out.txn.0 = ap (λ (n : TxnNo). n.0) v.txn in
      let atom = v.owners y.id a.0 (node_of_need out y has) own in
      z.can.closed out.txn.0 (record {
        begun = subst (IsBegun c.atoms) txn open_txn.0;
        atom = sym atom;
        opened = ap (λ (t : ℕ). (txn_of c.atoms t).is_open) (sym txn) ∙ open_txn.1;
      })

  -- its name is none that a cell of the atom has, before or then
  pub reach_misses : (has_name (cells_of p.renamed.items) y.id ≡ false) × (was_named p.renamed.items y.id ≡ false)
  reach_misses = facts.other_misses r d c new a given p z y.id not_mine (λ clear. clear.given s out y is has refl)

  pub reach_stays : buffered new.buffer y.id ≡ buffered c.buffer y.id
  reach_stays =
      let (miss, old) = reach_misses in facts.same_there r d c new a given p z y.id miss old
