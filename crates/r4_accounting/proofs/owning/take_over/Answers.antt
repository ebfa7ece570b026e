use Rattle.std.proofs.Common.{subst, sym}
use Rattle.r4_atoms.specs.Atoms.{AtomsSeen}
use Rattle.r4_done.specs.r4_buffer.Seen.{cells_of}
use Rattle.r4_accounting.specs.Accounting.{HasTakenOver}
use Rattle.r4_accounting.proofs.OwnedCells.{taken_over}
use Rattle.r4_accounting.proofs.owning.take_over.Goals as goal

pub returns : goal.returns
returns c =
    subst (λ (s : AtomsSeen). HasTakenOver c.args.atoms.now s c.args.atom.0 c.args.account (cells_of c.args.old.now)
    (cells_of c.args.new.now)) (sym c.charge.ensures)
    (taken_over c.args.atoms.now c.own_all.new.atoms c.own_all-2.new.atoms c.args.atom.0 c.args.account
    (cells_of c.args.old.now) (cells_of c.args.new.now) c.own_all.ensures c.own_all-2.ensures)
