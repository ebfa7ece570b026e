use Rattle.r4_atoms.specs.Atoms.{is_pending_as}
use Rattle.r4_atoms.proofs.AtomLaws.{IsOfScript}
use Rattle.r4_atoms.proofs.ScanLaws.{Smallest}
use Rattle.r4_atoms.proofs.atoms.Atoms.smallest_of.Given as goal

abbrev pub invariant-loop-at : goal.invariant-loop-at
invariant-loop-at l = record { place : IsOfScript l.self l.script.0 l.at; seen : Smallest l.self (is_pending_as l.self l.script.0 l.closed) l.at l.best }

abbrev pub decreases-loop-at : goal.decreases-loop-at
decreases-loop-at l = l.at
