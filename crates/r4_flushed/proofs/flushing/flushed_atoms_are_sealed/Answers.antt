use Rattle.std.proofs.Common.{sym, ◌∙◌}
use Rattle.r4_placed.proofs.Planning.{unowned_from}
use Rattle.r4_flushed.proofs.Remembering.{sealed_cells}
use Rattle.r4_flushed.proofs.Sealing.{sets_sealed}
use Rattle.r4_flushed.proofs.flushing.flushed_atoms_are_sealed.Goals as goal

pub returns : goal.returns
returns g = record {
  sealed = λ w n work m r c sets fl unowned. sealed_cells w n work m r c sets fl unowned;
  unowned = λ n work m r c fl owns. unowned_from n work m r c.owner
      (λ i k own low. let (d, is) = owns i k own low in (d, sym (fl.alone i) ∙ is));
  sets = λ w n work m r c u v to sets. sets_sealed n work m r c u v to w sets;
}
