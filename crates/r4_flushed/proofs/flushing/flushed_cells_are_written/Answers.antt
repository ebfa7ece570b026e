use Rattle.r4_placed.proofs.ByBlock.{comes_by, frees_by}
use Rattle.r4_flushed.proofs.FlushedCells.{comes, frees}
use Rattle.r4_flushed.proofs.Gathering.{flushed}
use Rattle.r4_flushed.proofs.flushing.flushed_cells_are_written.Goals as goal

pub returns-clause-gathered : goal.returns-clause-gathered
returns-clause-gathered g = λ n work m r c fl. flushed n work m r c fl

pub returns-clause-comes : goal.returns-clause-comes
returns-clause-comes g = λ n work m r c u root p fl tree.
    let own = comes g.on_disk_law.ensures n work m r c u fl root tree p in (own, comes_by n work m r p u own)

pub returns-clause-frees : goal.returns-clause-frees
returns-clause-frees g = λ n work m r c u root p fl tree.
    let own = frees g.on_disk_law.ensures n work m r c u fl root tree p in (own, frees_by n work m r p u own)
