use Rattle.r4_durable.specs.Sealing.{commit_in}
use Rattle.r4_durable_rows.proofs.Bounding.{bounded}
use Rattle.r4_durable_rows.proofs.bounded.sealed_atoms_are_committed_soon.Goals as goal

pub returns : goal.returns
returns c limit next_id n job x parts sealing order =
    bounded x parts
    (c.commits_are_bounded.ensures (commit_in x).space (commit_in x).atom (commit_in x).cells (commit_in x).answers
    (commit_in x).next (commit_in x).last x.plan parts sealing.plan order)
