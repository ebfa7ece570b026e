-- How long the commit of a sealed atom takes.
use Rattle.std.proofs.Common.{◌≡◌, ◌≤◌, ◌∙◌, ℕ, List, length, subst, ap}
use Rattle.std.specs.Prelude.{Option, map}
use Rattle.std.proofs.lemmas.List.{length-map}
use Rattle.r4_base.specs.Bitmap.{bitmap_count}
use Rattle.r4_space.specs.Space.{Space}
use Rattle.r4_trace.specs.Job.{Asked}
use Rattle.r4_place.proofs.ChosenCells.{rest_stays}
use Rattle.r4_wander.specs.LogPlan.{parts_of}
use Rattle.r4_wander.specs.Parts.{IsOrderOf, Parts}
use Rattle.r4_wander.specs.Progress.{calls_from}
use Rattle.r4_durable.specs.r4_placed.Flushing.{cells_by_block, named_by_block}
use Rattle.r4_sealed.specs.Commits.{HasPlan}
use Rattle.r4_durable.specs.Sealing.{IsSealing, Sealing, commit_in}
use Rattle.r4_durable_rows.specs.Bounded.{most_calls}

-- the flush's own cells and space are as many as the commit's
pub bounded : (x : Sealing) (parts : Parts)
    → calls_from parts 0 ≤ most_calls (length (commit_in x).cells) (bitmap_count (commit_in x).space.block_count)
    → calls_from parts 0 ≤ most_calls (length x.flush.cells) (bitmap_count x.flush.space.block_count)
bounded x parts few =
    subst (λ (n : ℕ). calls_from parts 0 ≤ most_calls n (bitmap_count x.flush.space.block_count))
    (length-map x.flush.cells (named_by_block x.flush.answers))
    (subst
    (λ (b : ℕ). calls_from parts 0 ≤ most_calls (length (cells_by_block x.flush.answers x.flush.cells)) (bitmap_count b))
    (ap (λ (t : Space). t.block_count) (rest_stays x.flush.space x.flush.answers)) few)
