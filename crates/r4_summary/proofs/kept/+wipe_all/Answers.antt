use Rattle.std.proofs.Common.{◌∙◌, ap, sym, length}
use Rattle.std.specs.List.{flat_map}
use Rattle.r4_content.specs.Held.{run_pairs}
use Rattle.r4_summary.proofs.KeptEdits.{runs_cons}
use Rattle.r4_summary.specs.Kept.{kept_puts, pairs_in}
use Rattle.r4_summary.proofs.kept.+wipe_all.Goals as goal

pub returns-in-Some-clause-pairs : goal.returns-in-Some-clause-pairs
returns-in-Some-clause-pairs t c =
    c.wipe_all.ensures.pairs
    ∙ ap (kept_puts (flat_map run_pairs c.in-Some.rest.now)) c.wipe.ensures.pairs
    ∙ runs_cons c.in-Some.run'.now c.in-Some.rest.now (pairs_in c.args.parts.now.items) (length c.as_slice.result.now) (ap length c.as_slice.ensures)
    ∙ ap (λ rs. kept_puts (flat_map run_pairs rs) (pairs_in c.args.parts.now.items)) (sym c.in-Some.ensures.cases.0)
