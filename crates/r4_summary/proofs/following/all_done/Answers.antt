use Rattle.std.proofs.Common.{subst, sym}
use Rattle.r4_summary.proofs.Steps.{first_ones, one_more}
use Rattle.r4_summary.specs.Kept.{Keeps}
use Rattle.r4_summary.specs.Totals.{made_by}
use Rattle.r4_summary.proofs.following.all_done.Goals as goal

pub loop-i-preserved : goal.loop-i-preserved
loop-i-preserved c =
    subst (λ t. Keeps c.note.new.seen.parts.items (made_by t)) (sym (one_more c.args.trace.now.entries c.loop-i.i c.entry.result.now c.entry.ensures))
    (c.in_ok-note.ensures (first_ones c.loop-i.i c.args.trace.now.entries) c.loop-i.invariant)
