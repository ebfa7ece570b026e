use Rattle.std.proofs.Common.{refl}
use Rattle.r4_content.specs.Held.{ending_of}
use Rattle.r4_summary.proofs.Steps.{changed_kept, unchanged_kept}
use Rattle.r4_summary.proofs.following.follow.Goals as goal

pub returns-then-only_reads : goal.returns-then-only_reads
returns-then-only_reads c = unchanged_kept c.args.command.now c.args.seen.now.parts.items (c.if-only_reads.ensures.reads refl)

pub returns : goal.returns
returns c = changed_kept c.args.command.now c.args.seen.now.parts.items _ (ending_of c.in_ok-edits.edits) (c.if-only_reads.ensures.changes refl)
    c.in_ok-edits.ensures.ending c.in_ok-edit.ensures
