use Rattle.std.proofs.Common.{rules, ◌∙◌}
use Rattle.r4_summary.specs.Kept.{pairs_in}
use Rattle.r4_summary.proofs.Steps.{edit_steps}
use Rattle.r4_summary.proofs.kept.edit.Goals as goal

pub returns : goal.returns
returns c = (
  c.in_ok-put_all.ensures.0,
  c.in_ok-put_all.ensures.1 ∙ edit_steps c.args.edits (pairs_in c.args.parts.now.items) (pairs_in c.cut_all.new.parts.items) (pairs_in c.cut_all-2.new.parts.items)
      (pairs_in c.fill_all.new.parts.items) (pairs_in c.wipe_all.new.parts.items) (search rules) (search rules) (search rules) (search rules),
)
