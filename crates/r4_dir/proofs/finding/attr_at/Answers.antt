use Rattle.std.proofs.Common.{sym, ap, ◌∙◌}
use Rattle.r4_base.specs.Key.{rank}
use Rattle.r4_content.specs.Walk.{attr_in}
use Rattle.r4_dir.proofs.Finds.{no_attr, none_found, one_found}
use Rattle.r4_dir.proofs.finding.attr_at.Goals as goal

pub returns-in_err-value_at : goal.returns-in_err-value_at
returns-in_err-value_at c = c.from_residual.ensures ∙ sym (no_attr _ (none_found c.args.seen.now.parts.items (rank c.args.key) c.in_err-value_at.ensures.none))

pub returns : goal.returns
returns c = c.attr_of.ensures ∙ sym (ap attr_in (one_found c.args.seen.now.parts.items (rank c.args.key) _ c.requires c.in_ok-value_at.ensures.some))
